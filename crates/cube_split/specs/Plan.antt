-- The recursion of the planner: what its parts may be asked (`remains`, `far-asked`, `near-asked`), and what they are together (`both`, `left-all`).
-- Assumes nothing.
use Rattle.std.specs.Prelude.{ℕ, zero, suc, ◌+◌, ◌^◌, ◌≤◌, ◌≡◌, refl, ◌≢◌, List, length}
use Rattle.std.proofs.Common.{sym, ap, ◌∙◌, subst, ⊎_elim, arith}
use Rattle.std.specs.Int.Bits.{bit_or}
use Rattle.std.specs.Int.Count.{ones}
use Rattle.bits.specs.Bit.{bit, flip}
use Rattle.bits.specs.Laws.{bit-none, clash, flip-other, ones_clear, ones_none, ones-zero, same_or}
use Rattle.cube_math.specs.Doors.{Doors}
use Rattle.cube_math.specs.Paths.{off_on, bit-not-one}
use Rattle.cube_math.specs.Masks.{less}
use Rattle.cube_math.specs.Single.{alone, nothing}
use Rattle.cube_math.specs.Split.{Sides}
use Rattle.cube_math.specs.Request.{Request, Settled, request_same, doors_same, Without, without-flip, near_request}
use Rattle.cube_math.specs.Choose.{or-on, or_left, or_right, ones-less, less-on, less-or, ones-or, ones-some}
use Rattle.cube_math.specs.Loops.{Sorting, sorted_request, sorted_settled, sorted_all, brought_all}
use Rattle.cube_rows.specs.Grid.{hops, target, Keeps, keeps_none, keeps_more, keeps_one, keeps_part, keeps_rest, Rows, rows-part, New, new_same, new_kept}
use Rattle.cube_moves.specs.Lone.{Lone, Alone}
use Rattle.cube_moves.specs.Halves.{Divided, low-other, low_held}
use Rattle.cube_moves.specs.Bring.{Ready, Home, Fetched}

-- what may be asked of the planner: a request for the rows m, which have room for their paths and hold their targets
pub record Asked (free s shut m w : ℕ) (g : List ℕ) : Type 0 where
  pub request : Request free s shut m (target w g)
  pub small : ones free + 2 ≤ w
  pub rows : Rows w m g
  pub new : New w m g

-- what it gives
pub record Planned (free s shut m w : ℕ) (before after : List ℕ) : Type 0 where
  pub fan : Doors (ones free) free s shut m (target w before) (hops w after)
  pub keeps : Keeps w m before after

-- what is left to be asked after the targets behind open doors: no target stands behind one
pub record Left (free s more left w : ℕ) (g : List ℕ) : Type 0 where
  pub request : Request free s more left (target w g)
  pub settled : Settled free s more left (target w g)
  pub small : ones free + 2 ≤ w
  pub rows : Rows w left g
  pub new : New w left g

-- ---- after the targets behind open doors

module _ (free s shut m w : ℕ) (g : List ℕ) (q : Asked free s shut m w g) (left more : ℕ) (a : Sorting free s shut m 0 left more (target w g) (hops w g)) where
  pub remains : Left free s more left w g
  remains = record {
    request = sorted_request free s shut m (target w g) left more (hops w g) a q.request;
    settled = sorted_settled free s shut m (target w g) left more (hops w g) a q.request;
    small = q.small;
    rows = rows-part a.sub refl q.rows;
    new = record { is = λ j o. q.new.is j (a.sub j o) };
  }

  -- a fan for what is left is one for all
  pub left-all : (g₂ : List ℕ) → Doors (ones free) free s more left (target w g) (hops w g₂) → Keeps w left g g₂ → Planned free s shut m w g g₂
  left-all g₂ fan k = record {
    fan = sorted_all free s shut m (target w g) left more (hops w g) a q.request (ones free) (hops w g₂) fan (keeps_rest k);
    keeps = keeps_part a.sub k;
  }

  pub none_left : left ≡ 0 → Planned free s shut m w g g
  none_left z = left-all g (nothing (hops w g) z) (keeps_none w left g)

  pub lone-left : (x : ℕ) → bit x left ≡ 1 → Lone free s more (target w g x) x w g
  lone-left x o = record {
    row = remains.rows.room x o;
    new = remains.new.is x o;
    small = q.small;
    room = omega (arith, remains.request.room, ones-some left x o);
    other = λ e. remains.request.other x o (sym e);
    inside = remains.request.inside x o;
  }

  pub one_left : (x rest : ℕ) (g₂ : List ℕ) → bit x left ≡ 1 → rest ≡ flip left x → rest ≡ 0 → Alone free s more (target w g x) x w g g₂ → Planned free s shut m w g g₂
  one_left x rest g₂ o e z k = left-all g₂ (alone x only k.way) (keeps_one x o k.only)
    where
      only : (c : ℕ) → bit c left ≡ 1 → c ≡ x
      only c p = ⊎_elim (λ y. y) (λ ne. absurd (clash (ap (bit c) (sym e ∙ z) ∙ bit-none c) (flip-other left x c ne ∙ p))) (same_or c x)

  pub two-left : (x rest : ℕ) → bit x left ≡ 1 → rest ≡ flip left x → rest ≢ 0 → 2 ≤ ones left
  two-left x rest o e ne = two (ones rest) refl
    where
      two : (n : ℕ) → ones rest ≡ n → 2 ≤ ones left
      two zero z = absurd (ne (ones_none rest z))
      two (suc n) z = omega (arith, ones_clear x left o, ap ones e)

  -- room for a path that comes home
  pub left_wide : 2 ≤ ones left → 4 ≤ w
  left_wide two = omega (arith, remains.request.room, q.small)

-- ---- two sides

module _ (free s more left w : ℕ) (g : List ℕ) (h : Left free s more left w g)
    (b rest f low far home : ℕ) (g₁ : List ℕ) (d : Divided free s more left w g b rest f low far home g₁) where
  pub rest-less : ones rest + 1 ≡ ones free
  rest-less = ap (λ (y : ℕ). ones y + 1) d.half.is_rest ∙ ones_clear b free d.half.within

  far_in : (j : ℕ) → bit j far ≡ 1 → bit j left ≡ 1
  far_in = d.half.side.sub

  pub far-asked : Asked rest f low far w g₁
  far-asked = record { request = d.request; small = omega (arith, rest-less, h.small); rows = rows-part far_in d.keeps.long h.rows; new = d.new }

  module _ (g₂ : List ℕ) (p : Planned rest f low far w g₁ g₂) where
    pub far_ready : Ready w far g₂
    far_ready = record {
      row = λ j o. omega (arith, h.rows.room j (far_in j o), p.keeps.long, d.keeps.long);
      room = λ j o. omega (arith, (p.fan.each j o).short, rest-less, h.small);
      some = λ j o. omega (arith, ap length (p.fan.each j o).door.first);
    }

    module _ (used : ℕ) (g₃ : List ℕ) (k : Fetched b f more far home w g₂ g₃ 0 used) where
      abbrev near : ℕ
      near = less left far

      fan₁ : Doors (ones rest) rest (flip s b) (less more (2 ^ b)) far (target w g₁) (hops w g₂)
      fan₁ = subst (λ (y : ℕ). Doors (ones rest) rest (flip s b) y far (target w g₁) (hops w g₂)) d.half.is_low
          (subst (λ (y : ℕ). Doors (ones rest) rest y low far (target w g₁) (hops w g₂)) d.half.is_f p.fan)

      came : Home rest s b more far w 0 used (target w g) (target w g₁) g₂ g₃
      came = k.brings s rest (target w g) (target w g₁) d.half.is_f fan₁ d.stands

      without : Without free b rest
      without = subst (Without free b) (sym d.half.is_rest) (without-flip free b d.half.within)

      near_sub : (j : ℕ) → bit j near ≡ 1 → bit j left ≡ 1
      near_sub j o = (less-on j left far o).0

      -- only the far rows have changed
      far_keeps : Keeps w far g g₃
      far_keeps = keeps_more d.keeps (keeps_more p.keeps k.keeps)

      near_stays : (j : ℕ) → bit j near ≡ 1 → hops w g₃ j ≡ hops w g j
      near_stays j o = keeps_rest far_keeps j (less-on j left far o).1

      near-target : (j : ℕ) → bit j near ≡ 1 → target w g₃ j ≡ target w g j
      near-target j o = new_same w g g₃ j (h.new.is j (near_sub j o)) (near_stays j o)

      pub near-asked : (near₁ : ℕ) → near₁ ≡ near → Asked rest s (bit_or low used) near₁ w g₃
      near-asked near₁ e = subst (λ (y : ℕ). Asked rest s (bit_or low used) y w g₃) (sym e) (record {
        request = request_same (target w g₃) near-target (near_request free s more left b rest (target w g) h.request without (bit_or low used) near
            (λ j o. let x = less-on j left far o in (x.0, d.half.side.fails j x.0 x.1))
            (λ i o. ⊎_elim (low_held free s more left (target w g) h.request b rest f low far d.half i) (came.bringing.held i) (or-on i low used o))
            (omega (arith, ones-or low used, came.bringing.count, came.count, ap ones d.half.is_low, ones-less left far far_in, h.request.room, rest-less, ones-zero)));
        small = omega (arith, rest-less, h.small);
        rows = rows-part near_sub far_keeps.long h.rows;
        new = new_kept w near left g g₃ h.new (λ j o. (near_sub j o, near_stays j o));
      })

      sides : Sides free rest b more (less more (2 ^ b)) (bit_or low used)
      sides = record {
        divides = d.half.within;
        off = without.off;
        less = λ i o. sym (without.same i (λ e. off_on b i rest without.off o (sym e))) ∙ o;
        far_shut = λ i ne o. low-other more b i ne ∙ o;
        near_shut = λ i ne o. or_left i low used (ap (bit i) d.half.is_low ∙ low-other more b i ne ∙ o);
      }

      pub both : (near₁ : ℕ) (g₄ : List ℕ) → near₁ ≡ near → Planned rest s (bit_or low used) near₁ w g₃ g₄
          → Doors (ones free) free s more left (target w g) (hops w g₄) × Keeps w left g g₄
      both near₁ g₄ e r₁ =
          let r : Planned rest s (bit_or low used) near w g₃ g₄ = subst (λ (y : ℕ). Planned rest s (bit_or low used) y w g₃ g₄) e r₁ in
          let fan : Doors (ones rest) rest s (bit_or low used) near (target w g) (hops w g₄) = doors_same (target w g) (λ j o. sym (near-target j o)) r.fan in
          let size : suc (ones rest) ≡ ones free = omega (arith, rest-less) in (
            subst (λ (n : ℕ). Doors n free s more left (target w g) (hops w g₄)) size
                (brought_all (ones rest) rest s b more (less more (2 ^ b)) far came.own (target w g) (target w g₁) (hops w g₂) free (bit_or low used) left near
                came.bringing sides (λ i o. or_right i low used o) fan₁ fan (λ j o. less-or j left far o) near_sub
                (λ j o. keeps_rest r.keeps j (bit-not-one j near (λ z. clash (less-on j left far z).1 o))) h.settled),
            keeps_more (keeps_part far_in far_keeps) (keeps_part near_sub r.keeps),
          )
