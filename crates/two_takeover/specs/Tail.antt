-- The tail of a path that takes over: the walk in the crowd's block up to the first target that it meets. Assumes nothing.
use Rattle.std.specs.Prelude.{ℕ, suc, ◌+◌, ◌-◌, ◌^◌, ◌≤◌, ◌<◌, ◌≡◌, refl, ◌⊎◌, ◌≢◌, List, [], ◌∷◌, ◌++◌, Option, Some, None, length, set, take}
use Rattle.std.proofs.Common.{sym, ap, ◌∙◌, subst, inl, inr, arith, add-one, length-set, length-append, take-suc-set}
use Rattle.bits.specs.Bit.{bit, flip}
use Rattle.bits.specs.Laws.{flip-lt}
use Rattle.cube_math.specs.Single.{rank, rank_less}
use Rattle.two_math.specs.Crowd.{Cut}
use Rattle.two_math.specs.Loops.{Strolling, strolling_none, strolling_more, strolling_short, Unhit, unhit_none, unhit_more, strolling_cut}
use Rattle.two_write.specs.Walked.{Next, dim-below}
use Rattle.two_takeover.specs.Over.{Hit, Met}

-- what may be asked: towards the slot `to` of a gated target of b
pub record TailAsk (m k : ℕ) (tb tp gate : ℕ → ℕ) (gated b enter to : ℕ) : Type 0 where
  pub order : m ≤ 5
  pub few : k < 8
  pub from : enter < 2 ^ m
  pub goal : to < 2 ^ m
  pub hit : Hit k tb tp gate gated b to
  pub slots : (i : ℕ) → i < k → tp i < 2 ^ m

-- the tail to `who`, whose slot or gate slot x is met first
pub record Tailed (m k : ℕ) (tb tp gate : ℕ → ℕ) (gated b enter who : ℕ) (tail : List ℕ) : Type 0 where
  pub within : who < k
  pub mine : (bit who gated ≡ 1) × (tb who ≡ b)
  pub x : ℕ
  pub cut : List ℕ
  pub cuts : Cut (Hit k tb tp gate gated b) (2 ^ m - 1) enter cut x cut
  pub short : length cut ≤ m
  pub at_x : (x ≡ gate who) ⊎ (x ≡ tp who)
  pub ends : ((x ≡ tp who) × (tail ≡ enter ∷ cut)) ⊎ ((x ≢ tp who) × (tail ≡ enter ∷ (cut ++ (tp who ∷ []))))

pub record Tailing (m k : ℕ) (tb tp gate : ℕ → ℕ) (gated b enter to : ℕ) (tail : List ℕ) (len here : ℕ) : Type 0 where
  pub cut : List ℕ
  pub going : Strolling m enter to here cut
  pub unhit : Unhit (Hit k tb tp gate gated b) enter here cut
  pub is : take len tail ≡ enter ∷ cut
  pub size : len ≡ suc (length cut)
  pub long : length tail ≡ 8
  pub below : here < 2 ^ m

-- one slot more at the end of what is kept
pub take_more : (l : List ℕ) (n v : ℕ) → n < length l → take (n + 1) (set l n v) ≡ take n l ++ (v ∷ [])
take_more l n v h = ap (λ (y : ℕ). take y (set l n v)) (add-one n) ∙ take-suc-set l n v h

module _ {m k : ℕ} {tb tp gate : ℕ → ℕ} {gated b enter to : ℕ} (a : TailAsk m k tb tp gate gated b enter to) where
  -- the slot that is entered, alone
  pub tailing_none : {tail : List ℕ} → length tail ≡ 8 → take 1 tail ≡ enter ∷ [] → Tailing m k tb tp gate gated b enter to tail 1 enter
  tailing_none long is = record {
    cut = [];
    going = strolling_none m enter to;
    unhit = unhit_none (Hit k tb tp gate gated b) enter;
    is = is;
    size = refl;
    long = long;
    below = a.from;
  }

  module _ {tail : List ℕ} {len here : ℕ} {o : Option ℕ} (t : Tailing m k tb tp gate gated b enter to tail len here) (met : Met k tb tp gate gated b here o) where
    -- nobody is met: it is not there yet
    pub tailing_goes : o ≡ None → here ≢ to
    tailing_goes e z = met.none e (subst (λ (y : ℕ). Hit k tb tp gate gated b y) (sym z) a.hit)

    dim : (v : ℕ) → (x : Next here to v) → x.dim < m
    dim v x = dim-below m here to x.dim t.below a.goal x.turns

    going_on : (v : ℕ) → (x : Next here to v) → Strolling m enter to (flip here x.dim) (t.cut ++ (flip here x.dim ∷ []))
    going_on v x = strolling_more x.dim t.going (dim v x) x.turns

    pub tailing_room : (v : ℕ) → Next here to v → len < 6
    tailing_room v x = omega (arith, strolling_short (going_on v x) a.from a.goal, length-append t.cut (flip here x.dim ∷ []), t.size, a.order)

    pub tailing_below : (v : ℕ) → Next here to v → v < 2 ^ m
    tailing_below v x = subst (λ (y : ℕ). y < 2 ^ m) (sym x.is) (flip-lt m here x.dim t.below (dim v x))

    pub tailing_less : (v : ℕ) → Next here to v → rank to v < rank to here
    tailing_less v x = omega (arith, rank_less to here x.dim x.turns, ap (rank to) x.is)

    pub tailing_more : (v : ℕ) → o ≡ None → (x : Next here to v) → Tailing m k tb tp gate gated b enter to (set tail len v) (len + 1) v
    tailing_more v e x = record {
      cut = t.cut ++ (v ∷ []);
      going = subst (λ (y : ℕ). Strolling m enter to y (t.cut ++ (y ∷ []))) (sym x.is) (going_on v x);
      unhit = unhit_more (Hit k tb tp gate gated b) enter here v t.cut t.unhit (met.none e);
      is = take_more tail len v (omega (arith, tailing_room v x, t.long)) ∙ ap (λ (l : List ℕ). l ++ (v ∷ [])) t.is;
      size = omega (arith, t.size, length-append t.cut (v ∷ []));
      long = length-set tail len v ∙ t.long;
      below = tailing_below v x;
    }

    -- it ends there, or with one step more
    pub tail-short : len ≤ 6
    tail-short = omega (arith, strolling_short t.going a.from a.goal, t.size, a.order)

    module _ {who : ℕ} (is : o ≡ Some who) where
      made : (l : List ℕ) → ((here ≡ tp who) × (l ≡ enter ∷ t.cut)) ⊎ ((here ≢ tp who) × (l ≡ enter ∷ (t.cut ++ (tp who ∷ [])))) → Tailed m k tb tp gate gated b enter who l
      made l e =
          let f = met.found who is in
          record {
            within = f.0;
            mine = (f.1.0, f.1.1);
            x = here;
            cut = t.cut;
            cuts = strolling_cut t.going t.unhit (who, f.0, f.1);
            short = strolling_short t.going a.from a.goal;
            at_x = f.1.2;
            ends = e;
          }

      pub tailed_there : tp who ≡ here → Tailed m k tb tp gate gated b enter who (take len tail)
      tailed_there e = made (take len tail) (inl (sym e, t.is))

      pub tailed_step : tp who ≢ here → Tailed m k tb tp gate gated b enter who (take (len + 1) (set tail len (tp who)))
      tailed_step d =
          made (take (len + 1) (set tail len (tp who)))
          (inr ((λ e. d (sym e)), take_more tail len (tp who) (omega (arith, tail-short, t.long)) ∙ ap (λ (l : List ℕ). l ++ (tp who ∷ [])) t.is))

      pub who_small : who < 8
      who_small = omega (arith, (met.found who is).0, a.few)
