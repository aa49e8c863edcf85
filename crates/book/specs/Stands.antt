-- Where pieces stand. `Stands from ps s p`: of pieces of which the first begins at `from`, p begins at s. Its bytes stand there (`stands-bytes`); the index has its place
-- (`in_placed`, `placed_in`), and is the one worked out afresh (`walk-joined`); one piece more is one place more (`placed-more`). Assumes nothing.
use Rattle.std.specs.Prelude.{ℕ, zero, suc, ◌+◌, ◌-◌, ◌*◌, ◌≤◌, ◌<◌, ◌≡◌, Bool, not, ◌⊎◌, eqb, get_or, take, drop}
use Rattle.std.proofs.Math.Path.{refl, ap, ap₂}
use Rattle.std.proofs.Common.{sym, ◌∙◌, subst, inl, ⊎_elim, arith, length-append, drop_at}
use Rattle.std.proofs.Math.Bool.{true, false}
use Rattle.std.proofs.Math.Logic.{inr}
use Rattle.std.proofs.Math.Option.{Option, none, some}
use mathlib.Core.List.{List, [], ◌∷◌, ◌++◌, append_assoc, append-nil}
use Rattle.std.proofs.Math.ListN.{length, get_or-append}
use Rattle.std.proofs.Math.Seq.{take-append_seam, drop-append-add}
use Rattle.scan.specs.Scan.{pick}
use Rattle.octets.specs.Big.{number, number_cong}
use Rattle.paths.specs.Lists.{In}
use Rattle.sheet.specs.Format.{HEAD, kind_at, size_at, source_at}
use Rattle.book.specs.Ordered.{entry, insert, Up, up-insert, in_insert, insert_in, insert-both}
use Rattle.book.specs.Pieces.{length_of, live, key_at, of, joined, placed, sheet_of, walk, afresh}
use Rattle.book.specs.Sheets.{against, accepted}

-- a piece of a book: as long as it tells, and accepted if it is live
pub record Piece (p : List ℕ) : Type 0 where
  pub long : HEAD ≤ length p
  pub told : length_of p ≡ length p
  pub sound : live p ≡ true → against p ≡ none

abbrev pub Sound : List (List ℕ) → Type 0
Sound [] = Unit
Sound (p ∷ ps) = Piece p × Sound ps

abbrev pub Stands : (from : ℕ) (ps : List (List ℕ)) (s : ℕ) (p : List ℕ) → Type 0
Stands from [] s p = ⊥
Stands from (q ∷ ps) s p = ((s ≡ from) × (p ≡ q)) ⊎ Stands (from + length q) ps s p

pub sheet-piece : {p : List ℕ} → against p ≡ none → Piece p
sheet-piece {p} e = let a = accepted p e in record { long = a.long; told = a.told; sound = λ z. e }

-- ---- the first 16 bytes of a piece, whatever follows it

module _ (p r : List ℕ) (h : HEAD ≤ length p) where
  at_front : (i : ℕ) → i < HEAD → get_or (p ++ r) i 0 ≡ get_or p i 0
  at_front i g = get_or-append p r 0 i (omega arith)

  number-front : (at w : ℕ) → at + w ≤ HEAD → number (p ++ r) at w ≡ number p at w
  number-front at w g = number_cong (p ++ r) p at at w (λ j l. at_front (at + j) (omega arith))

  pub length_front : length_of (p ++ r) ≡ length_of p
  length_front = ap (λ (n : ℕ). 4 + n) (number-front 0 4 (omega arith))

  pub live-front : live (p ++ r) ≡ live p
  live-front = ap (λ (n : ℕ). not (eqb n 0)) (at_front 4 (omega arith))

  pub key-front : key_at (p ++ r) ≡ key_at p
  key-front =
      ap₂ (λ (k z : ℕ). (k * 256 + z) * 137438953472 + source_at (p ++ r)) (at_front 5 (omega arith)) (at_front 6 (omega arith))
      ∙ ap (λ (n : ℕ). (kind_at p * 256 + size_at p) * 137438953472 + n) (number-front 8 8 (omega arith))

-- ---- where pieces stand

joined-cons : (p : List ℕ) (ps : List (List ℕ)) → length (joined (p ∷ ps)) ≡ length p + length (joined ps)
unfolding joined
joined-cons p ps = length-append p (joined ps)

pub stands_from : (from : ℕ) (ps : List (List ℕ)) (s : ℕ) (p : List ℕ) → Stands from ps s p → from ≤ s
stands_from from [] s p h = absurd h
stands_from from (q ∷ ps) s p (inl e) = omega (arith, e.0)
stands_from from (q ∷ ps) s p (inr h) = omega (arith, stands_from (from + length q) ps s p h)

pub stands_within : (from : ℕ) (ps : List (List ℕ)) (s : ℕ) (p : List ℕ) → Stands from ps s p → s + length p ≤ from + length (joined ps)
stands_within from [] s p h = absurd h
stands_within from (q ∷ ps) s p (inl e) = omega (arith, e.0, ap length e.1, joined-cons q ps)
stands_within from (q ∷ ps) s p (inr h) = omega (arith, stands_within (from + length q) ps s p h, joined-cons q ps)

pub stands_sound : (from : ℕ) (ps : List (List ℕ)) (s : ℕ) (p : List ℕ) → Sound ps → Stands from ps s p → Piece p
stands_sound from [] s p d h = absurd h
stands_sound from (q ∷ ps) s p d (inl e) = subst Piece (sym e.1) d.0
stands_sound from (q ∷ ps) s p d (inr h) = stands_sound (from + length q) ps s p d.1 h

pub stands_same : (from : ℕ) (ps : List (List ℕ)) (s : ℕ) (p r : List ℕ) → Sound ps → Stands from ps s p → Stands from ps s r → p ≡ r
stands_same from [] s p r d e f = absurd e
stands_same from (q ∷ ps) s p r d (inl e) (inl f) = e.1 ∙ sym f.1
stands_same from (q ∷ ps) s p r d (inl e) (inr f) = absurd (omega (arith, e.0, stands_from (from + length q) ps s r f, d.0.long))
stands_same from (q ∷ ps) s p r d (inr e) (inl f) = absurd (omega (arith, f.0, stands_from (from + length q) ps s p e, d.0.long))
stands_same from (q ∷ ps) s p r d (inr e) (inr f) = stands_same (from + length q) ps s p r d.1 e f

pub stands-bytes : (from : ℕ) (ps : List (List ℕ)) (s : ℕ) (p : List ℕ) (d : ℕ) → s ≡ from + d → Stands from ps s p → take (length p) (drop d (joined ps)) ≡ p
unfolding joined
stands-bytes from [] s p d e h = absurd h
stands-bytes from (q ∷ ps) s p d e (inl h) =
    let z : d ≡ 0 = omega (arith, h.0) in
    ap (λ (n : ℕ). take (length p) (drop n (q ++ joined ps))) z ∙ ap (λ (r : List ℕ). take (length p) (r ++ joined ps)) (sym h.1) ∙ take-append_seam p (joined ps)
stands-bytes from (q ∷ ps) s p d e (inr h) =
    let g = stands_from (from + length q) ps s p h in
    let z : d ≡ length q + (d - length q) = omega arith in
    ap (λ (n : ℕ). take (length p) (drop n (q ++ joined ps))) z ∙ ap (take (length p)) (drop-append-add q (joined ps) (d - length q))
    ∙ stands-bytes (from + length q) ps s p (d - length q) (omega arith) h

-- ---- the index of pieces

pub up-placed : (from : ℕ) (ps : List (List ℕ)) → Up (placed from ps)
unfolding placed
up-placed from [] = tt
up-placed from (p ∷ ps) = go (live p) (up-placed (from + length p) ps)
  where
    go : (b : Bool) → Up (placed (from + length p) ps) → Up (pick b (insert (entry (key_at p) from) (placed (from + length p) ps)) (placed (from + length p) ps))
    go true u = up-insert (entry (key_at p) from) (placed (from + length p) ps) u
    go false u = u

pub in_placed : (from : ℕ) (ps : List (List ℕ)) (s : ℕ) (p : List ℕ) → Stands from ps s p → live p ≡ true → In (entry (key_at p) s) (placed from ps)
unfolding placed
in_placed from [] s p h l = absurd h
in_placed from (q ∷ ps) s p (inl e) l =
    let here : In (entry (key_at p) s) (insert (entry (key_at q) from) (placed (from + length q) ps))
    = insert_in (entry (key_at q) from) (entry (key_at p) s) (placed (from + length q) ps) (inl (ap₂ (λ (r : List ℕ) (n : ℕ). entry (key_at r) n) e.1 e.0)) in
    subst (λ (b : Bool). In (entry (key_at p) s) (pick b (insert (entry (key_at q) from) (placed (from + length q) ps)) (placed (from + length q) ps))) (sym (ap live (sym e.1) ∙ l)) here
in_placed from (q ∷ ps) s p (inr h) l = go (live q) (in_placed (from + length q) ps s p h l)
  where
    go : (b : Bool) → In (entry (key_at p) s) (placed (from + length q) ps)
        → In (entry (key_at p) s) (pick b (insert (entry (key_at q) from) (placed (from + length q) ps)) (placed (from + length q) ps))
    go true i = insert_in (entry (key_at q) from) (entry (key_at p) s) (placed (from + length q) ps) (inr i)
    go false i = i

-- a live piece whose place is x
pub record Owner (from : ℕ) (ps : List (List ℕ)) (x : ℕ) : Type 0 where
  pub start : ℕ
  pub piece : List ℕ
  pub stands : Stands from ps start piece
  pub alive : live piece ≡ true
  pub is : x ≡ entry (key_at piece) start

pub placed_in : (from : ℕ) (ps : List (List ℕ)) (x : ℕ) → In x (placed from ps) → Owner from ps x
unfolding placed
placed_in from [] x i = absurd i
placed_in from (q ∷ ps) x i = go (live q) refl i (λ k. later (placed_in (from + length q) ps x k))
  where
    later : Owner (from + length q) ps x → Owner from (q ∷ ps) x
    later o = record { start = o.start; piece = o.piece; stands = inr o.stands; alive = o.alive; is = o.is }

    go : (b : Bool) → live q ≡ b → In x (pick b (insert (entry (key_at q) from) (placed (from + length q) ps)) (placed (from + length q) ps))
        → (In x (placed (from + length q) ps) → Owner from (q ∷ ps) x) → Owner from (q ∷ ps) x
    go true e i rest =
        ⊎_elim (λ z. record { start = from; piece = q; stands = inl (refl, refl); alive = e; is = z }) rest (in_insert (entry (key_at q) from) x (placed (from + length q) ps) i)
    go false e i rest = rest i

-- one piece more, behind the others
pub joined-more : (ps : List (List ℕ)) (q : List ℕ) → joined (ps ++ (q ∷ [])) ≡ joined ps ++ q
unfolding joined
joined-more [] q = append-nil q
joined-more (p ∷ ps) q = ap (λ (l : List ℕ). p ++ l) (joined-more ps q) ∙ sym (append_assoc p (joined ps) q)

pub placed-more : (from : ℕ) (ps : List (List ℕ)) (q : List ℕ) → live q ≡ true
    → placed from (ps ++ (q ∷ [])) ≡ insert (entry (key_at q) (from + length (joined ps))) (placed from ps)
unfolding placed joined
placed-more from [] q e =
    ap (λ (b : Bool). pick b (insert (entry (key_at q) from) []) []) e ∙ ap (λ (n : ℕ). insert (entry (key_at q) n) []) (omega arith)
placed-more from (p ∷ ps) q e =
    let n : from + length p + length (joined ps) ≡ from + length (p ++ joined ps) = omega (arith, length-append p (joined ps)) in
    go (live p) (placed-more (from + length p) ps q e ∙ ap (λ (k : ℕ). insert (entry (key_at q) k) (placed (from + length p) ps)) n)
  where
    go : (b : Bool) → placed (from + length p) (ps ++ (q ∷ [])) ≡ insert (entry (key_at q) (from + length (p ++ joined ps))) (placed (from + length p) ps)
        → pick b (insert (entry (key_at p) from) (placed (from + length p) (ps ++ (q ∷ [])))) (placed (from + length p) (ps ++ (q ∷ [])))
        ≡ insert (entry (key_at q) (from + length (p ++ joined ps))) (pick b (insert (entry (key_at p) from) (placed (from + length p) ps)) (placed (from + length p) ps))
    go true r =
        ap (insert (entry (key_at p) from)) r ∙ insert-both (entry (key_at p) from) (entry (key_at q) (from + length (p ++ joined ps))) (placed (from + length p) ps)
    go false r = r

pub sound_more : (ps : List (List ℕ)) (q : List ℕ) → Sound ps → Piece q → Sound (ps ++ (q ∷ []))
sound_more [] q s h = (h, tt)
sound_more (p ∷ ps) q s h = (s.0, sound_more ps q s.1 h)

-- ---- worked out afresh

walk_step : (steps at : ℕ) (l : List ℕ) → 0 < length l
    → walk (suc steps) at l ≡ pick (live l) (insert (entry (key_at l) at) (walk steps (at + length_of l) (drop (length_of l) l))) (walk steps (at + length_of l) (drop (length_of l) l))
unfolding walk
walk_step steps at [] h = absurd (omega arith)
walk_step steps at (x ∷ l) h = refl

walk_none : (steps at : ℕ) → walk steps at [] ≡ []
unfolding walk
walk_none zero at = refl
walk_none (suc steps) at = refl

pub walk-joined : (steps from : ℕ) (ps : List (List ℕ)) → Sound ps → length (joined ps) ≤ steps → walk steps from (joined ps) ≡ placed from ps
unfolding joined placed
walk-joined steps from [] d h = walk_none steps from
walk-joined zero from (p ∷ ps) d h = absurd (omega (arith, joined-cons p ps, d.0.long))
walk-joined (suc steps) from (p ∷ ps) d h =
    let long = d.0.long in
    let whole = joined-cons p ps in
    let n = length_front p (joined ps) long ∙ d.0.told in
    walk_step steps from (p ++ joined ps) (omega arith)
    ∙ ap (λ (k : ℕ). pick (live (p ++ joined ps)) (insert (entry (key_at (p ++ joined ps)) from) (walk steps (from + k) (drop k (p ++ joined ps)))) (walk steps (from + k) (drop k (p ++ joined ps)))) n
    ∙ ap (λ (l : List ℕ). pick (live (p ++ joined ps)) (insert (entry (key_at (p ++ joined ps)) from) (walk steps (from + length p) l)) (walk steps (from + length p) l)) (drop_at p (joined ps) (length p) refl)
    ∙ ap (λ (l : List ℕ). pick (live (p ++ joined ps)) (insert (entry (key_at (p ++ joined ps)) from) l) l) (walk-joined steps (from + length p) ps d.1 (omega arith))
    ∙ ap₂ (λ (b : Bool) (k : ℕ). pick b (insert (entry k from) (placed (from + length p) ps)) (placed (from + length p) ps)) (live-front p (joined ps) long) (key-front p (joined ps) long)

pub afresh-joined : (ps : List (List ℕ)) → Sound ps → afresh (joined ps) ≡ placed 0 ps
afresh-joined ps d = walk-joined (length (joined ps)) 0 ps d (omega arith)

-- ---- the sheet of a key

pub record Found (kind size source from : ℕ) (ps : List (List ℕ)) (p : List ℕ) : Type 0 where
  pub start : ℕ
  pub stands : Stands from ps start p
  pub alive : live p ≡ true
  pub is : of kind size source p ≡ true

module _ (kind size source : ℕ) where
  none-some : {p : List ℕ} {A : Type 0} → ◌≡◌ {A = Option (List ℕ)} none (some p) → A
  none-some e = let z : ◌≡◌ {A = ℕ} 0 1 = cc in absurd (omega arith)

  pub sheet-some : (from : ℕ) (ps : List (List ℕ)) (p : List ℕ) → sheet_of kind size source ps ≡ some p → Found kind size source from ps p
  unfolding sheet_of
  sheet-some from [] p e = none-some e
  sheet-some from (q ∷ ps) p e = go (live q) (of kind size source q) refl refl e (λ r. later (sheet-some (from + length q) ps p r))
    where
      later : Found kind size source (from + length q) ps p → Found kind size source from (q ∷ ps) p
      later f = record { start = f.start; stands = inr f.stands; alive = f.alive; is = f.is }

      go : (a b : Bool) → live q ≡ a → of kind size source q ≡ b → pick a (pick b (some q) (sheet_of kind size source ps)) (sheet_of kind size source ps) ≡ some p
          → (sheet_of kind size source ps ≡ some p → Found kind size source from (q ∷ ps) p) → Found kind size source from (q ∷ ps) p
      go true true x y e rest =
          let i : q ≡ p = cc in
          record { start = from; stands = inl (refl, sym i); alive = ap live (sym i) ∙ x; is = ap (of kind size source) (sym i) ∙ y }
      go true false x y e rest = rest e
      go false b x y e rest = rest e

  pub sheet-none : (from : ℕ) (ps : List (List ℕ)) (s : ℕ) (p : List ℕ) → sheet_of kind size source ps ≡ none → Stands from ps s p → live p ≡ true → of kind size source p ≡ true → ⊥
  unfolding sheet_of
  sheet-none from [] s p e h l o = absurd h
  sheet-none from (q ∷ ps) s p e (inl h) l o =
      none-some (sym e ∙ ap₂ (λ (a b : Bool). pick a (pick b (some q) (sheet_of kind size source ps)) (sheet_of kind size source ps)) (ap live (sym h.1) ∙ l) (ap (of kind size source) (sym h.1) ∙ o))
  sheet-none from (q ∷ ps) s p e (inr h) l o = go (live q) (of kind size source q) e (λ r. sheet-none (from + length q) ps s p r h l o)
    where
      go : (a b : Bool) → pick a (pick b (some q) (sheet_of kind size source ps)) (sheet_of kind size source ps) ≡ none → (sheet_of kind size source ps ≡ none → ⊥) → ⊥
      go true true e rest = none-some (sym e)
      go true false e rest = rest e
      go false b e rest = rest e

  -- one piece more
  abbrev pub or_else : Option (List ℕ) → Option (List ℕ) → Option (List ℕ)
  or_else none o = o
  or_else (some p) o = some p

  pub sheet-more : (ps : List (List ℕ)) (q : List ℕ) → live q ≡ true → sheet_of kind size source (ps ++ (q ∷ [])) ≡ or_else (sheet_of kind size source ps) (pick (of kind size source q) (some q) none)
  unfolding sheet_of
  sheet-more [] q e = ap (λ (b : Bool). pick b (pick (of kind size source q) (some q) none) none) e
  sheet-more (p ∷ ps) q e = go (live p) (of kind size source p) (sheet-more ps q e)
    where
      go : (a b : Bool) → sheet_of kind size source (ps ++ (q ∷ [])) ≡ or_else (sheet_of kind size source ps) (pick (of kind size source q) (some q) none)
          → pick a (pick b (some p) (sheet_of kind size source (ps ++ (q ∷ [])))) (sheet_of kind size source (ps ++ (q ∷ [])))
          ≡ or_else (pick a (pick b (some p) (sheet_of kind size source ps)) (sheet_of kind size source ps)) (pick (of kind size source q) (some q) none)
      go true true r = refl
      go true false r = r
      go false b r = r
