-- A piece that is removed: its version byte becomes 0 (`gone`), where it stands (`mark`). The bytes change in that one place (`joined-mark`), the index loses its place
-- (`placed-mark`), and its key has no sheet any more, while every other has the one that it had (`sheet-mark-other`, `mark-stands`). Assumes nothing.
use Rattle.std.specs.Prelude.{ℕ, ◌+◌, ◌-◌, ◌≤◌, ◌<◌, ◌≡◌, Bool, not, ◌≢◌, List, [], ◌∷◌, ◌++◌, eqb, set}
use Rattle.std.proofs.Math.Path.{refl, sym, ap}
use Rattle.std.proofs.Common.{ap₂, ◌∙◌, subst, inl, inr, suc-add, zero-add, arith, length-set, length-append, get_or-set_same, get_or-set_other, eq-eqb, ne_eqb}
use Rattle.std.proofs.Math.Bool.{true, false}
use Rattle.std.proofs.Math.Option.{Option, some}
use Rattle.std.proofs.Math.ListN.{length}
use Rattle.std.proofs.lemmas.List.{set-append_left}
use Rattle.scan.specs.Scan.{pick}
use Rattle.scan.specs.Laws.{true-false}
use Rattle.octets.specs.Big.{number_cong}
use Rattle.paths.specs.Lists.{In}
use Rattle.book.specs.Ordered.{STARTS, entry, insert, without, without-none, without-insert, without_other}
use Rattle.book.specs.Pieces.{live, key_at, of, joined, placed, sheet_of}
use Rattle.book.specs.Stands.{Piece, Sound, Stands, stands_from, stands_within, stands_sound, up-placed, placed_in}

-- the place of the version byte
abbrev pub VERSIONED : ℕ
VERSIONED = 4

abbrev pub gone : List ℕ → List ℕ
gone p = set p VERSIONED 0

lengths : (q : List ℕ) (ps : List (List ℕ)) → length (q ++ joined ps) ≡ length q + length (joined ps)
lengths q ps = length-append q (joined ps)

-- the piece that begins at s
unfoldable pub mark : (from s : ℕ) → List (List ℕ) → List (List ℕ)
mark from s [] = []
mark from s (p ∷ ps) = pick (eqb s from) (gone p ∷ ps) (p ∷ mark (from + length p) s ps)

pub gone-live : (p : List ℕ) → VERSIONED < length p → live (gone p) ≡ false
gone-live p h = ap (λ (n : ℕ). not (eqb n 0)) (get_or-set_same p VERSIONED 0 0 h)

pub gone-piece : (p : List ℕ) → Piece p → Piece (gone p)
gone-piece p h = record {
  long = omega (arith, h.long, length-set p VERSIONED 0);
  told =
      ap (λ (n : ℕ). 4 + n) (number_cong (gone p) p 0 0 4 (λ j l. get_or-set_other p VERSIONED (0 + j) 0 0 (λ e. omega arith)))
      ∙ h.told ∙ sym (length-set p VERSIONED 0);
  sound = λ e. absurd (true-false e (gone-live p (omega (arith, h.long))));
}

module _ (from s : ℕ) (p : List ℕ) (ps : List (List ℕ)) where
  pub mark-here : s ≡ from → mark from s (p ∷ ps) ≡ gone p ∷ ps
  unfolding mark
  mark-here e = ap (λ (b : Bool). pick b (gone p ∷ ps) (p ∷ mark (from + length p) s ps)) (eq-eqb s from e)

  pub mark_later : s ≢ from → mark from s (p ∷ ps) ≡ p ∷ mark (from + length p) s ps
  unfolding mark
  mark_later ne = ap (λ (b : Bool). pick b (gone p ∷ ps) (p ∷ mark (from + length p) s ps)) (ne_eqb s from ne)

  pub beyond : Piece p → (q : List ℕ) → Stands (from + length p) ps s q → s ≢ from
  beyond h q g e = omega (arith, stands_from (from + length p) ps s q g, h.long)

set_later : (p l : List ℕ) (i a : ℕ) → set (p ++ l) (length p + i) a ≡ p ++ set l i a
set_later [] l i a = ap (λ (k : ℕ). set l k a) (zero-add i)
set_later (x ∷ p) l i a = ap (λ (k : ℕ). set (x ∷ (p ++ l)) k a) (suc-add (length p) i) ∙ ap (λ (m : List ℕ). x ∷ m) (set_later p l i a)

pub joined-mark : (from s : ℕ) (p : List ℕ) (ps : List (List ℕ)) (d : ℕ) → Sound ps → Stands from ps s p → s ≡ from + d → joined (mark from s ps) ≡ set (joined ps) (d + VERSIONED) 0
unfolding joined
joined-mark from s p [] d h g e = absurd g
joined-mark from s p (q ∷ ps) d h (inl g) e =
    let z : d ≡ 0 = omega (arith, g.0) in
    ap joined (mark-here from s q ps g.0) ∙ sym (set-append_left q (joined ps) VERSIONED 0 (omega (arith, h.0.long)))
    ∙ ap (λ (n : ℕ). set (q ++ joined ps) (n + VERSIONED) 0) (sym z)
joined-mark from s p (q ∷ ps) d h (inr g) e =
    let f = stands_from (from + length q) ps s p g in
    let z : length q + (d - length q + VERSIONED) ≡ d + VERSIONED = omega arith in
    ap joined (mark_later from s q ps (beyond from s q ps h.0 p g))
    ∙ ap (λ (l : List ℕ). q ++ l) (joined-mark (from + length q) s p ps (d - length q) h.1 g (omega arith))
    ∙ sym (set_later q (joined ps) (d - length q + VERSIONED) 0)
    ∙ ap (λ (n : ℕ). set (q ++ joined ps) n 0) z

pub sound_mark : (from s : ℕ) (ps : List (List ℕ)) → Sound ps → Sound (mark from s ps)
unfolding mark
sound_mark from s [] h = tt
sound_mark from s (q ∷ ps) h = go (eqb s from) (sound_mark (from + length q) s ps h.1)
  where
    go : (b : Bool) → Sound (mark (from + length q) s ps) → Sound (pick b (gone q ∷ ps) (q ∷ mark (from + length q) s ps))
    go true r = (gone-piece q h.0, h.1)
    go false r = (h.0, r)

-- no place of later pieces is that of an earlier start
apart : (from : ℕ) (ps : List (List ℕ)) (k s : ℕ) → s < from → from + length (joined ps) ≤ STARTS → Sound ps → In (entry k s) (placed from ps) → ⊥
apart from ps k s h w d i =
    let o = placed_in from ps (entry k s) i in
    let a = stands_from from ps o.start o.piece o.stands in
    let b = stands_within from ps o.start o.piece o.stands in
    far (key_at o.piece) o.start (length o.piece) a b (stands_sound from ps o.start o.piece d o.stands).long o.is
  where
    far : (c t n : ℕ) → from ≤ t → t + n ≤ from + length (joined ps) → 16 ≤ n → entry k s ≡ entry c t → ⊥
    far c t n a b g e = omega arith

pub placed-mark : (from s : ℕ) (p : List ℕ) (ps : List (List ℕ)) → Sound ps → from + length (joined ps) ≤ STARTS → Stands from ps s p → live p ≡ true
    → placed from (mark from s ps) ≡ without (entry (key_at p) s) (placed from ps)
unfolding placed joined
placed-mark from s p [] h w g l = absurd g
placed-mark from s p (q ∷ ps) h w (inl g) l =
    let x = entry (key_at p) s in
    let rest = placed (from + length q) ps in
    let same : x ≡ entry (key_at q) from = ap₂ (λ (r : List ℕ) (n : ℕ). entry (key_at r) n) g.1 g.0 in
    let long = h.0.long in
    let all : length (q ++ joined ps) ≡ length q + length (joined ps) = lengths q ps in
    let none : without x rest ≡ rest = without-none x rest (apart (from + length q) ps (key_at p) s (omega (arith, g.0)) (omega arith) h.1) in
    ap (placed from) (mark-here from s q ps g.0)
    ∙ ap (λ (b : Bool). pick b (insert (entry (key_at (gone q)) from) (placed (from + length (gone q)) ps)) (placed (from + length (gone q)) ps)) (gone-live q (omega arith))
    ∙ ap (λ (n : ℕ). placed (from + n) ps) (length-set q VERSIONED 0)
    ∙ sym (none)
    ∙ sym (without-insert x rest)
    ∙ ap (λ (y : ℕ). without x (insert y rest)) same
    ∙ ap (λ (b : Bool). without x (pick b (insert (entry (key_at q) from) rest) rest)) (sym (ap live (sym g.1) ∙ l))
placed-mark from s p (q ∷ ps) h w (inr g) l =
    let all : length (q ++ joined ps) ≡ length q + length (joined ps) = lengths q ps in
    ap (placed from) (mark_later from s q ps (beyond from s q ps h.0 p g))
    ∙ go (live q) (placed-mark (from + length q) s p ps h.1 (omega arith) g l)
  where
    other : entry (key_at q) from ≢ entry (key_at p) s
    other = far (key_at q) (key_at p) (stands_from (from + length q) ps s p g) (stands_within (from + length q) ps s p g) (stands_sound (from + length q) ps s p h.1 g).long h.0.long (lengths q ps)
      where
        far : (c k : ℕ) → from + length q ≤ s → s + length p ≤ from + length q + length (joined ps) → 16 ≤ length p → 16 ≤ length q
            → length (q ++ joined ps) ≡ length q + length (joined ps) → entry c from ≢ entry k s
        far c k a b d e f z = omega arith

    go : (b : Bool) → placed (from + length q) (mark (from + length q) s ps) ≡ without (entry (key_at p) s) (placed (from + length q) ps)
        → pick b (insert (entry (key_at q) from) (placed (from + length q) (mark (from + length q) s ps))) (placed (from + length q) (mark (from + length q) s ps))
        ≡ without (entry (key_at p) s) (pick b (insert (entry (key_at q) from) (placed (from + length q) ps)) (placed (from + length q) ps))
    go true r =
        ap (insert (entry (key_at q) from)) r
        ∙ sym (without_other (entry (key_at p) s) (entry (key_at q) from) (placed (from + length q) ps) (up-placed (from + length q) ps) other)
    go false r = r

-- what is live afterwards stood there before, elsewhere
pub mark-stands : (from s : ℕ) (p : List ℕ) (ps : List (List ℕ)) → Sound ps → Stands from ps s p → (t : ℕ) (r : List ℕ) → Stands from (mark from s ps) t r → live r ≡ true → Stands from ps t r × (t ≢ s)
mark-stands from s p [] h g t r st l = absurd g
mark-stands from s p (q ∷ ps) h (inl g) t r st l = go (subst (λ (m : List (List ℕ)). Stands from m t r) (mark-here from s q ps g.0) st)
  where
    go : Stands from (gone q ∷ ps) t r → Stands from (q ∷ ps) t r × (t ≢ s)
    go (inl e) = absurd (true-false (ap live (sym e.1) ∙ l) (gone-live q (omega (arith, h.0.long))))
    go (inr k) =
        let k' : Stands (from + length q) ps t r = subst (λ (n : ℕ). Stands (from + n) ps t r) (length-set q VERSIONED 0) k in
        (inr k', λ z. omega (arith, g.0, stands_from (from + length q) ps t r k', h.0.long))
mark-stands from s p (q ∷ ps) h (inr g) t r st l =
    go (subst (λ (m : List (List ℕ)). Stands from m t r) (mark_later from s q ps (beyond from s q ps h.0 p g)) st) (λ k. mark-stands (from + length q) s p ps h.1 g t r k l)
  where
    go : Stands from (q ∷ mark (from + length q) s ps) t r → (Stands (from + length q) (mark (from + length q) s ps) t r → Stands (from + length q) ps t r × (t ≢ s))
        → Stands from (q ∷ ps) t r × (t ≢ s)
    go (inl e) rest = (inl e, λ z. beyond from s q ps h.0 p g (sym z ∙ e.0))
    go (inr k) rest = let w = rest k in (inr w.0, w.1)

module _ (kind size source : ℕ) where
  pub sheet-mark-other : (from s : ℕ) (p : List ℕ) (ps : List (List ℕ)) → Sound ps → Stands from ps s p → of kind size source p ≡ false → sheet_of kind size source (mark from s ps) ≡ sheet_of kind size source ps
  unfolding sheet_of
  sheet-mark-other from s p [] h g o = absurd g
  sheet-mark-other from s p (q ∷ ps) h (inl g) o =
      ap (sheet_of kind size source) (mark-here from s q ps g.0)
      ∙ ap (λ (b : Bool). pick b (pick (of kind size source (gone q)) (some (gone q)) (sheet_of kind size source ps)) (sheet_of kind size source ps)) (gone-live q (omega (arith, h.0.long)))
      ∙ sym (passed (live q) (ap (of kind size source) (sym g.1) ∙ o))
    where
      passed : (b : Bool) → of kind size source q ≡ false → pick b (pick (of kind size source q) (some q) (sheet_of kind size source ps)) (sheet_of kind size source ps) ≡ sheet_of kind size source ps
      passed true e = ap (λ (c : Bool). pick c (some q) (sheet_of kind size source ps)) e
      passed false e = refl
  sheet-mark-other from s p (q ∷ ps) h (inr g) o =
      ap (sheet_of kind size source) (mark_later from s q ps (beyond from s q ps h.0 p g))
      ∙ ap (λ (r : Option (List ℕ)). pick (live q) (pick (of kind size source q) (some q) r) r) (sheet-mark-other (from + length q) s p ps h.1 g o)
