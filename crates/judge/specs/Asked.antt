-- Laws of what is judged: want of room is told last, so where something else stands against it room does not matter (`asked_alike`), and where nothing
-- does there is room for its paths (`asked_passed`); what is told, as code goes through it (`told_refused`, `told-short`, `told_granted`). A bundle's
-- room and faults are those that the mesh tells (`bundle_cramped`, `bundle_against_lem`). Assumes nothing.
use Rattle.std.specs.Prelude.{ℕ, zero, suc, ◌*◌, ◌≤◌, ◌≡◌, refl, Bool, true, false, List, ◌∷◌, ◌++◌, Result, Ok, ⊤, ltb, length, take, replicate}
use Rattle.std.proofs.Common.{sym, ap, ◌∙◌, arith, ltb-false}
use Rattle.std.proofs.Math.Option.{Option, none, some}
use Rattle.std.proofs.lemmas.List.{length-replicate}
use Rattle.scan.specs.Scan.{pick}
use Rattle.answers.specs.Order.{Fault, first, refuse, before, refuse-none, append-none, handed, asked_next, room_faults}
use Rattle.answers.specs.Pairs.{room-last, room_granted}
use Rattle.answers.specs.Told.{against}
use Rattle.answers.specs.declared.Refusal.{Refusal}
use Rattle.answers.specs.declared.Refusal.TheVariants.{NoRoom}
use Rattle.paths.specs.Mesh.{Mesh, width}
use Rattle.paths.specs.Rules.{span}
use Rattle.paths.specs.Finding.{clean}
use Rattle.paths.specs.Bundles.{longer, ends_at}
use Rattle.mesh.specs.Kinds.{Kind}
use Rattle.mesh.specs.Says.{bundle_against, bundle_short}
use Rattle.mesh.specs.Requests.{neither_wanting}
use Rattle.judge.specs.Says.{rule, Asked, bundle_asked, cramped, asked_against, asked_finding, asked_told}

-- where another fault stands, room does not matter
against_alike : (l : List Fault) (a b : Bool) → (first l ≡ none → a ≡ b) → first (l ++ room_faults a) ≡ first (l ++ room_faults b)
against_alike l a b same = room-last l a ∙ go (first l) refl ∙ sym (room-last l b)
  where
    go : (o : Option Refusal) → first l ≡ o → before o (refuse a NoRoom none) ≡ before o (refuse b NoRoom none)
    go none e = ap (λ (x : Bool). refuse x NoRoom none) (same e)
    go (some why) e = refl

-- nor does what is lacking
pub asked_alike : (q : Asked) (places counts : List ℕ) (a b : Bool) → (first q.faults ≡ none → a ≡ b) → asked_against q places counts a ≡ asked_against q places counts b
asked_alike q places counts a b same =
    let wanted : Bool → Bool = λ x. pick x true (cramped q places counts) in
    against_alike q.faults (wanted a) (wanted b) (λ e. ap wanted (same e))

-- nothing stands against it: no fault, nothing is lacking, and there are places and counts for its paths
pub record Passed (q : Asked) (places counts : ℕ) (lacking : Bool) : Type 0 where
  pub faultless : first q.faults ≡ none
  pub lent : lacking ≡ false
  pub room : length q.targets * span q.rules ≤ places
  pub counted : length q.targets ≤ counts

pub asked_passed : (q : Asked) (places counts : List ℕ) (lacking : Bool) → asked_against q places counts lacking ≡ none → Passed q (length places) (length counts) lacking
asked_passed q places counts lacking e =
    let k = length q.targets in
    let wide = k * span q.rules in
    let r = append-none q.faults (room_faults (pick lacking true (cramped q places counts))) e in
    let p = neither_wanting lacking (cramped q places counts) refl (refuse-none (pick lacking true (cramped q places counts)) NoRoom none r.1).0 in
    let w = neither_wanting (ltb (length places) wide) (ltb (length counts) k) refl p.1 in
    record { faultless = r.0; lent = p.0; room = ltb-false (length places) wide w.0; counted = ltb-false (length counts) k w.1 }

-- the same as code has it: what it has of the targets, and of what a path takes
pub passed_lent : {q : Asked} {places counts w : ℕ} {lacking : Bool} {l : List ℕ} → Passed q places counts lacking → l ≡ q.targets → w ≡ span q.rules
    → (length l * w ≤ places) × (length l ≤ counts)
passed_lent p e f = (rw e (rw f p.room), rw e p.counted)

-- ---- as code goes through them: what was checked, then room

module _ (q : Asked) (places counts : List ℕ) (lacking : Bool) where
  -- what is told where o stands against it
  telling : {o : Option Refusal} → o ≡ asked_against q places counts lacking → rule o (asked_finding q places counts) ≡ asked_told q places counts lacking
  telling p = ap (λ (o : Option Refusal). rule o (asked_finding q places counts)) p

  pub told_refused : {why : Refusal} → some why ≡ first q.faults → rule (some why) clean ≡ asked_told q places counts lacking
  told_refused e = telling (handed q.faults (room_faults (pick lacking true (cramped q places counts))) e)

  -- whether room is wanted, as code has it: something is lacking, or else the slices are short
  abbrev wanted : Bool
  wanted = pick lacking true (cramped q places counts)

  pub by_lack : lacking ≡ true → wanted ≡ true
  by_lack t = ap (λ (b : Bool). pick b true (cramped q places counts)) t

  pub by_short : {short b : Bool} → lacking ≡ false → short ≡ cramped q places counts → short ≡ b → wanted ≡ b
  by_short f s t = ap (λ (b : Bool). pick b true (cramped q places counts)) f ∙ sym s ∙ t

  -- nothing else stands against it
  module _ (e : none ≡ first q.faults) where
    by_room : {b : Bool} → wanted ≡ b → refuse b NoRoom none ≡ asked_against q places counts lacking
    by_room w = ap (λ (b : Bool). refuse b NoRoom none) (sym w) ∙ asked_next q.faults (room_faults wanted) e refl

    pub told-short : wanted ≡ true → rule (some NoRoom) clean ≡ asked_told q places counts lacking
    told-short w = telling (by_room w)

    pub told_granted : wanted ≡ false → rule none (asked_finding q places counts) ≡ asked_told q places counts lacking
    told_granted w = telling (by_room w)

    pub passed : wanted ≡ false → Passed q (length places) (length counts) lacking
    passed w = asked_passed q places counts lacking (sym (by_room w))

  -- the same by what was checked, and by a flag, which is what code has of the want of room
  module _ {r : Result ⊤ Refusal} (e : against r ≡ first q.faults) (f : r ≡ Ok tt) {short flag : Bool} (s : short ≡ cramped q places counts) (w : flag ≡ pick lacking true short) where
    flagged : flag ≡ pick lacking true (cramped q places counts)
    flagged = w ∙ ap (pick lacking true) s

    granted : flag ≡ false → none ≡ asked_against q places counts lacking
    granted t = room_granted q.faults (pick lacking true (cramped q places counts)) e f flagged t

-- ---- a bundle

module _ (K : Kind) (n s t : ℕ) (places counts : List ℕ) where
  pub bundle_cramped : cramped (bundle_asked K n s t) places counts ≡ bundle_short (K.mesh n) (length places) (length counts)
  bundle_cramped =
      ap (λ (k : ℕ). pick (ltb (length places) (k * width (longer (K.mesh n)))) true (ltb (length counts) k)) (length-replicate (K.mesh n).links t)

  pub bundle_against_lem : (lacking : Bool)
      → asked_against (bundle_asked K n s t) places counts lacking ≡ bundle_against K n s t (pick lacking true (bundle_short (K.mesh n) (length places) (length counts)))
  bundle_against_lem lacking = ap (λ (b : Bool). bundle_against K n s t (pick lacking true b)) bundle_cramped

-- as many ends as links, cut from a list of more
pub ends-cut : (m : Mesh) (t most : ℕ) {k : ℕ} → k ≡ m.links → k ≤ most → take k (replicate most t) ≡ ends_at m t
ends-cut m t most {k} e h = go k most h ∙ ap (λ (j : ℕ). replicate j t) e
  where
    go : (k most : ℕ) → k ≤ most → take k (replicate most t) ≡ replicate k t
    go zero most h = refl
    go (suc k) zero h = absurd (omega arith)
    go (suc k) (suc most) h = ap (λ (l : List ℕ). t ∷ l) (go k most (omega arith))
