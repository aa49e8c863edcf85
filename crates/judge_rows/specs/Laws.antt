-- Findings 22, 24 and 25 at a place, test by test as code goes through them (`out_of_range` to `filled`). Assumes nothing.
use Rattle.std.specs.Prelude.{ℕ, ◌-◌, ◌*◌, ◌≤◌, ◌<◌, ◌≡◌, refl, Bool, true, false, ◌≢◌, ◌&&◌, List, eqb, leb, get_or}
use Rattle.std.proofs.Common.{sym, ◌∙◌, arith, le-leb, eq-eqb, ne_eqb}
use Rattle.std.proofs.Math.Path.{ap, ap₂}
use Rattle.std.proofs.Math.Bool.{not}
use Rattle.std.proofs.lemmas.Bool.{lt-leb}
use Rattle.scan.specs.Scan.{pick, any, among}
use Rattle.scan.specs.Laws.{false-any}
use Rattle.paths.specs.Mesh.{Mesh}
use Rattle.paths.specs.Rules.{Rules, span}
use Rattle.paths.specs.Fan.{filler, relay, hops}
use Rattle.paths.specs.Finding.{or, unlinked, on, twinned, seen, unfilled}
use Rattle.mesh.specs.Kinds.{mesh_of}
use Rattle.judge_rows.specs.Rules.{rules_in, rules_of}
use Rattle.judge_rows.specs.declared.Rules as code
use Rattle.judge_rows.specs.declared.Mode as code-mode
use Rattle.judge_rows.specs.declared.Mode.TheVariants as mode

-- ---- 22

module _ (r : Rules) {w : ℕ} (places : List ℕ) (i p : ℕ) (wide : w ≡ span r) where
  -- the definition's test, at the width that code has
  unlinked_is : or (leb r.mesh.relays (relay w places i p)) (not (r.mesh.linked (relay w places i (p - 1)) (relay w places i p))) ≡ unlinked r places i p
  unfolding unlinked
  unlinked_is = ap (λ (x : ℕ). or (leb r.mesh.relays (relay x places i p)) (not (r.mesh.linked (relay x places i (p - 1)) (relay x places i p)))) wide

  pub out_of_range : {relays v : ℕ} → relays ≡ r.mesh.relays → v ≡ relay w places i p → relays ≤ v → true ≡ unlinked r places i p
  out_of_range all e h =
      ap (λ (b : Bool). or b (not (r.mesh.linked (relay w places i (p - 1)) (relay w places i p)))) (sym (le-leb r.mesh.relays (relay w places i p) (omega arith)))
      ∙ unlinked_is

  pub in_range : {relays u v : ℕ} {b : Bool} → relays ≡ r.mesh.relays → v ≡ relay w places i p → v < relays → u ≡ relay w places i (p - 1) → b ≡ r.mesh.linked u v
      → not b ≡ unlinked r places i p
  in_range all e h f g =
      ap not (g ∙ ap₂ r.mesh.linked f e)
      ∙ ap (λ (b : Bool). or b (not (r.mesh.linked (relay w places i (p - 1)) (relay w places i p)))) (sym (lt-leb r.mesh.relays (relay w places i p) (omega arith)))
      ∙ unlinked_is

-- ---- 24

module _ (r : Rules) {w : ℕ} (places counts : List ℕ) (i p : ℕ) {x : ℕ} (wide : w ≡ span r) (e : x ≡ relay w places i p) where
  -- the definition's test, by whether the place is excepted
  abbrev earlier : Bool → Bool
  earlier b = pick b (twinned r counts i p) (any (on w places counts x) 0 i)

  seen_is : or (among places (i * w) p x) (earlier (r.excepted (hops counts i) p)) ≡ seen r places counts i p
  unfolding seen
  seen_is =
      ap₂ (λ (v y : ℕ). or (among places (i * v) p y) (pick (r.excepted (hops counts i) p) (twinned r counts i p) (any (on v places counts y) 0 i))) wide
      (e ∙ ap (λ (v : ℕ). relay v places i p) wide)

  pub seen-on_this : {b : Bool} → b ≡ among places (i * w) p x → b ≡ true → true ≡ seen r places counts i p
  seen-on_this f t = ap (λ (b : Bool). or b (earlier (r.excepted (hops counts i) p))) (sym t ∙ f) ∙ seen_is

  -- not on this path: by whether the place is excepted, as code has told it
  module _ {b c : Bool} (f : b ≡ among places (i * w) p x) (t : b ≡ false) (g : c ≡ r.excepted (hops counts i) p) where
    not-on_this : earlier c ≡ seen r places counts i p
    not-on_this = ap earlier g ∙ ap (λ (b : Bool). or b (earlier (r.excepted (hops counts i) p))) (sym t ∙ f) ∙ seen_is

    pub seen-excepted : {q : Bool} → c ≡ true → q ≡ twinned r counts i p → q ≡ seen r places counts i p
    seen-excepted y z = z ∙ ap earlier (sym y) ∙ not-on_this

    pub seen-before : {q : Bool} → c ≡ false → q ≡ any (on w places counts x) 0 i → q ≡ seen r places counts i p
    seen-before n z = z ∙ ap earlier (sym n) ∙ not-on_this

-- where two paths may meet, in each mode
module _ (r : code.Rules) (h p : ℕ) where
  pub excepted-start : p ≡ 0 → true ≡ (rules_of r).excepted h p
  excepted-start z = go r.mode
    where
      go : (m : code-mode.Mode) → true ≡ (rules_in m (mesh_of r.mesh.kind r.mesh.size)).excepted h p
      go mode.Fan = sym (eq-eqb p 0 z)
      go mode.Bundle = ap (λ (b : Bool). pick b true (eqb p h)) (sym (eq-eqb p 0 z))

  pub excepted-fan : r.mode ≡ mode.Fan → p ≢ 0 → false ≡ (rules_of r).excepted h p
  excepted-fan e ne = sym (ne_eqb p 0 ne) ∙ ap (λ (m : code-mode.Mode). (rules_in m (mesh_of r.mesh.kind r.mesh.size)).excepted h p) (sym e)

  pub excepted_bundle : {b : Bool} → r.mode ≡ mode.Bundle → p ≢ 0 → b ≡ eqb p h → b ≡ (rules_of r).excepted h p
  excepted_bundle e ne f =
      f ∙ ap (λ (b : Bool). pick b true (eqb p h)) (sym (ne_eqb p 0 ne))
      ∙ ap (λ (m : code-mode.Mode). (rules_in m (mesh_of r.mesh.kind r.mesh.size)).excepted h p) (sym e)

module _ (r : code.Rules) (counts : List ℕ) (i p : ℕ) where
  abbrev mesh : Mesh
  mesh = mesh_of r.mesh.kind r.mesh.size

  -- the definition's test in a mode
  in_mode : {o : code-mode.Mode} → r.mode ≡ o → any (λ j. (rules_in o mesh).twin (hops counts i) p (hops counts j)) 0 i ≡ twinned (rules_of r) counts i p
  unfolding twinned
  in_mode e = ap (λ (m : code-mode.Mode). any (λ j. (rules_in m mesh).twin (hops counts i) p (hops counts j)) 0 i) (sym e)

  pub twinned-fan : r.mode ≡ mode.Fan → false ≡ twinned (rules_of r) counts i p
  twinned-fan e = sym (false-any (λ j. false) 0 i (λ j l g. refl)) ∙ in_mode e

  -- of a bundle, at another place than 1, or on a longer path than the bare link
  module _ (e : r.mode ≡ mode.Bundle) where
    pub twinned_elsewhere : p ≢ 1 → false ≡ twinned (rules_of r) counts i p
    twinned_elsewhere ne =
        sym (false-any (λ j. (rules_in mode.Bundle mesh).twin (hops counts i) p (hops counts j)) 0 i
        (λ j l g. ap (λ (b : Bool). pick b (pick (eqb (hops counts i) 1) (eqb (hops counts j) 1) false) false) (ne_eqb p 1 ne)))
        ∙ in_mode e

    pub twinned-longer : hops counts i ≢ 1 → false ≡ twinned (rules_of r) counts i p
    twinned-longer ne = sym (false-any (λ j. (rules_in mode.Bundle mesh).twin (hops counts i) p (hops counts j)) 0 i (λ j l g. go (eqb p 1) j)) ∙ in_mode e
      where
        go : (b : Bool) (j : ℕ) → pick b (pick (eqb (hops counts i) 1) (eqb (hops counts j) 1) false) false ≡ false
        go true j = ap (λ (b : Bool). pick b (eqb (hops counts j) 1) false) (ne_eqb (hops counts i) 1 ne)
        go false j = refl

  -- of a bundle, as code has it: whether the place is 1, and the path of h hops is the bare link
  module _ {h : ℕ} (e : r.mode ≡ mode.Bundle) (f : h ≡ hops counts i) where
    abbrev twin_at : (g : ℕ) → Bool
    twin_at g = pick (eqb p 1) (pick (eqb h 1) (eqb g 1) false) false

    in_bundle : any (λ j. twin_at (hops counts j)) 0 i ≡ twinned (rules_of r) counts i p
    in_bundle = ap (λ (x : ℕ). any (λ j. pick (eqb p 1) (pick (eqb x 1) (eqb (hops counts j) 1) false) false) 0 i) f ∙ in_mode e

    pub twinned-not : (eqb p 1 && eqb h 1) ≡ false → false ≡ twinned (rules_of r) counts i p
    twinned-not t = sym (false-any (λ j. twin_at (hops counts j)) 0 i (λ j l g. go (eqb p 1) (eqb h 1) (eqb (hops counts j) 1) t)) ∙ in_bundle
      where
        go : (x y z : Bool) → (x && y) ≡ false → pick x (pick y z false) false ≡ false
        go true true z t = cc
        go true false z t = refl
        go false y z t = refl

    pub twinned_bare : {b : Bool} → (eqb p 1 && eqb h 1) ≡ true → b ≡ among counts 0 i 1 → b ≡ twinned (rules_of r) counts i p
    unfolding among hops
    twinned_bare t z = z ∙ go (eqb p 1) (eqb h 1) t ∙ in_bundle
      where
        go : (x y : Bool) → (x && y) ≡ true → any (λ j. eqb (get_or counts j 0) 1) 0 i ≡ any (λ j. pick x (pick y (eqb (get_or counts j 0) 1) false) false) 0 i
        go true true t = refl
        go true false t = cc
        go false y t = cc

-- ---- 25

module _ (w : ℕ) (places : List ℕ) (i p : ℕ) {x : ℕ} (e : x ≡ relay w places i p) where
  pub not_filled : x ≢ filler → unfilled w places i p ≡ true
  unfolding unfilled
  not_filled ne = ap not (ne_eqb (relay w places i p) filler (λ z. ne (e ∙ z)))

  pub filled : x ≡ filler → unfilled w places i p ≡ false
  unfolding unfilled
  filled f = ap not (eq-eqb (relay w places i p) filler (sym e ∙ f))
