-- The relays that a search of the paths has looked at are marked (`Looked`), so one without its mark was not seen before (`new_excepted`, `new_here`).
-- Assumes nothing.
use Rattle.std.specs.Prelude.{ℕ, ◌+◌, ◌-◌, ◌*◌, ◌≤◌, ◌<◌, ◌≡◌, refl, Bool, true, false, ◌≢◌, List, get_or}
use Rattle.std.proofs.Common.{sym, ap, ◌∙◌}
use native.Mathlib.Omega.{arith}
use Rattle.marks.specs.Marks.{marked}
use Rattle.marks.specs.Noted.{Noted}
use Rattle.scan.specs.Scan.{any, among}
use Rattle.scan.specs.Laws.{true-false, false-any, false-among}
use Rattle.paths.specs.Rules.{Rules, span}
use Rattle.paths.specs.Fan.{relay, hops}
use Rattle.paths.specs.Finding.{on, twinned, seen}
use Rattle.judge_rows.specs.Laws.{seen-excepted, seen-before}

-- every relay of the paths before path i, and of path i before place p, has its mark
abbrev pub Looked : (marks : List ℕ) (w : ℕ) (places counts : List ℕ) (i p : ℕ) → Type 0
Looked marks w places counts = Noted (relay w places) (λ j. hops counts j + 1) marks

-- ---- a relay without its mark

module _ {marks : List ℕ} (r : Rules) {w : ℕ} (places counts : List ℕ) (i p : ℕ) {x : ℕ} (wide : w ≡ span r) (e : x ≡ relay w places i p) (l : Looked marks w places counts i p)
    {b : Bool} (m : b ≡ marked marks x) (f : b ≡ false) where
  differs : (y : ℕ) → marked marks y ≡ true → y ≢ x
  differs y t z = true-false (ap (marked marks) (sym z) ∙ t) (sym m ∙ f)

  -- x stands not among the first n relays of path j, all of which have their marks
  not_in : (j n : ℕ) → ((q : ℕ) → q < n → marked marks (relay w places j q) ≡ true) → among places (j * w) n x ≡ false
  unfolding relay
  not_in j n h = false-among places (j * w) n x (λ c a b. differs (get_or places c 0) (ap (λ (c : ℕ). marked marks (get_or places c 0)) (at c a) ∙ h (c - j * w) (omega arith)))
    where
      at : (c : ℕ) → j * w ≤ c → c ≡ j * w + (c - j * w)
      at c a = omega arith

  not-on_this : among places (i * w) p x ≡ false
  not-on_this = not_in i p l.here

  not-on-earlier : any (on w places counts x) 0 i ≡ false
  unfolding on
  not-on-earlier = false-any (on w places counts x) 0 i (λ j a b. not_in j (hops counts j + 1) (λ q h. l.earlier j q (omega arith) h))

  pub new_excepted : {c q : Bool} → c ≡ r.excepted (hops counts i) p → c ≡ true → q ≡ twinned r counts i p → q ≡ seen r places counts i p
  new_excepted g t z = seen-excepted r places counts i p wide e (sym not-on_this) refl g t z

  pub new_here : {c : Bool} → c ≡ r.excepted (hops counts i) p → c ≡ false → false ≡ seen r places counts i p
  new_here g t = seen-before r places counts i p wide e (sym not-on_this) refl g t (sym not-on-earlier)
