-- A sound request, by one of the three ways: the ring of order 1, the round trip, the general plan. Assumes nothing.
use Rattle.std.specs.Prelude.{ℕ, ◌+◌, ◌*◌, ◌≤◌, ◌<◌, ◌≡◌, refl, Bool, true, false, ◌≢◌, List, length, get_or, replicate}
use Rattle.std.proofs.Common.{sym, ap, ◌∙◌, subst, inl, inr, arith}
use Rattle.std.proofs.lemmas.List.Edits.{sets}
use Rattle.std.proofs.Math.Seq.{length-sets}
use Rattle.scan.specs.Runs.{filled_in, filled_out}
use Rattle.paths.specs.Fan as fan
use Rattle.paths.specs.Mesh.{width}
use Rattle.requests.specs.Sound.{Sound}
use Rattle.two_parts.specs.Two.{two}
use Rattle.two_write.specs.Rows.{Ready, Drawn}
use Rattle.two_round.specs.Trip.{Trip}
use Rattle.two_general.specs.General.{General}
use Rattle.two_plan.specs.Home.{Home}

-- a sound request, and room for its paths
pub record Asked (m s w : ℕ) (targets places counts : List ℕ) : Type 0 where
  pub low : 1 ≤ m
  pub high : m ≤ 5
  pub wide : w ≡ width (two m)
  pub sound : Sound (two m).relays (two m).links s targets
  pub room : length targets * w ≤ length places
  pub room-counts : length targets ≤ length counts

module _ {m s w : ℕ} {targets places counts places₁ : List ℕ} (a : Asked m s w targets places counts) (n : ℕ) (en : n ≡ length targets * w) (z : places₁ ≡ sets places 0 (replicate n fan.filler)) where
  -- they are filled so far, and no further
  filled : (x : ℕ) → x < n → get_or places₁ x 0 ≡ fan.filler
  filled x h = ap (λ (l : List ℕ). get_or l x 0) z ∙ filled_in places 0 n fan.filler x (omega (arith, a.room)) (omega arith) (omega arith)

  rest : (x : ℕ) → n ≤ x → get_or places₁ x 0 ≡ get_or places x 0
  rest x h = ap (λ (l : List ℕ). get_or l x 0) z ∙ filled_out places 0 n fan.filler x (inr (omega arith))

  long : length places₁ ≡ length places
  long = ap length z ∙ length-sets places 0 (replicate n fan.filler)

  pub ready : Ready (two m) s targets places₁ counts
  ready = record {
    sound = a.sound;
    room = subst (λ (y : ℕ). length targets * y ≤ length places₁) a.wide (omega (arith, long, a.room));
    room-counts = a.room-counts;
    filled = λ x h. filled x (subst (λ (y : ℕ). x < y) (sym en) (subst (λ (y : ℕ). x < length targets * y) (sym a.wide) h));
  }

  -- what lay beyond before the places were filled lies there still
  pub drawn-from : {places₂ counts₂ : List ℕ} → Drawn (two m) s targets places₁ counts places₂ counts₂ → Drawn (two m) s targets places counts places₂ counts₂
  drawn-from d = record {
    paths = d.paths;
    fan = d.fan;
    laid = d.laid;
    rest = λ x h. d.rest x h ∙ rest x (subst (λ (y : ℕ). y ≤ x) (sym en) (subst (λ (y : ℕ). length targets * y ≤ x) (sym a.wide) h));
    kept = d.kept;
  }

  pub ring_ready : m ≡ 1 → Ready (two 1) s targets places₁ counts
  ring_ready e = subst (λ (y : ℕ). Ready (two y) s targets places₁ counts) e ready

  pub ring-drawn : m ≡ 1 → {places₂ counts₂ : List ℕ} → Drawn (two 1) s targets places₁ counts places₂ counts₂ → Drawn (two m) s targets places counts places₂ counts₂
  ring-drawn e {places₂} {counts₂} d = drawn-from (subst (λ (y : ℕ). Drawn (two y) s targets places₁ counts places₂ counts₂) (sym e) d)

  module _ (ne : m ≢ 1) where
    low₂ : 2 ≤ m
    low₂ = omega (arith, a.low)

    pub trip : length targets ≡ m + 1 → Home m s targets true → Trip m s w targets places₁ counts
    trip all h = record {
      low = low₂;
      high = a.high;
      all = all;
      home = h.all refl;
      wide = a.wide;
      ready = ready;
    }

    pub some_out : Home m s targets false → General m s w targets places₁ counts
    some_out h =
        let x = h.some refl in record {
          low = low₂;
          high = a.high;
          wide = a.wide;
          ready = ready;
          some = inr x;
        }

    pub few : length targets ≢ m + 1 → General m s w targets places₁ counts
    few z = record { low = low₂; high = a.high; wide = a.wide; ready = ready; some = inl (omega (arith, a.sound.few)) }

-- ---- by the answer

pub home_yes : {size s : ℕ} {targets : List ℕ} {b : Bool} → b ≡ true → Home size s targets b → Home size s targets true
home_yes {size} {s} {targets} e h = subst (Home size s targets) e h

pub home_no : {size s : ℕ} {targets : List ℕ} {b : Bool} → b ≡ false → Home size s targets b → Home size s targets false
home_no {size} {s} {targets} e h = subst (Home size s targets) e h
