-- The rules over the history of arrivals alone, with no record: the newest number (`newest`), which numbers are marked (`marked`), and what becomes of
-- the next one (`verdict`). A history is the list of the numbers that arrived, refused ones too, the latest first. Assumes nothing.
use Rattle.std.specs.Prelude.{◌≡◌, ℕ, ◌<◌, Bool, true, false, List, [], ◌∷◌, ◌++◌, ◌==◌}
use Rattle.scan.specs.Scan.{pick}
use Rattle.arrivals.specs.Says.{further, near}

-- the newest number: the first, and then each that is 1 to 32,767 ahead
unfoldable pub newest : List ℕ → ℕ
newest [] = 0
newest (x ∷ []) = x
newest (x ∷ y ∷ h) = pick (further (newest (y ∷ h)) x) x (newest (y ∷ h))

-- what becomes of x, as the specification numbers it, where m says whether x is marked
unfoldable pub ruled : (h : List ℕ) (m : Bool) (x : ℕ) → ℕ
ruled [] m x = 0
ruled (y ∷ h) m x = pick (further (newest (y ∷ h)) x) 0 (pick (near (newest (y ∷ h)) x) (pick m 41 0) 42)

-- x was passed, and has stood among the newest 64 ever since
unfoldable pub marked : (h : List ℕ) (x : ℕ) → Bool
marked [] x = false
marked (y ∷ h) x = pick (near (newest (y ∷ h)) x) (pick (pick (y == x) (ruled h (marked h y) y == 0) false) true (marked h x)) false

-- what becomes of x after a history: 0 passed, 41 seen before, 42 too old
unfoldable pub verdict : (h : List ℕ) (x : ℕ) → ℕ
verdict h x = ruled h (marked h x) x

-- numbers of 16 bits
abbrev pub Sixteen : List ℕ → Type 0
Sixteen [] = Unit {0}
Sixteen (x ∷ h) = (x < 65536) × Sixteen h

-- x stood among the newest 64 at every moment since it came after the history `before`
abbrev pub Stays : (x : ℕ) (before since : List ℕ) → Type 0
Stays x before [] = Unit {0}
Stays x before (y ∷ since) = (near (newest (y ∷ (since ++ (x ∷ before)))) x ≡ true) × Stays x before since
