-- The first finding: what is wrong with a set of paths, 20 to 25, with path and place (`finding_by`, over any rules; `finding`, of a fan).
-- Paths go in order; of one path the findings go in the order of their numbers, and of one number the first place is told.
use Rattle.std.specs.Prelude.{ℕ, zero, suc, ◌+◌, ◌-◌, ◌*◌, Bool, true, false, not, List, eqb, leb, ltb, length, get_or}
use Rattle.scan.specs.Scan.{Spot, nowhere, at, pick, seek, any, among}
use Rattle.paths.specs.Mesh.{Mesh}
use Rattle.paths.specs.Rules.{Rules, span, fan_rules}
use Rattle.paths.specs.Fan.{filler, relay, hops}

pub data Finding : Type 0 where
  clean : Finding
  found : (number path place : ℕ) → Finding

abbrev pub or : Bool → Bool → Bool
or true b = true
or false b = b

-- a finding of path i, or what comes after
abbrev pub report : Bool → Finding → Finding → Finding
report b f rest = pick b f rest

abbrev pub report-at : Spot → (ℕ → Finding) → Finding → Finding
report-at nowhere f rest = rest
report-at (at p) f rest = f p

-- 22: the relay at place p is out of range, or not linked to the one before
unfoldable pub unlinked : (r : Rules) (places : List ℕ) (i p : ℕ) → Bool
unlinked r places i p =
    or (leb r.mesh.relays (relay (span r) places i p))
    (not (r.mesh.linked (relay (span r) places i (p - 1)) (relay (span r) places i p)))

-- whether x stands on path j
unfoldable pub on : (w : ℕ) (places counts : List ℕ) (x j : ℕ) → Bool
on w places counts x j = among places (j * w) (hops counts j + 1) x

-- whether an earlier path is a twin of path i at place p
unfoldable pub twinned : (r : Rules) (counts : List ℕ) (i p : ℕ) → Bool
twinned r counts i p = any (λ j. r.twin (hops counts i) p (hops counts j)) 0 i

-- 24: the relay at place p of path i stands earlier on this path or on an earlier one or, at an excepted place, an earlier path is a twin
unfoldable pub seen : (r : Rules) (places counts : List ℕ) (i p : ℕ) → Bool
seen r places counts i p =
    or (among places (i * span r) p (relay (span r) places i p))
    (pick (r.excepted (hops counts i) p) (twinned r counts i p) (any (on (span r) places counts (relay (span r) places i p)) 0 i))

-- 25: the unused place p is not filled
unfoldable pub unfilled : (w : ℕ) (places : List ℕ) (i p : ℕ) → Bool
unfilled w places i p = not (eqb (relay w places i p) filler)

-- the first such place of path i, for each of the three
unfoldable pub unlinked_at : (r : Rules) (places counts : List ℕ) (i : ℕ) → Spot
unlinked_at r places counts i = seek (unlinked r places i) 1 (hops counts i)

unfoldable pub seen_at : (r : Rules) (places counts : List ℕ) (i : ℕ) → Spot
seen_at r places counts i = seek (seen r places counts i) 0 (hops counts i + 1)

unfoldable pub unfilled_at : (r : Rules) (places counts : List ℕ) (i : ℕ) → Spot
unfilled_at r places counts i = seek (unfilled (span r) places i) (hops counts i + 1) (r.limit - hops counts i)

-- the first finding of path i, which is to lead from s to t, or `rest`
unfoldable pub finding_of : (r : Rules) (s t : ℕ) (places counts : List ℕ) (i : ℕ) (rest : Finding) → Finding
finding_of r s t places counts i rest =
    report (ltb r.limit (hops counts i)) (found 20 i 0)
    (report (not (eqb (relay (span r) places i 0) s)) (found 21 i 0)
    (report-at (unlinked_at r places counts i) (found 22 i)
    (report (not (eqb (relay (span r) places i (hops counts i)) t)) (found 23 i (hops counts i))
    (report-at (seen_at r places counts i) (found 24 i)
    (report-at (unfilled_at r places counts i) (found 25 i) rest)))))

-- the first finding of the n paths from path i on
unfoldable pub finding_from : (r : Rules) (s : ℕ) (targets places counts : List ℕ) (i n : ℕ) → Finding
finding_from r s targets places counts i zero = clean
finding_from r s targets places counts i (suc n) =
    finding_of r s (get_or targets i 0) places counts i (finding_from r s targets places counts (suc i) n)

-- the first finding of a path to each target
unfoldable pub finding_by : (r : Rules) (s : ℕ) (targets places counts : List ℕ) → Finding
finding_by r s targets places counts = finding_from r s targets places counts 0 (length targets)

-- the first finding of what is to be a fan
abbrev pub finding : (m : Mesh) (s : ℕ) (targets places counts : List ℕ) → Finding
finding m = finding_by (fan_rules m)
