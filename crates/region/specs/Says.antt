-- What the calls of the region host tell and leave. A refusal is told as number * 256 + place (`code_of`), and 0 where nothing stands against the call.
use Rattle.std.specs.Prelude.{ℕ, ◌+◌, ◌*◌, ◌/◌, ◌%◌, ◌≤◌, ◌≡◌, false, not, ◌≢◌, List, ◌++◌, eqb, ltb, length, drop}
use Rattle.std.proofs.Math.Option.{Option, none, some}
use Rattle.scan.specs.Scan.{pick}
use Rattle.octets.specs.Big.{big}
use Rattle.answers.specs.Order.{Fault, first, refuse, read_faults}
use Rattle.answers.specs.Told.{number, place, leaves}
use Rattle.answers.specs.declared.Refusal.{Refusal}
use Rattle.answers.specs.declared.Refusal.TheVariants.{NoRoom}
use Rattle.paths.specs.Mesh.{Mesh, width}
use Rattle.paths.specs.Fan.{Fan}
use Rattle.mesh.specs.Kinds.{Kind, kind_of, mesh_of}
use Rattle.mesh.specs.Says.{pair_against, planned_faults_in, planned_against}
use Rattle.sheet.specs.Format.{HEAD, relays_at}
use Rattle.sheet.specs.Says.{flaw_number, lone}
use Rattle.sheet.specs.declared.Flaw.TheVariants as flaw
use Rattle.sheet_write.specs.Says.{bytes}

-- number * 256 + place
abbrev pub code_of : Option Refusal → ℕ
code_of none = 0
code_of (some why) = number why * 256 + place why

-- ---- a relay at the front of a slice

-- 8 where there are fewer than 8 bytes
abbrev pub put_against : (out : List ℕ) → Option Refusal
put_against out = refuse (ltb (length out) 8) NoRoom none

-- the 8 bytes of a relay before what stood after them
abbrev pub front : (relay : ℕ) (out : List ℕ) → List ℕ
front relay out = big 8 relay ++ drop 8 out

pub record Put (relay : ℕ) (out : List ℕ) (r : ℕ) (out₁ : List ℕ) : Type 0 where
  pub told : r ≡ code_of (put_against out)
  pub held : out₁ ≡ leaves (put_against out) out (front relay out)

-- ---- the next hop

-- 1, 2, 5, and then 8
abbrev pub next_against : (K : Kind) (n s t : ℕ) (out : List ℕ) → Option Refusal
next_against K n s t out = pair_against K n s t (ltb (length out) 8)

pub record Stepped (K : Kind) (n s t : ℕ) (out : List ℕ) (r : ℕ) (out₁ : List ℕ) : Type 0 where
  pub told : r ≡ code_of (next_against K n s t out)
  pub held : out₁ ≡ leaves (next_against K n s t out) out (front (K.next n s t) out)

-- ---- the planner

-- the numbers that bytes are, 8 bytes each
abbrev pub targets_in : List ℕ → List ℕ
targets_in l = relays_at l 0 (length l / 8)

-- the most bytes that a sheet of k paths takes
abbrev pub most : (m : Mesh) (k : ℕ) → ℕ
most m k = HEAD + k * (2 + 8 * m.longest)

-- the number of a refusal, or what comes after
abbrev pub coded : Option Refusal → ℕ → ℕ
coded none rest = rest
coded (some why) rest = code_of (some why)

-- 37, which tells no place
abbrev pub LONE : ℕ
LONE = flaw_number flaw.Lone * 256

-- 37 for a lone path, and then 8 where the largest sheet of so many paths would not fit
abbrev pub sheet_code : (kind size k : ℕ) (out : List ℕ) → ℕ
sheet_code kind size k out = pick (lone kind k) LONE (pick (ltb (length out) (most (mesh_of kind size) k)) (code_of (some NoRoom)) 0)

module _ (kind size s : ℕ) where
  -- 10, bytes that are no multiple of 8, and 1, 52, 2 to 7
  abbrev pub plan_faults : (bytes : List ℕ) → List Fault
  plan_faults bytes = read_faults (not (eqb (length bytes % 8) 0)) ++ planned_faults_in (kind_of kind) size s (targets_in bytes) false

  -- what a list of targets is told: 1, 52, 2 to 7, 37, 8
  abbrev pub list_code : (targets out : List ℕ) → ℕ
  list_code targets out = coded (planned_against (kind_of kind) size s targets false) (sheet_code kind size (length targets) out)

  -- 10 before these
  abbrev pub plan_code : (bytes out : List ℕ) → ℕ
  plan_code bytes out = coded (first (plan_faults bytes)) (sheet_code kind size (length (targets_in bytes)) out)

  -- the sheet of a fan stands at the front of what was there
  pub record Answered (targets out out₁ : List ℕ) : Type 0 where
    pub places : List ℕ
    pub counts : List ℕ
    pub fan : Fan (mesh_of kind size) s targets places counts
    pub placed : length targets * width (mesh_of kind size) ≤ length places
    pub counted : length targets ≤ length counts
    pub held : out₁ ≡ bytes kind size s (length targets) places counts ++ drop (length (bytes kind size s (length targets) places counts)) out

-- a number is told, and then nothing is changed; else the sheet of a fan is written
pub record Planned (n kind size s : ℕ) (targets out : List ℕ) (r : ℕ) (out₁ : List ℕ) : Type 0 where
  pub told : r ≡ n
  pub answered : n ≡ 0 → Answered kind size s targets out out₁
  pub refused : n ≢ 0 → out₁ ≡ out
