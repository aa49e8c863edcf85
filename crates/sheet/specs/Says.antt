-- What flaws and the answers of the writer and the reader tell: the specification's number, path and place, and what comes beside them
-- (`flaw_number`, `flaw_path`, `flaw_place`, `written_told`, `reading_told`); flaws in their order, what a lone path is (`lone`), and what a lent slice holds where a flaw stands against it.
-- Assumes nothing.
use Rattle.std.specs.Prelude.{ℕ, Bool, false, eqb, Result, Ok, Err}
use Rattle.std.proofs.Math.Option.{Option, none, some}
use Rattle.scan.specs.Scan.{pick}
use Rattle.mesh.specs.Kinds.{TWO}
use Rattle.sheet.specs.declared.Flaw.{Flaw}
use Rattle.sheet.specs.declared.Flaw.TheVariants as flaw
use Rattle.sheet.specs.declared.Head.{Head}
use Rattle.sheet.specs.declared.Version.{Version}
use Rattle.sheet.specs.declared.Version.TheVariants.{One, Two}
use Rattle.sheet.specs.declared.Versioned.{Versioned}

abbrev pub flaw_number : Flaw → ℕ
flaw_number flaw.Cut = 30
flaw_number flaw.Version = 31
flaw_number flaw.NoMesh = 32
flaw_number flaw.Paths = 33
flaw_number flaw.Lone = 37
flaw_number flaw.NoRoom = 8
flaw_number (flaw.Hops i) = 34
flaw_number flaw.NotAFan = 35
flaw_number flaw.LeftOver = 36
flaw_number flaw.SourceOut = 2
flaw_number (flaw.TargetOut p) = 5
flaw_number (flaw.TargetIsSource p) = 6
flaw_number (flaw.TargetAgain p) = 7
flaw_number (flaw.NotLinked i p) = 22
flaw_number (flaw.SeenAgain i p) = 24
flaw_number (flaw.Zone i) = 38

abbrev pub flaw_path : Flaw → ℕ
flaw_path flaw.Cut = 0
flaw_path flaw.Version = 0
flaw_path flaw.NoMesh = 0
flaw_path flaw.Paths = 0
flaw_path flaw.Lone = 0
flaw_path flaw.NoRoom = 0
flaw_path (flaw.Hops i) = i
flaw_path flaw.NotAFan = 0
flaw_path flaw.LeftOver = 0
flaw_path flaw.SourceOut = 0
flaw_path (flaw.TargetOut p) = 0
flaw_path (flaw.TargetIsSource p) = 0
flaw_path (flaw.TargetAgain p) = 0
flaw_path (flaw.NotLinked i p) = i
flaw_path (flaw.SeenAgain i p) = i
flaw_path (flaw.Zone i) = i

abbrev pub flaw_place : Flaw → ℕ
flaw_place flaw.Cut = 0
flaw_place flaw.Version = 0
flaw_place flaw.NoMesh = 0
flaw_place flaw.Paths = 0
flaw_place flaw.Lone = 0
flaw_place flaw.NoRoom = 0
flaw_place (flaw.Hops i) = 0
flaw_place flaw.NotAFan = 0
flaw_place flaw.LeftOver = 0
flaw_place flaw.SourceOut = 0
flaw_place (flaw.TargetOut p) = p
flaw_place (flaw.TargetIsSource p) = p
flaw_place (flaw.TargetAgain p) = p
flaw_place (flaw.NotLinked i p) = p
flaw_place (flaw.SeenAgain i p) = p
flaw_place (flaw.Zone i) = 0

-- what stands against it, or what comes after
abbrev pub flawed : Bool → Flaw → Option Flaw → Option Flaw
flawed b f rest = pick b (some f) rest

abbrev pub before : Option Flaw → Option Flaw → Option Flaw
before none rest = rest
before (some f) rest = some f

-- what stands against a call, or nothing
abbrev pub flaw_of : {T : Type 0} → Result T Flaw → Option Flaw
flaw_of (Ok x) = none
flaw_of (Err f) = some f

-- the one where nothing stands against it, else the other
abbrev pub settled : {A : Type 0} → Option Flaw → A → A → A
settled none a b = a
settled (some f) a b = b

-- 37: one path of the two-level mesh
abbrev pub lone : (kind k : ℕ) → Bool
lone kind k = pick (eqb kind TWO) (eqb k 1) false

-- ---- the writer

-- number, path and place, and the length of the sheet
pub data WriteTold : Type 0 where
  wrote : (number path place bytes : ℕ) → WriteTold

abbrev pub written_number : WriteTold → ℕ
written_number (wrote n i p bytes) = n

abbrev pub written_path : WriteTold → ℕ
written_path (wrote n i p bytes) = i

abbrev pub written_place : WriteTold → ℕ
written_place (wrote n i p bytes) = p

abbrev pub written_bytes : WriteTold → ℕ
written_bytes (wrote n i p bytes) = bytes

abbrev pub tell_written : Option Flaw → ℕ → WriteTold
tell_written none n = wrote 0 0 0 n
tell_written (some f) n = wrote (flaw_number f) (flaw_path f) (flaw_place f) 0

abbrev pub written_told : Result ℕ Flaw → WriteTold
written_told (Ok n) = tell_written none n
written_told (Err f) = tell_written (some f) 0

-- ---- the reader

-- number, path and place; kind, size, source and how many paths
pub data ReadTold : Type 0 where
  reads : (number path place kind size source k : ℕ) → ReadTold

abbrev pub read_number : ReadTold → ℕ
read_number (reads n i p kind size s k) = n

abbrev pub read_path : ReadTold → ℕ
read_path (reads n i p kind size s k) = i

abbrev pub read_place : ReadTold → ℕ
read_place (reads n i p kind size s k) = p

abbrev pub read_kind : ReadTold → ℕ
read_kind (reads n i p kind size s k) = kind

abbrev pub read_size : ReadTold → ℕ
read_size (reads n i p kind size s k) = size

abbrev pub read_source : ReadTold → ℕ
read_source (reads n i p kind size s k) = s

abbrev pub read_count : ReadTold → ℕ
read_count (reads n i p kind size s k) = k

abbrev pub tell_read : Option Flaw → (kind size source k : ℕ) → ReadTold
tell_read none kind size s k = reads 0 0 0 kind size s k
tell_read (some f) kind size s k = reads (flaw_number f) (flaw_path f) (flaw_place f) 0 0 0 0

abbrev pub reading_told : Result Head Flaw → ReadTold
reading_told (Ok h) = tell_read none h.mesh.kind h.mesh.size h.source h.paths
reading_told (Err f) = tell_read (some f) 0 0 0 0

-- ---- the version

abbrev pub version_number : Version → ℕ
version_number One = 1
version_number Two = 2

-- its number, whatever versions are, and 0 of a refusal
abbrev pub version_by : {V : Type 0} → (V → ℕ) → Result (Versioned V) Flaw → ℕ
version_by number (Ok x) = number x.version
version_by number (Err f) = 0

abbrev pub version_told : Result (Versioned Version) Flaw → ℕ
version_told r = version_by version_number r

-- the same without the version
abbrev pub head_told : {V : Type 0} → Result (Versioned V) Flaw → Result Head Flaw
head_told (Ok x) = Ok x.head
head_told (Err f) = Err f

-- and a reading with it
abbrev pub with_version : {V : Type 0} → V → Result Head Flaw → Result (Versioned V) Flaw
with_version v (Ok h) = Ok (record { version = v; head = h })
with_version v (Err f) = Err f
