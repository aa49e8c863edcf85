-- What a verdict tells: the specification's number, path and place. All are 0 where nothing is found; of a refusal the path is 0. What is judged is one
-- record (`Asked`), of which a fan and a bundle are the two values, and what is told of it one definition (`asked_told`). Definitions; assumes nothing.
use Rattle.std.specs.Prelude.{ℕ, ◌*◌, Bool, true, List, ◌++◌, Result, Ok, Err, ⊤, ltb, length}
use Rattle.std.proofs.Math.Option.{Option, none, some}
use Rattle.scan.specs.Scan.{pick}
use Rattle.answers.specs.Order.{Fault, first, end_faults, request_faults, room_faults}
use Rattle.answers.specs.Told.{number, place}
use Rattle.answers.specs.declared.Refusal.{Refusal}
use Rattle.paths.specs.Rules.{Rules, span, fan_rules}
use Rattle.paths.specs.Finding.{Finding, clean, found, finding_by}
use Rattle.paths.specs.Bundles.{bundle_rules, ends_at}
use Rattle.mesh.specs.Kinds.{Kind}
use Rattle.mesh.specs.Says.{size_faults_in, served_faults_in}
use Rattle.judge.specs.declared.Finding as code
use Rattle.judge.specs.declared.Finding.TheVariants.{TooLong, NotFromSource, NotLinked, NotToTarget, SeenAgain, NotFilled}
use Rattle.judge.specs.declared.Fault as declared
use Rattle.judge.specs.declared.Fault.TheVariants as fault

-- number, path and place
pub data Ruling : Type 0 where
  ruling : (number path place : ℕ) → Ruling

abbrev pub number_of : Ruling → ℕ
number_of (ruling n i p) = n

abbrev pub path_of : Ruling → ℕ
path_of (ruling n i p) = i

abbrev pub place_of : Ruling → ℕ
place_of (ruling n i p) = p

-- what is told: a refusal comes before a finding
abbrev pub rule : Option Refusal → Finding → Ruling
rule none clean = ruling 0 0 0
rule none (found n i p) = ruling n i p
rule (some why) f = ruling (number why) 0 (place why)

-- the number, path and place of a finding
abbrev pub named : code.Finding → Finding
named (TooLong i) = found 20 i 0
named (NotFromSource i) = found 21 i 0
named (NotLinked i p) = found 22 i p
named (NotToTarget i p) = found 23 i p
named (SeenAgain i p) = found 24 i p
named (NotFilled i p) = found 25 i p

-- what the look at a path ends with
abbrev pub search_of : Result ⊤ code.Finding → Finding
search_of (Ok x) = clean
search_of (Err f) = named f

-- what is told of a finding, of what stands against a set of paths, and of a verdict, in which nothing may
abbrev pub found_told : code.Finding → Ruling
found_told f = rule none (named f)

abbrev pub fault_told : declared.Fault → Ruling
fault_told (fault.Found f) = found_told f
fault_told (fault.Refused why) = rule (some why) clean

abbrev pub verdict_told : Result ⊤ declared.Fault → Ruling
verdict_told (Ok x) = rule none clean
verdict_told (Err f) = fault_told f

-- ---- what is judged

-- paths by some rules, from a source to each of some targets, and the faults that are told before want of room
pub record Asked : Type 0 where
  pub rules : Rules
  pub source : ℕ
  pub targets : List ℕ
  pub faults : List Fault

-- a fan: 1 to 7
abbrev pub fan_asked : (K : Kind) (n s : ℕ) (targets : List ℕ) → Asked
fan_asked K n s targets = record {
  rules = fan_rules (K.mesh n);
  source = s;
  targets = targets;
  faults = size_faults_in K n ++ request_faults (K.mesh n).relays (K.mesh n).links s targets;
}

-- a bundle, whose paths all lead to t: 1, 2, 5, 6
abbrev pub bundle_asked : (K : Kind) (n s t : ℕ) → Asked
bundle_asked K n s t = record {
  rules = bundle_rules (K.mesh n);
  source = s;
  targets = ends_at (K.mesh n) t;
  faults = served_faults_in K n ++ end_faults (K.mesh n).relays s t;
}

module _ (q : Asked) (places counts : List ℕ) where
  -- fewer places than its paths take, or fewer counts than it has paths
  abbrev pub cramped : Bool
  cramped = pick (ltb (length places) (length q.targets * span q.rules)) true (ltb (length counts) (length q.targets))

  -- what stands against it: its faults, and 8 where there is no room for its paths, or where a slice that is lent besides lacks some
  abbrev pub asked_against : (lacking : Bool) → Option Refusal
  asked_against lacking = first (q.faults ++ room_faults (pick lacking true cramped))

  abbrev pub asked_finding : Finding
  asked_finding = finding_by q.rules q.source q.targets places counts

  -- what the judge tells: a refusal, then the first finding
  abbrev pub asked_told : (lacking : Bool) → Ruling
  asked_told lacking = rule (asked_against lacking) asked_finding

-- the same of a fan, and of a bundle
abbrev pub judge_against : (K : Kind) (n s : ℕ) (targets places counts : List ℕ) (lacking : Bool) → Option Refusal
judge_against K n s targets = asked_against (fan_asked K n s targets)

abbrev pub judge_told : (K : Kind) (n s : ℕ) (targets places counts : List ℕ) (lacking : Bool) → Ruling
judge_told K n s targets = asked_told (fan_asked K n s targets)

abbrev pub bundle_told : (K : Kind) (n s t : ℕ) (places counts : List ℕ) (lacking : Bool) → Ruling
bundle_told K n s t = asked_told (bundle_asked K n s t)
