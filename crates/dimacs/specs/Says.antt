-- What a file comes to, asked whether it is a mesh (`read_of`): 1, 52, 46; then 47 at the first malformed line; 48 where there is no `p` line or its counts are others; 49 at the first `e` line that
-- is no link or stands before, in either direction; 50 where a link is missing; else yes. And what writing one tells and leaves (`write_told`, `write_leaves`).
use Rattle.std.specs.Prelude.{ℕ, suc, ◌+◌, ◌-◌, Bool, true, false, not, ◌&&◌, ◌||◌, List, [], ◌∷◌, ◌++◌, eqb, leb, ltb, length, drop, Result, Ok, Err, ⊤}
use Rattle.std.proofs.Math.Option.{Option, none, some}
use Rattle.scan.specs.Scan.{Spot, nowhere, at, pick, any}
use Rattle.answers.specs.Order.{Fault, first, export_faults, room_faults}
use Rattle.answers.specs.Told.{Told, tell, leaves, number, place}
use Rattle.answers.specs.declared.Refusal.{Refusal}
use Rattle.paths.specs.Mesh.{Mesh}
use Rattle.mesh.specs.Kinds.{Kind, kind_of, mesh_of}
use Rattle.mesh.specs.Says.{served_faults_in}
use Rattle.dimacs.specs.Text.{Edge, edge, link_count, graph_text}
use Rattle.dimacs.specs.declared.Fault as code
use Rattle.dimacs.specs.declared.Fault.TheVariants.{Refused, Malformed, WrongCounts, WrongLink, Missing}
use Rattle.dimacs.specs.Parse.{Line, comment, counts, link, malformed, lines_of}

-- what a file comes to: it is the mesh, or what stands against it
abbrev pub Verdict : Type 0
Verdict = Result ⊤ code.Fault

abbrev pub yes : Verdict
yes = Ok tt

-- the most relays of a mesh that is exported
abbrev pub most_relays : ℕ
most_relays = 2048

-- 1, 52, 46
abbrev pub export_faults_in : (k : Kind) (n : ℕ) → List Fault
export_faults_in k n = served_faults_in k n ++ export_faults (ltb most_relays (k.mesh n).relays)

-- ---- reading

-- 47: the first line that is malformed, is a second `p`, or is an `e` before it; k lines stand before these
unfoldable pub malformed_at : Bool → ℕ → List Line → Spot
malformed_at headed k [] = nowhere
malformed_at headed k (comment ∷ ls) = malformed_at headed (k + 1) ls
malformed_at headed k (counts n m ∷ ls) = let rest = malformed_at true (k + 1) ls in pick headed (at (k + 1)) rest
malformed_at headed k (link e ∷ ls) = let rest = malformed_at headed (k + 1) ls in pick headed rest (at (k + 1))
malformed_at headed k (malformed ∷ ls) = at (k + 1)

-- 48: whether the first `p` line has these counts
unfoldable pub counted : ℕ → ℕ → List Line → Bool
counted relays links [] = false
counted relays links (comment ∷ ls) = counted relays links ls
counted relays links (counts n m ∷ ls) = eqb n relays && eqb m links
counted relays links (link e ∷ ls) = counted relays links ls
counted relays links (malformed ∷ ls) = counted relays links ls

-- two relays, as a file numbers them, are a link
abbrev pub is_link : Mesh → ℕ → ℕ → Bool
is_link m a b = (ltb 0 a && leb a m.relays) && ((ltb 0 b && leb b m.relays) && m.linked (a - 1) (b - 1))

-- the same two numbers, in either order
abbrev pub same : ℕ → ℕ → ℕ → ℕ → Bool
same a b c d = (eqb a c && eqb b d) || (eqb a d && eqb b c)

-- how often two numbers stand in `e` lines, in either order
unfoldable pub times : ℕ → ℕ → List Edge → ℕ
times a b [] = 0
times a b (edge c d ∷ es) = pick (same a b c d) (suc (times a b es)) (times a b es)

abbrev pub stands : ℕ → ℕ → List Edge → Bool
stands a b es = ltb 0 (times a b es)

-- 49: the first `e` line that is no link, or stands among those seen
unfoldable pub wrong_at : Mesh → List Edge → ℕ → List Line → Spot
wrong_at m seen k [] = nowhere
wrong_at m seen k (comment ∷ ls) = wrong_at m seen (k + 1) ls
wrong_at m seen k (counts a b ∷ ls) = wrong_at m seen (k + 1) ls
wrong_at m seen k (link (edge a b) ∷ ls) = let rest = wrong_at m (edge a b ∷ seen) (k + 1) ls in pick (is_link m a b && not (stands a b seen)) rest (at (k + 1))
wrong_at m seen k (malformed ∷ ls) = wrong_at m seen (k + 1) ls

-- the `e` lines, behind those seen: the latest first
unfoldable pub edges_from : List Edge → List Line → List Edge
edges_from seen [] = seen
edges_from seen (comment ∷ ls) = edges_from seen ls
edges_from seen (counts n m ∷ ls) = edges_from seen ls
edges_from seen (link e ∷ ls) = edges_from (e ∷ seen) ls
edges_from seen (malformed ∷ ls) = edges_from seen ls

abbrev pub edges_of : List Line → List Edge
edges_of ls = edges_from [] ls

-- 50: a link from u to a higher relay stands in no `e` line
abbrev pub absent : Mesh → List Edge → ℕ → ℕ → Bool
absent m es u v = (ltb u v && m.linked u v) && not (stands (u + 1) (v + 1) es)

unfoldable pub missing : Mesh → List Edge → Bool
missing m es = any (λ u. any (absent m es u) 0 m.relays) 0 m.relays

abbrev pub or_malformed : Spot → Verdict → Verdict
or_malformed nowhere v = v
or_malformed (at k) v = Err (Malformed k)

abbrev pub or_wrong : Spot → Verdict → Verdict
or_wrong nowhere v = v
or_wrong (at k) v = Err (WrongLink k)

-- of a mesh that is exported
abbrev pub judged : Mesh → List Line → Verdict
judged m ls =
    or_malformed (malformed_at false 0 ls)
    (pick (counted m.relays (link_count m) ls)
    (or_wrong (wrong_at m [] 0 ls)
    (pick (missing m (edges_of ls)) (Err Missing) yes))
    (Err WrongCounts))

abbrev pub or_refused : Option Refusal → Verdict → Verdict
or_refused none v = v
or_refused (some why) v = Err (Refused why)

abbrev pub read_of : (kind size : ℕ) (text : List ℕ) → Verdict
read_of kind size text = or_refused (first (export_faults_in (kind_of kind) size)) (judged (mesh_of kind size) (lines_of text))

-- the number of what stands against a file, and the line that is told with it
abbrev pub fault_number : code.Fault → ℕ
fault_number (Refused why) = number why
fault_number (Malformed k) = 47
fault_number WrongCounts = 48
fault_number (WrongLink k) = 49
fault_number Missing = 50

abbrev pub fault_place : code.Fault → ℕ
fault_place (Refused why) = place why
fault_place (Malformed k) = k
fault_place WrongCounts = 0
fault_place (WrongLink k) = k
fault_place Missing = 0

-- the same of what a file comes to: 0 for yes
abbrev pub number_of : Verdict → ℕ
number_of (Ok x) = 0
number_of (Err why) = fault_number why

abbrev pub place_of : Verdict → ℕ
place_of (Ok x) = 0
place_of (Err why) = fault_place why

-- ---- writing

-- 1, 52, 46, and 8 where the output is shorter than the text
abbrev pub write_against : (kind size room : ℕ) → Option Refusal
write_against kind size room = first (export_faults_in (kind_of kind) size ++ room_faults (ltb room (length (graph_text (mesh_of kind size)))))

abbrev pub write_told : (kind size : ℕ) (out : List ℕ) → Told ℕ
write_told kind size out = tell (write_against kind size (length out)) 0 (length (graph_text (mesh_of kind size)))

-- the text at the front of what was there
abbrev pub write_leaves : (kind size : ℕ) (out : List ℕ) → List ℕ
write_leaves kind size out = leaves (write_against kind size (length out)) out (graph_text (mesh_of kind size) ++ drop (length (graph_text (mesh_of kind size))) out)
