-- Why survivors over a list of entries keeps its promise: what is gathered from the plain function's columns (`gathered`), and the list that is
-- filled from it (`listed`). Assumes nothing.
use Rattle.std.specs.Prelude.{ℕ, zero, suc, ◌≤◌, ◌<◌, ◌≡◌, min, refl, Bool, true, false, List, [], ◌∷◌, ◌++◌, Ok, Err, eqb, ltb, length, take, drop, get_or}
use Rattle.std.proofs.Common.{sym, ap, ap₂, ◌∙◌, arith, length-append, get_or-take, length-take-le, lt-ltb, le-ltb, ltb-true, ltb-false}
use Rattle.std.proofs.Math.Option.{Option, none, some}
use Rattle.std.proofs.lemmas.List.{length-replicate}
use Rattle.std.proofs.Math.ListN.{get_or-append}
use Rattle.scan.specs.Scan.{pick, count}
use Rattle.answers.specs.Order as order
use Rattle.answers.specs.declared.Refusal.{Refusal}
use Rattle.paths.specs.Rules.{span}
use Rattle.paths.specs.Fan.{hops}
use Rattle.paths.specs.Finding.{Finding, clean, found}
use Rattle.paths.specs.Whole.{Failed, whole}
use Rattle.mesh.specs.Kinds.{kind_of, mesh_of}
use Rattle.mesh.specs.Limits.{known-links}
use Rattle.mesh.specs.Requests.{request_fine, ends-fine, neither_wanting}
use Rattle.judge.specs.Says.{number_of, rule, verdict_told, Asked, fan_asked, bundle_asked, asked_against, asked_finding}
use Rattle.judge.specs.Asked.{Passed, asked_alike, asked_passed}
use Rattle.judge.specs.Numbers.{Numbered, findings_numbered, fault_number, rule_clean}
use Rattle.columns.specs.Says.{ahead, marks}
use Rattle.columns.specs.Laws.{marks-at, marks-length}
use Rattle.survivors.specs.Tally.{Tally, tallied, ruling_of, verdict_of, tally_told}
use Rattle.survivors.specs.Says.{few, settled, lacking, scarce, wanting_of, SurvivedZoned}
use Rattle.survivors.specs.Laws.{settled_is, settled-not}
use Rattle.entries.specs.Says.{entry_of, path_entry, entries, listed_told, Listed}
use Rattle.entries.specs.Gathered.{MOST, capped, taken_of, entry_at, Gathers}
use Rattle.entries.specs.declared.Entry.{Entry}
use Rattle.entries.specs.declared.gathered.Gathered.{Gathered}

-- ---- room for the most is room for all

few_alike : (k n : ℕ) → few k n n n ≡ ltb n k
few_alike k n = go (ltb n k)
  where
    go : (b : Bool) → pick b true (pick b true b) ≡ b
    go true = refl
    go false = refl

-- a list of n entries is too short where columns of n places are, zones among them
pub scarce_alike : (k zones n : ℕ) → pick (scarce k zones n) true (few k n n n) ≡ scarce k zones n
scarce_alike k zones n = ap (pick (scarce k zones n) true) (few_alike k n) ∙ go (ltb zones k) (ltb n k)
  where
    go : (a b : Bool) → pick (pick a true b) true b ≡ pick a true b
    go true b = refl
    go false true = refl
    go false false = refl

scarce-capped : (k zones room : ℕ) → k ≤ MOST → scarce k zones (capped room) ≡ scarce k zones room
unfolding capped
scarce-capped k zones room h = ap (pick (ltb zones k) true) (go (ltb room k) refl)
  where
    go : (b : Bool) → ltb room k ≡ b → ltb (min room MOST) k ≡ b
    go true e = let l = ltb-true room k e in lt-ltb (min room MOST) k (omega arith)
    go false e = let l = ltb-false room k e in le-ltb (min room MOST) k (omega arith)

-- nothing but room may stand against it where there are more paths than that
pub fan-few : (kind n s : ℕ) (targets : List ℕ) → order.first (fan_asked (kind_of kind) n s targets).faults ≡ none → length targets ≤ MOST
fan-few kind n s targets e =
    let fine = request_fine (kind_of kind) n s targets e in
    omega (arith, fine.sound.few, known-links kind n fine.known)

pub bundle_few : (kind n s t : ℕ) → order.first (bundle_asked (kind_of kind) n s t).faults ≡ none → length (bundle_asked (kind_of kind) n s t).targets ≤ MOST
bundle_few kind n s t e =
    let fine = ends-fine (kind_of kind) n s t e in
    omega (arith, length-replicate (mesh_of kind n).links t, known-links kind n fine.known)

-- ---- what a tally comes with

module _ (o : Option Refusal) (f : Finding) (numbered : Numbered f) where
  -- entries come only where nothing is found
  taken_clean : (t : Tally) (k i : ℕ) → verdict_told (verdict_of t) ≡ rule o f → i < taken_of t k → (o ≡ none) × (f ≡ clean)
  taken_clean (Ok c) k i e h = rule_clean o f numbered e
  taken_clean (Err x) k i e h = absurd (omega arith)

  taken_settled : (t : Tally) (k : ℕ) → verdict_told (verdict_of t) ≡ rule o f → taken_of t k ≡ settled o f k 0
  taken_settled (Ok c) k e = let r = rule_clean o f numbered e in sym (settled_is k 0 r.0 r.1)
  taken_settled (Err x) k e = sym (settled-not k 0 o f (λ y. fault_number x (ap number_of e ∙ y)))

-- what is taken is the same of as many paths, where entries come
taken_same : (t : Tally) (k j : ℕ) → ((c : ℕ) → t ≡ Ok c → k ≡ j) → taken_of t k ≡ taken_of t j
taken_same (Ok c) k j h = h c refl
taken_same (Err x) k j h = refl

-- what is taken is no more than the paths are, where entries come
taken_most : (t : Tally) (k most : ℕ) → ((c : ℕ) → t ≡ Ok c → k ≤ most) → taken_of t k ≤ most
taken_most (Ok c) k most h = h c refl
taken_most (Err x) k most h = omega arith

-- ---- the columns as entries

mark-whole : (b : Bool) → eqb (pick b 1 0) 1 ≡ b
mark-whole true = refl
mark-whole false = refl

module _ (w : ℕ) (targets places counts : List ℕ) (fails : Failed) (i : ℕ) (below : i < length targets) where
  abbrev test : ℕ → Bool
  test = whole w places counts fails

  ended_at : (ends₀ rest : List ℕ) → get_or (ahead (length targets) targets ends₀ ++ rest) i 0 ≡ get_or targets i 0
  ended_at ends₀ rest =
      get_or-append (targets ++ drop (length targets) ends₀) rest 0 i (simp length-append (omega arith)) ∙ get_or-append targets (drop (length targets) ends₀) 0 i below

  -- a column of what is lent in: hops, or zones
  lent_at : (l : List ℕ) → length targets ≤ length l → (was rest : List ℕ) → get_or (ahead (length targets) (take (length targets) l) was ++ rest) i 0 ≡ get_or l i 0
  lent_at l many was rest =
      let k = length targets in
      let long : i < length (take k l) = omega (arith, length-take-le k l many) in
      get_or-append (take k l ++ drop k was) rest 0 i (simp length-append (omega (arith, long)))
      ∙ get_or-append (take k l) (drop k was) 0 i long
      ∙ get_or-take k l i 0 below

  hopped_at : length targets ≤ length counts → (hops₀ rest : List ℕ) → get_or (ahead (length targets) (take (length targets) counts) hops₀ ++ rest) i 0 ≡ hops counts i
  unfolding hops
  hopped_at many hops₀ rest = lent_at counts many hops₀ rest

  marked-at : (wholes₀ rest : List ℕ) → eqb (get_or (ahead (length targets) (marks test (length targets)) wholes₀ ++ rest) i 0) 1 ≡ test i
  marked-at wholes₀ rest =
      let k = length targets in
      let long : i < length (marks test k) = omega (arith, marks-length test k) in
      ap (λ (x : ℕ). eqb x 1)
      (get_or-append (marks test k ++ drop k wholes₀) rest 0 i (simp length-append (omega (arith, long)))
      ∙ get_or-append (marks test k) (drop k wholes₀) 0 i long
      ∙ marks-at test k i below)
      ∙ mark-whole (test i)

-- ---- what is gathered

pub capped-is : (room : ℕ) {m : ℕ} → m ≡ min room MOST → m ≡ capped room
unfolding capped
capped-is room e = e

pub capped-most : (room : ℕ) {m : ℕ} → m ≡ capped room → m ≤ MOST
unfolding capped
capped-most room {m} e = omega arith

-- the columns that are lent are as long as there is room, up to the most
pub capped-length : (room : ℕ) (zeros : List ℕ) {m : ℕ} → length zeros ≡ MOST → m ≡ capped room → length (take m zeros) ≡ m
capped-length room zeros {m} z e = length-take-le m zeros (omega (arith, capped-most room e, z))

module _ (q : Asked) (many : order.first q.faults ≡ none → length q.targets ≤ MOST) (places counts zones : List ℕ) (fails : Failed) (room m : ℕ) (t : Tally)
    (zeros ends₁ hops₁ wholes₁ sites₁ : List ℕ) (z : length zeros ≡ MOST) (cap : m ≡ capped room)
    (p : SurvivedZoned q places counts zones fails (take m zeros) (take m zeros) (take m zeros) (take m zeros) t ends₁ hops₁ wholes₁ sites₁) where
  abbrev k : ℕ
  k = length q.targets

  abbrev first : Finding
  first = asked_finding q places counts

  -- what stands against the columns that were lent, and against the list of entries
  abbrev lent : Option Refusal
  lent = asked_against q places counts (lacking (wanting_of q places counts zones fails (take m zeros) (take m zeros) (take m zeros) (take m zeros)) q.targets (take m zeros) (take m zeros) (take m zeros))

  abbrev asked : Option Refusal
  asked = asked_against q places counts (scarce k (length zones) room)

  against : lent ≡ asked
  against =
      let long : length (take m zeros) ≡ capped room = capped-length room zeros z cap ∙ cap in
      asked_alike q places counts _ _ (λ e. ap (λ (l : ℕ). pick (scarce k (length zones) l) true (few k l l l)) long ∙ scarce_alike k (length zones) (capped room) ∙ scarce-capped k (length zones) room (many e))

  told : tally_told t ≡ listed_told q places counts zones fails room
  told = p.survived.told ∙ ap (λ (o : Option Refusal). tallied (rule o first) (settled o first (count (whole (span q.rules) places counts fails) k) 0)) against

  ruled : verdict_told (verdict_of t) ≡ rule asked first
  ruled = ap ruling_of told

  numbered : Numbered first
  numbered = findings_numbered q.rules q.source q.targets places counts

  module _ (none-against : asked ≡ none) (None-found : first ≡ clean) where
    passed : Passed q (length places) (length counts) (scarce k (length zones) room)
    passed = asked_passed q places counts (scarce k (length zones) room) none-against

    zones_there : k ≤ length zones
    zones_there = ltb-false (length zones) k (neither_wanting (ltb (length zones) k) (ltb room k) refl passed.lent).0

    room_for : (k ≤ MOST) × (k ≤ room)
    room_for = (many passed.faultless, ltb-false room k (neither_wanting (ltb (length zones) k) (ltb room k) refl passed.lent).1)

    given : {A : Type 0} (a b : A) → settled lent first a b ≡ a
    given a b = settled_is a b (against ∙ none-against) None-found

    entry-at : (i : ℕ) → i < k
        → entry_of (get_or (ends₁ ++ drop m zeros) i 0) (get_or (hops₁ ++ drop m zeros) i 0) (eqb (get_or (wholes₁ ++ drop m zeros) i 0) 1) (get_or (sites₁ ++ drop m zeros) i 0) ≡ path_entry q places counts zones fails i
    entry-at i h =
        let w = span q.rules in
        let l = q.targets in
        let e = ap (λ (l : List ℕ). get_or (l ++ drop m zeros) i 0) (p.survived.ended ∙ given _ _) ∙ ended_at w l places counts fails i h (take m zeros) (drop m zeros) in
        let c = ap (λ (l : List ℕ). get_or (l ++ drop m zeros) i 0) (p.survived.hopped ∙ given _ _) ∙ hopped_at w l places counts fails i h passed.counted (take m zeros) (drop m zeros) in
        let b = ap (λ (l : List ℕ). eqb (get_or (l ++ drop m zeros) i 0) 1) (p.survived.marked ∙ given _ _) ∙ marked-at w l places counts fails i h (take m zeros) (drop m zeros) in
        let z = ap (λ (l : List ℕ). get_or (l ++ drop m zeros) i 0) (p.zoned ∙ given _ _) ∙ lent_at w l places counts fails i h zones zones_there (take m zeros) (drop m zeros) in
        λ j. entry_of (e j) (c j) (b j) (z j)

  -- j is what code has of how many paths there are
  pub gathered : {j r : ℕ} → (order.first q.faults ≡ none → j ≡ k) → r ≡ taken_of t j
      → Gathers q places counts zones fails room (record { tally = t; k = r; ends = ends₁ ++ drop m zeros; hops = hops₁ ++ drop m zeros; wholes = wholes₁ ++ drop m zeros; zones = sites₁ ++ drop m zeros })
  gathered {j} {r} paths f = record {
    told = told;
    taken = e ∙ taken_settled asked first numbered t k ruled;
    each = λ i h. let l : i < taken_of t k = omega (arith, h, e) in let c = taken_clean asked first numbered t k i ruled l in entry-at c.0 c.1 i (omega (arith, l, taken_most t k k (λ c e. omega arith)));
    small = omega (arith, e, taken_most t k MOST (λ c w. let r = whole_clean c w in (room_for r.0 r.1).0));
    fits = omega (arith, e, taken_most t k room (λ c w. let r = whole_clean c w in (room_for r.0 r.1).1));
  }
    where
      whole_clean : (c : ℕ) → t ≡ Ok c → (asked ≡ none) × (first ≡ clean)
      whole_clean c w = rule_clean asked first numbered (sym (ap (λ (x : Tally). verdict_told (verdict_of x)) w) ∙ ruled)

      e : r ≡ taken_of t k
      e = f ∙ taken_same t j k (λ c w. let n = whole_clean c w in paths (passed n.0 n.1).faultless)

-- ---- the list that is filled

entries-same : (f g : ℕ → Entry) (k : ℕ) → ((i : ℕ) → i < k → f i ≡ g i) → entries f k ≡ entries g k
unfolding entries
entries-same f g zero h = refl
entries-same f g (suc k) h = ap₂ (λ (l : List Entry) (e : Entry). l ++ (e ∷ [])) (entries-same f g k (λ i l. h i (omega arith))) (h k (omega arith))

-- the list with the entries that were taken at its front is what the promise says, by what was settled
listed_by : (o : Option Refusal) (a : Finding) (f g : ℕ → Entry) (k taken : ℕ) (out : List Entry) → taken ≡ settled o a k 0 → ((i : ℕ) → i < taken → f i ≡ g i)
    → entries f taken ++ drop taken out ≡ settled o a (entries g k ++ drop k out) out
unfolding entries
listed_by none clean f g k taken out e h = ap (λ (l : List Entry). l ++ drop taken out) (entries-same f g taken h) ∙ ap (λ (j : ℕ). entries g j ++ drop j out) e
listed_by none (found x i p) f g k taken out e h = ap (λ (j : ℕ). entries f j ++ drop j out) e
listed_by (some why) a f g k taken out e h = ap (λ (j : ℕ). entries f j ++ drop j out) e

pub listed : (q : Asked) (places counts zones : List ℕ) (fails : Failed) (out : List Entry) {g : Gathered} {r : Tally} {out₁ : List Entry}
    → Gathers q places counts zones fails (length out) g → r ≡ g.tally → out₁ ≡ entries (entry_at g) g.k ++ drop g.k out → Listed q places counts zones fails out r out₁
listed q places counts zones fails out {g} {r} {out₁} p e f = record {
  told = ap tally_told e ∙ p.told;
  listed = f
      ∙ listed_by (asked_against q places counts (scarce (length q.targets) (length zones) (length out))) (asked_finding q places counts) (entry_at g) (path_entry q places counts zones fails)
      (length q.targets) g.k out p.taken p.each;
}
