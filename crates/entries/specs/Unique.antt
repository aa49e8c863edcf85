-- The promise leaves one tally and one content of the list (`listed_unique`); the tally is the one that columns as long as the list give
-- (`listed_agrees`), and after a count the entry of each path is what the promise says of it (`listed_at`). Assumes nothing.
use Rattle.std.specs.Prelude.{ℕ, zero, suc, ◌<◌, ◌≡◌, Bool, true, List, [], ◌∷◌, ◌++◌, Ok, length, drop, get_or}
use Rattle.std.proofs.Common.{sym, ap, ◌∙◌, arith}
use Rattle.std.proofs.Math.Decide.{ℕ_discrete}
use Rattle.std.proofs.Math.ListN.{get_or-append}
use Rattle.std.proofs.lemmas.List.{get_or_at}
use Rattle.scan.specs.Scan.{pick, count}
use Rattle.paths.specs.Rules.{span}
use Rattle.paths.specs.Whole.{Failed, whole}
use Rattle.judge.specs.Says.{verdict_told, Asked, asked_against, asked_finding, asked_told}
use Rattle.judge.specs.Numbers.{findings_numbered, rule_clean}
use Rattle.survivors.specs.Tally.{Tally, tallied, ruling_of, verdict_of}
use Rattle.survivors.specs.Says.{few, settled, scarce, SurvivedZoned}
use Rattle.survivors.specs.Laws.{settled_is}
use Rattle.survivors.specs.Unique.{tally_unique}
use Rattle.entries.specs.Says.{path_entry, entries, Listed}
use Rattle.entries.specs.Filling.{entries-length}
use Rattle.entries.specs.Laws.{scarce_alike}
use Rattle.entries.specs.declared.Entry.{Entry}

pub listed_unique : (q : Asked) (places counts zones : List ℕ) (fails : Failed) (out : List Entry) (a b : Tally) (out₁ out₂ : List Entry)
    → Listed q places counts zones fails out a out₁ → Listed q places counts zones fails out b out₂ → (a ≡ b) × (out₁ ≡ out₂)
listed_unique q places counts zones fails out a b out₁ out₂ p r = (tally_unique a b (p.told ∙ sym r.told), p.listed ∙ sym r.listed)

-- the columns are each as long as the list
pub listed_agrees : (q : Asked) (places counts zones : List ℕ) (fails : Failed) (ends hops wholes sites : List ℕ) (out : List Entry) (a b : Tally) (out₁ : List Entry) (ends₁ hops₁ wholes₁ sites₁ : List ℕ)
    → length ends ≡ length out → length hops ≡ length out → length wholes ≡ length out → length sites ≡ length out
    → Listed q places counts zones fails out a out₁ → SurvivedZoned q places counts zones fails ends hops wholes sites b ends₁ hops₁ wholes₁ sites₁ → a ≡ b
listed_agrees q places counts zones fails ends hops wholes sites out a b out₁ ends₁ hops₁ wholes₁ sites₁ e h w s p r =
    let k = length q.targets in
    let alike : pick (scarce k (length zones) (length sites)) true (few k (length ends) (length hops) (length wholes)) ≡ scarce k (length zones) (length out) =
    rw e (rw h (rw w (rw s (scarce_alike k (length zones) (length out))))) in
    tally_unique a b
    (p.told
    ∙ sym
    (r.survived.told
    ∙ ap
    (λ (x : Bool).
    tallied (asked_told q places counts x)
    (settled (asked_against q places counts x) (asked_finding q places counts) (count (whole (span q.rules) places counts fails) k) 0))
    alike))

entries_at : (f : ℕ → Entry) (k i : ℕ) (d : Entry) → i < k → get_or (entries f k) i d ≡ f i
unfolding entries
entries_at f zero i d h = absurd (omega arith)
entries_at f (suc k) i d h = go (ℕ_discrete i k) (λ l. entries_at f k i d l)
  where
    go : Dec (i ≡ k) → (i < k → get_or (entries f k) i d ≡ f i) → get_or (entries f k ++ (f k ∷ [])) i d ≡ f i
    go (yes e) rest = get_or_at (entries f k) (f k) [] d i (entries-length f k ∙ sym e) ∙ ap f (sym e)
    go (no ne) rest = get_or-append (entries f k) (f k ∷ []) d i (omega (arith, entries-length f k)) ∙ rest (omega arith)

-- entry i of what was counted
pub listed_at : (q : Asked) (places counts zones : List ℕ) (fails : Failed) (out out₁ : List Entry) (r : Tally) (c i : ℕ) (d : Entry)
    → Listed q places counts zones fails out r out₁ → r ≡ Ok c → i < length q.targets → get_or out₁ i d ≡ path_entry q places counts zones fails i
listed_at q places counts zones fails out out₁ r c i d p e h =
    let f = path_entry q places counts zones fails in
    let k = length q.targets in
    let ruled = sym (ap (λ (t : Tally). verdict_told (verdict_of t)) e) ∙ ap ruling_of p.told in
    let clean =
    rule_clean (asked_against q places counts (scarce k (length zones) (length out))) (asked_finding q places counts) (findings_numbered q.rules q.source q.targets places counts) ruled in
    let all = p.listed ∙ settled_is (entries f k ++ drop k out) out clean.0 clean.1 in
    ap (λ (l : List Entry). get_or l i d) all
    ∙ get_or-append (entries f k) (drop k out) d i (omega (arith, entries-length f k, h))
    ∙ entries_at f k i d h
