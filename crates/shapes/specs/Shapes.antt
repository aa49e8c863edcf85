-- What the structs that C is given say, by what the library's answers tell. The laws that put a struct together. Assumes nothing.
use Rattle.std.specs.Prelude.{ℕ, ◌≡◌, Bool, Result, Ok, Err, ⊤}
use Rattle.std.proofs.Common.{ap, ap₂, ◌∙◌}
use Rattle.scan.specs.Scan.{pick}
use Rattle.answers.specs.Told as told
use Rattle.answers.specs.Told.{Told}
use Rattle.paths.specs.Mesh.{width}
use Rattle.mesh.specs.Kinds.{Kind}
use Rattle.mesh.specs.Says.{fact_told}
use Rattle.judge.specs.Says.{Ruling, number_of, path_of, place_of}
use Rattle.survivors.specs.Tally.{Tallied, ruling_of, whole_of}
use Rattle.sheet.specs.Says.{WriteTold, written_number, written_path, written_place, written_bytes, ReadTold, read_number, read_path, read_place, read_kind, read_size, read_source, read_count}
use Rattle.arrivals.specs.Says as frames
use Rattle.arrivals.specs.declared.Record.{Record}
use Rattle.arrivals.specs.Says.{Arrival}
use Rattle.shapes.specs.declared.GustAnswer.{GustAnswer}
use Rattle.shapes.specs.declared.GustFacts.{GustFacts}
use Rattle.shapes.specs.declared.GustVerdict.{GustVerdict}
use Rattle.shapes.specs.declared.GustReading.{GustReading}
use Rattle.shapes.specs.declared.GustZonedReading.{GustZonedReading}
use Rattle.shapes.specs.declared.GustArrival.{GustArrival}

-- ---- the structs

abbrev pub answer_in : Told ℕ → GustAnswer
answer_in t = record { number = told.number_of t; path = 0; place = told.place_of t; value = told.value_of t }

-- 1 for yes, 0 for no
abbrev pub yes_no_in : Told Bool → GustAnswer
yes_no_in t = record { number = told.number_of t; path = 0; place = told.place_of t; value = pick (told.value_of t) 1 0 }

-- each fact as it is told by itself
abbrev pub facts_in : Kind → ℕ → GustFacts
facts_in K n = record {
  number = told.number_of (fact_told K n (K.mesh n).relays);
  path = 0;
  place = told.place_of (fact_told K n (K.mesh n).relays);
  relays = told.value_of (fact_told K n (K.mesh n).relays);
  links = told.value_of (fact_told K n (K.mesh n).links);
  longest = told.value_of (fact_told K n (K.mesh n).longest);
  places = told.value_of (fact_told K n (width (K.mesh n)));
}

abbrev pub verdict_in : Ruling → GustVerdict
verdict_in r = record { number = number_of r; path = path_of r; place = place_of r }

abbrev pub tally_in : Tallied → GustAnswer
tally_in t = record { number = number_of (ruling_of t); path = path_of (ruling_of t); place = place_of (ruling_of t); value = whole_of t }

abbrev pub written_in : WriteTold → GustAnswer
written_in t = record { number = written_number t; path = written_path t; place = written_place t; value = written_bytes t }

abbrev pub reading_in : ReadTold → GustReading
reading_in t = record {
  number = read_number t;
  path = read_path t;
  place = read_place t;
  kind = read_kind t;
  size = read_size t;
  source = read_source t;
  paths = read_count t;
}

-- with the version
abbrev pub with_version : ℕ → GustReading → GustZonedReading
with_version v g = record {
  number = g.number;
  path = g.path;
  place = g.place;
  kind = g.kind;
  size = g.size;
  source = g.source;
  paths = g.paths;
  version = v;
}

abbrev pub versioned_in : ℕ → ReadTold → GustZonedReading
versioned_in v t = with_version v (reading_in t)

abbrev pub arrival_in : Arrival → GustArrival
arrival_in a = record { number = frames.number_of a; newest = (frames.record_of a).newest; marks = (frames.record_of a).marks }

-- ---- structs put together

-- number, path, place and value
abbrev pub answer : (n i p v : ℕ) → GustAnswer
answer n i p v = record { number = n; path = i; place = p; value = v }

pub answer-same : {n i p v n₁ i₁ p₁ v₁ : ℕ} → n ≡ n₁ → i ≡ i₁ → p ≡ p₁ → v ≡ v₁ → answer n i p v ≡ answer n₁ i₁ p₁ v₁
answer-same {n} {i} {p} {v} {n₁} {i₁} {p₁} {v₁} a b c d = ap₂ (λ (x y : ℕ). answer x y p v) a b ∙ ap₂ (λ (x y : ℕ). answer n₁ i₁ x y) c d

pub verdict-same : {n i p n₁ i₁ p₁ : ℕ} → n ≡ n₁ → i ≡ i₁ → p ≡ p₁ → ◌≡◌ {A = GustVerdict} (record { number = n; path = i; place = p }) (record { number = n₁; path = i₁; place = p₁ })
verdict-same {n} {i} {p} {n₁} {i₁} {p₁} a b c =
    ap₂ (λ (x y : ℕ). record { number = x; path = y; place = p }) a b ∙ ap (λ (x : ℕ). record { number = n₁; path = i₁; place = x }) c

-- a struct of six numbers that are the same
six : {A : Type 0} (f : (a b c d e g : ℕ) → A) {a b c d e g a₁ b₁ c₁ d₁ e₁ g₁ : ℕ} → a ≡ a₁ → b ≡ b₁ → c ≡ c₁ → d ≡ d₁ → e ≡ e₁ → g ≡ g₁
    → f a b c d e g ≡ f a₁ b₁ c₁ d₁ e₁ g₁
six f {a} {b} {c} {d} {e} {g} {a₁} {b₁} {c₁} {d₁} {e₁} {g₁} p q r s t u =
    ap₂ (λ (x y : ℕ). f x y c d e g) p q ∙ ap₂ (λ (x y : ℕ). f a₁ b₁ x y e g) r s ∙ ap₂ (λ (x y : ℕ). f a₁ b₁ c₁ d₁ x y) t u

-- number, path, place, kind, size, source and how many paths
abbrev reading : (n i p kind size s k : ℕ) → GustReading
reading n i p kind size s k = record { number = n; path = i; place = p; kind = kind; size = size; source = s; paths = k }

pub reading-same : {n i p d z s k n₁ i₁ p₁ d₁ z₁ s₁ k₁ : ℕ} → n ≡ n₁ → i ≡ i₁ → p ≡ p₁ → d ≡ d₁ → z ≡ z₁ → s ≡ s₁ → k ≡ k₁
    → reading n i p d z s k ≡ reading n₁ i₁ p₁ d₁ z₁ s₁ k₁
reading-same {k = k} {n₁ = n₁} {i₁ = i₁} {p₁ = p₁} {d₁ = d₁} {z₁ = z₁} {s₁ = s₁} a b c d e f g =
    six (λ (n i p d z s : ℕ). reading n i p d z s k) a b c d e f ∙ ap (reading n₁ i₁ p₁ d₁ z₁ s₁) g

-- number, place and the four facts
abbrev facts : (n p relays links longest places : ℕ) → GustFacts
facts n p relays links longest places = record { number = n; path = 0; place = p; relays = relays; links = links; longest = longest; places = places }

pub facts-same : {n p r l g w n₁ p₁ r₁ l₁ g₁ w₁ : ℕ} → n ≡ n₁ → p ≡ p₁ → r ≡ r₁ → l ≡ l₁ → g ≡ g₁ → w ≡ w₁ → facts n p r l g w ≡ facts n₁ p₁ r₁ l₁ g₁ w₁
facts-same a b c d e f = six facts a b c d e f

pub arrival-same : {n n₁ : ℕ} {r r₁ : Record} → n ≡ n₁ → r ≡ r₁
    → ◌≡◌ {A = GustArrival} (record { number = n; newest = r.newest; marks = r.marks }) (record { number = n₁; newest = r₁.newest; marks = r₁.marks })
arrival-same a b = ap₂ (λ (x : ℕ) (y : Record). record { number = x; newest = y.newest; marks = y.marks }) a b

-- ---- what any call tells

-- by the number, path and place of its reasons
abbrev pub told_in : {R : Type 0} (number path place : R → ℕ) → Result ℕ R → GustAnswer
told_in number path place (Ok v) = answer 0 0 0 v
told_in number path place (Err why) = answer (number why) (path why) (place why) 0

abbrev pub reason_in : {R : Type 0} (number path place : R → ℕ) → Result ⊤ R → GustVerdict
reason_in number path place (Ok x) = record { number = 0; path = 0; place = 0 }
reason_in number path place (Err why) = record { number = number why; path = path why; place = place why }
