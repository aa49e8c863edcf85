-- A line read into 64 places: it is refused only where a text states no request (`line_refused`), for no line has more targets; else what is told and left
-- is the request that the text states (`line_request`). Assumes nothing.
use Rattle.std.specs.Prelude.{ℕ, ◌≤◌, ◌<◌, Bool, false, drop, Result, Ok, Err}
use Rattle.std.proofs.Math.Path.{◌≡◌, refl, ap}
use Rattle.std.proofs.Common.{sym, ◌∙◌, subst, arith, lt-ltb, le-ltb}
use Rattle.std.proofs.Math.Option.{Option, none, some}
use mathlib.Core.List.{List, ◌++◌}
use Rattle.std.proofs.Math.ListN.{length, take, length-append}
use Rattle.std.proofs.Math.Seq.{take_at}
use Rattle.std.proofs.lemmas.Bool.{eqb-false}
use Rattle.answers.specs.Order.{first}
use Rattle.answers.specs.Told.{number, place, told, number_of, place_of, value_of, tell, leaves, answer_told}
use Rattle.answers.specs.Laws.{refusal, refusal_back, number-some}
use Rattle.answers.specs.declared.Refusal.{Refusal}
use Rattle.answers.specs.declared.Refusal.TheVariants.{Unreadable}
use Rattle.line.specs.Text.{Request}
use Rattle.line.specs.Parse.{asked}
use Rattle.line.specs.Lines.{asked_sound}
use Rattle.line.specs.Says.{Head, head, no_head, line_told, head_of, line_faults, line_against, asked_told, asked_leaves}
use Rattle.line.specs.Written.{refused_text}
use Rattle.line.specs.declared.Asked.{Asked}
use Rattle.reply.specs.Says.{Answers, AnsweredIn, Answered, Replied, Said, reply_room}
use Rattle.reply.specs.Laws.{Ruling}

-- the request that is told and left
abbrev pub stated_by : Asked → List ℕ → Request
stated_by a targets = record { kind = a.mesh.kind; size = a.mesh.size; source = a.source; targets = take a.count targets }

-- 10 and place 0 are told of nothing else
unreadable_is : (why : Refusal) → number why ≡ 10 → place why ≡ 0 → why ≡ Unreadable
unreadable_is why e f = sym (refusal_back why) ∙ ap (λ (n : ℕ). refusal n (place why)) e ∙ ap (refusal 10) f ∙ refusal_back Unreadable

kind_in : Head → ℕ
kind_in (head k s u c) = k

size_in : Head → ℕ
size_in (head k s u c) = s

source_in : Head → ℕ
source_in (head k s u c) = u

count_in : Head → ℕ
count_in (head k s u c) = c

module _ (text was now : List ℕ) (long : length was ≡ 64) (l : Result Asked Refusal) (t : line_told l ≡ asked_told (asked text) (length was)) (e : now ≡ asked_leaves (asked text) was) where
  -- there is room for what a line states
  granted : {q : Request} → asked text ≡ some q → line_against (some q) (length was) ≡ none
  granted {q} f = ap (λ (b : Bool). first (line_faults false b)) (le-ltb (length was) (length q.targets) (omega (arith, (asked_sound text q f).stated.few)))

  told_of : {q : Request} → asked text ≡ some q → line_told l ≡ told 0 0 (head_of (some q))
  told_of {q} f = t ∙ ap (λ (o : Option Request). asked_told o (length was)) f ∙ ap (λ (o : Option Refusal). tell o no_head (head_of (some q))) (granted f)

  left-of : {q : Request} → asked text ≡ some q → now ≡ q.targets ++ drop (length q.targets) was
  left-of {q} f =
      e ∙ ap (λ (o : Option Request). asked_leaves o was) f
      ∙ ap (λ (o : Option Refusal). leaves o was (q.targets ++ drop (length q.targets) was)) (granted f)

  pub line_refused : {why : Refusal} → l ≡ Err why → (asked text ≡ none) × (why ≡ Unreadable)
  line_refused {why} g = go (asked text) refl
    where
      go : (o : Option Request) → asked text ≡ o → (asked text ≡ none) × (why ≡ Unreadable)
      go none f =
          let same = sym (ap line_told g) ∙ t ∙ ap (λ (o : Option Request). asked_told o (length was)) f in
          (f, unreadable_is why (ap number_of same) (ap place_of same))
      go (some q) f = absurd (eqb-false (number why) 0 (number-some why) (ap number_of (sym (ap line_told g) ∙ told_of f)))

  pub record Reads (a : Asked) : Type 0 where
    pub within : a.count ≤ length now
    pub is : asked text ≡ some (stated_by a now)

  pub line_request : {a : Asked} → l ≡ Ok a → Reads a
  unfolding kind_in size_in source_in count_in
  line_request {a} g = go (asked text) refl
    where
      go : (o : Option Request) → asked text ≡ o → Reads a
      go none f = let z : ◌≡◌ {A = ℕ} 0 10 = ap number_of (sym (ap line_told g) ∙ t ∙ ap (λ (o : Option Request). asked_told o (length was)) f) in absurd (omega arith)
      go (some q) f =
          let same : head a.mesh.kind a.mesh.size a.source a.count ≡ head_of (some q) = ap value_of (sym (ap line_told g) ∙ told_of f) in
          let counted : a.count ≡ length q.targets = ap count_in same in
          let kept = left-of f in
          let taken : take a.count now ≡ q.targets = ap (take a.count) kept ∙ take_at q.targets (drop (length q.targets) was) a.count (sym counted) in
          record {
            within = omega (arith, ap length kept, length-append q.targets (drop (length q.targets) was));
            is =
                f
                ∙ ap (λ (x : ℕ). some (record { kind = x; size = q.size; source = q.source; targets = q.targets })) (sym (ap kind_in same))
                ∙ ap (λ (x : ℕ). some (record { kind = a.mesh.kind; size = x; source = q.source; targets = q.targets })) (sym (ap size_in same))
                ∙ ap (λ (x : ℕ). some (record { kind = a.mesh.kind; size = a.mesh.size; source = x; targets = q.targets })) (sym (ap source_in same))
                ∙ ap (λ (x : List ℕ). some (record { kind = a.mesh.kind; size = a.mesh.size; source = a.source; targets = x })) (sym taken);
          }

  module _ (out : List ℕ) (room : reply_room ≤ length out) (r : Result ℕ Refusal) {out₁ : List ℕ} where
    -- where there is room
    roomy : Replied text out r out₁ → Answered text out r out₁
    roomy p = subst (λ (b : Bool). AnsweredIn b text out r out₁) (sym (le-ltb (length out) reply_room room)) p

    pub reply_refused : {why : Refusal} → l ≡ Err why → Said (refused_text why) out r out₁ → Answered text out r out₁
    reply_refused {why} g s = roomy (record {
      said = refused_text why;
      answers = subst (λ (o : Option Request). Answers o (refused_text why)) (sym (line_refused g).0) (ap refused_text (line_refused g).1);
      says = s;
    })

    pub reply_request : {a : Asked} → l ≡ Ok a → Ruling a.mesh.kind a.mesh.size a.source (take a.count now) out r out₁ → Answered text out r out₁
    reply_request {a} g s = roomy (record {
      said = s.said;
      answers = subst (λ (o : Option Request). Answers o s.said) (sym (line_request g).is) s.ruled;
      says = s.says;
    })

pub reply_short : (text out : List ℕ) (r : Result ℕ Refusal) {out₁ : List ℕ} → length out < reply_room → answer_told r ≡ told 8 0 0 → out₁ ≡ out → Answered text out r out₁
reply_short text out r {out₁} h p q = subst (λ (b : Bool). AnsweredIn b text out r out₁) (sym (lt-ltb (length out) reply_room h)) (p, q)
