-- Why the next hop's call keeps its promise: a relay put at the front of a slice (`put-short`, `put_done`), and what the next hop tells
-- (`next_place`, `next_refused`, `next-put`). Assumes nothing.
use Rattle.std.specs.Prelude.{ℕ, ◌≤◌, ◌<◌, ◌≡◌, refl, Bool, true, false, not, List, ◌++◌, leb, ltb, length, drop, Result, Ok, Err}
use Rattle.std.proofs.Common.{sym, ap, ◌∙◌, arith, lt-ltb, le-ltb}
use Rattle.std.proofs.Math.Option.{Option, none, some}
use Rattle.std.proofs.lemmas.List.Edits.{sets}
use Rattle.scan.specs.Scan.{pick, at, nowhere}
use Rattle.octets.specs.Big.{big, big-length}
use Rattle.answers.specs.Order.{first, refuse, refuse-at, before, size_faults, pair_faults}
use Rattle.answers.specs.Told.{place, tell, leaves, place_of, value_of, answer_told}
use Rattle.answers.specs.Laws.{answer_unique}
use Rattle.answers.specs.Pairs.{room-last}
use Rattle.answers.specs.declared.Refusal.{Refusal}
use Rattle.answers.specs.declared.Refusal.TheVariants.{UnknownSize, SourceOut, TargetOut, NoRoom}
use Rattle.mesh.specs.Kinds.{Kind}
use Rattle.mesh.specs.Says.{size_faults_in, pair_against, next_told}
use Rattle.sheet.specs.Pieces.{at_front}
use Rattle.region.specs.Says.{code_of, put_against, front, Put, next_against, Stepped}

-- ---- what stands against an answer

abbrev refused_by : Result ℕ Refusal → Option Refusal
refused_by (Ok v) = none
refused_by (Err why) = some why

abbrev answer_of : Option Refusal → ℕ → Result ℕ Refusal
answer_of none v = Ok v
answer_of (some why) v = Err why

answer-tells : (o : Option Refusal) (v : ℕ) → answer_told (answer_of o v) ≡ tell o 0 v
answer-tells none v = refl
answer-tells (some why) v = refl

answer_refused : (o : Option Refusal) (v : ℕ) → refused_by (answer_of o v) ≡ o
answer_refused none v = refl
answer_refused (some why) v = refl

pub answer-against : (o : Option Refusal) (v : ℕ) {a b : Result ℕ Refusal} → a ≡ b → answer_told a ≡ tell o 0 v → refused_by b ≡ o
answer-against o v {a} {b} f e = ap refused_by (sym f ∙ answer_unique a (answer_of o v) (e ∙ sym (answer-tells o v))) ∙ answer_refused o v

-- ---- a relay at the front

module _ (relay : ℕ) (out : List ℕ) where
  put_by : {r : ℕ} {out₁ : List ℕ} (b : Bool) → ltb (length out) 8 ≡ b → r ≡ code_of (refuse b NoRoom none)
      → out₁ ≡ leaves (refuse b NoRoom none) out (front relay out) → Put relay out r out₁
  put_by b e p q = record {
    told = p ∙ ap (λ (x : Bool). code_of (refuse x NoRoom none)) (sym e);
    held = q ∙ ap (λ (x : Bool). leaves (refuse x NoRoom none) out (front relay out)) (sym e);
  }

  pub put-short : {r : ℕ} → length out < 8 → r ≡ code_of (some NoRoom) → Put relay out r out
  put-short h e = put_by true (lt-ltb (length out) 8 h) e refl

  pub put_done : {out₁ : List ℕ} → 8 ≤ length out → out₁ ≡ sets out 0 (big 8 relay) → Put relay out 0 out₁
  put_done h e =
      put_by false (le-ltb (length out) 8 h) refl
      (e ∙ at_front (big 8 relay) out (omega (arith, big-length 8 relay)) ∙ ap (λ (n : ℕ). big 8 relay ++ drop n out) (big-length 8 relay))

-- ---- the next hop

-- every refusal of a pair tells place 0
pair_place : (u : Bool) (relays s t : ℕ) (v : ℕ) → place_of (tell (first (size_faults u ++ pair_faults relays s t)) 0 v) ≡ 0
pair_place u relays s t v = go u (leb relays s) (leb relays t)
  where
    go : (u s t : Bool) → place_of (tell (refuse u UnknownSize (refuse s SourceOut (refuse-at (pick t (at 0) nowhere) TargetOut none))) 0 v) ≡ 0
    go true s t = refl
    go false true t = refl
    go false false true = refl
    go false false false = refl

module _ (K : Kind) (n s t : ℕ) {a b : Result ℕ Refusal} (f : a ≡ b) (e : answer_told a ≡ next_told K n s t) where
  pub next_place : {why : Refusal} → b ≡ Err why → place why < 256
  next_place {why} g =
      let zero : place why ≡ 0 = ap (λ (x : Result ℕ Refusal). place_of (answer_told x)) (sym (f ∙ g)) ∙ ap place_of e ∙ pair_place (not (K.known n)) (K.mesh n).relays s t (K.next n s t) in
      omega arith

module _ (K : Kind) (n s t : ℕ) (out : List ℕ) where
  -- want of room comes last
  next-all : {o : Option Refusal} → o ≡ pair_against K n s t false → before o (put_against out) ≡ next_against K n s t out
  next-all e = ap (λ (o : Option Refusal). before o (put_against out)) e ∙ sym (room-last (size_faults_in K n ++ pair_faults (K.mesh n).relays s t) (ltb (length out) 8))

  stepped : {o : Option Refusal} {r : ℕ} {out₁ : List ℕ} → o ≡ next_against K n s t out → r ≡ code_of o → out₁ ≡ leaves o out (front (K.next n s t) out) → Stepped K n s t out r out₁
  stepped e p q = record { told = p ∙ ap code_of e; held = q ∙ ap (λ (o : Option Refusal). leaves o out (front (K.next n s t) out)) e }

  pub next_refused : {a : Result ℕ Refusal} {why : Refusal} {r : ℕ} → a ≡ Err why → answer_told a ≡ next_told K n s t → r ≡ code_of (some why) → Stepped K n s t out r out
  next_refused f e p = stepped (next-all (answer-against (pair_against K n s t false) (K.next n s t) f e)) p refl

  pub next-put : {a : Result ℕ Refusal} {relay r : ℕ} {out₁ : List ℕ} → a ≡ Ok relay → answer_told a ≡ next_told K n s t → Put relay out r out₁ → Stepped K n s t out r out₁
  next-put {a} {relay} {r} {out₁} f e p =
      let o : none ≡ pair_against K n s t false = answer-against (pair_against K n s t false) (K.next n s t) f e in
      let hop : relay ≡ K.next n s t = ap (λ (x : Result ℕ Refusal). value_of (answer_told x)) (sym f) ∙ ap value_of e ∙ ap (λ (x : Option Refusal). value_of (tell x 0 (K.next n s t))) (sym o) in
      stepped (next-all o) p.told (p.held ∙ ap (λ (x : ℕ). leaves (put_against out) out (front x out)) hop)
