-- Why the planner's call keeps its promise: the place of a refusal is small (`request_place`); a fan planned in room enough is written whole (`lay_sheeted`, `lay_answered`);
-- what stands against a list of targets (`list_refused`, `list_lone`, `list_short`, `list_done`); and of more than 33 targets the first 33 tell all (`cut-planned`).
-- Assumes nothing.
use Rattle.std.specs.Prelude.{ℕ, ◌+◌, ◌-◌, ◌*◌, ◌/◌, ◌%◌, ◌≤◌, ◌<◌, ◌≡◌, refl, Bool, true, false, not, ◌⊎◌, ◌≢◌, List, [], ◌++◌, eqb, leb, ltb, length, take, drop, Result, Ok, Err, ⊤}
use Rattle.std.proofs.Common.{sym, ap, ap₂, ◌∙◌, subst, inl, inr, mul-le-mul, mul-le-mul_right, le_trans, arith, take_at, ltb-true, ltb-false, lt-ltb, le-ltb, eq-eqb, ne_eqb}
use Rattle.std.proofs.Math.Option.{Option, none, some}
use Rattle.std.proofs.lemmas.List.Edits.{sets}
use Rattle.std.proofs.lemmas.Bool.{not-false, eqb-false}
use Rattle.scan.specs.Scan.{Spot, nowhere, at, pick}
use Rattle.scan.specs.Laws.{seek-first, true-or}
use Rattle.answers.specs.Order.{refuse, refuse-at, first_at, is_out, is_same, is_again}
use Rattle.answers.specs.Told.{number, place, against}
use Rattle.answers.specs.Laws.{number-some}
use Rattle.answers.specs.declared.Refusal.{Refusal}
use Rattle.answers.specs.declared.Refusal.TheVariants.{Unreadable, UnknownSize, NotServed, SourceOut, NoTarget, TooMany, TargetOut, TargetIsSource, TargetAgain, NoRoom}
use Rattle.paths.specs.Mesh.{width}
use Rattle.mesh.specs.Kinds.{kind_of, mesh_of, known, planned}
use Rattle.mesh.specs.Limits.{most_links, most_places, known-links, known-width, planned-links, planned-places}
use Rattle.mesh.specs.Laws.{known-planned}
use Rattle.mesh.specs.Says.{planned_against, short}
use Rattle.mesh.specs.Requests.{plan_fine, plan_asked, room_enough}
use Rattle.requests.specs.Planned as requests
use Rattle.requests.specs.Planned.{not-both}
use Rattle.planner.specs.Needs as planner
use Rattle.sheet.specs.Format.{VERSION, relays_at}
use Rattle.sheet.specs.Says.{settled, flawed, lone}
use Rattle.sheet.specs.Pieces.{at_front}
use Rattle.sheet.specs.Lengths.{relays-count}
use Rattle.sheet.specs.Most.{fan-sheet-most}
use Rattle.judge.specs.Alike.{enough}
use Rattle.sheet.specs.Judging.{Judged}
use Rattle.sheet.specs.declared.Flaw.{Flaw}
use Rattle.sheet.specs.declared.Flaw.TheVariants as flaw
use Rattle.sheet_write.specs.Says.{bytes}
use Rattle.sheet_write.specs.Says as write
use Rattle.sheet_write.specs.Needs.{Sheeted}
use Rattle.sheet_write.specs.Writing.{judged_sheeted}
use Rattle.region.specs.Says.{code_of, coded, LONE, most, targets_in, sheet_code, list_code, plan_code, Answered, Planned}
use Rattle.region.specs.Needs.{Sound, Layable, few}

some_inj : {x y : Refusal} → some x ≡ some y → x ≡ y
some_inj e = cc

-- ---- the place of a refusal

module _ (why : Refusal) where
  through : (b : Bool) (x : Refusal) (rest : Option Refusal) → place x < 256 → (b ≡ false → rest ≡ some why → place why < 256) → refuse b x rest ≡ some why → place why < 256
  through true x rest p q e = subst (λ (y : Refusal). place y < 256) (some_inj e) p
  through false x rest p q e = q refl e

  through_at : (sp : Spot) (f : ℕ → Refusal) (rest : Option Refusal) → ((p : ℕ) → sp ≡ at p → place (f p) < 256) → (rest ≡ some why → place why < 256) → refuse-at sp f rest ≡ some why → place why < 256
  through_at nowhere f rest p q e = q e
  through_at (at j) f rest p q e = subst (λ (y : Refusal). place y < 256) (some_inj e) (p j refl)

  request_small : (kind size s : ℕ) (targets : List ℕ) → planned_against (kind_of kind) size s targets false ≡ some why → place why < 256
  request_small kind size s targets =
      through (not (known kind size)) UnknownSize _ (omega arith) (λ k.
      through (not (kind_of kind).planned) NotServed _ (omega arith) (λ v.
      through (leb (mesh_of kind size).relays s) SourceOut _ (omega arith) (λ a.
      through (eqb (length targets) 0) NoTarget _ (omega arith) (λ b.
      through (ltb (mesh_of kind size).links (length targets)) TooMany _ (omega arith) (λ m.
      let below : (test : ℕ → Bool) (p : ℕ) → first_at targets test ≡ at p → p < 256 =
      λ test p e. omega (arith, (seek-first test 0 (length targets) p e).within, ltb-false (mesh_of kind size).links (length targets) m, known-links kind size (not-false (known kind size) k)) in
      through_at (first_at targets (is_out (mesh_of kind size).relays targets)) TargetOut _ (below (is_out (mesh_of kind size).relays targets))
      (through_at (first_at targets (is_same s targets)) TargetIsSource _ (below (is_same s targets))
      (through_at (first_at targets (is_again targets)) TargetAgain _ (below (is_again targets)) (λ e. not-both refl (sym e)))))))))

pub request_place : (kind size s : ℕ) (targets : List ℕ) {r : Result ⊤ Refusal} {why : Refusal} → r ≡ Err why → against r ≡ planned_against (kind_of kind) size s targets false → place why < 256
request_place kind size s targets {r} {why} f e = request_small why kind size s targets (sym e ∙ ap against f)

-- ---- the most bytes of a sheet

-- w is what code has of the places of a path
module _ (kind size k : ℕ) {w : ℕ} (e : w ≡ width (mesh_of kind size)) where
  longest_is : w - 1 ≡ (mesh_of kind size).longest
  longest_is = omega (arith, e)

  pub most-few : known kind size ≡ true → k ≤ (mesh_of kind size).links → (8 * (w - 1) ≤ 1648) × (k * (2 + 8 * (w - 1)) ≤ 61050)
  most-few h g =
      let wide : 2 + 8 * (w - 1) ≤ 1650 = omega (arith, longest_is, known-width kind size h) in
      (omega arith, le_trans (mul-le-mul (le_trans g (known-links kind size h)) wide) (omega arith))

  pub most_is : 16 + k * (2 + 8 * (w - 1)) ≡ most (mesh_of kind size) k
  most_is = ap (λ (x : ℕ). 16 + k * (2 + 8 * x)) longest_is

-- ---- a fan planned in room enough, and written

module _ (kind size s : ℕ) (targets : List ℕ) where
  -- its places are no more than every fan takes, and its paths no more than a relay has links
  module _ {out : ℕ} (p : Sound kind size s targets out) where
    pub sound_known : known kind size ≡ true
    sound_known = (plan_fine (kind_of kind) size s targets p.clear).0.known

    abbrev h : planned kind size ≡ true
    h = let (fine, v) = plan_fine (kind_of kind) size s targets p.clear in known-planned kind size fine.known v

    pub sound_few : length targets ≤ most_links
    sound_few = let fine = (plan_fine (kind_of kind) size s targets p.clear).0 in omega (arith, fine.sound.few, planned-links kind size h)

    pub sound_placed : length targets * width (mesh_of kind size) ≤ most_places
    sound_placed =
        let fine = (plan_fine (kind_of kind) size s targets p.clear).0 in
        omega (arith, mul-le-mul_right (width (mesh_of kind size)) fine.sound.few, planned-places kind size h)

    -- w is what code has of the places of a path
    pub alone : {w places counts : ℕ} → w ≡ width (mesh_of kind size) → length targets * w ≤ places → most_links ≤ counts → Layable kind size s targets places counts out
    alone {w} {places} {counts} e l c = record { sound = p; placed = subst (λ (x : ℕ). length targets * x ≤ places) e l; counted = omega (arith, sound_few) }

  wide : {places counts out : ℕ} → Layable kind size s targets places counts out → short (mesh_of kind size) (length targets) places counts ≡ false
  wide {places} {counts} p = enough (mesh_of kind size) (length targets) places counts p.placed p.counted

  -- what laying a fan asks
  pub lay_able : {places counts out : ℕ} → Layable kind size s targets places counts out → planner.Layable kind size s targets places counts
  lay_able p = record { clear = p.sound.clear; room = wide p }

  module _ {places counts places₁ counts₁ : List ℕ} {out : ℕ} (p : Layable kind size s targets (length places) (length counts) out)
      (f : requests.Planned none (mesh_of kind size) s targets places counts (Ok tt) places₁ counts₁) where
    pub lay_judged : Judged (kind_of kind) size s targets places₁ counts₁
    lay_judged =
        let room = room_enough (mesh_of kind size) (length targets) (length places) (length counts) (wide p) in
        record { request = plan_asked (kind_of kind) size s targets p.sound.clear; room = omega (arith, room.0, f.as_long); counted = omega (arith, room.1, f.as_long_counts); fan = f.paths refl }

    pub lay_sheeted : Sheeted kind size (length targets) (length places₁) counts₁
    lay_sheeted = judged_sheeted kind size s targets places₁ counts₁ (h p.sound) lay_judged

  pub lay_answered : {places counts places₁ counts₁ out out₁ : List ℕ} {w : Result ℕ Flaw} → Layable kind size s targets (length places) (length counts) (length out)
      → requests.Planned none (mesh_of kind size) s targets places counts (Ok tt) places₁ counts₁
      → write.Put kind size s (length targets) places₁ counts₁ out w out₁ → Answered kind size s targets out out₁
  lay_answered {places} {counts} {places₁} {counts₁} {out} {out₁} p f q =
      let sheet = bytes kind size s (length targets) places₁ counts₁ in
      let j = lay_judged p f in
      let fits : length sheet ≤ length out = omega (arith, fan-sheet-most (mesh_of kind size) s targets places₁ counts₁ j.fan VERSION kind size [], p.sound.long) in
      record {
        places = places₁;
        counts = counts₁;
        fan = j.fan;
        placed = j.room;
        counted = j.counted;
        held = q.held ∙ ap (λ (b : Bool). settled (flawed b flaw.NoRoom none) (sheet ++ drop (length sheet) out) out) (le-ltb (length out) (length sheet) fits);
      }

-- ---- a list of targets

-- a refusal is told by a number that is not 0
pub code_some : (why : Refusal) → code_of (some why) ≢ 0
code_some why z = eqb-false (number why) 0 (number-some why) (omega (arith, z))

pub refusal : {n r : ℕ} (kind size s : ℕ) (targets out : List ℕ) → n ≢ 0 → r ≡ n → Planned n kind size s targets out r out
refusal kind size s targets out ne p = record { told = p; answered = λ z. absurd (ne z); refused = λ z. refl }

-- what was found of the request, and then what comes after it
told_as : (kind size s : ℕ) (targets out : List ℕ) {o : Option Refusal} → o ≡ planned_against (kind_of kind) size s targets false
    → coded o (sheet_code kind size (length targets) out) ≡ list_code kind size s targets out
told_as kind size s targets out e = ap (λ (o : Option Refusal). coded o (sheet_code kind size (length targets) out)) e

module _ (kind size s : ℕ) (targets out : List ℕ) {c : Result ⊤ Refusal} (e : against c ≡ planned_against (kind_of kind) size s targets false) where
  pub list_refused : {why : Refusal} {r : ℕ} → c ≡ Err why → r ≡ code_of (some why) → Planned (list_code kind size s targets out) kind size s targets out r out
  list_refused {why} f p = let o = told_as kind size s targets out (sym (ap against f) ∙ e) in refusal kind size s targets out (λ z. code_some why (o ∙ z)) (p ∙ o)

  module _ (f : c ≡ (Ok tt)) where
    pub list_known : (known kind size ≡ true) × (length targets ≤ (mesh_of kind size).links)
    list_known = let fine = (plan_fine (kind_of kind) size s targets (sym e ∙ ap against f)).0 in (fine.known, fine.sound.few)

    -- what code has of a lone path, and of the most bytes of a sheet
    module _ {b : Bool} (is : b ≡ lone kind (length targets)) where
      pub list_lone : {r : ℕ} → b ≡ true → r ≡ LONE → Planned (list_code kind size s targets out) kind size s targets out r out
      list_lone t p =
          let rest = pick (ltb (length out) (most (mesh_of kind size) (length targets))) (code_of (some NoRoom)) 0 in
          let o : LONE ≡ list_code kind size s targets out = ap (λ (x : Bool). pick x LONE rest) (sym t ∙ is) ∙ told_as kind size s targets out (sym (ap against f) ∙ e) in
          refusal kind size s targets out (λ z. let y : LONE ≡ 0 = o ∙ z in absurd (omega (arith, y))) (p ∙ o)

      module _ (several : b ≡ false) {m : ℕ} (q : m ≡ most (mesh_of kind size) (length targets)) where
        roomed : (x : Bool) → ltb (length out) m ≡ x → pick x (code_of (some NoRoom)) 0 ≡ list_code kind size s targets out
        roomed x h =
            ap₂ (λ (y x : Bool). pick y LONE (pick x (code_of (some NoRoom)) 0)) (sym several ∙ is) (sym h ∙ ap (ltb (length out)) q) ∙ told_as kind size s targets out (sym (ap against f) ∙ e)

        pub list_short : {r : ℕ} → length out < m → r ≡ code_of (some NoRoom) → Planned (list_code kind size s targets out) kind size s targets out r out
        list_short h p = let o = roomed true (lt-ltb (length out) m h) in refusal kind size s targets out (λ z. code_some NoRoom (o ∙ z)) (p ∙ o)

        pub list_sound : m ≤ length out → Sound kind size s targets (length out)
        list_sound h = record { clear = sym e ∙ ap against f; long = omega (arith, q) }

        pub list_done : {out₁ : List ℕ} → m ≤ length out → Answered kind size s targets out out₁ → Planned (list_code kind size s targets out) kind size s targets out 0 out₁
        list_done h a = let o = roomed false (le-ltb (length out) m h) in record { told = o; answered = λ z. a; refused = λ ne. absurd (ne (sym o)) }

-- ---- the first 33 of more targets

-- there are more than any relay has links
-- what is told of so many, by what is known of the mesh and of the source
abbrev told_many : (u v w : Bool) → Option Refusal
told_many u v w = refuse u UnknownSize (refuse v NotServed (refuse w SourceOut (some TooMany)))

module _ (kind size s : ℕ) (targets out : List ℕ) (h : 32 < length targets) where
  abbrev early : Option Refusal
  early = told_many (not (known kind size)) (not (kind_of kind).planned) (leb (mesh_of kind size).relays s)

  many : planned_against (kind_of kind) size s targets false ≡ early
  many = go (true-or (known kind size)) (true-or (kind_of kind).planned)
    where
      go : (known kind size ≡ true) ⊎ (known kind size ≡ false) → ((kind_of kind).planned ≡ true) ⊎ ((kind_of kind).planned ≡ false)
          → planned_against (kind_of kind) size s targets false ≡ early
      go (inl k) (inl v) = let more : (mesh_of kind size).links < length targets = omega (arith, planned-links kind size (known-planned kind size k v)) in
          simp (ne_eqb (length targets) 0 (λ z. omega arith), lt-ltb (mesh_of kind size).links (length targets) more)
      go (inl k) (inr v) = simp (k, v)
      go (inr u) v = simp u

  -- so that nothing after the request is told
  many_code : list_code kind size s targets out ≡ coded early 0
  many_code = ap (λ (o : Option Refusal). coded o (sheet_code kind size (length targets) out)) many
      ∙ go (not (known kind size)) (not (kind_of kind).planned) (leb (mesh_of kind size).relays s) (sheet_code kind size (length targets) out)
    where
      go : (u v w : Bool) (n : ℕ) → coded (told_many u v w) n ≡ coded (told_many u v w) 0
      go true v w n = refl
      go false true w n = refl
      go false false true n = refl
      go false false false n = refl

module _ (l : List ℕ) {k : ℕ} (e : k ≡ few (length l / 8)) where
  pub few-most : (k ≤ 33) × (k * 8 ≤ length l)
  few-most = go (true-or (ltb (length l / 8) 33))
    where
      go : (ltb (length l / 8) 33 ≡ true) ⊎ (ltb (length l / 8) 33 ≡ false) → (k ≤ 33) × (k * 8 ≤ length l)
      go (inl t) = let same : k ≡ length l / 8 = e ∙ simp t in (omega (arith, ltb-true (length l / 8) 33 t), omega arith)
      go (inr f) = let same : k ≡ 33 = e ∙ simp f in (omega arith, omega (arith, ltb-false (length l / 8) 33 f))

-- whether bytes can be read is looked at first
readable : (kind size s : ℕ) (l out : List ℕ) {b : Bool} → b ≡ eqb (length l % 8) 0
    → coded (refuse (not b) Unreadable (planned_against (kind_of kind) size s (targets_in l) false)) (sheet_code kind size (length (targets_in l)) out) ≡ plan_code kind size s l out
readable kind size s l out e =
    ap (λ (b : Bool). coded (refuse (not b) Unreadable (planned_against (kind_of kind) size s (targets_in l) false)) (sheet_code kind size (length (targets_in l)) out)) e

module _ (kind size s : ℕ) (l list : List ℕ) {k : ℕ} (e : k ≡ few (length l / 8)) (h : 33 ≤ length list) where
  -- what stands in the list
  cut_taken : {list₁ : List ℕ} → list₁ ≡ sets list 0 (relays_at l 0 k) → take k list₁ ≡ relays_at l 0 k
  cut_taken p =
      ap (take k) (p ∙ at_front (relays_at l 0 k) list (omega (arith, relays-count l 0 k, (few-most l e).0)))
      ∙ take_at (relays_at l 0 k) (drop (length (relays_at l 0 k)) list) k (relays-count l 0 k)

  -- all targets, or more than there are links with the first 33 as with all
  cut-same : (relays_at l 0 k ≡ targets_in l) ⊎ ((32 < length (relays_at l 0 k)) × (32 < length (targets_in l)))
  cut-same = go (true-or (ltb (length l / 8) 33))
    where
      go : (ltb (length l / 8) 33 ≡ true) ⊎ (ltb (length l / 8) 33 ≡ false) → (relays_at l 0 k ≡ targets_in l) ⊎ ((32 < length (relays_at l 0 k)) × (32 < length (targets_in l)))
      go (inl t) = inl (ap (relays_at l 0) (e ∙ simp t))
      go (inr f) =
          let same : k ≡ 33 = e ∙ simp f in
          inr (omega (arith, relays-count l 0 k), omega (arith, relays-count l 0 (length l / 8), ltb-false (length l / 8) 33 f))

  pub cut-planned : {list₁ out out₁ : List ℕ} {r : ℕ} → length l % 8 ≡ 0 → list₁ ≡ sets list 0 (relays_at l 0 k)
      → Planned (list_code kind size s (take k list₁) out) kind size s (take k list₁) out r out₁ → Planned (plan_code kind size s l out) kind size s (targets_in l) out r out₁
  cut-planned {list₁} {out} {out₁} {r} whole p q =
      go cut-same (subst (λ (x : List ℕ). Planned (list_code kind size s x out) kind size s x out r out₁) (cut_taken p) q)
    where
      read : list_code kind size s (targets_in l) out ≡ plan_code kind size s l out
      read = readable kind size s l out (sym (eq-eqb (length l % 8) 0 whole))

      as_read : Planned (list_code kind size s (targets_in l) out) kind size s (targets_in l) out r out₁ → Planned (plan_code kind size s l out) kind size s (targets_in l) out r out₁
      as_read v = subst (λ (n : ℕ). Planned n kind size s (targets_in l) out r out₁) read v

      go : (relays_at l 0 k ≡ targets_in l) ⊎ ((32 < length (relays_at l 0 k)) × (32 < length (targets_in l)))
          → Planned (list_code kind size s (relays_at l 0 k) out) kind size s (relays_at l 0 k) out r out₁ → Planned (plan_code kind size s l out) kind size s (targets_in l) out r out₁
      go (inl same) v = as_read (subst (λ (x : List ℕ). Planned (list_code kind size s x out) kind size s x out r out₁) same v)
      go (inr more) v =
          let a = many_code kind size s (relays_at l 0 k) out more.0 in
          let b = many_code kind size s (targets_in l) out more.1 in
          as_read (record {
            told = v.told ∙ a ∙ sym b;
            answered = λ z. never (not (known kind size)) (not (kind_of kind).planned) (leb (mesh_of kind size).relays s) (sym b ∙ z);
            refused = λ ne. v.refused (λ z. ne (b ∙ sym a ∙ z));
          })
        where
          never : {A : Type 0} (u v w : Bool) → coded (told_many u v w) 0 ≡ 0 → A
          never true v w z = absurd (code_some UnknownSize z)
          never false true w z = absurd (code_some NotServed z)
          never false false true z = absurd (code_some SourceOut z)
          never false false false z = absurd (code_some TooMany z)

-- bytes that are no multiple of 8
pub unreadable : (kind size s : ℕ) (l out : List ℕ) {r : ℕ} → length l % 8 ≢ 0 → r ≡ code_of (some Unreadable) → Planned (plan_code kind size s l out) kind size s (targets_in l) out r out
unreadable kind size s l out ne p =
    let o = readable kind size s l out (sym (ne_eqb (length l % 8) 0 ne)) in
    refusal kind size s (targets_in l) out (λ z. code_some Unreadable (o ∙ z)) (p ∙ o)

-- ---- how many targets are looked at

pub few-all : (n : ℕ) → n < 33 → n ≡ few n
few-all n h = ap (λ (b : Bool). pick b n 33) (sym (lt-ltb n 33 h))

pub few-cut : (n : ℕ) → 33 ≤ n → 33 ≡ few n
few-cut n h = ap (λ (b : Bool). pick b n 33) (sym (le-ltb n 33 h))
