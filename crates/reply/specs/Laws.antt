-- What the code owes at each of its ends: a plan refused, a plan written, a line that is none. Assumes nothing.
use Rattle.std.specs.Prelude.{ℕ, ◌*◌, ◌≤◌, ◌≡◌, refl, Bool, true, false, List, ltb, length, Result, Ok, Err, ⊤}
use Rattle.std.proofs.Common.{sym, ap, ◌∙◌, subst, arith, le-ltb}
use Rattle.std.proofs.Math.Option.{Option, none, some}
use Rattle.std.proofs.lemmas.Bool.{lt-leb}
use Rattle.scan.specs.Scan.{pick, any}
use Rattle.scan.specs.Laws.{false-any}
use Rattle.answers.specs.Order.{refuse, before}
use Rattle.answers.specs.Pairs.{room-last}
use Rattle.answers.specs.Told.{against, answer_told}
use Rattle.answers.specs.declared.Refusal.{Refusal}
use Rattle.answers.specs.declared.Refusal.TheVariants.{NoRoom}
use Rattle.paths.specs.Mesh.{Mesh, width}
use Rattle.paths.specs.Fan.{hops, Fan}
use Rattle.mesh.specs.Kinds.{Kind, kind_of, mesh_of, known}
use Rattle.mesh.specs.Says.{planned_against, short}
use Rattle.mesh.specs.Limits.{most_places}
use Rattle.mesh.specs.Requests.{Fine, planned_early, plan_fine}
use Rattle.mesh.specs.Laws.{known-planned}
use Rattle.requests.specs.Planned.{Planned, planned-against}
use Rattle.line.specs.Written.{fan_text, refused_text, refused_room, overlong, fan_room, wanting, write_told, write_leaves}
use Rattle.reply.specs.Says.{Ruled, fault_of, AnswersTo, Said, reply_room}
use Rattle.reply.specs.Sizes.{Enough, enough}

-- what a request is answered by
pub record Ruling (kind size source : ℕ) (targets was : List ℕ) (r : Result ℕ Refusal) (now : List ℕ) : Type 0 where
  pub said : List ℕ
  pub ruled : AnswersTo kind size source targets said
  pub says : Said said was r now

-- what was written where nothing wanted room
pub written-said : {r : Result ℕ Refusal} (text was : List ℕ) {now : List ℕ} (b : Bool) → b ≡ false → answer_told r ≡ write_told b text → now ≡ write_leaves b text was → Said text was r now
written-said text was b f p q = record {
  told_long = p ∙ ap (λ (x : Bool). write_told x text) f;
  left = q ∙ ap (λ (x : Bool). write_leaves x text was) f;
}

pub refusal-said : {r : Result ℕ Refusal} (why : Refusal) (was : List ℕ) {now : List ℕ} → reply_room ≤ length was
    → answer_told r ≡ write_told (ltb (length was) refused_room) (refused_text why) → now ≡ write_leaves (ltb (length was) refused_room) (refused_text why) was → Said (refused_text why) was r now
refusal-said why was h = written-said (refused_text why) was (ltb (length was) refused_room) (le-ltb (length was) refused_room (omega arith))

module _ (kind n s : ℕ) (targets places counts : List ℕ) (p : length places ≡ most_places) (q : length counts ≡ 64) where
  abbrev K : Kind
  K = kind_of kind

  abbrev m : Mesh
  m = mesh_of kind n

  abbrev k : ℕ
  k = length targets

  fine_enough : Fine K n s targets × (K.planned ≡ true) → Enough k (width m)
  fine_enough (f, v) = enough kind n k (known-planned kind n f.known v) f.sound.few

  fine-room : Fine K n s targets × (K.planned ≡ true) → short m k (length places) (length counts) ≡ false
  fine-room f =
      let e = fine_enough f in
      ap (λ (b : Bool). pick b true (ltb (length counts) k)) (le-ltb (length places) (k * width m) (omega (arith, e.places)))
      ∙ le-ltb (length counts) k (omega (arith, e.counts))

  -- the planner never wants room
  room_unasked : planned_against K n s targets (short m k (length places) (length counts)) ≡ fault_of kind n s targets
  room_unasked = go (fault_of kind n s targets) refl
    where
      go : (o : Option Refusal) → fault_of kind n s targets ≡ o → planned_against K n s targets (short m k (length places) (length counts)) ≡ fault_of kind n s targets
      go none e = ap (planned_against K n s targets) (fine-room (plan_fine K n s targets e))
      go (some why) e =
          room-last (planned_early K n s targets) (short m k (length places) (length counts))
          ∙ ap (λ (o : Option Refusal). before o (refuse (short m k (length places) (length counts)) NoRoom none)) e ∙ sym e

  module _ {r : Result ⊤ Refusal} {places₁ counts₁ : List ℕ}
      (w : Planned (planned_against K n s targets (short m k (length places) (length counts))) m s targets places counts r places₁ counts₁) where
    fault : {c : Result ⊤ Refusal} → r ≡ c → against c ≡ fault_of kind n s targets
    fault e = sym (ap against e) ∙ planned-against w ∙ room_unasked

    pub plan_refused : {why : Refusal} {a : Result ℕ Refusal} {was now : List ℕ} → r ≡ Err why → Said (refused_text why) was a now → Ruling kind n s targets was a now
    plan_refused {why} e t = record { said = refused_text why; ruled = subst (λ (o : Option Refusal). Ruled m s targets o (refused_text why)) (fault e) refl; says = t }

    module _ (e : r ≡ Ok tt) where
      planned-fine : Fine K n s targets × (K.planned ≡ true)
      planned-fine = plan_fine K n s targets (sym (fault e))

      pub plan_known : known kind n ≡ true
      plan_known = planned-fine.0.known

      planned-fan : Fan m s targets places₁ counts₁
      planned-fan = w.paths (sym (planned-against w) ∙ ap against e)

      none-overlong : any (overlong (width m) counts₁) 0 k ≡ false
      none-overlong = false-any (overlong (width m) counts₁) 0 k (λ i a b. lt-leb (width m) (hops counts₁ i) (omega (arith, (planned-fan.path i (omega arith)).short)))

      pub plan_roomy : (bytes : ℕ) → reply_room ≤ bytes → wanting k (width m) places₁ counts₁ bytes ≡ false
      plan_roomy bytes h =
          let f = fine_enough planned-fine in
          ap (λ (b : Bool). pick b true (pick (ltb (length places₁) (k * width m)) true (pick (any (overlong (width m) counts₁) 0 k) true (ltb bytes (fan_room k (width m))))))
          (le-ltb (length counts₁) k (omega (arith, w.as_long_counts, f.counts)))
          ∙ ap (λ (b : Bool). pick b true (pick (any (overlong (width m) counts₁) 0 k) true (ltb bytes (fan_room k (width m)))))
          (le-ltb (length places₁) (k * width m) (omega (arith, w.as_long, f.places)))
          ∙ ap (λ (b : Bool). pick b true (ltb bytes (fan_room k (width m)))) none-overlong
          ∙ le-ltb bytes (fan_room k (width m)) (omega (arith, f.bytes))

      pub plan_written : {v : ℕ} {a : Result ℕ Refusal} (was : List ℕ) {now : List ℕ} → reply_room ≤ length was → v ≡ width m
          → answer_told a ≡ write_told (wanting k v places₁ counts₁ (length was)) (fan_text k v places₁ counts₁)
          → now ≡ write_leaves (wanting k v places₁ counts₁ (length was)) (fan_text k v places₁ counts₁) was
          → Ruling kind n s targets was a now
      plan_written {v} was h u t l = record {
        said = fan_text k v places₁ counts₁;
        ruled = subst (λ (o : Option Refusal). Ruled m s targets o (fan_text k v places₁ counts₁)) (fault e) (record {
          places = places₁;
          counts = counts₁;
          placed = omega (arith, w.as_long, (fine_enough planned-fine).places);
          counted = omega (arith, w.as_long_counts, (fine_enough planned-fine).counts);
          fan = planned-fan;
          text = ap (λ (x : ℕ). fan_text k x places₁ counts₁) u;
        });
        says = written-said (fan_text k v places₁ counts₁) was (wanting k v places₁ counts₁ (length was))
            (ap (λ (x : ℕ). wanting k x places₁ counts₁ (length was)) u ∙ plan_roomy (length was) h) t l;
      }
