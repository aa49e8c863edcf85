-- Who takes over the block path through the door p0, and by which tail: what the parts of the search give. Assumes nothing.
use Rattle.std.specs.Prelude.{ℕ, zero, suc, ◌+◌, ◌-◌, ◌*◌, ◌^◌, ◌<◌, ◌≡◌, refl, ◌⊎◌, ◌≢◌, Bool, true, List, [], ◌∷◌, ◌++◌, Option, Some, None, length, get_or, eqb}
use Rattle.std.proofs.Common.{sym, ap, ◌∙◌, subst, ⊎_elim, arith, length-append, eq-eqb}
use Rattle.std.proofs.Math.ListN.{get_or-append}
use Rattle.std.proofs.lemmas.List.{get_or_at}
use Rattle.std.specs.Int.Bits.{bit_xor}
use Rattle.std.proofs.lemmas.Nat.{xor_lt}
use Rattle.std.specs.Int.Count.{ones}
use Rattle.bits.specs.Bit.{bit, flip, Lowest}
use Rattle.bits.specs.Laws.{bit-none, bit-on, clash, flip-other, lt-or, ones_clear, xor-zero-eq, flip-moves, flip-eq, same_or}
use Rattle.cube_math.specs.Doors.{Walk}
use Rattle.cube_math.specs.Choose.{cleared}
use Rattle.cube_math.specs.Plain.{full-below}
use Rattle.bits.specs.Parts.{bit_below}
use Rattle.two_write.specs.Row.{hops, hops-length}
use Rattle.two_math.specs.Loops.{last, walk_split, walk_hop, door-of}
use Rattle.two_gate.specs.Says.{Tells}

-- ---- the crowd

-- the block paths of the crowds
pub record Crowds (reps : ℕ) (g : List ℕ) : Type 0 where
  pub few : (r : ℕ) → bit r reps ≡ 1 → r < 8
  pub short : (r : ℕ) → bit r reps ≡ 1 → length (hops g (8 + r)) < 34
  pub some : (r : ℕ) → bit r reps ≡ 1 → (x : ℕ) × (l : List ℕ) × (hops g (8 + r) ≡ x ∷ l)

-- r is the crowd whose block path begins with `front`
pub record CrowdBy (reps front : ℕ) (g : List ℕ) (o : Option ℕ) : Type 0 where
  pub found : (r : ℕ) → o ≡ Some r → (bit r reps ≡ 1) × ((l : List ℕ) × (hops g (8 + r) ≡ front ∷ l))
  pub none : o ≡ None → (q : ℕ) (l : List ℕ) → bit q reps ≡ 1 → hops g (8 + q) ≡ front ∷ l → ⊥

-- ---- who is met

-- the gated target i of b has its slot or its gate slot at x
abbrev pub Meets : (tb tp gate : ℕ → ℕ) (gated b x i : ℕ) → Type 0
Meets tb tp gate gated b x i = (bit i gated ≡ 1) × (tb i ≡ b) × ((x ≡ gate i) ⊎ (x ≡ tp i))

abbrev pub Hit : (k : ℕ) (tb tp gate : ℕ → ℕ) (gated b x : ℕ) → Type 0
Hit k tb tp gate gated b x = (i : ℕ) × (i < k) × Meets tb tp gate gated b x i

-- i is met at x, or nobody is
pub record Met (k : ℕ) (tb tp gate : ℕ → ℕ) (gated b x : ℕ) (o : Option ℕ) : Type 0 where
  pub found : (i : ℕ) → o ≡ Some i → (i < k) × Meets tb tp gate gated b x i
  pub none : o ≡ None → Hit k tb tp gate gated b x → ⊥

pub met_found : {k : ℕ} (tb tp gate : ℕ → ℕ) (gated b x i : ℕ) → i < k → Meets tb tp gate gated b x i → Met k tb tp gate gated b x (Some i)
met_found {k} tb tp gate gated b x i lt m = record {
  found = λ q s. let same : i ≡ q = cc in subst (λ (y : ℕ). (y < k) × Meets tb tp gate gated b x y) same (lt, m);
  none = λ z. cc;
}

pub none_more : (A : ℕ → Type 0) (n : ℕ) → ((i : ℕ) → i < n → A i → ⊥) → (A n → ⊥) → (i : ℕ) → i < n + 1 → A i → ⊥
none_more A n h g i l a = ⊎_elim (λ q. h i q a) (λ r. ⊎_elim (λ e. g (subst A e a)) (λ q. absurd (omega arith)) r) (lt-or i n)

-- ---- the loops, in the code's words

pub dim_small : (u q d : ℕ) → u < 32 → q < 32 → Lowest 64 (bit_xor u q) d → d < 5
dim_small u q d hu hq low = bit_below 5 d (bit_xor u q) (xor_lt 5 u q hu hq) low.set

-- after some crowds, `todo` are left
pub record Crowding (reps front : ℕ) (g : List ℕ) (todo : ℕ) : Type 0 where
  pub ahead : (r : ℕ) → bit r todo ≡ 1 → bit r reps ≡ 1
  pub none : (r : ℕ) (l : List ℕ) → bit r reps ≡ 1 → bit r todo ≡ 0 → hops g (8 + r) ≡ front ∷ l → ⊥

pub crowding_none : (reps front : ℕ) (g : List ℕ) → Crowding reps front g reps
crowding_none reps front g = record { ahead = λ r o. o; none = λ r l o z. absurd (clash z o) }

-- v is the first relay of the row
abbrev pub FirstIs : (g : List ℕ) (row v : ℕ) → Type 0
FirstIs g row v = v ≡ get_or (hops g row) 0 0

first_in : (g : List ℕ) (row v : ℕ) → FirstIs g row v → (x : ℕ) (l : List ℕ) → hops g row ≡ x ∷ l → v ≡ x
first_in g row v f x l e = f ∙ ap (λ (y : List ℕ). get_or y 0 0) e

-- the row of a crowd can be read
pub crowd_read : {reps : ℕ} {g : List ℕ} (r : ℕ) → Crowds reps g → bit r reps ≡ 1 → (8 + r < 16) × (length (hops g (8 + r)) < 34) × (0 < length (hops g (8 + r)))
crowd_read r a o = let x = a.some r o in (omega (arith, a.few r o), a.short r o, omega (arith, ap length x.2))

-- the same of a whole grid, as an array has it
pub crowd_whole : {reps : ℕ} {g : List ℕ} (r : ℕ) → length g ≡ 560 → Crowds reps g → bit r reps ≡ 1 → (8 + r < 16) × (length g ≡ 560) × (length (hops g (8 + r)) < 34) × (0 < length (hops g (8 + r)))
crowd_whole r w a o = let x = crowd_read r a o in (x.0, w, x.1, x.2)

pub crowding_more : {reps front : ℕ} {g : List ℕ} {todo : ℕ} (r v next : ℕ) → Crowding reps front g todo → bit r todo ≡ 1 → FirstIs g (8 + r) v → v ≢ front → next ≡ flip todo r
    → Crowding reps front g next
crowding_more {reps} {front} {g} {todo} r v next k o f ne e =
    subst (λ (y : ℕ). Crowding reps front g y) (sym e) (record {
      ahead = λ q p. k.ahead q (cleared todo r o q p).0;
      none = λ q l p z h. ⊎_elim (λ s. ne (first_in g (8 + r) v f front l (ap (λ (y : ℕ). hops g (8 + y)) (sym s) ∙ h))) (λ n. k.none q l p (sym (flip-other todo r q n) ∙ z) h) (same_or q r);
    })

pub crowd_found : {reps front : ℕ} {g : List ℕ} (r v : ℕ) → Crowds reps g → bit r reps ≡ 1 → FirstIs g (8 + r) v → v ≡ front → CrowdBy reps front g (Some r)
crowd_found {reps} {front} {g} r v a o f e =
    let x = a.some r o in
    let first : hops g (8 + r) ≡ front ∷ x.1 = x.2 ∙ ap (λ (y : ℕ). y ∷ x.1) (sym (first_in g (8 + r) v f x.0 x.1 x.2) ∙ e) in
    record {
      found = λ q s. let same : r ≡ q = cc in subst (λ (y : ℕ). (bit y reps ≡ 1) × ((l : List ℕ) × (hops g (8 + y) ≡ front ∷ l))) same (o, (x.1, first));
      none = λ z. cc;
    }

pub crowd_none : {reps front : ℕ} {g : List ℕ} → Crowding reps front g 0 → CrowdBy reps front g None
crowd_none k = record { found = λ r e. cc; none = λ e q l o. k.none q l o (bit-none q) }

-- what is told of one target
pub meets_to : (tb tp gate : ℕ → ℕ) (gated b x i : ℕ) {f r : Bool} → f ≡ eqb (bit i gated) 1 → Tells ((f ≡ true) × (tb i ≡ b) × ((x ≡ gate i) ⊎ (x ≡ tp i))) r → Tells (Meets tb tp gate gated b x i) r
meets_to tb tp gate gated b x i e t = record {
  so = λ s. let m = t.so s in (bit-on i gated (sym e ∙ m.0), m.1, m.2);
  not = λ s m. t.not s (e ∙ eq-eqb (bit i gated) 1 m.0, m.1, m.2);
}

pub fewer : (todo j next : ℕ) → bit j todo ≡ 1 → next ≡ flip todo j → ones next < ones todo
fewer todo j next o e = omega (arith, ones_clear j todo o, ap ones e)

-- ---- the last door of a block path

-- the block path of the row, from s0 by the door p0 to `end`
pub record LastAsk (m s0 p0 end : ℕ) (g : List ℕ) (row : ℕ) : Type 0 where
  pub row_in : row < 16
  pub short : length (hops g row) < 34
  pub walk : Walk (2 ^ (2 ^ m) - 1) s0 end (hops g row)
  pub rest : List ℕ
  pub first : hops g row ≡ flip s0 p0 ∷ rest
  pub home : p0 < 2 ^ m

-- `end` is entered by the slot e, from the last of the blocks before it
pub record Enters (m s0 end : ℕ) (g : List ℕ) (row e : ℕ) : Type 0 where
  pub within : e < 2 ^ m
  pub route : List ℕ
  pub splits : hops g row ≡ route ++ (end ∷ [])
  pub door : end ≡ flip (last s0 route) e

module _ {m s0 p0 end : ℕ} {g : List ℕ} {row : ℕ} (a : LastAsk m s0 p0 end g row) where
  split : (r : List ℕ) × (d : ℕ) × (bit d (2 ^ (2 ^ m) - 1) ≡ 1) × (hops g row ≡ r ++ (end ∷ [])) × (end ≡ flip (last s0 r) d)
  split =
      let w = walk_split (2 ^ (2 ^ m) - 1) s0 end (flip s0 p0) a.rest (subst (λ (l : List ℕ). Walk (2 ^ (2 ^ m) - 1) s0 end l) a.first a.walk) in
      (w.0, w.1, w.2, a.first ∙ w.3, w.4)

  size : length (hops g row) ≡ length split.0 + 1
  size = ap length split.3 ∙ length-append split.0 (end ∷ [])

  pub some-hops : 0 < length (hops g row)
  some-hops = omega (arith, size)

  enters : (e : ℕ) → e ≡ split.1 → Enters m s0 end g row e
  enters e q = record {
    within = subst (λ (y : ℕ). y < 2 ^ m) (sym q) (full-below (2 ^ m) split.1 split.2);
    route = split.0;
    splits = split.3;
    door = split.4 ∙ ap (flip (last s0 split.0)) (sym q);
  }

  -- one block: it is entered by p0
  pub enters-first : length (hops g row) ≡ 1 → Enters m s0 end g row p0
  enters-first e = enters p0 (flip-eq s0 p0 split.1 (head split.0 (omega (arith, size)) (sym a.first ∙ split.3) ∙ ends split.0 (omega (arith, size)) split.4))
    where
      head : (r : List ℕ) → length r ≡ 0 → flip s0 p0 ∷ a.rest ≡ r ++ (end ∷ []) → flip s0 p0 ≡ end
      head [] z q = cc
      head (x ∷ r) z q = absurd (omega arith)

      ends : (r : List ℕ) → length r ≡ 0 → end ≡ flip (last s0 r) split.1 → end ≡ flip s0 split.1
      ends [] z q = q
      ends (x ∷ r) z q = absurd (omega arith)

  -- more: by the door between the last two
  pub enters-door : (n x y e : ℕ) → n ≡ length (hops g row) → 1 < n → x ≡ get_or (hops g row) (n - 2) 0 → y ≡ get_or (hops g row) (n - 1) 0 → Lowest 64 (bit_xor x y) e → Enters m s0 end g row e
  enters-door n x y e en big ex ey low = enters e (door-of 64 x y split.1 e (ey ∙ at-end ∙ split.4 ∙ ap (λ (u : ℕ). flip u split.1) (sym (ex ∙ before))) low)
    where
      at-end : get_or (hops g row) (n - 1) 0 ≡ end
      at-end = ap (λ (l : List ℕ). get_or l (n - 1) 0) split.3 ∙ get_or_at split.0 end [] 0 (n - 1) (omega (arith, size))

      at_last : (u : ℕ) (r : List ℕ) → 0 < length r → get_or r (length r - 1) 0 ≡ last u r
      at_last u [] h = absurd (omega arith)
      at_last u (v ∷ []) h = refl
      at_last u (v ∷ w ∷ r) h =
          let p : length (v ∷ w ∷ r) - 1 ≡ suc (length (w ∷ r) - 1) = omega arith in
          ap (λ (i : ℕ). get_or (v ∷ w ∷ r) i 0) p ∙ at_last v (w ∷ r) (omega arith)

      place : n - 2 ≡ length split.0 - 1
      place = omega (arith, size)

      before : get_or (hops g row) (n - 2) 0 ≡ last s0 split.0
      before = ap (λ (l : List ℕ). get_or l (n - 2) 0) split.3 ∙ get_or-append split.0 (end ∷ []) 0 (n - 2) (omega (arith, size))
          ∙ ap (λ (i : ℕ). get_or split.0 i 0) place ∙ at_last s0 split.0 (omega (arith, size))

  -- the last two blocks differ
  pub last_differ : (n x y : ℕ) → n ≡ length (hops g row) → 1 < n → x ≡ get_or (hops g row) (n - 2) 0 → y ≡ get_or (hops g row) (n - 1) 0 → bit_xor x y ≢ 0
  last_differ n x y en big ex ey z =
      let w = walk_hop (2 ^ (2 ^ m) - 1) s0 end (n - 1) (hops g row) a.walk (omega arith) in
      flip-moves (get_or (s0 ∷ hops g row) (n - 1) 0) w.0 (sym w.2 ∙ sym ey ∙ sym (xor-zero-eq x y z) ∙ ex ∙ same (hops g row) n big)
    where
      same : (l : List ℕ) (n : ℕ) → 1 < n → get_or l (n - 2) 0 ≡ get_or (s0 ∷ l) (n - 1) 0
      same l zero h = absurd (omega arith)
      same l (suc zero) h = absurd (omega arith)
      same l (suc (suc n)) h = ap (λ (i : ℕ). get_or l i 0) (omega arith) ∙ sym (ap (λ (i : ℕ). get_or (s0 ∷ l) i 0) (one n))
        where
          one : (n : ℕ) → suc (suc n) - 1 ≡ suc n
          one n = omega arith

-- a row says how many relays it has
pub row_count : (g : List ℕ) (j : ℕ) → length (hops g j) < 34 → get_or g (j * 35) 0 ≡ length (hops g j)
row_count g j h = omega (arith, hops-length g j)
