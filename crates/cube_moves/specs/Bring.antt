-- The far paths are taken home: one straight over f or home to it, the others beside it (`fetch_none`, `fetch_straight`, `fetch_home`, then
-- `fetch_step` for each). Assumes nothing.
use Rattle.std.specs.Prelude.{ℕ, ◌+◌, ◌*◌, ◌^◌, ◌≤◌, ◌<◌, ◌≡◌, refl, List, [], ◌∷◌, length}
use Rattle.std.proofs.Common.{sym, ap, ap₂, ◌∙◌, subst, arith}
use Rattle.std.specs.Int.Bits.{bit_xor, bit_or}
use Rattle.std.proofs.lemmas.Nat.{xor_comm}
use Rattle.std.specs.Int.Count.{ones}
use Rattle.bits.specs.Bit.{bit, flip}
use Rattle.bits.specs.Laws.{bit-none, flip-flip, ones_clear, flip_comm}
use Rattle.cube_math.specs.Doors.{Doors}
use Rattle.cube_math.specs.Paths.{bit-not-one}
use Rattle.cube_math.specs.Masks.{less}
use Rattle.cube_math.specs.Choose.{cleared, ones-some}
use Rattle.cube_math.specs.Loops.{Plus, plus_or, Bringing, bring_start, bring_straight, bring_turn, bring_home}
use Rattle.cube_rows.specs.Grid.{hops, Only, only_rest, only_more, Sets, Keeps, keeps_none, keeps_more, keeps_one}
use Rattle.cube_moves.specs.Sort.{of-flip}
use Rattle.cube_moves.specs.Halves.{Standing, low_count}

-- the rows m are rows of the grid whose paths have a relay, and room for one more
pub record Ready (w m : ℕ) (g : List ℕ) : Type 0 where
  pub row : (j : ℕ) → bit j m ≡ 1 → j * w + w ≤ length g
  pub room : (j : ℕ) → bit j m ≡ 1 → length (hops w g j) + 1 < w
  pub some : (j : ℕ) → bit j m ≡ 1 → 0 < length (hops w g j)

-- row j, which began with x, now begins with x^b; v is the dimension that leads from f to x
pub record Turns (b f j w : ℕ) (before after : List ℕ) (v : ℕ) : Type 0 where
  pub only : Only w j before after
  pub is : (x : ℕ) (l : List ℕ) → hops w before j ≡ x ∷ l → (hops w after j ≡ flip x b ∷ hops w before j) × (v ≡ bit_xor x f)

-- row j, which began with x, now is x^b, x, f
pub record Homes (b f j w : ℕ) (before after : List ℕ) (v : ℕ) : Type 0 where
  pub only : Only w j before after
  pub is : (x : ℕ) (l : List ℕ) → hops w before j ≡ x ∷ l → (hops w after j ≡ flip x b ∷ x ∷ f ∷ []) × (v ≡ bit_xor x f)

pub turns_is : (b f j w x₁ y : ℕ) (g h : List ℕ) → ((x : ℕ) (l : List ℕ) → hops w g j ≡ x ∷ l → x₁ ≡ x) → y ≡ flip x₁ b → Sets w g h j (y ∷ hops w g j) → Turns b f j w g h (bit_xor x₁ f)
turns_is b f j w x₁ y g h e q a = record {
  only = a.only;
  is = λ x l r. (a.is ∙ ap (λ (z : ℕ). z ∷ hops w g j) (q ∙ ap (λ (z : ℕ). flip z b) (e x l r)), ap (λ (z : ℕ). bit_xor z f) (e x l r));
}

pub homes_is : (b f j w x₁ y : ℕ) (g g₁ g₂ g₃ : List ℕ) → ((x : ℕ) (l : List ℕ) → hops w g j ≡ x ∷ l → x₁ ≡ x) → Sets w g g₁ j (f ∷ []) → Sets w g₁ g₂ j (x₁ ∷ hops w g₁ j)
    → y ≡ flip x₁ b → Sets w g₂ g₃ j (y ∷ hops w g₂ j) → Homes b f j w g g₃ (bit_xor x₁ f)
homes_is b f j w x₁ y g g₁ g₂ g₃ e a p q z = record {
  only = only_more a.only (only_more p.only z.only);
  is = λ x l r. (
    z.is ∙ ap₂ (λ (u : ℕ) (v : List ℕ). u ∷ v) (q ∙ ap (λ (u : ℕ). flip u b) (e x l r)) (p.is ∙ ap₂ (λ (u : ℕ) (v : List ℕ). u ∷ v) (e x l r) a.is),
    ap (λ (u : ℕ). bit_xor u f) (e x l r),
  );
}

pub ready_step : {b f w v : ℕ} {g h : List ℕ} (todo j next : ℕ) → Ready w todo g → bit j todo ≡ 1 → Turns b f j w g h v → next ≡ flip todo j → Ready w next h
ready_step {b} {f} {w} {v} {g} {h} todo j next a o k e = subst (λ (y : ℕ). Ready w y h) (sym e) (record {
  row = λ c p. omega (arith, a.row c (cleared todo j o c p).0, k.only.long);
  room = λ c p. let y = cleared todo j o c p in subst (λ (l : List ℕ). length l + 1 < w) (sym (only_rest k.only c y.1)) (a.room c y.0);
  some = λ c p. let y = cleared todo j o c p in subst (λ (l : List ℕ). 0 < length l) (sym (only_rest k.only c y.1)) (a.some c y.0);
})

-- what has come home, given the far fan
pub record Home (rest s b shut far w todo used : ℕ) (to toF : ℕ → ℕ) (before after : List ℕ) : Type 0 where
  pub own : ℕ
  pub quota : ℕ
  pub bringing : Bringing (ones rest) rest s b shut (less shut (2 ^ b)) far own todo used quota to toF (hops w before) (hops w after)
  pub count : quota + ones (less shut (2 ^ b)) + 1 ≡ ones far + ones shut
  pub same : (j : ℕ) → bit j todo ≡ 1 → toF j ≡ to j

pub record Fetched (b f shut far home w : ℕ) (before after : List ℕ) (todo used : ℕ) : Type 0 where
  pub keeps : Keeps w far before after
  pub sub : (j : ℕ) → bit j todo ≡ 1 → bit j far ≡ 1
  pub ahead : (j : ℕ) → bit j todo ≡ 1 → hops w after j ≡ hops w before j
  pub brings : (s rest : ℕ) (to toF : ℕ → ℕ) → f ≡ flip s b → Doors (ones rest) rest (flip s b) (less shut (2 ^ b)) far toF (hops w before)
      → Standing s b shut far home to toF → Home rest s b shut far w todo used to toF before after

-- x = f^i over b is s^i, and x ^ f is 2^i
beside : (s b i : ℕ) → flip (flip (flip s b) i) b ≡ flip s i
beside s b i = flip_comm (flip s b) i b ∙ ap (λ (y : ℕ). flip y i) (flip-flip s b)

dim-of : (f i : ℕ) → bit_xor (flip f i) f ≡ 2 ^ i
dim-of f i = xor_comm (flip f i) f ∙ of-flip f (flip f i) i refl

module _ (b f shut far home w : ℕ) (g : List ℕ) where
  -- no row goes straight, and none is home
  pub fetch_none : home ≡ 0 → bit b shut ≡ 1 → Fetched b f shut far home w g g far 0
  fetch_none z o = record {
    keeps = keeps_none w far g;
    sub = λ j p. p;
    ahead = λ j p. refl;
    brings = λ s rest to toF e fan st. record {
      own = 0;
      quota = ones far;
      bringing = bring_start (ones rest) rest s b shut (less shut (2 ^ b)) far 0 to toF (hops w g);
      count = omega (arith, low_count shut b);
      same = λ j p. st.same j p (ap (bit j) z ∙ bit-none j);
    };
  }

  -- one row goes straight
  pub fetch_straight : (j next : ℕ) (h : List ℕ) → home ≡ 0 → bit b shut ≡ 0 → bit j far ≡ 1 → Sets w g h j (f ∷ hops w g j) → next ≡ flip far j → Fetched b f shut far home w g h next 0
  fetch_straight j next h z y o a e = subst (λ (t : ℕ). Fetched b f shut far home w g h t 0) (sym e) (record {
    keeps = keeps_one j o a.only;
    sub = λ c p. (cleared far j o c p).0;
    ahead = λ c p. only_rest a.only c (cleared far j o c p).1;
    brings = λ s rest to toF q fan st.
        let same : (c : ℕ) → bit c far ≡ 1 → toF c ≡ to c = λ c p. st.same c p (ap (bit c) z ∙ bit-none c) in
        record {
          own = j;
          quota = ones (flip far j);
          bringing = bring_straight (ones rest) rest s b shut (less shut (2 ^ b)) far j to toF (hops w g) (ones (flip far j))
              (bring_start (ones rest) rest s b shut (less shut (2 ^ b)) far j to toF (hops w g)) o y (same j o)
              (a.is ∙ ap (λ (u : ℕ). u ∷ hops w g j) q) (only_rest a.only) (ones_clear j far o);
          count = omega (arith, low_count shut b, ones_clear j far o);
          same = λ c p. same c (cleared far j o c p).0;
        };
  })

  -- the row of f
  pub fetch_home : (j next used : ℕ) (h : List ℕ) → bit j home ≡ 1 → bit j far ≡ 1 → Homes b f j w g h used → next ≡ flip far j → Fetched b f shut far home w g h next used
  fetch_home j next used h oh o a e = subst (λ (t : ℕ). Fetched b f shut far home w g h t used) (sym e) (record {
    keeps = keeps_one j o a.only;
    sub = λ c p. (cleared far j o c p).0;
    ahead = λ c p. only_rest a.only c (cleared far j o c p).1;
    brings = λ s rest to toF q fan st.
        let v = (fan.each j o).door in
        let x = a.is (flip (flip s b) v.dim) v.rest v.first in
        let dim : used ≡ 2 ^ v.dim = x.1 ∙ ap (bit_xor (flip (flip s b) v.dim)) q ∙ dim-of (flip s b) v.dim in
        let path : hops w h j ≡ flip s v.dim ∷ flip (flip s b) v.dim ∷ flip s b ∷ [] =
        x.0 ∙ ap₂ (λ (u w : ℕ). u ∷ flip (flip s b) v.dim ∷ w ∷ []) (beside s b v.dim) q in
        record {
          own = j;
          quota = ones far;
          bringing = bring_home (ones rest) rest s b shut (less shut (2 ^ b)) far j to toF (hops w g) used
              (bring_start (ones rest) rest s b shut (less shut (2 ^ b)) far j to toF (hops w g)) o v
              (subst (λ (y : ℕ). Plus 0 v.dim y) (sym dim) (plus_or 0 v.dim)) (st.is j oh).0 (ones-some rest v.dim v.within) path (only_rest a.only);
          count = omega (arith, low_count shut b, (st.is j oh).1);
          same = λ c p. let y = cleared far j o c p in st.same c y.0 (bit-not-one c home (λ w. y.1 (st.one c j w oh)));
        };
  })

  -- one row more
  pub fetch_step : (g₁ h : List ℕ) (todo used j next v : ℕ) → Fetched b f shut far home w g g₁ todo used → bit j todo ≡ 1 → Turns b f j w g₁ h v → next ≡ flip todo j
      → Fetched b f shut far home w g h next (bit_or used v)
  fetch_step g₁ h todo used j next v₁ k o a e = subst (λ (t : ℕ). Fetched b f shut far home w g h t (bit_or used v₁)) (sym e) (record {
    keeps = keeps_more k.keeps (keeps_one j (k.sub j o) a.only);
    sub = λ c p. k.sub c (cleared todo j o c p).0;
    ahead = λ c p. let y = cleared todo j o c p in only_rest a.only c y.1 ∙ k.ahead c y.0;
    brings = λ s rest to toF q fan st.
        let m = k.brings s rest to toF q fan st in
        let v = (fan.each j (k.sub j o)).door in
        let x = a.is (flip (flip s b) v.dim) v.rest (k.ahead j o ∙ v.first) in
        let dim : v₁ ≡ 2 ^ v.dim = x.1 ∙ ap (bit_xor (flip (flip s b) v.dim)) q ∙ dim-of (flip s b) v.dim in
        record {
          own = m.own;
          quota = m.quota;
          bringing = bring_turn (ones rest) rest s b shut (less shut (2 ^ b)) far m.own to toF (hops w g) j (bit_or used v₁) m.bringing o v
              (subst (λ (y : ℕ). Plus used v.dim (bit_or used y)) (sym dim) (plus_or used v.dim)) (m.same j o)
              (x.0 ∙ ap (λ (u : ℕ). u ∷ hops w g₁ j) (beside s b v.dim)) (only_rest a.only);
          count = m.count;
          same = λ c p. m.same c (cleared todo j o c p).0;
        };
  })

  pub fetched_at : {h : List ℕ} {todo next used : ℕ} → todo ≡ next → Fetched b f shut far home w g h todo used → Fetched b f shut far home w g h next used
  fetched_at {h} {todo} {next} {used} e a = subst (λ (y : ℕ). Fetched b f shut far home w g h y used) e a
