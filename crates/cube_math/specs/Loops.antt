-- What the loops of a program that builds the fan keep, and what follows where they end. Each runs over the members of a mask `todo`, one by
-- one; `flip todo j` is what is left after j. Assumes nothing.
use Rattle.std.specs.Prelude.{ℕ, suc, ◌+◌, ◌-◌, ◌^◌, ◌≤◌, ◌≡◌, refl, ◌⊎◌, ◌≢◌, List, [], ◌∷◌}
use Rattle.std.proofs.Common.{sym, ap, ◌∙◌, subst, inl, inr, ⊎_elim, arith}
use Rattle.std.specs.Int.Bits.{bit_or}
use Rattle.std.specs.Int.Count.{ones}
use Rattle.bits.specs.Bit.{bit, flip}
use Rattle.bits.specs.Laws.{bit-none, bit-pow-same, bit-pow-other, clash, flip-other, ones_clear, ones-zero, ones-pow, same_or, flip-eq}
use Rattle.cube_math.specs.Doors.{Door, Doors}
use Rattle.cube_math.specs.Paths.{bit-not-one}
use Rattle.cube_math.specs.Masks.{less}
use Rattle.cube_math.specs.Beside.{Direct, Begun, begin}
use Rattle.cube_math.specs.Split.{Sides, Brought, Parts, join}
use Rattle.cube_math.specs.Request.{Request, Settled, request_part}
use Rattle.cube_math.specs.Choose.{cleared, or-on, or_left, or_right, less-on, less-or, ones-or}

-- ---- one member more: a | 1 << i

pub record Plus (a i r : ℕ) : Type 0 where
  pub on : bit i r ≡ 1
  pub keeps : (c : ℕ) → bit c a ≡ 1 → bit c r ≡ 1
  pub only : (c : ℕ) → bit c r ≡ 1 → (bit c a ≡ 1) ⊎ (c ≡ i)
  pub few : ones r ≤ ones a + 1

pub plus_or : (a i : ℕ) → Plus a i (bit_or a (2 ^ i))
plus_or a i = record {
  on = or_right i a (2 ^ i) (bit-pow-same i);
  keeps = λ c o. or_left c a (2 ^ i) o;
  only = λ c o. ⊎_elim inl (λ p. inr (⊎_elim (λ e. e) (λ ne. absurd (clash (bit-pow-other c i ne) p)) (same_or c i))) (or-on c a (2 ^ i) o);
  few = omega (arith, ones-or a (2 ^ i), ones-pow i);
}

-- out of flip m j: out of m, or j
gone : (m j c : ℕ) → bit c (flip m j) ≡ 0 → (c ≡ j) ⊎ (bit c m ≡ 0)
gone m j c z = ⊎_elim inl (λ ne. inr (sym (flip-other m j c ne) ∙ z)) (same_or c j)

at_member : (m : ℕ) {c j : ℕ} → c ≡ j → bit j m ≡ 1 → bit c m ≡ 1
at_member m e o = ap (λ (y : ℕ). bit y m) e ∙ o

-- ---- the targets behind open doors: `left` are those that are not reached at once, `more` what is shut by now

pub record Sorting (free s shut m todo left more : ℕ) (to : ℕ → ℕ) (rows : ℕ → List ℕ) : Type 0 where
  pub grows : (i : ℕ) → bit i shut ≡ 1 → bit i more ≡ 1
  pub held : (i : ℕ) → bit i more ≡ 1 → bit i free ≡ 1
  pub sub : (j : ℕ) → bit j left ≡ 1 → bit j m ≡ 1
  pub ahead : (j : ℕ) → bit j todo ≡ 1 → bit j left ≡ 1
  pub direct : (j : ℕ) → bit j m ≡ 1 → bit j left ≡ 0 → Direct free s shut more (to j) (rows j)
  pub settled : (j i : ℕ) → bit j left ≡ 1 → bit j todo ≡ 0 → bit i free ≡ 1 → to j ≡ flip s i → bit i more ≡ 1
  pub count : ones left + ones more ≤ ones m + ones shut

module _ (free s shut m : ℕ) (to : ℕ → ℕ) where
  pub sort_start : (rows : ℕ → List ℕ) → ((i : ℕ) → bit i shut ≡ 1 → bit i free ≡ 1) → Sorting free s shut m m m shut to rows
  sort_start rows held = record {
    grows = λ i o. o;
    held = held;
    sub = λ j o. o;
    ahead = λ j o. o;
    direct = λ j o z. absurd (clash z o);
    settled = λ j i o z. absurd (clash z o);
    count = omega arith;
  }

  -- j stays: its target is no neighbour of s behind an open door
  pub sort_skip : {todo left more : ℕ} {rows : ℕ → List ℕ} (j : ℕ) → Sorting free s shut m todo left more to rows → bit j todo ≡ 1
      → ((i : ℕ) → bit i free ≡ 1 → to j ≡ flip s i → bit i more ≡ 1) → Sorting free s shut m (flip todo j) left more to rows
  sort_skip {todo} {left} {more} {rows} j a o h = record {
    grows = a.grows;
    held = a.held;
    sub = a.sub;
    ahead = λ c p. a.ahead c (cleared todo j o c p).0;
    direct = a.direct;
    settled = λ c i p z f e. ⊎_elim (λ y. h i f (ap to (sym y) ∙ e)) (λ y. a.settled c i p y f e) (gone todo j c z);
    count = a.count;
  }

  -- j is reached at once through the open door i
  pub sort_take : {todo left more : ℕ} {rows after : ℕ → List ℕ} (j i again : ℕ) → Sorting free s shut m todo left more to rows → bit j todo ≡ 1
      → bit i free ≡ 1 → bit i more ≡ 0 → to j ≡ flip s i → Plus more i again
      → after j ≡ to j ∷ [] → ((c : ℕ) → c ≢ j → after c ≡ rows c) → Sorting free s shut m (flip todo j) (flip left j) again to after
  sort_take {todo} {left} {more} {rows} {after} j i again a o f z e p path keep = record {
    grows = λ c q. p.keeps c (a.grows c q);
    held = λ c q. ⊎_elim (a.held c) (λ y. at_member free y f) (p.only c q);
    sub = λ c q. a.sub c (cleared left j (a.ahead j o) c q).0;
    ahead = λ c q. let x = cleared todo j o c q in flip-other left j c x.1 ∙ a.ahead c x.0;
    direct = λ c q y. ⊎_elim
        (λ g. subst (λ (k : ℕ). Direct free s shut again (to k) (after k)) (sym g) (record {
          dim = i;
          within = f;
          ajar = bit-not-one i shut (λ k. clash z (a.grows i k));
          barred = p.on;
          stands = e;
          path = path;
        }))
        (λ g. ⊎_elim
        (λ k. absurd (clash g (at_member left k (a.ahead j o))))
        (λ ne. let d = a.direct c q g in record {
          dim = d.dim;
          within = d.within;
          ajar = d.ajar;
          barred = p.keeps d.dim d.barred;
          stands = d.stands;
          path = keep c ne ∙ d.path;
        }) (same_or c j))
        (gone left j c y);
    settled = λ c k q y g h.
        let x = cleared left j (a.ahead j o) c q in
        p.keeps k (a.settled c k x.0 (sym (flip-other todo j c x.1) ∙ y) g h);
    count = omega (arith, a.count, p.few, ones_clear j left (a.ahead j o));
  }

  -- all seen: what is left may be asked, and a fan for it, which keeps the rows that stand, is a fan for all
  module _ (left more : ℕ) (rows : ℕ → List ℕ) (a : Sorting free s shut m 0 left more to rows) (q : Request free s shut m to) where
    pub sorted_request : Request free s more left to
    sorted_request = request_part more left q a.sub a.held (omega (arith, a.count, q.room))

    pub sorted_settled : Settled free s more left to
    sorted_settled j i o f e = a.settled j i o (bit-none j) f e

    pub sorted_all : (n : ℕ) (after : ℕ → List ℕ) → Doors n free s more left to after → ((j : ℕ) → bit j left ≡ 0 → after j ≡ rows j) → Doors n free s shut m to after
    sorted_all n after fan keep = begin parts
      where
        parts : Begun n free s shut more m (less m left) left to after after
        parts = record {
          grows = a.grows;
          differs = q.differs;
          parts = λ j o. ⊎_elim inr inl (less-or j m left o);
          direct = λ j o. let x = less-on j m left o in
              subst (λ (l : List ℕ). Direct free s shut more (to j) l) (sym (keep j x.1)) (a.direct j x.0 x.1);
          fan = fan;
          stayed = λ j o. refl;
        }

-- ---- the far paths are taken home: `used` are the doors that they take, `quota` bounds how many they will be

pub record Bringing (n rest s b shut shutF mf own todo used quota : ℕ) (to toF : ℕ → ℕ) (far rows : ℕ → List ℕ) : Type 0 where
  pub sub : (j : ℕ) → bit j todo ≡ 1 → bit j mf ≡ 1
  pub ahead : (j : ℕ) → bit j todo ≡ 1 → rows j ≡ far j
  pub done : (j : ℕ) → bit j mf ≡ 1 → bit j todo ≡ 0 → Brought n rest s b shut shutF used own j (to j) (toF j) (far j) (rows j)
  pub held : (i : ℕ) → bit i used ≡ 1 → bit i rest ≡ 1
  pub count : ones used + ones todo ≤ quota

-- more doors used
brought_more : {n rest s b shut shutF used own j t d : ℕ} {l r : List ℕ} (again : ℕ) → ((c : ℕ) → bit c used ≡ 1 → bit c again ≡ 1)
    → Brought n rest s b shut shutF used own j t d l r → Brought n rest s b shut shutF again own j t d l r
brought_more again g (inl a) = inl a
brought_more again g (inr (inl a)) = inr (inl (record { via = a.via; same = a.same; path = a.path; barred = g a.via.dim a.barred }))
brought_more again g (inr (inr a)) =
    inr (inr (record { mine = a.mine; room = a.room; via = a.via; home = a.home; path = a.path; barred = g a.via.dim a.barred }))

module _ (n rest s b shut shutF mf own : ℕ) (to toF : ℕ → ℕ) (far : ℕ → List ℕ) where
  pub bring_start : Bringing n rest s b shut shutF mf own mf 0 (ones mf) to toF far far
  bring_start = record {
    sub = λ j o. o;
    ahead = λ j o. refl;
    done = λ j o z. absurd (clash z o);
    held = λ i o. absurd (clash (bit-none i) o);
    count = omega (arith, ones-zero);
  }

  -- one step: the path of j is taken home, with the doors `again` used
  bring_one : {todo used quota : ℕ} {rows after : ℕ → List ℕ} (j again less : ℕ) → Bringing n rest s b shut shutF mf own todo used quota to toF far rows
      → bit j todo ≡ 1 → ((c : ℕ) → bit c used ≡ 1 → bit c again ≡ 1) → ((c : ℕ) → bit c again ≡ 1 → bit c rest ≡ 1)
      → Brought n rest s b shut shutF again own j (to j) (toF j) (far j) (after j) → ((c : ℕ) → c ≢ j → after c ≡ rows c)
      → ones again + ones (flip todo j) ≤ less → Bringing n rest s b shut shutF mf own (flip todo j) again less to toF far after
  bring_one {todo} {used} {quota} {rows} {after} j again less a o grow held new keep count = record {
    sub = λ c p. a.sub c (cleared todo j o c p).0;
    ahead = λ c p. let x = cleared todo j o c p in keep c x.1 ∙ a.ahead c x.0;
    done = λ c p z. ⊎_elim
        (λ e. subst (λ (y : ℕ). Brought n rest s b shut shutF again own y (to y) (toF y) (far y) (after y)) (sym e) new)
        (λ y. ⊎_elim
        (λ e. absurd (clash y (at_member todo e o)))
        (λ ne. subst (λ (l : List ℕ). Brought n rest s b shut shutF again own c (to c) (toF c) (far c) l) (sym (keep c ne))
        (brought_more again grow (a.done c p y))) (same_or c j))
        (gone todo j c z);
    held = held;
    count = count;
  }

  -- straight over f: no door is used
  pub bring_straight : {todo used quota : ℕ} {rows after : ℕ → List ℕ} (less : ℕ) → Bringing n rest s b shut shutF mf own todo used quota to toF far rows
      → bit own todo ≡ 1 → bit b shut ≡ 0 → toF own ≡ to own → after own ≡ flip s b ∷ rows own → ((c : ℕ) → c ≢ own → after c ≡ rows c)
      → less + 1 ≡ quota → Bringing n rest s b shut shutF mf own (flip todo own) used less to toF far after
  bring_straight {todo} {used} {quota} {rows} {after} less a o z same path keep e =
      bring_one own used less a o (λ c p. p) a.held
      (inl (record { mine = refl; ajar = z; same = same; path = path ∙ ap (λ (l : List ℕ). flip s b ∷ l) (a.ahead own o) })) keep
      (omega (arith, a.count, ones_clear own todo o))

  -- its first dimension first
  pub bring_turn : {todo used quota : ℕ} {rows after : ℕ → List ℕ} (j again : ℕ) → Bringing n rest s b shut shutF mf own todo used quota to toF far rows
      → bit j todo ≡ 1 → (v : Door rest (flip s b) shutF (far j)) → Plus used v.dim again → toF j ≡ to j
      → after j ≡ flip s v.dim ∷ rows j → ((c : ℕ) → c ≢ j → after c ≡ rows c)
      → Bringing n rest s b shut shutF mf own (flip todo j) again quota to toF far after
  bring_turn {todo} {used} {quota} {rows} {after} j again a o v p same path keep =
      bring_one j again quota a o p.keeps (λ c q. ⊎_elim (a.held c) (λ e. at_member rest e v.within) (p.only c q))
      (inr (inl (record { via = v; same = same; path = path ∙ ap (λ (l : List ℕ). flip s v.dim ∷ l) (a.ahead j o); barred = p.on }))) keep
      (omega (arith, a.count, p.few, ones_clear j todo o))

  -- to f itself, from beside it
  pub bring_home : {todo used quota : ℕ} {rows after : ℕ → List ℕ} (again : ℕ) → Bringing n rest s b shut shutF mf own todo used quota to toF far rows
      → bit own todo ≡ 1 → (v : Door rest (flip s b) shutF (far own)) → Plus used v.dim again → to own ≡ flip s b → 1 ≤ n
      → after own ≡ flip s v.dim ∷ flip (flip s b) v.dim ∷ flip s b ∷ [] → ((c : ℕ) → c ≢ own → after c ≡ rows c)
      → Bringing n rest s b shut shutF mf own (flip todo own) again quota to toF far after
  bring_home {todo} {used} {quota} {rows} {after} again a o v p home room path keep =
      bring_one own again quota a o p.keeps (λ c q. ⊎_elim (a.held c) (λ e. at_member rest e v.within) (p.only c q))
      (inr (inr (record { mine = refl; room = room; via = v; home = home; path = path; barred = p.on }))) keep
      (omega (arith, a.count, p.few, ones_clear own todo o))

  -- all home; then the near side, which keeps their rows
  pub brought_all : {used quota : ℕ} {rows after : ℕ → List ℕ} (free shutN m mn : ℕ) → Bringing n rest s b shut shutF mf own 0 used quota to toF far rows
      → Sides free rest b shut shutF shutN → ((i : ℕ) → bit i used ≡ 1 → bit i shutN ≡ 1)
      → Doors n rest (flip s b) shutF mf toF far → Doors n rest s shutN mn to after
      → ((j : ℕ) → bit j m ≡ 1 → (bit j mf ≡ 1) ⊎ (bit j mn ≡ 1)) → ((j : ℕ) → bit j mn ≡ 1 → bit j m ≡ 1) → ((j : ℕ) → bit j mf ≡ 1 → after j ≡ rows j)
      → Settled free s shut m to → Doors (suc n) free s shut m to after
  brought_all {used} {quota} {rows} {after} free shutN m mn a sides more fan near parts sub keep settled = join whole
    where
      whole : Parts n free rest s b shut shutF shutN m mf mn own to toF far after after
      whole = record {
        sides = sides;
        far-fan = fan;
        near-fan = near;
        parts = parts;
        brought = λ j o. subst (λ (l : List ℕ). Brought n rest s b shut shutF shutN own j (to j) (toF j) (far j) l) (sym (keep j o))
            (brought_more shutN more (a.done j o (bit-none j)));
        stayed = λ j o. refl;
        settled = λ j i o. settled j i (sub j o);
      }

-- ---- a relay beside f that is no far target: `taken` are the dimensions that will not do

pub record Taking (f shutF mt todo taken : ℕ) (to : ℕ → ℕ) : Type 0 where
  pub shut : (i : ℕ) → bit i shutF ≡ 1 → bit i taken ≡ 1
  pub done : (j i : ℕ) → bit j mt ≡ 1 → bit j todo ≡ 0 → to j ≡ flip f i → bit i taken ≡ 1
  pub count : ones taken + ones todo ≤ ones shutF + ones mt

module _ (f shutF mt : ℕ) (to : ℕ → ℕ) where
  pub take-start : Taking f shutF mt mt shutF to
  take-start = record { shut = λ i o. o; done = λ j i o z. absurd (clash z o); count = omega arith }

  pub take-skip : {todo taken : ℕ} (j : ℕ) → Taking f shutF mt todo taken to → bit j todo ≡ 1 → ((i : ℕ) → to j ≢ flip f i) → Taking f shutF mt (flip todo j) taken to
  take-skip {todo} {taken} j a o none = record {
    shut = a.shut;
    done = λ c i p z e. ⊎_elim (λ y. absurd (none i (ap to (sym y) ∙ e))) (λ y. a.done c i p y e) (gone todo j c z);
    count = omega (arith, a.count, ones_clear j todo o);
  }

  pub take-one : {todo taken : ℕ} (j i again : ℕ) → Taking f shutF mt todo taken to → bit j todo ≡ 1 → to j ≡ flip f i → Plus taken i again
      → Taking f shutF mt (flip todo j) again to
  take-one {todo} {taken} j i again a o e p = record {
    shut = λ c q. p.keeps c (a.shut c q);
    done = λ c d q z h. ⊎_elim
        (λ y. at_member again (flip-eq f d i (sym h ∙ ap to y ∙ e)) p.on)
        (λ y. p.keeps d (a.done c d q y h)) (gone todo j c z);
    count = omega (arith, a.count, p.few, ones_clear j todo o);
  }

  -- any dimension that is not taken will do; there is one where the sum is below the number of dimensions (`less-some`)
  pub taken_none : {taken : ℕ} (w j : ℕ) → Taking f shutF mt 0 taken to → bit w taken ≡ 0 → bit j mt ≡ 1 → to j ≢ flip f w
  taken_none {taken} w j a z o e = clash z (a.done j w o (bit-none j) e)
