-- The two sides of a dimension: what is asked on the far side, where a relay may stand in for f = s^b (`divided`). Assumes nothing.
use Rattle.std.specs.Prelude.{ℕ, ◌+◌, ◌-◌, ◌^◌, ◌≤◌, ◌<◌, ◌≡◌, ◌⊎◌, ◌≢◌, List, [], ◌∷◌}
use Rattle.std.proofs.Common.{sym, ap, ◌∙◌, subst, inl, inr, ⊎_elim, arith}
use Rattle.std.specs.Int.Bits.{bit_xor, bit_and, xor_self}
use Rattle.std.specs.Int.Count.{ones}
use Rattle.bits.specs.Bit.{bit, flip}
use Rattle.bits.specs.Laws.{bit-cases, bit-lt, bit-and, bit-none, bit-pow-same, bit-pow-other, clash, flip-same, flip-other, ones_clear, same-all-bits, same_or, flip_turns}
use Rattle.cube_math.specs.Paths.{bit-not-one, off_on}
use Rattle.cube_math.specs.Masks.{less, bit-less}
use Rattle.cube_math.specs.Single.{bit_differs, differs_bit}
use Rattle.cube_math.specs.Choose.{Chosen, less-or, ones-less, ones-some}
use Rattle.cube_math.specs.Request.{Request, Settled, without-flip, far_request}
use Rattle.cube_rows.specs.Grid.{hops, target, Keeps, New, lone-target, new_same, new_kept}
use Rattle.cube_moves.specs.Cut.{Like, Unlike, HomeOf, Parting, StoodIn}

-- ---- both sides

-- `rest` is free less b, f is s^b, `low` is shut less b, `far` the rows on the other side of b
pub record Halved (free s shut m : ℕ) (to : ℕ → ℕ) (b rest f low far : ℕ) : Type 0 where
  pub small : b < 64
  pub within : bit b free ≡ 1
  pub is_rest : rest ≡ flip free b
  pub is_f : f ≡ flip s b
  pub is_low : low ≡ less shut (2 ^ b)
  pub side : Chosen (λ j. bit b (to j) ≢ bit b s) (λ j. bit b (to j) ≡ bit b s) m far
  pub near-some : 1 ≤ ones (less m far)
  pub far_some : far ≢ 0

-- what stands in for f, the target of the row of `home`
pub record Standing (s b shut far home : ℕ) (to toF : ℕ → ℕ) : Type 0 where
  pub same : (j : ℕ) → bit j far ≡ 1 → bit j home ≡ 0 → toF j ≡ to j
  pub sub : (j : ℕ) → bit j home ≡ 1 → bit j far ≡ 1
  pub is : (j : ℕ) → bit j home ≡ 1 → (to j ≡ flip s b) × (bit b shut ≡ 1)
  pub one : (i j : ℕ) → bit i home ≡ 1 → bit j home ≡ 1 → i ≡ j

-- the bits of shut less b
pub low-other : (shut b i : ℕ) → i ≢ b → bit i (less shut (2 ^ b)) ≡ bit i shut
low-other shut b i ne = omega (arith, bit-less i shut (2 ^ b), bit-pow-other i b ne)

pub low_same : (shut b : ℕ) → bit b (less shut (2 ^ b)) ≡ 0
low_same shut b = omega (arith, bit-less b shut (2 ^ b), bit-pow-same b, bit-lt b shut)

pub low_count : (shut b : ℕ) → ones (less shut (2 ^ b)) + bit b shut ≡ ones shut
low_count shut b = ⊎_elim
    (λ (z : bit b shut ≡ 0). omega (
      arith,
      ap ones (same-all-bits (less shut (2 ^ b)) shut (λ i. ⊎_elim
          (λ e. ap (λ (y : ℕ). bit y (less shut (2 ^ b))) e ∙ low_same shut b ∙ sym (ap (λ (y : ℕ). bit y shut) e ∙ z)) (low-other shut b i) (same_or i b))),
    ))
    (λ (o : bit b shut ≡ 1). omega (
      arith,
      ones_clear b shut o,
      ap ones (same-all-bits (less shut (2 ^ b)) (flip shut b) (λ i. ⊎_elim
          (λ e. ap (λ (y : ℕ). bit y (less shut (2 ^ b))) e ∙ low_same shut b ∙ sym (ap (λ (y : ℕ). bit y (flip shut b)) e ∙ flip-same shut b ∙ ap (λ (y : ℕ). 1 - y) o))
          (λ ne. low-other shut b i ne ∙ sym (flip-other shut b i ne)) (same_or i b))),
    ))
    (bit-cases b shut)

bits-two : {x y z : ℕ} → x < 2 → y < 2 → z < 2 → x ≢ y → x ≢ z → y ≡ z
bits-two h g k p q = omega arith

differ_bit : (c x y mask : ℕ) → bit_and (bit_xor x y) mask ≡ 0 → bit c mask ≡ 1 → bit c x ≡ bit c y
differ_bit c x y mask z o =
    ⊎_elim (λ e. e) (λ ne. absurd (omega (arith, bit_differs c x y ne, bit-and c (bit_xor x y) mask, ap (bit c) z, bit-none c))) (same_or (bit c x) (bit c y))

module _ (s b : ℕ) (to : ℕ → ℕ) where
  pub like_far : (j : ℕ) → Like to (flip s b) (2 ^ b) j → bit b (to j) ≢ bit b s
  like_far j z e = flip_turns s b (sym (differ_bit b (to j) (flip s b) (2 ^ b) z (bit-pow-same b)) ∙ e)

  pub unlike_near : (j : ℕ) → Unlike to (flip s b) (2 ^ b) j → bit b (to j) ≡ bit b s
  unlike_near j ne =
      ⊎_elim (λ e. e) (λ n. absurd (ne (same-all-bits (bit_and (bit_xor (to j) (flip s b)) (2 ^ b)) 0 (λ c. ⊎_elim
      (λ q. absurd_bits c q n) (λ q. omega (arith, bit-and c (bit_xor (to j) (flip s b)) (2 ^ b), bit-pow-other c b q, bit-none c)) (same_or c b)))))
      (same_or (bit b (to j)) (bit b s))
    where
      absurd_bits : (c : ℕ) → c ≡ b → bit b (to j) ≢ bit b s → bit c (bit_and (bit_xor (to j) (flip s b)) (2 ^ b)) ≡ bit c 0
      absurd_bits c q n =
          let same : bit b (to j) ≡ bit b (flip s b) = bits-two (bit-lt b s) (bit-lt b (to j)) (bit-lt b (flip s b)) (λ e. n (sym e)) (λ e. flip_turns s b (sym e)) in
          let zero : bit b (bit_xor (to j) (flip s b)) ≡ 0 = bit-not-one b (bit_xor (to j) (flip s b)) (λ o. differs_bit b (to j) (flip s b) o same) in
          omega (arith, bit-and c (bit_xor (to j) (flip s b)) (2 ^ b), ap (λ (y : ℕ). bit y (bit_xor (to j) (flip s b))) q ∙ zero, bit-none c)

module _ (free s shut m : ℕ) (to : ℕ → ℕ) (q : Request free s shut m to) where
  pub halved : (b rest f low far pow : ℕ) → Parting m to b → rest ≡ flip free b → f ≡ flip s b → pow ≡ 2 ^ b → low ≡ less shut pow
      → Chosen (Like to f pow) (Unlike to f pow) m far → Halved free s shut m to b rest f low far
  halved b rest f low far pow p er ef ep el c =
      let c₁ : Chosen (Like to (flip s b) (2 ^ b)) (Unlike to (flip s b) (2 ^ b)) m far =
      subst (λ (y : ℕ). Chosen (Like to (flip s b) y) (Unlike to (flip s b) y) m far) ep (subst (λ (y : ℕ). Chosen (Like to y pow) (Unlike to y pow) m far) ef c) in
      let side : Chosen (λ j. bit b (to j) ≢ bit b s) (λ j. bit b (to j) ≡ bit b s) m far = record {
        sub = c₁.sub;
        holds = λ j o. like_far s b to j (c₁.holds j o);
        fails = λ j o z. unlike_near s b to j (c₁.fails j o z);
      } in
      ⊎_elim
      (λ e. make side p.x p.y p.x_in p.y_in e (λ d. p.differ (e ∙ sym d)))
      (λ ne. make side p.y p.x p.y_in p.x_in (bits-two (bit-lt b (to p.x)) (bit-lt b (to p.y)) (bit-lt b s) p.differ ne) ne)
      (same_or (bit b (to p.x)) (bit b s))
    where
      make : Chosen (λ j. bit b (to j) ≢ bit b s) (λ j. bit b (to j) ≡ bit b s) m far → (x y : ℕ) → bit x m ≡ 1 → bit y m ≡ 1 → bit b (to x) ≡ bit b s → bit b (to y) ≢ bit b s
          → Halved free s shut m to b rest f low far
      make side x y xo yo near away = record {
        small = p.small;
        within = q.inside y yo b away;
        is_rest = er;
        is_f = ef;
        is_low = el ∙ ap (less shut) ep;
        side = side;
        near-some = ones-some (less m far) x (⊎_elim (λ o. absurd (side.holds x o near)) (λ o. o) (less-or x m far xo));
        far_some = λ z. away (side.fails y yo (ap (bit y) z ∙ bit-none y));
      }

  module _ (b rest f low far : ℕ) (h : Halved free s shut m to b rest f low far) where
    pub low_held : (i : ℕ) → bit i low ≡ 1 → bit i rest ≡ 1
    low_held i o =
        let o₁ : bit i (less shut (2 ^ b)) ≡ 1 = sym (ap (bit i) h.is_low) ∙ o in
        let ne : i ≢ b = λ e. off_on b i (less shut (2 ^ b)) (low_same shut b) o₁ (sym e) in
        ap (bit i) h.is_rest ∙ flip-other free b i ne ∙ q.held i (sym (low-other shut b i ne) ∙ o₁)

    pub halved_room : ones low + ones far ≤ ones rest
    halved_room = omega (arith, q.room, low_count shut b, ap ones h.is_low, ap ones h.is_rest, ones_clear b free h.within, ones-less m far h.side.sub, h.near-some)

    pub far-sub : (j : ℕ) → bit j far ≡ 1 → bit j m ≡ 1
    far-sub = h.side.sub

    home_is : (j : ℕ) → bit j m ≡ 1 → Like to f free j → to j ≡ flip s b
    home_is j o z = same-all-bits (to j) (flip s b) (λ c. ⊎_elim
        (λ (y : bit c free ≡ 0).
        ⊎_elim (λ e. e ∙ sym (flip-other s b c (off_on c b free y h.within))) (λ ne. absurd (clash y (q.inside j o c ne))) (same_or (bit c (to j)) (bit c s)))
        (λ (y : bit c free ≡ 1). differ_bit c (to j) f free z y ∙ ap (bit c) h.is_f) (bit-cases c free))

    home-not : (j : ℕ) → Unlike to f free j → to j ≢ flip s b
    home-not j ne e = ne (same-all-bits (bit_and (bit_xor (to j) f) free) 0 (λ c.
        omega (arith, bit-and c (bit_xor (to j) f) free, ap (bit c) (ap (λ (y : ℕ). bit_xor y f) (e ∙ sym h.is_f) ∙ xor_self f), bit-none c)))

    -- an open door has no target behind it
    pub home_chosen : (home : ℕ) → Settled free s shut m to → HomeOf to far f free shut b home → Chosen (Like to f free) (Unlike to f free) far home
    home_chosen home settled a = ⊎_elim
        (λ z. let none : (j : ℕ) → bit j home ≡ 0 = λ j. ap (bit j) (a.ajar z) ∙ bit-none j in record {
          sub = λ j o. absurd (clash (none j) o);
          holds = λ j o. absurd (clash (none j) o);
          fails = λ j o y like. clash z (settled j b (far-sub j o) h.within (home_is j (far-sub j o) like));
        })
        a.barred (bit-cases b shut)

    is_home : (home : ℕ) → Chosen (Like to f free) (Unlike to f free) far home → (j : ℕ) → bit j home ≡ 1 → to j ≡ flip s b
    is_home home c j o = home_is j (far-sub j (c.sub j o)) (c.holds j o)

    -- the far request, for any targets toF of the far rows
    far_asks : (toF : ℕ → ℕ)
        → ((j : ℕ) → bit j far ≡ 1 → ((bit j m ≡ 1) × (bit b (to j) ≢ bit b s) × (toF j ≡ to j) × (toF j ≢ flip s b)) ⊎ ((d : ℕ) × (bit d (flip free b) ≡ 1) × (toF j ≡ flip (flip s b) d)))
        → ((i j : ℕ) → bit i far ≡ 1 → bit j far ≡ 1 → i ≢ j → toF i ≢ toF j) → Request rest f low far toF
    far_asks toF sub differs =
        subst (λ (y : ℕ). Request y f low far toF) (sym h.is_rest) (subst (λ (y : ℕ). Request (flip free b) y low far toF) (sym h.is_f)
        (far_request free s shut m b (flip free b) to q (without-flip free b h.within) low far toF sub differs
        (λ i o. sym (ap (bit i) h.is_rest) ∙ low_held i o) (omega (arith, halved_room, ap ones h.is_rest))))

    -- no far row has the target f
    none-home : (home : ℕ) (toF : ℕ → ℕ) → Chosen (Like to f free) (Unlike to f free) far home → home ≡ 0 → ((j : ℕ) → bit j far ≡ 1 → toF j ≡ to j)
        → Standing s b shut far home to toF × Request rest f low far toF
    none-home home toF c z same =
        let none : (j : ℕ) → bit j home ≡ 0 = λ j. ap (bit j) z ∙ bit-none j in (
          record {
            same = λ j o y. same j o;
            sub = λ j o. absurd (clash (none j) o);
            is = λ j o. absurd (clash (none j) o);
            one = λ i j o. absurd (clash (none i) o);
          },
          far_asks toF
              (λ j o. inl (far-sub j o, h.side.holds j o, same j o, λ e. home-not j (c.fails j o (none j)) (sym (same j o) ∙ e)))
              (λ i j o p ne e. q.differs i j (far-sub i o) (far-sub j p) ne (sym (same i o) ∙ e ∙ same j p)),
        )

    -- the far row x has it, and a relay beside f stands in
    one-home : (home : ℕ) (toF : ℕ → ℕ) → Settled free s shut m to → Chosen (Like to f free) (Unlike to f free) far home → (x d : ℕ) → bit x home ≡ 1 → bit d rest ≡ 1
        → toF x ≡ flip f d → ((j : ℕ) → bit j far ≡ 1 → j ≢ x → toF j ≡ to j) → ((j : ℕ) → bit j (flip far x) ≡ 1 → to j ≢ flip f d)
        → Standing s b shut far home to toF × Request rest f low far toF
    one-home home toF settled c x d o r new same none =
        let one : (j : ℕ) → bit j home ≡ 1 → j ≡ x = λ j p. ⊎_elim (λ e. e)
        (λ ne. absurd (q.differs j x (far-sub j (c.sub j p)) (far-sub x (c.sub x o)) ne (is_home home c j p ∙ sym (is_home home c x o)))) (same_or j x) in
        let other : (j : ℕ) → bit j far ≡ 1 → j ≢ x → to j ≢ flip f d = λ j p ne. none j (flip-other far x j ne ∙ p) in (
          record {
            same = λ j p z. same j p (λ e. clash z (ap (λ (y : ℕ). bit y home) e ∙ o));
            sub = c.sub;
            is = λ j p. (is_home home c j p, settled j b (far-sub j (c.sub j p)) h.within (is_home home c j p));
            one = λ i j p k. one i p ∙ sym (one j k);
          },
          far_asks toF
              (λ j p. ⊎_elim
              (λ e. inr (d, sym (ap (bit d) h.is_rest) ∙ r, ap toF e ∙ new ∙ ap (λ (y : ℕ). flip y d) h.is_f))
              (λ ne. inl (
                far-sub j p,
                h.side.holds j p,
                same j p ne,
                λ e. q.differs j x (far-sub j p) (far-sub x (c.sub x o)) ne (sym (same j p ne) ∙ e ∙ sym (is_home home c x o)),
              )) (same_or j x))
              (λ i j p k ne z. ⊎_elim
              (λ ei. ⊎_elim (λ ej. ne (ei ∙ sym ej)) (λ nj. other j k nj (sym (same j k nj) ∙ sym z ∙ ap toF ei ∙ new)) (same_or j x))
              (λ ni. ⊎_elim (λ ej. other i p ni (sym (same i p ni) ∙ z ∙ ap toF ej ∙ new))
              (λ nj. q.differs i j (far-sub i p) (far-sub j k) ne (sym (same i p ni) ∙ z ∙ same j k nj)) (same_or j x)) (same_or i x)),
        )

-- ---- what the grid then holds

pub record Divided (free s shut m w : ℕ) (before : List ℕ) (b rest f low far home : ℕ) (after : List ℕ) : Type 0 where
  pub half : Halved free s shut m (target w before) b rest f low far
  pub stands : Standing s b shut far home (target w before) (target w after)
  pub request : Request rest f low far (target w after)
  pub new : New w far after
  pub keeps : Keeps w far before after

module _ (free s shut m w : ℕ) (g : List ℕ) (q : Request free s shut m (target w g)) (n : New w m g)
    (b rest f low far : ℕ) (h : Halved free s shut m (target w g) b rest f low far) where
  pub divided : (home : ℕ) (k : List ℕ) → Settled free s shut m (target w g) → Chosen (Like (target w g) f free) (Unlike (target w g) f free) far home
      → StoodIn w rest f far home g k → Divided free s shut m w g b rest f low far home k
  divided home k settled c st = ⊎_elim (λ z. empty z) (λ ne. full (st.some ne)) (same_or home 0)
    where
      in_m : (j : ℕ) → bit j far ≡ 1 → bit j m ≡ 1
      in_m = h.side.sub

      empty : home ≡ 0 → Divided free s shut m w g b rest f low far home k
      empty z =
          let same : (j : ℕ) → hops w k j ≡ hops w g j = λ j. ap (λ (y : List ℕ). hops w y j) (st.none z) in
          let r = none-home free s shut m (target w g) q b rest f low far h home (target w k) c z (λ j o. new_same w g k j (n.is j (in_m j o)) (same j)) in
          record { half = h; stands = r.0; request = r.1; new = new_kept w far m g k n (λ j o. (in_m j o, same j)); keeps = st.keeps }

      full : (x d : ℕ) × (bit x home ≡ 1) × (bit d rest ≡ 1) × (hops w k x ≡ flip f d ∷ []) × ((j : ℕ) → j ≢ x → hops w k j ≡ hops w g j)
          × ((j : ℕ) → bit j (flip far x) ≡ 1 → target w g j ≢ flip f d) → Divided free s shut m w g b rest f low far home k
      full (x, d, o, r, fresh, same, none) =
          let t : target w k x ≡ flip f d = lone-target w k x (flip f d) fresh in
          let r = one-home free s shut m (target w g) q b rest f low far h home (target w k) settled c x d o r t
          (λ j p ne. new_same w g k j (n.is j (in_m j p)) (same j ne)) none in
          record {
            half = h;
            stands = r.0;
            request = r.1;
            new = record {
              is = λ j p. ⊎_elim
                  (λ e. subst (λ (y : ℕ). hops w k y ≡ target w k y ∷ []) (sym e) (fresh ∙ ap (λ (y : ℕ). y ∷ []) (sym t)))
                  (λ ne. same j ne ∙ n.is j (in_m j p) ∙ ap (λ (y : ℕ). y ∷ []) (sym (new_same w g k j (n.is j (in_m j p)) (same j ne)))) (same_or j x);
            };
            keeps = st.keeps;
          }
