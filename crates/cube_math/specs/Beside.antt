-- Targets behind open doors are reached at once, and their doors are shut for the others: with a fan for the others there is one for all
-- (`begin`). Assumes nothing.
use Rattle.std.specs.Prelude.{ℕ, ◌≡◌, refl, ◌⊎◌, ◌≢◌, List, [], ◌∷◌}
use Rattle.std.proofs.Common.{sym, ap, ◌∙◌, subst, inl, inr, ⊎_elim, arith}
use Rattle.bits.specs.Bit.{bit, flip}
use Rattle.bits.specs.Laws.{clash, flip-moves}
use Rattle.cube_math.specs.Doors.{In, Way, Doors}
use Rattle.cube_math.specs.Paths.{bit-not-one, not-cons, in_cast, in_list}

-- the target t stands behind the open door `dim`, which is then shut, and l is the path there
pub record Direct (free s shut more t : ℕ) (l : List ℕ) : Type 0 where
  pub dim : ℕ
  pub within : bit dim free ≡ 1
  pub ajar : bit dim shut ≡ 0
  pub barred : bit dim more ≡ 1
  pub stands : t ≡ flip s dim
  pub path : l ≡ t ∷ []

-- the direct paths, of the indices md, and a fan for the others, m less md, with their doors shut
pub record Begun (n free s shut more m md rest : ℕ) (to : ℕ → ℕ) (was all : ℕ → List ℕ) : Type 0 where
  pub grows : (i : ℕ) → bit i shut ≡ 1 → bit i more ≡ 1
  pub differs : (i j : ℕ) → bit i m ≡ 1 → bit j m ≡ 1 → i ≢ j → to i ≢ to j
  pub parts : (j : ℕ) → bit j m ≡ 1 → (bit j md ≡ 1) ⊎ (bit j rest ≡ 1)
  pub direct : (j : ℕ) → bit j md ≡ 1 → Direct free s shut more (to j) (all j)
  pub fan : Doors n free s more rest to was
  pub stayed : (j : ℕ) → bit j rest ≡ 1 → all j ≡ was j

direct_way : {free s shut more t : ℕ} {l : List ℕ} (n : ℕ) → Direct free s shut more t l → Way n free s shut t l
direct_way {free} {s} {shut} {more} {t} {l} n d = subst (λ (y : List ℕ). Way n free s shut t y) (sym d.path) (record {
  walk = (d.dim, d.within, d.stands, refl);
  short = omega arith;
  away = not-cons (λ e. flip-moves s d.dim (sym (e ∙ d.stands))) (λ h. h);
  fresh = ((λ h. h), tt);
  door = record { dim = d.dim; within = d.within; ajar = d.ajar; rest = []; first = ap (λ (x : ℕ). x ∷ []) d.stands };
  shuns = λ i o h. ⊎_elim (λ e. e) (λ g. absurd g) h;
})

-- fewer doors shut
pub way_open : {n free s shut more t : ℕ} {l : List ℕ} → ((i : ℕ) → bit i shut ≡ 1 → bit i more ≡ 1) → Way n free s more t l → Way n free s shut t l
way_open {n} {free} {s} {shut} {more} {t} {l} g w = record {
  walk = w.walk;
  short = w.short;
  away = w.away;
  fresh = w.fresh;
  door = record {
    dim = w.door.dim;
    within = w.door.within;
    ajar = bit-not-one _ shut (λ o. clash w.door.ajar (g w.door.dim o));
    rest = w.door.rest;
    first = w.door.first;
  };
  shuns = λ i o h. w.shuns i (g i o) h;
}

pub begin : {n free s shut more m md rest : ℕ} {to : ℕ → ℕ} {was all : ℕ → List ℕ}
    → Begun n free s shut more m md rest to was all → Doors n free s shut m to all
begin {n} {free} {s} {shut} {more} {m} {md} {rest} {to} {was} {all} a =
    record { each = λ j o. one j (a.parts j o); apart = λ i j o q ne x. two i j ne x (a.differs i j o q ne) (a.parts i o) (a.parts j q) }
  where
    one : (j : ℕ) → (bit j md ≡ 1) ⊎ (bit j rest ≡ 1) → Way n free s shut (to j) (all j)
    one j (inl f) = direct_way n (a.direct j f)
    one j (inr g) = subst (λ (y : List ℕ). Way n free s shut (to j) y) (sym (a.stayed j g)) (way_open a.grows (a.fan.each j g))

    only : (j : ℕ) → bit j md ≡ 1 → (x : ℕ) → In x (all j) → x ≡ to j
    only j f x h = ⊎_elim (λ e. e) (λ g. absurd g) (in_list x (a.direct j f).path h)

    mixed : (i j : ℕ) → to i ≢ to j → bit i md ≡ 1 → bit j rest ≡ 1 → (x : ℕ) → In x (all i) → In x (all j) → ⊥
    mixed i j ne f g x p q =
        let d = a.direct i f in
        let h : In (flip s d.dim) (was j) = in_cast (was j) (only i f x p ∙ d.stands) (in_list x (a.stayed j g) q) in
        ne (d.stands ∙ (a.fan.each j g).shuns d.dim d.barred h)

    two : (i j : ℕ) → i ≢ j → (x : ℕ) → to i ≢ to j → (bit i md ≡ 1) ⊎ (bit i rest ≡ 1) → (bit j md ≡ 1) ⊎ (bit j rest ≡ 1) → In x (all i) → In x (all j) → ⊥
    two i j ne x nt (inl f) (inl g) p q = nt (sym (only i f x p) ∙ only j g x q)
    two i j ne x nt (inl f) (inr g) p q = mixed i j nt f g x p q
    two i j ne x nt (inr f) (inl g) p q = mixed j i (λ e. nt (sym e)) g f x q p
    two i j ne x nt (inr f) (inr g) p q = a.fan.apart i j f g ne x (in_list x (a.stayed i f) p) (in_list x (a.stayed j g) q)
