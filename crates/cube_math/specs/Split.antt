-- Two fans, one on either side of a dimension b, joined to one (`join`): a far path is taken home straight over f = s^b, or beside it, or ends
-- in f. Assumes nothing.
use Rattle.std.specs.Prelude.{ℕ, suc, ◌≤◌, ◌≡◌, refl, ◌⊎◌, ◌≢◌, List, [], ◌∷◌}
use Rattle.std.proofs.Common.{sym, ap, ◌∙◌, subst, inl, inr, ⊎_elim, arith}
use Rattle.bits.specs.Bit.{bit, flip}
use Rattle.bits.specs.Laws.{clash, flip-other, flip-flip, same_or, flip_comm, flip_turns, flip-moves, flip-eq}
use Rattle.cube_math.specs.Doors.{In, Walk, Door, Way, Doors}
use Rattle.cube_math.specs.Paths.{bit-not-one, off_on, walk_wider, walk_side, not-cons, in_cast, in_list, in_first}

-- what is free and shut on the two sides of b: `rest` is `free` less b, and what is shut stays shut but for b
pub record Sides (free rest b shut shutF shutN : ℕ) : Type 0 where
  pub divides : bit b free ≡ 1
  pub off : bit b rest ≡ 0
  pub less : (i : ℕ) → bit i rest ≡ 1 → bit i free ≡ 1
  pub far_shut : (i : ℕ) → i ≢ b → bit i shut ≡ 1 → bit i shutF ≡ 1
  pub near_shut : (i : ℕ) → i ≢ b → bit i shut ≡ 1 → bit i shutN ≡ 1

-- how the path l of index j on the far side, to d, becomes the path r from s, to t. Only the index `own` may meet f = flip s b
-- straight over f
pub record Straight (s b shut own j t d : ℕ) (l r : List ℕ) : Type 0 where
  pub mine : j ≡ own
  pub ajar : bit b shut ≡ 0
  pub same : d ≡ t
  pub path : r ≡ flip s b ∷ l

-- its first dimension first, then over b
pub record Turned (rest s b shutF shutN t d : ℕ) (l r : List ℕ) : Type 0 where
  pub via : Door rest (flip s b) shutF l
  pub same : d ≡ t
  pub path : r ≡ flip s via.dim ∷ l
  pub barred : bit via.dim shutN ≡ 1

-- to f itself, from beside it
pub record Homed (n rest s b shutF shutN own j t : ℕ) (l r : List ℕ) : Type 0 where
  pub mine : j ≡ own
  pub room : 1 ≤ n
  pub via : Door rest (flip s b) shutF l
  pub home : t ≡ flip s b
  pub path : r ≡ flip s via.dim ∷ flip (flip s b) via.dim ∷ flip s b ∷ []
  pub barred : bit via.dim shutN ≡ 1

abbrev pub Brought : (n rest s b shut shutF shutN own j t d : ℕ) (l r : List ℕ) → Type 0
Brought n rest s b shut shutF shutN own j t d l r =
    Straight s b shut own j t d l r ⊎ (Turned rest s b shutF shutN t d l r ⊎ Homed n rest s b shutF shutN own j t l r)

-- a fan from f on the far side, one from s on the near side, and the paths `all` that they become. Near targets that
-- neighbour s are behind shut doors
pub record Parts (n free rest s b shut shutF shutN m mf mn own : ℕ) (to toF : ℕ → ℕ) (far near all : ℕ → List ℕ) : Type 0 where
  pub sides : Sides free rest b shut shutF shutN
  pub far-fan : Doors n rest (flip s b) shutF mf toF far
  pub near-fan : Doors n rest s shutN mn to near
  pub parts : (j : ℕ) → bit j m ≡ 1 → (bit j mf ≡ 1) ⊎ (bit j mn ≡ 1)
  pub brought : (j : ℕ) → bit j mf ≡ 1 → Brought n rest s b shut shutF shutN own j (to j) (toF j) (far j) (all j)
  pub stayed : (j : ℕ) → bit j mn ≡ 1 → all j ≡ near j
  pub settled : (j i : ℕ) → bit j mn ≡ 1 → bit i free ≡ 1 → to j ≡ flip s i → bit i shut ≡ 1

-- x is a neighbour of s beside the path l
pub record Stub (rest s b shut shutN x : ℕ) (l : List ℕ) : Type 0 where
  pub dim : ℕ
  pub stands : x ≡ flip s dim
  pub beside : In (flip (flip s b) dim) l
  pub within : bit dim rest ≡ 1
  pub ajar : bit dim shut ≡ 0
  pub barred : bit dim shutN ≡ 1

module _ (n free rest s b shut shutF shutN : ℕ) (k : Sides free rest b shut shutF shutN) where
  -- a dimension of `rest` is not b
  not-b : (i : ℕ) → bit i rest ≡ 1 → b ≢ i
  not-b i o = off_on b i rest k.off o

  -- what is open on a side is open
  far_ajar : (i : ℕ) → bit i rest ≡ 1 → bit i shutF ≡ 0 → bit i shut ≡ 0
  far_ajar i o z = bit-not-one i shut (λ q. clash z (k.far_shut i (λ e. not-b i o (sym e)) q))

  near_ajar : (i : ℕ) → bit i rest ≡ 1 → bit i shutN ≡ 0 → bit i shut ≡ 0
  near_ajar i o z = bit-not-one i shut (λ q. clash z (k.near_shut i (λ e. not-b i o (sym e)) q))

  -- a neighbour of s in a dimension of `rest` is on the near side
  stub_near : (i : ℕ) → bit i rest ≡ 1 → bit b (flip s i) ≡ bit b s
  stub_near i o = flip-other s i b (not-b i o)

  near-walk_side : (t : ℕ) (l : List ℕ) → Way n rest s shutN t l → (x : ℕ) → In x l → bit b x ≡ bit b s
  near-walk_side t l w x h = walk_side b rest s t l k.off w.walk x h

  module _ (t : ℕ) (l : List ℕ) (w : Way n rest (flip s b) shutF t l) where
    far_side : (x : ℕ) → In x l → bit b x ≢ bit b s
    far_side x h e = flip_turns s b (sym (walk_side b rest (flip s b) t l k.off w.walk x h) ∙ e)

    -- a far path meets no neighbour of s
    far_none : (i : ℕ) → In (flip s i) l → ⊥
    far_none i h =
        ⊎_elim (λ e. w.away (in_cast l (ap (flip s) e) h)) (λ ne. far_side (flip s i) h (flip-other s i b (λ e. ne (sym e)))) (same_or i b)

    straight_way : bit b shut ≡ 0 → Way (suc n) free s shut t (flip s b ∷ l)
    straight_way z = record {
      walk = (b, k.divides, refl, walk_wider rest free (flip s b) t l k.less w.walk);
      short = omega (arith, w.short);
      away = not-cons (λ e. flip-moves s b (sym e)) (λ h. far_side s h refl);
      fresh = (w.away, w.fresh);
      door = record { dim = b; within = k.divides; ajar = z; rest = l; first = refl };
      shuns = λ i o. λ h. absurd (not-cons (λ e. off_on b i shut z o (sym (flip-eq s i b e))) (far_none i) h);
    }

    turn-walk : (i : ℕ) (p q : List ℕ) → p ≡ flip (flip s b) i ∷ q → Walk free (flip s b) t p → Walk free (flip s i) t p
    turn-walk i [] q e a = let z : ◌≡◌ {A = ℕ} 0 1 = cc in absurd (omega arith)
    turn-walk i (v ∷ p) q e a = let first : v ≡ flip (flip s b) i = cc in (b, k.divides, first ∙ flip_comm s b i, a.3)

    turned_way : (v : Door rest (flip s b) shutF l) → Way (suc n) free s shut t (flip s v.dim ∷ l)
    turned_way v =
        let z : bit v.dim shut ≡ 0 = far_ajar v.dim v.within v.ajar in
        record {
          walk = (
            v.dim,
            k.less v.dim v.within,
            refl,
            turn-walk v.dim l v.rest v.first (walk_wider rest free (flip s b) t l k.less w.walk),
          );
          short = omega (arith, w.short);
          away = not-cons (λ e. flip-moves s v.dim (sym e)) (λ h. far_side s h refl);
          fresh = (far_none v.dim, w.fresh);
          door = record { dim = v.dim; within = k.less v.dim v.within; ajar = z; rest = l; first = refl };
          shuns = λ i o h. absurd (not-cons (λ e. off_on v.dim i shut z o (sym (flip-eq s i v.dim e))) (far_none i) h);
        }

  -- to f itself
  homed_way : (i : ℕ) → 1 ≤ n → bit i rest ≡ 1 → bit i shut ≡ 0 → Way (suc n) free s shut (flip s b) (flip s i ∷ flip (flip s b) i ∷ flip s b ∷ [])
  homed_way i one o z =
      let far-f : bit b (flip s b) ≢ bit b s = flip_turns s b in
      let far-fi : bit b (flip (flip s b) i) ≢ bit b s = λ e. far-f (sym (flip-other (flip s b) i b (not-b i o)) ∙ e) in
      let near-i : bit b (flip s i) ≡ bit b s = stub_near i o in
      record {
        walk = (i, k.less i o, refl, (b, k.divides, flip_comm s b i, (i, k.less i o, sym (flip-flip (flip s b) i), refl)));
        short = omega arith;
        away = not-cons (λ e. flip-moves s i (sym e)) (not-cons (λ e. far-fi (sym (ap (bit b) e))) (not-cons (λ e. flip-moves s b (sym e)) (λ h. h)));
        fresh = (
          not-cons (λ e. far-fi (sym (ap (bit b) e) ∙ near-i)) (not-cons (λ e. far-f (sym (ap (bit b) e) ∙ near-i)) (λ h. h)),
          (not-cons (flip-moves (flip s b) i) (λ h. h), ((λ h. h), tt)),
        );
        door = record { dim = i; within = k.less i o; ajar = z; rest = _; first = refl };
        shuns = λ j q h. home_shuns i o z j q h;
      }
    where
      home_shuns : (i : ℕ) → bit i rest ≡ 1 → bit i shut ≡ 0 → (j : ℕ) → bit j shut ≡ 1 → In (flip s j) (flip s i ∷ flip (flip s b) i ∷ flip s b ∷ []) → flip s j ≡ flip s b
      home_shuns i o z j q (inl e) = absurd (off_on i j shut z q (sym (flip-eq s j i e)))
      home_shuns i o z j q (inr (inl e)) =
          ⊎_elim (λ same. ap (flip s) same)
          (λ ne. absurd (flip_turns s b (sym (flip-other (flip s b) i b (not-b i o)) ∙ sym (ap (bit b) e) ∙ flip-other s j b (λ same. ne (sym same)))))
          (same_or j b)
      home_shuns i o z j q (inr (inr (inl e))) = e
      home_shuns i o z j q (inr (inr (inr h))) = absurd h

  near-way : (t : ℕ) (l : List ℕ) → Way n rest s shutN t l → Way (suc n) free s shut t l
  near-way t l w = record {
    walk = walk_wider rest free s t l k.less w.walk;
    short = omega (arith, w.short);
    away = w.away;
    fresh = w.fresh;
    door = record {
      dim = w.door.dim;
      within = k.less _ w.door.within;
      ajar = near_ajar _ w.door.within w.door.ajar;
      rest = w.door.rest;
      first = w.door.first;
    };
    shuns = λ i o h. ⊎_elim
        (λ e. absurd (flip_turns s b (ap (λ (x : ℕ). bit b (flip s x)) (sym e) ∙ near-walk_side t l w (flip s i) h)))
        (λ ne. w.shuns i (k.near_shut i ne o) h) (same_or i b);
  }

  -- where the relays of a path that was brought home stand: on the far path, beside it, or on f
  abbrev Owned : (own j x : ℕ) (l : List ℕ) → Type 0
  Owned own j x l = In x l ⊎ (Stub rest s b shut shutN x l ⊎ ((x ≡ flip s b) × (j ≡ own)))

  module _ (own j t d : ℕ) (l r : List ℕ) (w : Way n rest (flip s b) shutF d l) where
    way_at : (t p : ℕ) (q : List ℕ) → p ≡ t → r ≡ q → Way (suc n) free s shut p q → Way (suc n) free s shut t r
    way_at t p q e g v = subst (λ (y : ℕ). Way (suc n) free s shut y r) e (subst (λ (y : List ℕ). Way (suc n) free s shut p y) (sym g) v)

    brought_way : Brought n rest s b shut shutF shutN own j t d l r → Way (suc n) free s shut t r
    brought_way (inl a) = way_at t d _ a.same a.path (straight_way d l w a.ajar)
    brought_way (inr (inl a)) = way_at t d _ a.same a.path (turned_way d l w a.via)
    brought_way (inr (inr a)) =
        way_at t (flip s b) _ (sym a.home) a.path
        (homed_way a.via.dim a.room a.via.within (far_ajar a.via.dim a.via.within a.via.ajar))

    stub : (x : ℕ) (v : Door rest (flip s b) shutF l) → bit v.dim shutN ≡ 1 → x ≡ flip s v.dim → Stub rest s b shut shutN x l
    stub x v q e = record {
      dim = v.dim;
      stands = e;
      beside = in_first v.first;
      within = v.within;
      ajar = far_ajar v.dim v.within v.ajar;
      barred = q;
    }

    owned : Brought n rest s b shut shutF shutN own j t d l r → (x : ℕ) → In x r → Owned own j x l
    owned (inl a) x h = ⊎_elim (λ e. inr (inr (e, a.mine))) inl (in_list x a.path h)
    owned (inr (inl a)) x h = ⊎_elim (λ e. inr (inl (stub x a.via a.barred e))) inl (in_list x a.path h)
    owned (inr (inr a)) x h = three (in_list x a.path h)
      where
        three : In x (flip s a.via.dim ∷ flip (flip s b) a.via.dim ∷ flip s b ∷ []) → Owned own j x l
        three (inl e) = inr (inl (stub x a.via a.barred e))
        three (inr (inl e)) = inl (in_cast l (sym e) (in_first a.via.first))
        three (inr (inr (inl e))) = inr (inr (e, a.mine))
        three (inr (inr (inr g))) = absurd g

  -- two far paths, and what they own
  module _ (own i j p q : ℕ) (l r : List ℕ) (v : Way n rest (flip s b) shutF p l) (w : Way n rest (flip s b) shutF q r)
      (ne : i ≢ j) (apart : (x : ℕ) → In x l → In x r → ⊥) where
    owned_apart : (x : ℕ) → Owned own i x l → Owned own j x r → ⊥
    owned_apart x (inl g) (inl h) = apart x g h
    owned_apart x (inl g) (inr (inl h)) = far_none p l v h.dim (in_cast l h.stands g)
    owned_apart x (inl g) (inr (inr h)) = v.away (in_cast l h.0 g)
    owned_apart x (inr (inl g)) (inl h) = far_none q r w g.dim (in_cast r g.stands h)
    owned_apart x (inr (inl g)) (inr (inl h)) =
        let e : g.dim ≡ h.dim = flip-eq s g.dim h.dim (sym g.stands ∙ h.stands) in
        apart _ g.beside (in_cast r (ap (flip (flip s b)) (sym e)) h.beside)
    owned_apart x (inr (inl g)) (inr (inr h)) = not-b g.dim g.within (flip-eq s b g.dim (sym h.0 ∙ g.stands))
    owned_apart x (inr (inr g)) (inl h) = w.away (in_cast r g.0 h)
    owned_apart x (inr (inr g)) (inr (inl h)) = not-b h.dim h.within (flip-eq s b h.dim (sym g.0 ∙ h.stands))
    owned_apart x (inr (inr g)) (inr (inr h)) = ne (g.1 ∙ sym h.1)

  -- a far path and a near one
  module _ (own i p q : ℕ) (l r : List ℕ) (v : Way n rest (flip s b) shutF p l) (w : Way n rest s shutN q r)
      (settled : (d : ℕ) → bit d free ≡ 1 → q ≡ flip s d → bit d shut ≡ 1) where
    near_apart : (x : ℕ) → Owned own i x l → In x r → ⊥
    near_apart x (inl g) h = far_side p l v x g (near-walk_side q r w x h)
    near_apart x (inr (inl g)) h =
        let e : flip s g.dim ≡ q = w.shuns g.dim g.barred (in_cast r g.stands h) in
        clash g.ajar (settled g.dim (k.less g.dim g.within) (sym e))
    near_apart x (inr (inr g)) h = flip_turns s b (ap (bit b) (sym g.0) ∙ near-walk_side q r w x h)

pub join : {n free rest s b shut shutF shutN m mf mn own : ℕ} {to toF : ℕ → ℕ} {far near all : ℕ → List ℕ}
    → Parts n free rest s b shut shutF shutN m mf mn own to toF far near all → Doors (suc n) free s shut m to all
join {n} {free} {rest} {s} {b} {shut} {shutF} {shutN} {m} {mf} {mn} {own} {to} {toF} {far} {near} {all} a =
    record { each = λ j o. one j (a.parts j o); apart = λ i j o q ne x. two i j ne x (a.parts i o) (a.parts j q) }
  where
    own_of : (j : ℕ) (f : bit j mf ≡ 1) (x : ℕ) → In x (all j) → Owned n free rest s b shut shutF shutN a.sides own j x (far j)
    own_of j f x h = owned n free rest s b shut shutF shutN a.sides own j (to j) (toF j) (far j) (all j) (a.far-fan.each j f) (a.brought j f) x h

    one : (j : ℕ) → (bit j mf ≡ 1) ⊎ (bit j mn ≡ 1) → Way (suc n) free s shut (to j) (all j)
    one j (inl f) = brought_way n free rest s b shut shutF shutN a.sides own j (to j) (toF j) (far j) (all j) (a.far-fan.each j f) (a.brought j f)
    one j (inr g) =
        subst (λ (y : List ℕ). Way (suc n) free s shut (to j) y) (sym (a.stayed j g))
        (near-way n free rest s b shut shutF shutN a.sides (to j) (near j) (a.near-fan.each j g))

    mixed : (i j : ℕ) → bit i mf ≡ 1 → bit j mn ≡ 1 → (x : ℕ) → In x (all i) → In x (all j) → ⊥
    mixed i j f g x p q =
        near_apart n free rest s b shut shutF shutN a.sides own i (toF i) (to j) (far i) (near j) (a.far-fan.each i f) (a.near-fan.each j g)
        (λ d. a.settled j d g) x (own_of i f x p) (in_list x (a.stayed j g) q)

    two : (i j : ℕ) → i ≢ j → (x : ℕ) → (bit i mf ≡ 1) ⊎ (bit i mn ≡ 1) → (bit j mf ≡ 1) ⊎ (bit j mn ≡ 1) → In x (all i) → In x (all j) → ⊥
    two i j ne x (inl f) (inl g) p q =
        owned_apart n free rest s b shut shutF shutN a.sides own i j (toF i) (toF j) (far i) (far j) (a.far-fan.each i f) (a.far-fan.each j g) ne
        (a.far-fan.apart i j f g ne) x (own_of i f x p) (own_of j g x q)
    two i j ne x (inl f) (inr g) p q = mixed i j f g x p q
    two i j ne x (inr f) (inl g) p q = mixed j i g f x q p
    two i j ne x (inr f) (inr g) p q = a.near-fan.apart i j f g ne x (in_list x (a.stayed i f) p) (in_list x (a.stayed j g) q)
