-- Relays as numbers, block · 2^m + slot, as programs have them: the fan over numbers (`numbers-fan`). Assumes nothing.
use Rattle.std.specs.Prelude.{ℕ, suc, ◌+◌, ◌*◌, ◌/◌, ◌%◌, ◌^◌, ◌≤◌, ◌<◌, ◌≡◌, refl, ◌≢◌, List, [], ◌∷◌, ◌++◌, length, get_or}
use Rattle.std.proofs.Common.{sym, ap, ap₂, ◌∙◌, subst, inl, inr, mod-lt, div-add-mod', div-lt_iff_lt-mul, pow_pos, pow-add}
use Rattle.std.proofs.Math.Arith.{digits_lt, digits_div, digits_mod}
use Rattle.bits.specs.Bit.{flip}
use Rattle.cube_math.specs.Doors.{In, Fresh}
use Rattle.paths.specs.Lists as lists
use Rattle.two_parts.specs.Two.{two, relays}
use Rattle.two_parts.specs.Links.{link-linked}
use Rattle.two_math.specs.Relays.{Relay, On, Once, Link, Chain, link_within}
use Rattle.two_math.specs.Assemble.{most, TwoFan}
use Rattle.two_math.specs.Sort.{Ask}

-- the number of a relay, and the relay of a number
abbrev pub number : ℕ → Relay → ℕ
number m r = r.0 * 2 ^ m + r.1

abbrev pub block : ℕ → ℕ → ℕ
block m x = x / 2 ^ m

abbrev pub slot : ℕ → ℕ → ℕ
slot m x = x % 2 ^ m

abbrev pub numbers : ℕ → List Relay → List ℕ
numbers m [] = []
numbers m (r ∷ l) = number m r ∷ numbers m l

-- ---- laws

pub block-number : (m : ℕ) (r : Relay) → r.1 < 2 ^ m → block m (number m r) ≡ r.0
block-number m r h = digits_div r.0 h

pub slot-number : (m : ℕ) (r : Relay) → r.1 < 2 ^ m → slot m (number m r) ≡ r.1
slot-number m r h = digits_mod r.0 h

pub number_back : (m x : ℕ) → number m (block m x, slot m x) ≡ x
number_back m x = div-add-mod' x (2 ^ m)

pub number-below : (m : ℕ) (r : Relay) → r.1 < 2 ^ m → r.0 < 2 ^ (2 ^ m) → number m r < relays m
number-below m r h g = subst (λ (y : ℕ). number m r < y) (sym (pow-add 2 (2 ^ m) m)) (digits_lt g h)

pub block-below : (m x : ℕ) → x < relays m → block m x < 2 ^ (2 ^ m)
block-below m x h = (div-lt_iff_lt-mul (pow_pos m)).1 (subst (λ (y : ℕ). x < y) (pow-add 2 (2 ^ m) m) h)

pub slot-below : (m x : ℕ) → slot m x < 2 ^ m
slot-below m x = mod-lt x (pow_pos m)

-- every slot of the path is one of its block
abbrev pub Slots : ℕ → List Relay → Type 0
Slots m [] = Unit
Slots m (r ∷ l) = (r.1 < 2 ^ m) × Slots m l

pub length-numbers : (m : ℕ) (l : List Relay) → length (numbers m l) ≡ length l
length-numbers m [] = refl
length-numbers m (r ∷ l) = ap suc (length-numbers m l)

pub numbers-append : (m : ℕ) (l r : List Relay) → numbers m (l ++ r) ≡ numbers m l ++ numbers m r
numbers-append m [] r = refl
numbers-append m (x ∷ l) r = ap (λ (y : List ℕ). number m x ∷ y) (numbers-append m l r)

pub in_numbers : (m x : ℕ) (l : List Relay) → Slots m l → In x (numbers m l) → On (block m x) (slot m x) l
in_numbers m x [] s h = h
in_numbers m x (r ∷ l) s (inl e) = inl (ap (block m) e ∙ block-number m r s.0, ap (slot m) e ∙ slot-number m r s.0)
in_numbers m x (r ∷ l) s (inr h) = inr (in_numbers m x l s.1 h)

on_cast : (b c p q : ℕ) (l : List Relay) → b ≡ c → p ≡ q → On b p l → On c q l
on_cast b c p q l e f h = subst (λ (y : ℕ). On c y l) f (subst (λ (y : ℕ). On y p l) e h)

pub fresh-numbers : (m : ℕ) (l : List Relay) → Slots m l → Once l → Fresh (numbers m l)
fresh-numbers m [] s o = tt
fresh-numbers m (r ∷ l) s o =
    (λ h. o.0 (on_cast (block m (number m r)) r.0 (slot m (number m r)) r.1 l (block-number m r s.0) (slot-number m r s.0) (in_numbers m (number m r) l s.1 h)), fresh-numbers m l s.1 o.1)

link_cast : (m b p c q b' p' c' q' : ℕ) → b' ≡ b → p' ≡ p → c' ≡ c → q' ≡ q → Link m b p c q → Link m b' p' c' q'
link_cast m b p c q b' p' c' q' eb ep ec eq (inl (e, (h, l, f))) = inl (eb ∙ e ∙ sym ec, (h, l, eq ∙ f ∙ ap (λ (y : ℕ). flip y h) (sym ep)))
link_cast m b p c q b' p' c' q' eb ep ec eq (inr (e, f)) = inr (ep ∙ e ∙ sym eq, ec ∙ f ∙ ap₂ flip (sym eb) (sym ep))

-- a chain of relays, as numbers
pub chain_numbers : (m b p c q u t : ℕ) (l : List Relay) → Chain m b p c q l → p < 2 ^ m → b < 2 ^ (2 ^ m) → block m u ≡ b → slot m u ≡ p → t ≡ number m (c, q)
    → lists.Chain (two m) u t (numbers m l) × Slots m l
chain_numbers m b p c q u t [] k hp hb eb ep e =
    (sym (number_back m u) ∙ ap₂ (λ (x y : ℕ). x * 2 ^ m + y) (eb ∙ k.0) (ep ∙ k.1) ∙ sym e, tt)
chain_numbers m b p c q u t (r ∷ l) k hp hb eb ep e =
    let w = link_within m b p r.0 r.1 k.0 hp hb in
    let bn = block-number m r w.0 in
    let sn = slot-number m r w.0 in
    let rest = chain_numbers m r.0 r.1 c q (number m r) t l k.1 w.0 w.1 bn sn e in
    let link = link-linked m u (number m r) (link_cast m b p r.0 r.1 (block m u) (slot m u) (block m (number m r)) (slot m (number m r)) eb ep bn sn k.0) in
    ((number-below m r w.0 w.1, link, rest.0), (w.0, rest.1))

-- the fan over numbers
pub numbers-fan : (m s : ℕ) (targets : List ℕ) (paths : ℕ → List Relay) → s < relays m
    → TwoFan m (block m s) (slot m s) (length targets) (λ j. block m (get_or targets j 0)) (λ j. slot m (get_or targets j 0)) paths
    → lists.Lists (two m) s targets (λ j. numbers m (paths j))
numbers-fan m s targets paths h f =
    let k : ℕ = length targets in
    let chain : (j : ℕ) → j < k → lists.Chain (two m) s (get_or targets j 0) (numbers m (paths j)) × Slots m (paths j) =
    λ j l. chain_numbers m (block m s) (slot m s) (block m (get_or targets j 0)) (slot m (get_or targets j 0)) s (get_or targets j 0) (paths j) (f.chain j l)
    (slot-below m s) (block-below m s h) refl refl (sym (number_back m (get_or targets j 0))) in record {
      chain = λ j l. (chain j l).0;
      short = λ j l. subst (λ (y : ℕ). y ≤ most m) (sym (length-numbers m (paths j))) (f.short j l);
      fresh = λ j l. let o = f.once j l in
          ((λ g. o.0 (in_numbers m s (paths j) (chain j l).1 g)), fresh-numbers m (paths j) (chain j l).1 o.1);
      apart = λ i j l g ne x p q. f.apart i j l g ne (block m x) (slot m x) (in_numbers m x (paths i) (chain i l).1 p) (in_numbers m x (paths j) (chain j g).1 q);
    }

-- ---- the theorem over numbers

pub ask_numbers : (m s k : ℕ) (to : ℕ → ℕ) → k ≤ m + 1 → s < relays m → ((j : ℕ) → j < k → to j < relays m) → ((j : ℕ) → j < k → to j ≢ s)
    → ((i j : ℕ) → i < k → j < k → i ≢ j → to i ≢ to j) → Ask m (block m s) (slot m s) k (λ j. block m (to j)) (λ j. slot m (to j))
ask_numbers m s k to few hs ht other differ = record {
  few = few;
  home-slot = slot-below m s;
  home-block = block-below m s hs;
  slots = λ j h. slot-below m (to j);
  blocks = λ j h. block-below m (to j) (ht j h);
  differ = λ i j h g ne e f. differ i j h g ne (same (to i) (to j) e f);
  other = λ j h e f. other j h (same (to j) s e f);
}
  where
    same : (x y : ℕ) → block m x ≡ block m y → slot m x ≡ slot m y → x ≡ y
    same x y e f = sym (number_back m x) ∙ ap₂ (λ (a b : ℕ). a * 2 ^ m + b) e f ∙ number_back m y
