-- A number read byte by byte (`Reading`); bytes written one after another, the lowest first (`put-step`, `put-none`); and what the library's functions on eight bytes
-- write and read (`big-bytes`, `number_eight`), and the same byte by byte (`each_put`, `each_read`). Assumes nothing.
use Rattle.std.specs.Prelude.{ℕ, zero, suc, ◌+◌, ◌-◌, ◌*◌, ◌/◌, ◌%◌, ◌^◌, ◌≤◌, ◌<◌, ◌≡◌, refl, List, [], ◌∷◌, ◌++◌, length, get_or, set, take, drop}
use Rattle.std.proofs.Common.{sym, ap, ap₂, ◌∙◌, subst, append_assoc, pow-suc, add-one, arith}
use Rattle.std.specs.Int.{w64, byte_at, bytes_high_first, from_be_bytes}
use Rattle.std.proofs.Math.Nat.{pow-le-pow_right, div-div-eq-div-mul}
use Rattle.std.proofs.lemmas.List.{set_comm, get_or-take, get_or-drop, drop-drop, length-take}
use Rattle.std.proofs.lemmas.List.Edits.{sets, sets-eq}
use Rattle.std.proofs.Math.Arith.{digits_lt}
use Rattle.scan.specs.Runs.{sets_append}
use Rattle.octets.specs.Big.{big, number, big-length, big-more, number-none, number_more}

-- a byte of the part that is read, and how many there are
pub part_byte : (l : List ℕ) (at w i : ℕ) → i < w → get_or (take (at + w - at) (drop at l)) i 0 ≡ get_or l (at + i) 0
part_byte l at w i h = get_or-take (at + w - at) (drop at l) i 0 (omega arith) ∙ get_or-drop at l i 0

pub part-within : (l : List ℕ) (at w i : ℕ) → i < length (take (at + w - at) (drop at l)) → i < w
part-within l at w i h = omega (arith, length-take (at + w - at) (drop at l))

-- i bytes of w are read
pub record Reading (l : List ℕ) (at w value i : ℕ) : Type 0 where
  pub within : i ≤ w
  pub is : value ≡ number l at i
  pub below : value < 256 ^ i

pub reading_starts : (l : List ℕ) (at w : ℕ) → Reading l at w 0 0
reading_starts l at w = record { within = omega arith; is = sym (number-none l at); below = omega arith }

-- there is room for one byte more
pub reading-room : {l : List ℕ} {at w value i : ℕ} → Reading l at w value i → i < w → w ≤ 8 → value < 2 ^ 56
reading-room {i = i} v h g =
    let few : i ≤ 7 = omega arith in
    let most : 256 ^ i ≤ 256 ^ 7 = pow-le-pow_right {n = 256} (omega arith) few in
    omega (arith, v.below, most)

pub reading-more : {l : List ℕ} {at w value i byte : ℕ} → Reading l at w value i → i < w → byte ≡ get_or l (at + i) 0 → byte < 256 → Reading l at w (value * 256 + byte) (i + 1)
reading-more {l} {at} {w} {value} {i} {byte} v h e b = record {
  within = omega arith;
  is = ap₂ (λ (x y : ℕ). x * 256 + y) v.is e ∙ sym (number_more l at i) ∙ ap (number l at) (sym (add-one i));
  below = subst (λ (x : ℕ). value * 256 + byte < x) (sym (pow-suc 256 i) ∙ ap (λ (x : ℕ). 256 ^ x) (sym (add-one i))) (digits_lt v.below b);
}

pub reading-ends : {l : List ℕ} {at w value i : ℕ} → Reading l at w value i → w ≤ i → value ≡ number l at w
reading-ends {l} {at} {w} {value} {i} v h = v.is ∙ ap (number l at) (omega (arith, v.within))

-- ---- bytes written one after another, the lowest first

-- the lowest byte after the others
pub put-more : (w less value at : ℕ) (l : List ℕ) → less + 1 ≡ w → set (sets l at (big less (value / 256))) (at + less) (value % 256) ≡ sets l at (big w value)
put-more w less value at l e =
    sym (sets_append l at (big less (value / 256)) (value % 256 ∷ [])
    ∙ ap (λ (i : ℕ). set (sets l at (big less (value / 256))) i (value % 256)) (ap (λ (i : ℕ). at + i) (big-length less (value / 256))))
    ∙ ap (sets l at) (sym (big-more less value) ∙ ap (λ (i : ℕ). big i value) (sym (add-one less) ∙ e))

-- a place behind a run, before the run is written or after it
set_behind : (l : List ℕ) (at : ℕ) (run : List ℕ) (j x : ℕ) → at + length run ≤ j → sets (set l j x) at run ≡ set (sets l at run) j x
set_behind l at [] j x h = refl
set_behind l at (y ∷ run) j x h =
    ap (λ (m : List ℕ). sets m (suc at) run) (set_comm l j at x y (omega arith)) ∙ set_behind (set l at y) (suc at) run j x (omega arith)

-- the bytes of `rest` in the first `left` places finish the number; one byte fewer does once its last stands there
pub put-step : (l l₀ : List ℕ) (at left rest w value less : ℕ) → less + 1 ≡ left → sets l at (big left rest) ≡ sets l₀ at (big w value)
    → sets (set l (at + less) (rest % 256)) at (big less (rest / 256)) ≡ sets l₀ at (big w value)
put-step l l₀ at left rest w value less e v =
    set_behind l at (big less (rest / 256)) (at + less) (rest % 256) (omega (arith, big-length less (rest / 256)))
    ∙ put-more left less rest at l e ∙ v

pub put-none : (l : List ℕ) {r : List ℕ} (at left rest : ℕ) → left ≡ 0 → sets l at (big left rest) ≡ r → l ≡ r
unfolding big
put-none l at left rest e v = ap (λ (i : ℕ). sets l at (big i rest)) (sym e) ∙ v

-- ---- the library's bytes

-- one byte more at the front
front : (k v : ℕ) → big (suc k) v ≡ byte_at k v ∷ big k v
unfolding big
front zero v = refl
front (suc k) v =
    ap (λ (l : List ℕ). l ++ (v % 256 ∷ [])) (front k (v / 256)) ∙ ap (λ (x : ℕ). x ∷ (big k (v / 256) ++ (v % 256 ∷ []))) (lower k)
  where
    lower : (k : ℕ) → byte_at k (v / 256) ≡ byte_at (suc k) v
    lower zero = refl
    lower (suc k) = ap (λ (x : ℕ). x % 256) (div-div-eq-div-mul v 256 (256 ^ suc k) ∙ ap (λ (x : ℕ). v / x) (sym (pow-suc 256 (suc k) ∙ omega arith)))

pub big-bytes : (k v : ℕ) → bytes_high_first k v ≡ big k v
unfolding big
big-bytes zero v = refl
big-bytes (suc k) v = ap (λ (l : List ℕ). byte_at k v ∷ l) (big-bytes k v) ∙ sym (front k v)

-- a run that the library wrote into a part
pub put_eight : (l : List ℕ) {part : List ℕ} (at v : ℕ) → part ≡ bytes_high_first 8 v → at + 8 ≤ length l → take at l ++ (part ++ drop (at + 8 - at) (drop at l)) ≡ sets l at (big 8 v)
put_eight l {part} at v e h =
    let long : length (big 8 v) ≡ 8 = big-length 8 v in
    let behind : drop (at + 8 - at) (drop at l) ≡ drop (at + length (big 8 v)) l =
    drop-drop (at + 8 - at) at l ∙ ap (λ (i : ℕ). drop i l) (omega arith) in
    ap₂ (λ (m r : List ℕ). take at l ++ (m ++ r)) (e ∙ big-bytes 8 v) behind ∙ sym (sets-eq (big 8 v) l at (omega arith) ∙ append_assoc (take at l) (big 8 v) (drop (at + length (big 8 v)) l))

-- a number that the library read from eight bytes
pub number_eight : (l : List ℕ) (at : ℕ)
    → from_be_bytes w64
    (get_or l at 0 ∷ get_or l (at + 1) 0 ∷ get_or l (at + 2) 0 ∷ get_or l (at + 3) 0 ∷ get_or l (at + 4) 0 ∷ get_or l (at + 5) 0 ∷ get_or l (at + 6) 0 ∷ get_or l (at + 7) 0 ∷ [])
    ≡ number l at 8
unfolding number
number_eight l at = let first : get_or l (at + 0) 0 ≡ get_or l at 0 = ap (λ (i : ℕ). get_or l i 0) (omega arith) in omega (arith, first)

-- ---- eight bytes, each by itself

-- one byte more, behind those that are written
behind : (w v at : ℕ) (l : List ℕ) {m : List ℕ} → m ≡ sets l at (big w (v / 256)) → set m (at + w) (v % 256) ≡ sets l at (big (w + 1) v)
behind w v at l e = ap (λ (m : List ℕ). set m (at + w) (v % 256)) e ∙ put-more (w + 1) w v at l refl

-- the numbers whose lowest bytes are the bytes of v
abbrev pub over : (n v : ℕ) → ℕ
over zero v = v
over (suc n) v = over n v / 256

pub each_put : (v at : ℕ) (l : List ℕ)
    → set
    (set
    (set
    (set (set (set (set (set l at (over 7 v % 256)) (at + 1) (over 6 v % 256)) (at + 2) (over 5 v % 256)) (at + 3) (over 4 v % 256)) (at + 4) (over 3 v % 256))
    (at + 5)
    (over 2 v % 256))
    (at + 6)
    (over 1 v % 256))
    (at + 7)
    (v % 256)
    ≡ sets l at (big 8 v)
unfolding big
each_put v at l =
    behind 7 v at l
    (behind 6 (over 1 v) at l (behind 5 (over 2 v) at l (behind 4 (over 3 v) at l (behind 3 (over 4 v) at l (behind 2 (over 5 v) at l (behind 1 (over 6 v) at l refl))))))

pub each_read : (l : List ℕ) (at : ℕ)
    → ((((((get_or l at 0 * 256 + get_or l (at + 1) 0) * 256 + get_or l (at + 2) 0) * 256 + get_or l (at + 3) 0) * 256 + get_or l (at + 4) 0) * 256 + get_or l (at + 5) 0) * 256 + get_or l (at + 6) 0) * 256 + get_or l (at + 7) 0
    ≡ number l at 8
unfolding number
each_read l at = let first : get_or l (at + 0) 0 ≡ get_or l at 0 = ap (λ (i : ℕ). get_or l i 0) (omega arith) in omega (arith, first)
