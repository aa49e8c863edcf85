-- One path, built from its end: the row is the path so far (`Ends`), and where it has come to the door it is the whole (`ends-way`).
-- Assumes nothing.
use Rattle.std.specs.Prelude.{ℕ, ◌+◌, ◌-◌, ◌*◌, ◌≤◌, ◌<◌, ◌≡◌, ◌≢◌, List, [], ◌∷◌, length}
use Rattle.std.proofs.Common.{sym, ap, ◌∙◌, subst, ⊎_elim, arith}
use Rattle.std.specs.Int.Bits.{bit_xor, bit_and}
use Rattle.std.specs.Int.Count.{ones}
use Rattle.bits.specs.Bit.{bit, flip, Lowest}
use Rattle.bits.specs.Laws.{bit-lt, bit-and, clash, flip-same, flip-other, xor-zero-eq, same_or}
use Rattle.cube_math.specs.Doors.{Way}
use Rattle.cube_math.specs.Masks.{less}
use Rattle.cube_math.specs.Choose.{less-on}
use Rattle.cube_math.specs.Single.{rank, rank_less, rank-le, Tail, tail_none, tail_more, tail-way, bit_differs, differs_bit, inside-flip}
use Rattle.cube_rows.specs.Grid.{hops, Only, only_none, Sets}

pub record Open (free shut i : ℕ) : Type 0 where
  pub small : i < 64
  pub within : bit i free ≡ 1
  pub ajar : bit i shut ≡ 0

pub open_less : (free shut i : ℕ) → Lowest 64 (less free shut) i → Open free shut i
open_less free shut i l = let a = less-on i free shut l.set in record { small = l.within; within = a.0; ajar = a.1 }

pub open_good : (free shut x i : ℕ) → Lowest 64 (bit_and x (less free shut)) i → Open free shut i
open_good free shut x i l =
    let a = less-on i free shut (omega (arith, l.set, bit-and i x (less free shut), bit-lt i (less free shut))) in
    record { small = l.within; within = a.0; ajar = a.1 }

-- the row is u and what follows it
pub record Ends (free goal i d u : ℕ) (row : List ℕ) : Type 0 where
  pub after : List ℕ
  pub is : row ≡ u ∷ after
  pub tail : Tail free goal i d u after
  pub turned : bit i u ≡ bit i goal

abbrev pub Inside : ℕ → ℕ → ℕ → Type 0
Inside free d s = (c : ℕ) → bit c d ≢ bit c s → bit c free ≡ 1

pub record Ended (d i goal j w : ℕ) (before after : List ℕ) (u : ℕ) : Type 0 where
  pub only : Only w j before after
  pub ends : (free : ℕ) → Inside free d goal → Ends free goal i d u (hops w after j)

pub ended_same : (d i goal j w : ℕ) (g : List ℕ) → hops w g j ≡ d ∷ [] → bit i (bit_xor d goal) ≡ 0 → Ended d i goal j w g g d
ended_same d i goal j w g e z = record {
  only = only_none w j g;
  ends = λ free f. record {
    after = [];
    is = e;
    tail = tail_none free goal i d f;
    turned = ⊎_elim (λ y. y) (λ ne. absurd (clash z (bit_differs i d goal ne))) (same_or (bit i d) (bit i goal));
  };
}

ended_flip : (d i goal j w : ℕ) (g h : List ℕ) → hops w g j ≡ d ∷ [] → Sets w g h j (flip d i ∷ hops w g j) → bit i (bit_xor d goal) ≡ 1
    → Ended d i goal j w g h (flip d i)
ended_flip d i goal j w g h q b o =
    let ne : bit i d ≢ bit i goal = differs_bit i d goal o in
    let e : bit i (flip d i) ≡ bit i goal = turns (bit i d) (bit i goal) (flip-same d i) (bit-lt i d) (bit-lt i goal) ne in
    record {
      only = b.only;
      ends = λ free f. record {
        after = d ∷ [];
        is = b.is ∙ ap (λ (l : List ℕ). flip d i ∷ l) q;
        tail = tail_more i (tail_none free goal i d f) ne e;
        turned = e;
      };
    }
  where
    turns : {z : ℕ} (x y : ℕ) → z ≡ 1 - x → x < 2 → y < 2 → x ≢ y → z ≡ y
    turns x y e h g ne = omega arith

pub ended_turn : (d i goal j w u : ℕ) (g h : List ℕ) → hops w g j ≡ d ∷ [] → u ≡ flip d i → Sets w g h j (u ∷ hops w g j) → bit i (bit_xor d goal) ≡ 1
    → Ended d i goal j w g h u
ended_turn d i goal j w u g h e same a o =
    subst (Ended d i goal j w g h) (sym same) (ended_flip d i goal j w g h e (subst (λ (y : ℕ). Sets w g h j (y ∷ hops w g j)) same a) o)

-- what may be asked of one path, to the target d of row j, and what it is
pub record Lone (free s shut d j w : ℕ) (g : List ℕ) : Type 0 where
  pub row : j * w + w ≤ length g
  pub new : hops w g j ≡ d ∷ []
  pub small : ones free + 2 ≤ w
  pub room : ones shut < ones free
  pub other : s ≢ d
  pub inside : Inside free d s

pub record Alone (free s shut d j w : ℕ) (before after : List ℕ) : Type 0 where
  pub only : Only w j before after
  pub way : Way (ones free) free s shut d (hops w after j)

module _ (free goal i d u : ℕ) (row : List ℕ) (a : Ends free goal i d u row) (ne : u ≢ goal) where
  -- where bit c is the lowest in which u and goal differ
  module _ (c : ℕ) (l : Lowest 64 (bit_xor u goal) c) where
    ends_ne : bit c u ≢ bit c goal
    ends_ne = differs_bit c u goal l.set

    pub ends-less : rank goal (flip u c) + 1 ≡ rank goal u
    ends-less = rank_less goal u c ends_ne

    pub ends-room : (w : ℕ) → Inside free d goal → ones free + 2 ≤ w → length row + 1 < w
    ends-room w f h = omega (arith, ap length a.is, a.tail.hops, ends-less, rank-le free goal d f)

    pub ends_more : (next : List ℕ) → next ≡ flip u c ∷ row → Ends free goal i d (flip u c) next
    ends_more next e =
        let keep : bit i (flip u c) ≡ bit i goal = flip-other u c i (λ y. ends_ne (subst (λ (w : ℕ). bit w u ≡ bit w goal) y a.turned)) ∙ a.turned in
        record {
          after = u ∷ a.after;
          is = e ∙ ap (λ (l : List ℕ). flip u c ∷ l) a.is;
          tail = tail_more c a.tail ends_ne keep;
          turned = keep;
        }

  pub ends_some : bit_xor u goal ≢ 0
  ends_some z = ne (xor-zero-eq u goal z)

pub ends-at : {free goal i d u v : ℕ} {row : List ℕ} → u ≡ v → Ends free goal i d u row → Ends free goal i d v row
ends-at {free} {goal} {i} {d} {u} {v} {row} e a = subst (λ (y : ℕ). Ends free goal i d y row) e a

inside_of : (free s d t : ℕ) → d ≡ t → Inside free t s → Inside free d s
inside_of free s d t e f = subst (λ (y : ℕ). Inside free y s) (sym e) f

pub inside_goal : (free s shut i d t goal : ℕ) → Open free shut i → goal ≡ flip s i → d ≡ t → Inside free t s → Inside free d goal
inside_goal free s shut i d t goal o e is f = subst (Inside free d) (sym e) (inside-flip free s i d o.within (inside_of free s d t is f))

ends-way-d : (free s shut i d goal u : ℕ) (row : List ℕ) → goal ≡ flip s i → Ends free goal i d u row → u ≡ goal → Open free shut i → s ≢ d → Inside free d s
    → Way (ones free) free s shut d row
ends-way-d free s shut i d goal u row same a e o ne f =
    let t₀ : Tail free goal i d goal a.after = subst (λ (y : ℕ). Tail free goal i d y a.after) e a.tail in
    let t₁ : Tail free (flip s i) i d (flip s i) a.after = subst (λ (y : ℕ). Tail free y i d y a.after) same t₀ in
    subst (Way (ones free) free s shut d) (sym (a.is ∙ ap (λ (y : ℕ). y ∷ a.after) (e ∙ same)))
    (tail-way (ones free) shut t₁ o.within o.ajar ne (rank-le free (flip s i) d (inside-flip free s i d o.within f)))

-- the same, where d is told as t
pub ends-way : (free s shut i d t goal u : ℕ) (row : List ℕ) → d ≡ t → goal ≡ flip s i → Ends free goal i d u row → u ≡ goal → Open free shut i → s ≢ t → Inside free t s
    → Way (ones free) free s shut t row
ends-way free s shut i d t goal u row is same a e o ne f =
    subst (λ (y : ℕ). Way (ones free) free s shut y row) is (ends-way-d free s shut i d goal u row same a e o (λ z. ne (z ∙ is)) (inside_of free s d t is f))
