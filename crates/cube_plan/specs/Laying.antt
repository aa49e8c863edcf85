-- A fan through doors that is laid out in the slices is a fan of the cube, and keeps to its doors (`laid_out`); where there is no room, 8
-- (`no_room`). Assumes nothing.
use Rattle.std.specs.Prelude.{ℕ, zero, suc, ◌+◌, ◌-◌, ◌*◌, ◌^◌, ◌≤◌, ◌<◌, ◌≡◌, refl, Bool, true, false, List, Result, Err, Ok, ⊤, [], ◌∷◌, ltb, length, get_or}
use Rattle.std.proofs.Common.{sym, ap, ◌∙◌, subst, ⊎_elim, arith, ltb-false}
use Rattle.std.proofs.Math.Option.{Option, none, some}
use Rattle.std.specs.Int.Count.{ones}
use Rattle.bits.specs.Bit.{bit, flip}
use Rattle.bits.specs.Laws.{bit-lt, flip-lt, flip-moves}
use Rattle.scan.specs.Scan.{pick}
use Rattle.scan.specs.Laws.{true-false}
use Rattle.answers.specs.Order.{refuse}
use Rattle.answers.specs.declared.Refusal.{Refusal}
use Rattle.answers.specs.declared.Refusal.TheVariants.{NoRoom}
use Rattle.requests.specs.Sound.{Sound}
use Rattle.requests.specs.Planned.{Planned, not-both, refusal, granted}
use Rattle.paths.specs.Mesh.{width}
use Rattle.paths.specs.Fan.{filler, relay, hops, Fan}
use Rattle.paths.specs.Lists.{In, Chain, Lists, laid_in, laid-fan}
use Rattle.paths.specs.Lists as lists
use Rattle.cube.specs.Cube.{linked, cube}
use Rattle.cube.specs.Links.{linked-flip}
use Rattle.cube_math.specs.Doors.{Walk, Way}
use Rattle.cube_math.specs.Masks.{less, bit-less}
use Rattle.cube_math.specs.Plain.{bit-full, full-below}
use Rattle.cube_split.specs.Fan.{Sought, Given}
use Rattle.cube_plan.specs.Says.{short, Through}

-- ---- from doors to the cube

walk_chain : (n free u t : ℕ) (l : List ℕ) → ((i : ℕ) → bit i free ≡ 1 → i < n) → u < 2 ^ n → Walk free u t l → Chain (cube n) u t l
walk_chain n free u t [] h lt w = w
walk_chain n free u t (v ∷ l) h lt w =
    let below : v < 2 ^ n = subst (λ (x : ℕ). x < 2 ^ n) (sym w.2) (flip-lt n u w.0 lt (h w.0 w.1)) in
    (below, ap (linked u) w.2 ∙ linked-flip u w.0, walk_chain n free v t l h below w.3)

-- the test that the code makes
pub short_is : (n k : ℕ) (targets places counts : List ℕ) → k ≡ length targets
    → pick (ltb (length places) (k * (n + 2))) true (ltb (length counts) k) ≡ short n targets places counts
short_is n k targets places counts e =
    let same : n + 2 ≡ width (cube n) = omega arith in
    ap (λ (c : ℕ). pick (ltb (length places) (c * (n + 2))) true (ltb (length counts) c)) e
    ∙ ap (λ (w : ℕ). pick (ltb (length places) (length targets * w)) true (ltb (length counts) (length targets))) same

-- what may be asked where room is left to look at: a sound request in a known cube, and doors enough that are not shut
pub record Asked (n s shut : ℕ) (targets : List ℕ) : Type 0 where
  pub size : n ≤ 32
  pub sound : Sound (2 ^ n) n s targets
  pub few : length targets + ones shut ≤ n
  pub held : (i : ℕ) → bit i shut ≡ 1 → i < n

-- 8, or nothing
abbrev pub late : (n : ℕ) (targets places counts : List ℕ) → Option Refusal
late n targets places counts = refuse (short n targets places counts) NoRoom none

-- what is then given
pub record Laid (n s shut : ℕ) (targets places counts : List ℕ) (r : Result ⊤ Refusal) (places₁ counts₁ : List ℕ) : Type 0 where
  pub planned : Planned (late n targets places counts) (cube n) s targets places counts r places₁ counts₁
  pub through : late n targets places counts ≡ none → (doors : ℕ) → shut ≡ less (2 ^ n - 1) doors → Through n s doors targets places₁ counts₁

module _ (n s shut : ℕ) (targets places counts : List ℕ) where
  pub no_room : short n targets places counts ≡ true → Laid n s shut targets places counts (Err NoRoom) places counts
  no_room e =
      let o : late n targets places counts ≡ some NoRoom = ap (λ (b : Bool). refuse b NoRoom none) e in
      record { planned = refusal (cube n) s targets places counts o; through = λ z. not-both o z }

  module _ (q : Asked n s shut targets) (e : short n targets places counts ≡ false) where
    -- there is room for the places and for the counts
    roomy : (length targets * (n + 2) ≤ length places) × (length targets ≤ length counts)
    roomy = go (ltb (length places) (length targets * width (cube n))) refl e
      where
        go : (b : Bool) → ltb (length places) (length targets * width (cube n)) ≡ b → pick b true (ltb (length counts) (length targets)) ≡ false
            → (length targets * (n + 2) ≤ length places) × (length targets ≤ length counts)
        go true p z = absurd (true-false refl z)
        go false p z =
            let same : n + 2 ≡ width (cube n) = omega arith in (
              subst (λ (w : ℕ). length targets * w ≤ length places) (sym same) (ltb-false (length places) (length targets * width (cube n)) p),
              ltb-false (length counts) (length targets) z,
            )

    pub sought : Sought n s shut targets places counts
    sought = record {
      size = q.size;
      few = q.few;
      held = q.held;
      source = q.sound.source;
      below = q.sound.below;
      other = q.sound.other;
      differ = q.sound.differ;
      room = roomy.0;
      counted = roomy.1;
    }

    module _ (places₁ counts₁ : List ℕ) (g : Given n s shut targets places counts places₁ counts₁)
        (long : length places₁ ≡ length places) (long_counts : length counts₁ ≡ length counts) where
      abbrev k : ℕ
      k = length targets

      way : (i : ℕ) → i < k → Way n (2 ^ n - 1) s shut (get_or targets i 0) (g.paths i)
      way i h = g.doors.each i (bit-full k i h)

      listed : Lists (cube n) s targets g.paths
      listed = record {
        chain = λ i h. walk_chain n (2 ^ n - 1) s (get_or targets i 0) (g.paths i) (full-below n) q.sound.source (way i h).walk;
        short = λ i h. (way i h).short;
        fresh = λ i h. ((way i h).away, (way i h).fresh);
        apart = λ i j h l. g.doors.apart i j (bit-full k i h) (bit-full k j l);
      }

      laid : lists.Laid (width (cube n)) s k g.paths places₁ counts₁
      laid = let same : n + 2 ≡ width (cube n) = omega arith in subst (λ (w : ℕ). lists.Laid w s k g.paths places₁ counts₁) same g.laid

      fan : Fan (cube n) s targets places₁ counts₁
      fan = laid-fan (cube n) s targets places₁ counts₁ g.paths listed laid

      module _ (doors : ℕ) (is : shut ≡ less (2 ^ n - 1) doors) where
        door-bit : (d : ℕ) → bit d shut ≡ bit d (2 ^ n - 1) - bit d doors
        door-bit d = ap (bit d) is ∙ bit-less d (2 ^ n - 1) doors

        opens : Through n s doors targets places₁ counts₁
        opens = record {
          first_hop = λ i h.
              let d = (way i h).door in (
                d.dim,
                omega (arith, door-bit d.dim, d.within, d.ajar, bit-lt d.dim doors),
                laid.at i 1 h (omega arith) ∙ ap (λ (l : List ℕ). get_or (s ∷ l) 1 filler) d.first,
              );
          shuns = λ i p d h l lt z e. go i p d h l lt z e;
        }
          where
            go : (i p d : ℕ) → i < k → p ≤ hops counts₁ i → d < n → bit d doors ≡ 0 → relay (width (cube n)) places₁ i p ≡ flip s d → p ≡ hops counts₁ i
            go i zero d h l lt z e = absurd (flip-moves s d (sym e ∙ (fan.path i h).starts))
            go i (suc p) d h l lt z e =
                let on : bit d shut ≡ 1 = omega (arith, door-bit d, bit-full n d lt) in
                let end : flip s d ≡ get_or targets i 0 = (way i h).shuns d on
                (subst (λ (x : ℕ). In x (g.paths i)) e (laid_in (cube n) s targets places₁ counts₁ g.paths listed laid i p h l)) in
                ⊎_elim (λ (a : (i ≡ i) × (suc p ≡ hops counts₁ i)). a.1) (λ (a : (suc p ≡ 0) × (hops counts₁ i ≡ 0)). absurd (omega (arith, a.0)))
                (fan.apart i i (suc p) (hops counts₁ i) h h l (omega arith) (e ∙ end ∙ sym (fan.path i h).ends))

      pub laid_out : Laid n s shut targets places counts (Ok tt) places₁ counts₁
      laid_out =
          let o : late n targets places counts ≡ none = ap (λ (b : Bool). refuse b NoRoom none) e in
          record {
            planned = granted (cube n) s targets places counts places₁ counts₁ o fan (let same : n + 2 ≡ width (cube n) = omega arith in
                subst (λ (w : ℕ). (i : ℕ) → k * w ≤ i → get_or places₁ i 0 ≡ get_or places i 0) same g.beyond) g.kept long long_counts;
            through = λ z doors is. opens doors is;
          }
