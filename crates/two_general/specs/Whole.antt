-- The whole plan: the paths that are written are a fan over numbers (`painted_fan`). Assumes nothing.
use Rattle.std.specs.Prelude.{ℕ, ◌+◌, ◌-◌, ◌^◌, ◌≤◌, ◌<◌, ◌≡◌, refl, ◌⊎◌, not, List, [], ◌++◌, Option, length, get_or}
use Rattle.std.proofs.Common.{sym, ap, ◌∙◌, subst, inl, inr, ⊎_elim, arith, eq-eqb, ne_eqb}
use Rattle.std.specs.Int.Count.{ones-ones}
use Rattle.cube_math.specs.Masks.{at}
use Rattle.bits.specs.Bit.{bit}
use Rattle.bits.specs.Laws.{bit-cases, lt-or-le}
use Rattle.paths.specs.Mesh.{Mesh}
use Rattle.paths.specs.Lists.{Lists}
use Rattle.requests.specs.Sound.{Sound}
use Rattle.cube_math.specs.Doors.{Way, Doors, In}
use Rattle.cube_math.specs.Plain.{bit-full}
use Rattle.two_parts.specs.Two.{two}
use Rattle.two_math.specs.Relays.{Relay, inside}
use Rattle.two_math.specs.Plan.{Role, Draft}
use Rattle.two_math.proofs.Roles.{drafted, finished}
use Rattle.two_math.specs.Assemble.{most, TwoFan}
use Rattle.two_math.specs.Numbers.{numbers, block, slot, numbers-fan, ask_numbers}
use Rattle.two_choose.specs.declared.Choice.{Choice}
use Rattle.two_choose.specs.Chosen.{Asks}
use Rattle.two_takeover.specs.declared.Taken as taken
use Rattle.two_write.specs.Row.{hops}
use Rattle.two_write.specs.Rows.{Drawing, Ready, Drawn, drawn, drawn-has, drawing_drawn}
use Rattle.two_general.specs.Draft.{who_of}
use Rattle.two_general.specs.Filled.{Filled}
use Rattle.two_general.specs.Path.{head-on, head_off}
use Rattle.two_general.specs.Paths.{head_of, Held, Pathed}

-- ---- the same by other words

doors_hops : {n free s shut set : ℕ} {to : ℕ → ℕ} {h : ℕ → List ℕ} (again : ℕ → List ℕ) → ((j : ℕ) → bit j set ≡ 1 → again j ≡ h j) → Doors n free s shut set to h
    → Doors n free s shut set to again
doors_hops {n} {free} {s} {shut} {set} {to} {h} again e f = record {
  each = λ j o. subst (λ (l : List ℕ). Way n free s shut (to j) l) (sym (e j o)) (f.each j o);
  apart = λ i j o p ne x a b. f.apart i j o p ne x (subst (In x) (e i o) a) (subst (In x) (e j p) b);
}

lists_same : {mesh : Mesh} {s : ℕ} {targets : List ℕ} {paths : ℕ → List ℕ} (again : ℕ → List ℕ) → ((j : ℕ) → j < length targets → again j ≡ paths j) → Lists mesh s targets paths
    → Lists mesh s targets again
lists_same {mesh} {s} {targets} {paths} again e f = record {
  chain = λ j h. rw (e j h) (f.chain j h);
  short = λ j h. rw (e j h) (f.short j h);
  fresh = λ j h. rw (e j h) (f.fresh j h);
  apart = λ i j h g ne x a b. f.apart i j h g ne x (subst (In x) (e i h) a) (subst (In x) (e j g) b);
}

-- ---- the targets, taken apart

module _ {m s : ℕ} {targets blocks slots : List ℕ} (low : 2 ≤ m) (high : m ≤ 5) (sound : Sound (two m).relays (m + 1) s targets)
    (tb : Filled 8 (length targets) (λ j v. v ≡ block m (at targets j)) blocks) (tp : Filled 8 (length targets) (λ j v. v ≡ slot m (at targets j)) slots) where
  pub targets_ask : Asks m (block m s) (slot m s) (length targets) blocks slots
  targets_ask =
      let a = ask_numbers m s (length targets) (at targets) sound.few sound.source sound.below sound.other sound.differ in
      record {
        low = low;
        high = high;
        ask = record {
          few = a.few;
          home-slot = a.home-slot;
          home-block = a.home-block;
          slots = λ j h. rw (tp.each j h) (a.slots j h);
          blocks = λ j h. rw (tb.each j h) (a.blocks j h);
          differ = λ i j h g ne e f. a.differ i j h g ne (sym (tb.each i h) ∙ e ∙ tb.each j g) (sym (tp.each i h) ∙ f ∙ tp.each j g);
          other = λ j h e f. a.other j h (sym (tb.each j h) ∙ e) (sym (tp.each j h) ∙ f);
        };
        slot = λ j. ⊎_elim (λ h. rw (tp.each j h) (a.slots j h)) (λ h. rw (tp.rest j h) (omega (arith, a.home-slot))) (lt-or-le j (length targets));
      }

  two-same : {paths : ℕ → List Relay} → TwoFan m (block m s) (slot m s) (length targets) (at blocks) (at slots) paths
      → TwoFan m (block m s) (slot m s) (length targets) (λ j. block m (get_or targets j 0)) (λ j. slot m (get_or targets j 0)) paths
  two-same f = record { chain = λ j h. rw (← tb.each j h, ← tp.each j h) (f.chain j h); once = f.once; short = f.short; apart = f.apart }

-- ---- the paths

-- what was chosen, and the paths that were written by it
pub record Painted (m s0 p0 k w source : ℕ) (blocks slots places counts places₁ counts₁ : List ℕ) : Type 0 where
  pub c : Choice
  pub o : Option taken.Taken
  pub g : List ℕ
  pub leaves : List ℕ
  pub heads : List ℕ
  pub held : Held m s0 p0 k blocks slots c o g leaves heads
  pub drawing : Drawing w source k (Pathed m s0 p0 k blocks slots c o g leaves heads) places counts places₁ counts₁ k

module _ {m s0 p0 k : ℕ} {blocks slots : List ℕ} {c : Choice} {o : Option taken.Taken} {g leaves heads : List ℕ} (h : Held m s0 p0 k blocks slots c o g leaves heads)
    (path : ℕ → List ℕ) (has : (j : ℕ) → j < k → Pathed m s0 p0 k blocks slots c o g leaves heads j (path j)) where
  piece-or : (j : ℕ) → (j < k) ⊎ (k ≤ j) → (row : ℕ) × (route tail : List ℕ) × (body : List Relay)
      × (j < k → Role m s0 p0 k (at blocks) (at slots) c.gates.gated c.rows (who_of o) (at c.gates.slots) (at c.ends) (hops g) j (at leaves j) row route tail body
      × (path j ≡ numbers m (inside s0 (head_of p0 leaves heads j) ++ (body ++ inside (at blocks j) tail))))
  piece-or j (inl l) = let x = has j l in (x.row, x.route, x.tail, x.body, λ z. (x.role, x.is))
  piece-or j (inr l) = (0, [], [], [], λ z. absurd (omega arith))

  abbrev piece : (j : ℕ) → (row : ℕ) × (route tail : List ℕ) × (body : List Relay)
      × (j < k → Role m s0 p0 k (at blocks) (at slots) c.gates.gated c.rows (who_of o) (at c.gates.slots) (at c.ends) (hops g) j (at leaves j) row route tail body
      × (path j ≡ numbers m (inside s0 (head_of p0 leaves heads j) ++ (body ++ inside (at blocks j) tail))))
  piece j = piece-or j (lt-or-le j k)

  abbrev relays : ℕ → List Relay
  relays j = inside s0 (head_of p0 leaves heads j) ++ ((piece j).3 ++ inside (at blocks j) (piece j).2)

  head-of : (j : ℕ) → bit j h.walkers ≡ 1 → head_of p0 leaves heads j ≡ hops heads j
  head-of j o = head-on (hops heads j) (ap not (ne_eqb (at leaves j) p0 (h.walk.holds j o)))

  all_draft : Draft m s0 p0 k (at blocks) (at slots) c.gates.gated c.rows (who_of o) (at c.gates.slots) (at c.ends) (hops g) c.shut (at leaves)
      (λ j. (piece j).0) (λ j. (piece j).1) (λ j. (piece j).2) (λ j. (piece j).3)
  all_draft =
      let p = h.state.planned in
      drafted p.asks.ask p.chose.sort p.chose.gate p.chose.keeps p.chose.end (who_of o) (hops g) p.chose.shuts p.fan (λ j l. ((piece j).4 l).0)

  paths-fan : TwoFan m s0 p0 k (at blocks) (at slots) relays
  paths-fan =
      let p = h.state.planned in
      finished p.asks.ask p.chose.sort p.chose.gate p.chose.keeps p.chose.end (who_of o) (hops g) p.chose.shuts h.walkers (head_of p0 leaves heads) relays all_draft
      (doors_hops (head_of p0 leaves heads) head-of (subst (λ (y : ℕ). Doors y (2 ^ m - 1) p0 0 h.walkers (at leaves) (hops heads)) (ones-ones m) h.fan.fan))
      (λ j l. ⊎_elim (λ z. let e = h.walk.fails j (bit-full k j l) z in inr (e, head_off (hops heads j) (ap not (eq-eqb (at leaves j) p0 e)))) (λ z. inl z) (bit-cases j h.walkers))
      (λ j l. refl)

  paths_are : (j : ℕ) → j < k → path j ≡ numbers m (relays j)
  paths_are j l = ((piece j).4 l).1

module _ {m s w : ℕ} {targets blocks slots places counts places₁ counts₁ : List ℕ} (low : 2 ≤ m) (high : m ≤ 5) (wide : w ≡ most m + 1) (ready : Ready (two m) s targets places counts)
    (tb : Filled 8 (length targets) (λ j v. v ≡ block m (at targets j)) blocks) (tp : Filled 8 (length targets) (λ j v. v ≡ slot m (at targets j)) slots) where
  pub painted_fan : Painted m (block m s) (slot m s) (length targets) w s blocks slots places counts places₁ counts₁ → Drawn (two m) s targets places counts places₁ counts₁
  painted_fan p =
      let d = subst (λ (y : ℕ). Drawing y s (length targets) (Pathed m (block m s) (slot m s) (length targets) blocks slots p.c p.o p.g p.leaves p.heads) places counts places₁ counts₁ (length targets)) wide p.drawing in
      drawing_drawn d (lists_same (drawn d) (paths_are p.held (drawn d) (drawn-has d))
      (numbers-fan m s targets _ ready.sound.source (two-same low high ready.sound tb tp (paths-fan p.held (drawn d) (drawn-has d)))))
