-- Main theorems: of a fan of k paths with f failures, stopped relays and cut links together, the source not stopped, survivors counts at least k less f
-- (`survivors_survive`); so of a bundle, neither end stopped (`bundle_survivors_survive`). With the source stopped it counts none (`survivors_none`), nor with an end of
-- a bundle (`bundle_survivors_none`); where nothing has failed all (`survivors_all`, `bundle_survivors_all`). Repeated numbers, numbers that are no relay, and the order
-- of a pair change nothing (`members_alike`), nor do pairs that are no link (`no_link_alike`), nor an empty list of cuts (`nothing-cut`). Assumes nothing.
use Rattle.std.specs.Prelude.{ℕ, ◌+◌, ◌≤◌, ◌<◌, ◌≡◌, refl, Bool, true, false, ◌||◌, ◌⊎◌, List, [], ◌∷◌, Ok, length}
use Rattle.std.proofs.Common.{sym, ◌∙◌, ⊎_elim, arith}
use Rattle.std.proofs.Math.Path.{ap, ap₂}
use Rattle.std.proofs.Math.Bool.{not, or-false}
use Rattle.std.proofs.Math.Option.{none}
use Rattle.std.proofs.lemmas.List.{length-replicate}
use Rattle.scan.specs.Scan.{Spot, found, any, count, has, different}
use Rattle.scan.specs.Laws.{true-false, not-true, false-any, has-none, seek-same}
use Rattle.answers.specs.Order.{first}
use Rattle.paths.specs.Mesh.{Mesh, width}
use Rattle.paths.specs.Rules.{Rules, span}
use Rattle.paths.specs.Fan.{PathBy, Fan, relay, hops}
use Rattle.paths.specs.Finding.{clean}
use Rattle.paths.specs.Bundles.{Bundle, bundle_rules}
use Rattle.paths.proofs.Bundles.{clean_bundle}
use Rattle.paths.specs.Whole.{Failed, failed, failures, cut, stops, severs, broken, whole, relays_of, link, links_of}
use Rattle.paths.specs.Cuts.{pair-two, link-two}
use Rattle.paths.proofs.Judged.{clean_fan}
use Rattle.paths.proofs.Survive.{relay_within, link_within, fan_survives, none_survives, bundle_survives, start-stopped, end-stopped}
use Rattle.mesh.specs.Kinds.{Kind}
use Rattle.mesh.specs.Requests.{request_fine, ends-fine}
use Rattle.judge.specs.Says.{verdict_told, fan_asked, bundle_asked, Asked, asked_finding}
use Rattle.columns.specs.Laws.{count_most}
use Rattle.survivors.specs.Tally.{Tally, ruling_of, whole_of, verdict_of, count_of}
use Rattle.survivors.specs.Says.{Survived}
use Rattle.survivors.specs.Laws.{judged_clean, judged_passed, settled_is}

-- a count is given only where nothing stands against it and nothing is found, and is that of the whole paths
counted_clean : (wanting : Bool) (q : Asked) (places counts : List ℕ) (fails : Failed) (ends hops₀ wholes : List ℕ) (r : Tally) (ends₁ hops₁ wholes₁ : List ℕ)
    → Survived wanting q places counts fails ends hops₀ wholes r ends₁ hops₁ wholes₁ → (c : ℕ) → r ≡ Ok c
    → (first q.faults ≡ none) × (asked_finding q places counts ≡ clean) × (c ≡ count (whole (span q.rules) places counts fails) (length q.targets))
counted_clean wanting q places counts fails ends hops₀ wholes r ends₁ hops₁ wholes₁ p c e =
    let ruled = sym (ap (λ (t : Tally). verdict_told (verdict_of t)) e) ∙ ap ruling_of p.told in
    let None-found = judged_clean wanting q places counts fails ends hops₀ wholes ruled in
    let passed = judged_passed wanting q places counts fails ends hops₀ wholes ruled in
    (passed.faultless, None-found.1, sym (ap count_of e) ∙ ap whole_of p.told ∙ settled_is _ 0 None-found.0 None-found.1)

-- ---- a fan

module _ (wanting : Bool) (K : Kind) (n s : ℕ) (targets places counts : List ℕ) (fails : Failed) (ends hops₀ wholes : List ℕ) (r : Tally) (ends₁ hops₁ wholes₁ : List ℕ)
    (p : Survived wanting (fan_asked K n s targets) places counts fails ends hops₀ wholes r ends₁ hops₁ wholes₁) (c : ℕ) (e : r ≡ Ok c) where
  -- a count is given of a fan only, from a relay of the mesh, and is that of its whole paths
  pub counted-fan : Fan (K.mesh n) s targets places counts × (s < (K.mesh n).relays) × (c ≡ count (whole (width (K.mesh n)) places counts fails) (length targets))
  counted-fan =
      let r = counted_clean wanting (fan_asked K n s targets) places counts fails ends hops₀ wholes r ends₁ hops₁ wholes₁ p c e in
      (clean_fan (K.mesh n) s targets places counts r.1, (request_fine K n s targets r.0).sound.source, r.2)

  -- f failures, the source not stopped, leave at least paths less f whole
  pub survivors_survive : has fails.stopped s ≡ false → length targets ≤ c + failures (K.mesh n) fails
  survivors_survive h = omega (arith, fan_survives (K.mesh n) s targets places counts counted-fan.0 counted-fan.1 fails h, counted-fan.2)

  -- a stopped source leaves none whole
  pub survivors_none : has fails.stopped s ≡ true → c ≡ 0
  survivors_none h = counted-fan.2 ∙ none_survives (K.mesh n) s targets places counts counted-fan.0 fails h

-- where nothing has failed, all are whole
pub survivors_all : (wanting : Bool) (K : Kind) (n s : ℕ) (targets places counts ends hops₀ wholes : List ℕ) (r : Tally) (ends₁ hops₁ wholes₁ : List ℕ)
    → Survived wanting (fan_asked K n s targets) places counts (failed [] []) ends hops₀ wholes r ends₁ hops₁ wholes₁ → (c : ℕ) → r ≡ Ok c → c ≡ length targets
unfolding different relays_of links_of
survivors_all wanting K n s targets places counts ends hops₀ wholes r ends₁ hops₁ wholes₁ p c e =
    let all = survivors_survive wanting K n s targets places counts (failed [] []) ends hops₀ wholes r ends₁ hops₁ wholes₁ p c e (has-none s) in
    let most = count_most (whole (width (K.mesh n)) places counts (failed [] [])) (length targets) in
    omega (arith, all, most, (counted-fan wanting K n s targets places counts (failed [] []) ends hops₀ wholes r ends₁ hops₁ wholes₁ p c e).2)

-- ---- a bundle

module _ (wanting : Bool) (K : Kind) (n s t : ℕ) (places counts : List ℕ) (fails : Failed) (ends hops₀ wholes : List ℕ) (r : Tally) (ends₁ hops₁ wholes₁ : List ℕ)
    (p : Survived wanting (bundle_asked K n s t) places counts fails ends hops₀ wholes r ends₁ hops₁ wholes₁) (c : ℕ) (e : r ≡ Ok c) where
  abbrev m : Mesh
  m = K.mesh n

  pub counted_bundle : Bundle m s t places counts × (s < m.relays) × (c ≡ count (whole (span (bundle_rules m)) places counts fails) m.links)
  counted_bundle =
      let r = counted_clean wanting (bundle_asked K n s t) places counts fails ends hops₀ wholes r ends₁ hops₁ wholes₁ p c e in
      (clean_bundle m s t places counts r.1, (ends-fine K n s t r.0).source, r.2 ∙ ap (count (whole (span (bundle_rules m)) places counts fails)) (length-replicate m.links t))

  -- f failures, neither end stopped, leave at least links less f whole
  pub bundle_survivors_survive : has fails.stopped s ≡ false → has fails.stopped t ≡ false → m.links ≤ c + failures m fails
  bundle_survivors_survive h g = omega (arith, bundle_survives m s t places counts counted_bundle.0 counted_bundle.1 fails h g, counted_bundle.2)

  -- an end that is stopped leaves none whole
  pub bundle_survivors_none : (has fails.stopped s ≡ true) ⊎ (has fails.stopped t ≡ true) → c ≡ 0
  bundle_survivors_none h =
      counted_bundle.2
      ∙ ⊎_elim (start-stopped m s t places counts counted_bundle.0 fails) (end-stopped m s t places counts counted_bundle.0 fails) h

pub bundle_survivors_all : (wanting : Bool) (K : Kind) (n s t : ℕ) (places counts ends hops₀ wholes : List ℕ) (r : Tally) (ends₁ hops₁ wholes₁ : List ℕ)
    → Survived wanting (bundle_asked K n s t) places counts (failed [] []) ends hops₀ wholes r ends₁ hops₁ wholes₁ → (c : ℕ) → r ≡ Ok c → c ≡ (K.mesh n).links
unfolding different relays_of links_of
bundle_survivors_all wanting K n s t places counts ends hops₀ wholes r ends₁ hops₁ wholes₁ p c e =
    let all = bundle_survivors_survive wanting K n s t places counts (failed [] []) ends hops₀ wholes r ends₁ hops₁ wholes₁ p c e (has-none s) (has-none t) in
    let most = count_most (whole (span (bundle_rules (K.mesh n))) places counts (failed [] [])) (K.mesh n).links in
    omega (arith, all, most, (counted_bundle wanting K n s t places counts (failed [] []) ends hops₀ wholes r ends₁ hops₁ wholes₁ p c e).2)

-- where nothing is cut, a path is whole exactly where no relay on it has stopped
pub nothing-cut : (w : ℕ) (places counts stopped : List ℕ) (i : ℕ)
    → whole w places counts (failed stopped []) i ≡ not (any (stops w places (failed stopped []) i) 0 (hops counts i + 1))
unfolding whole broken severs cut
nothing-cut w places counts stopped i =
    let halted = any (stops w places (failed stopped []) i) 0 (hops counts i + 1) in
    ap (λ (x : Bool). not (halted || x)) (false-any (severs w places (failed stopped []) i) 0 (hops counts i) (λ p a b. refl)) ∙ ap not (or-false halted)

-- ---- lists that have the same relays and the same links leave the same paths whole

-- paths by any rules from s, each to an end of its own
module _ (r : Rules) (s k : ℕ) (ends : ℕ → ℕ) (places counts : List ℕ) (path : (i : ℕ) → i < k → PathBy r s (ends i) places counts i) (within : s < r.mesh.relays) where
  abbrev at : ℕ → ℕ → ℕ
  at = relay (span r) places

  pub members_alike : (a b : Failed) → ((x : ℕ) → x < r.mesh.relays → has a.stopped x ≡ has b.stopped x)
      → ((u v : ℕ) → link r.mesh u v ≡ true → cut a.cuts u v ≡ cut b.cuts u v) → (i : ℕ) → i < k
      → whole (span r) places counts a i ≡ whole (span r) places counts b i
  unfolding whole broken any stops severs
  members_alike a b same joined i l =
      ap₂ (λ (x y : Spot). not (found x || found y))
      (seek-same (stops (span r) places a i) (stops (span r) places b i) 0 (hops counts i + 1)
      (λ p g h. same (at i p) (relay_within r s k ends places counts path within i p l (omega arith))))
      (seek-same (severs (span r) places a i) (severs (span r) places b i) 0 (hops counts i)
      (λ p g h. joined (at i p) (at i (p + 1)) (link_within r s k ends places counts path within i p l (omega arith))))

  -- a pair that is no link does nothing
  pub no_link_alike : (stopped cuts : List ℕ) (a b : ℕ) → link r.mesh a b ≡ false → (i : ℕ) → i < k
      → whole (span r) places counts (failed stopped (a ∷ b ∷ cuts)) i ≡ whole (span r) places counts (failed stopped cuts) i
  unfolding cut
  no_link_alike stopped cuts a b no_link =
      members_alike (failed stopped (a ∷ b ∷ cuts)) (failed stopped cuts) (λ x h. refl)
      (λ u v joined. ap (λ (x : Bool). x || cut cuts u v) (not-true (λ e. true-false (link-two r.mesh a b u v (pair-two a b u v e) joined) no_link)))
