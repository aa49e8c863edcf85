-- The search for a shortest way, breadth first from the target: what holds of its labels and of its queue (`Reached`), over any mesh whose links are told one by one. A
-- label is 0 (not reached), d + 1 (d links from the target by relays that run) or `halt` (stopped); the queue holds the relays that have been reached, in their order, and
-- the links of those before `head` have been followed, as have `done` of the one at `head`. `begin`, `enter`, `pass` and `next` are the steps of the search; `found`, `lost` and `down` what it
-- comes to. Assumes nothing.
use Rattle.std.specs.Prelude.{ℕ, zero, suc, ◌+◌, ◌≤◌, ◌<◌, ◌≡◌, refl, Bool, true, false, ◌⊎◌, ◌≢◌, List, eqb}
use Rattle.std.proofs.Common.{sym, ap, ◌∙◌, subst, inl, inr, arith, eq-eqb, ne_eqb}
use Rattle.std.proofs.Math.Decide.{ℕ_discrete, dec_lt}
use Rattle.scan.specs.Scan.{count, has}
use Rattle.scan.specs.Laws.{true-or, true-false, count-on, count_off, count_none}
use Rattle.scan.specs.Counts.{count-one-more}
use Rattle.paths.specs.Mesh.{Mesh}
use Rattle.paths.specs.Links.{Links}
use Rattle.paths.specs.Ways.{Way, Shortest}
use Rattle.around_search.specs.Avoid.{avoiding, link-runs, runs-link}

-- the label of what has stopped
abbrev pub halt : ℕ
halt = 4294967295

-- how many relays below n have no label
abbrev pub unreached : (lab : ℕ → ℕ) (n : ℕ) → ℕ
unreached lab n = count (λ r. eqb (lab r) 0) n

-- the link k of entry i has been followed
abbrev pub Followed : (head done i k : ℕ) → Type 0
Followed head done i k = (i < head) ⊎ ((i ≡ head) × (k < done))

-- relay v has stopped, or has a label that is at most one above d
abbrev pub Near : (stopped : List ℕ) (lab : ℕ → ℕ) (v d : ℕ) → Type 0
Near stopped lab v d = (has stopped v ≡ true) ⊎ ((0 < lab v) × (lab v ≤ suc d))

pub record Reached (m : Mesh) (near : ℕ → ℕ → ℕ) (stopped : List ℕ) (t : ℕ) (lab q : ℕ → ℕ) (head done tail : ℕ) : Type 0 where
  pub within : head ≤ tail
  pub room : tail + unreached lab m.relays ≤ m.relays
  -- the target is the first, and alone has the label 1
  pub start : 0 < tail
  pub front : q 0 ≡ t
  pub one : lab t ≡ 1
  pub halts : (r : ℕ) → r < m.relays → has stopped r ≡ true → lab r ≡ halt
  -- the queue: relays that run, with labels that do not fall, and all that have one
  pub relay : (i : ℕ) → i < tail → q i < m.relays
  pub running : (i : ℕ) → i < tail → has stopped (q i) ≡ false
  pub positive : (i : ℕ) → i < tail → 0 < lab (q i)
  pub small : (i : ℕ) → i < tail → lab (q i) ≤ suc i
  pub rising : (i j : ℕ) → i ≤ j → j < tail → lab (q i) ≤ lab (q j)
  pub close : (j : ℕ) → head < tail → j < tail → lab (q j) ≤ suc (lab (q head))
  pub held : (r : ℕ) → r < m.relays → has stopped r ≡ false → 0 < lab r → (i : ℕ) × (i < tail) × (q i ≡ r)
  -- what a label says
  pub shortest : (i d : ℕ) → i < tail → lab (q i) ≡ suc d → Shortest (avoiding m stopped) (q i) t d
  pub parent : (i d : ℕ) → i < tail → lab (q i) ≡ suc (suc d) → (k : ℕ) × (k < m.links) × (lab (near (q i) k) ≡ suc d)
  pub followed : (i k : ℕ) → i < tail → k < m.links → Followed head done i k → Near stopped lab (near (q i) k) (lab (q i))

-- ---- counting

pub count_most : (p : ℕ → Bool) (n : ℕ) → count p n ≤ n
count_most p zero = omega (arith, count_none p)
count_most p (suc n) = go (true-or (p n)) (count_most p n)
  where
    go : (p n ≡ true) ⊎ (p n ≡ false) → count p n ≤ n → count p (suc n) ≤ suc n
    go (inl t) r = omega (arith, count-on p n t)
    go (inr f) r = omega (arith, count_off p n f)

-- one number at which a test does not hold is not counted
pub count_less : (p : ℕ → Bool) (n x : ℕ) → x < n → p x ≡ false → count p n < n
count_less p zero x h f = absurd (omega arith)
count_less p (suc n) x h f = go (true-or (p n)) (ℕ_discrete x n) (count_most p n) (λ l. count_less p n x l f)
  where
    go : (p n ≡ true) ⊎ (p n ≡ false) → Dec (x ≡ n) → count p n ≤ n → (x < n → count p n < n) → count p (suc n) < suc n
    go (inr e) d r rest = omega (arith, count_off p n e)
    go (inl e) (yes z) r rest = absurd (true-false e (ap p (sym z) ∙ f))
    go (inl e) (no ne) r rest = omega (arith, count-on p n e, rest (omega arith))

-- one number at which a test holds is counted
pub count-some : (p : ℕ → Bool) (n x : ℕ) → x < n → p x ≡ true → 0 < count p n
count-some p zero x h t = absurd (omega arith)
count-some p (suc n) x h t = go (true-or (p n)) (ℕ_discrete x n) (λ l. count-some p n x l t)
  where
    go : (p n ≡ true) ⊎ (p n ≡ false) → Dec (x ≡ n) → (x < n → 0 < count p n) → 0 < count p (suc n)
    go (inl e) d rest = omega (arith, count-on p n e)
    go (inr e) (yes z) rest = absurd (true-false (ap p (sym z) ∙ t) e)
    go (inr e) (no ne) rest = omega (arith, count_off p n e, rest (omega arith))

-- ---- relays are reached level by level

-- a relay with a way of n links has a label of n + 1 at most, or the links of one with a label of n at most are still to be followed
abbrev Ahead : (stopped : List ℕ) (lab q : ℕ → ℕ) (head tail n r : ℕ) → Type 0
Ahead stopped lab q head tail n r = ((has stopped r ≡ false) × (0 < lab r) × (lab r ≤ suc n)) ⊎ ((i : ℕ) × (head ≤ i) × (i < tail) × (lab (q i) ≤ n))

module _ {m : Mesh} {near : ℕ → ℕ → ℕ} (L : Links m near) {stopped : List ℕ} {t : ℕ} where
  level : {lab q : ℕ → ℕ} {head done tail : ℕ} → Reached m near stopped t lab q head done tail
      → (n r : ℕ) → r < m.relays → Way (avoiding m stopped) n r t → Ahead stopped lab q head tail n r
  level {lab} {q} {head} {done} {tail} R zero r h e =
      inl (ap (has stopped) (e ∙ sym R.front) ∙ R.running 0 R.start, omega (arith, R.one, ap lab e), omega (arith, R.one, ap lab e))
  level {lab} {q} {head} {done} {tail} R (suc n) r h (w, a, l, rest) = go (level R n w a rest)
    where
      ll : (m.linked r w ≡ true) × (has stopped r ≡ false) × (has stopped w ≡ false)
      ll = link-runs m stopped r w l

      at_entry : (i : ℕ) → i < tail → q i ≡ w → lab w ≤ suc n → (i < head) ⊎ (head ≤ i) → Ahead stopped lab q head tail (suc n) r
      at_entry i hi e small (inr b) = inr (i, b, hi, omega (arith, ap lab e))
      at_entry i hi e small (inl b) =
          let (k, hk, ek) = L.all w r a h (L.both w r a h ∙ ll.0) in
          by k hk (ap (λ (x : ℕ). near x k) e ∙ ek)
        where
          by : (k : ℕ) → k < m.links → near (q i) k ≡ r → Ahead stopped lab q head tail (suc n) r
          by k hk z = close (subst (λ (x : ℕ). Near stopped lab x (lab (q i))) z (R.followed i k hi hk (inl b)))
            where
              close : Near stopped lab r (lab (q i)) → Ahead stopped lab q head tail (suc n) r
              close (inl s) = absurd (true-false s ll.1)
              close (inr (p, u)) = inl (ll.1, p, omega (arith, ap lab e))

      side : (i : ℕ) → Dec (i < head) → (i < head) ⊎ (head ≤ i)
      side i (yes b) = inl b
      side i (no b) = inr (omega (arith, b))

      go : Ahead stopped lab q head tail n w → Ahead stopped lab q head tail (suc n) r
      go (inr (i, a, b, c)) = inr (i, a, b, omega arith)
      go (inl (run, p, u)) = let (i, hi, e) = R.held w a run p in at_entry i hi e u (side i (dec_lt i head))

  -- ---- what the search comes to

  pub found : {lab q : ℕ → ℕ} {head done tail : ℕ} → Reached m near stopped t lab q head done tail → (s d : ℕ) → s < m.relays → has stopped s ≡ false → lab s ≡ suc d
      → Shortest (avoiding m stopped) s t d
  found {lab} R s d h run e =
      let (i, hi, z) = R.held s h run (omega arith) in
      subst (λ (x : ℕ). Shortest (avoiding m stopped) x t d) z (R.shortest i d hi (ap lab z ∙ e))

  -- where all links have been followed, a relay without a label has no way
  pub lost : {lab q : ℕ → ℕ} {head done tail : ℕ} → Reached m near stopped t lab q head done tail → tail ≤ head → (s : ℕ) → s < m.relays → lab s ≡ 0
      → (n : ℕ) → Way (avoiding m stopped) n s t → ⊥
  lost {lab} {q} {head} {done} {tail} R end s h e n w = go (level R n s h w)
    where
      go : Ahead stopped lab q head tail n s → ⊥
      go (inl (a, b, c)) = omega arith
      go (inr (i, a, b, c)) = omega arith

  -- a relay with a label has a link to one of the label below
  pub down : {lab q : ℕ → ℕ} {head done tail : ℕ} → Reached m near stopped t lab q head done tail → (s d : ℕ) → s < m.relays → has stopped s ≡ false → lab s ≡ suc (suc d)
      → (k : ℕ) × (k < m.links) × (lab (near s k) ≡ suc d)
  down {lab} R s d h run e =
      let (i, hi, z) = R.held s h run (omega arith) in
      subst (λ (x : ℕ). (k : ℕ) × (k < m.links) × (lab (near x k) ≡ suc d)) z (R.parent i d hi (ap lab z ∙ e))

  -- ---- the steps of the search

  -- the link `done` of the relay at `head` leads to one that has a label
  pub pass : {lab q : ℕ → ℕ} {head done tail : ℕ} → Reached m near stopped t lab q head done tail → head < tail → done < m.links → 0 < lab (near (q head) done)
      → Reached m near stopped t lab q head (suc done) tail
  pass {lab} {q} {head} {done} {tail} R h hd p = record {
    within = R.within;
    room = R.room;
    start = R.start;
    front = R.front;
    one = R.one;
    halts = R.halts;
    relay = R.relay;
    running = R.running;
    positive = R.positive;
    small = R.small;
    rising = R.rising;
    close = R.close;
    held = R.held;
    shortest = R.shortest;
    parent = R.parent;
    followed = λ i k hi hk f. by i k hi hk f;
  }
    where
      labelled : (has stopped (near (q head) done) ≡ true) ⊎ (has stopped (near (q head) done) ≡ false) → Near stopped lab (near (q head) done) (lab (q head))
      labelled (inl s) = inl s
      labelled (inr r) =
          let (i, hi, z) = R.held (near (q head) done) (L.below (q head) done (R.relay head h) hd) r p in
          inr (p, omega (arith, R.close i h hi, ap lab z))

      here : (i k : ℕ) → i ≡ head → k ≡ done → Near stopped lab (near (q i) k) (lab (q i))
      here i k e z = subst (λ (x : ℕ). Near stopped lab (near (q x) k) (lab (q x))) (sym e) (subst (λ (y : ℕ). Near stopped lab (near (q head) y) (lab (q head))) (sym z) (labelled (true-or (has stopped (near (q head) done)))))

      by : (i k : ℕ) → i < tail → k < m.links → Followed head (suc done) i k → Near stopped lab (near (q i) k) (lab (q i))
      by i k hi hk (inl b) = R.followed i k hi hk (inl b)
      by i k hi hk (inr (e, l)) = at (ℕ_discrete k done)
        where
          at : Dec (k ≡ done) → Near stopped lab (near (q i) k) (lab (q i))
          at (yes z) = here i k e z
          at (no ne) = R.followed i k hi hk (inr (e, omega arith))

  -- all links of the relay at `head` have been followed
  pub next : {lab q : ℕ → ℕ} {head done tail : ℕ} → Reached m near stopped t lab q head done tail → head < tail → m.links ≤ done
      → Reached m near stopped t lab q (suc head) 0 tail
  next {lab} {q} {head} {done} {tail} R h all = record {
    within = h;
    room = R.room;
    start = R.start;
    front = R.front;
    one = R.one;
    halts = R.halts;
    relay = R.relay;
    running = R.running;
    positive = R.positive;
    small = R.small;
    rising = R.rising;
    close = λ j a b. omega (arith, R.close j h b, R.rising head (suc head) (omega arith) a);
    held = R.held;
    shortest = R.shortest;
    parent = R.parent;
    followed = λ i k hi hk f. by i k hi hk f (ℕ_discrete i head);
  }
    where
      by : (i k : ℕ) → i < tail → k < m.links → Followed (suc head) 0 i k → Dec (i ≡ head) → Near stopped lab (near (q i) k) (lab (q i))
      by i k hi hk (inr (e, l)) d = absurd (omega arith)
      by i k hi hk (inl b) (yes e) = R.followed i k hi hk (inr (e, omega arith))
      by i k hi hk (inl b) (no ne) = R.followed i k hi hk (inl (omega arith))

  -- the link `done` of the relay at `head` leads to one without a label: it gets the next label, and comes to the end of the queue
  pub enter : {lab q lab' q' : ℕ → ℕ} {head done tail : ℕ} → Reached m near stopped t lab q head done tail → head < tail → done < m.links → lab (near (q head) done) ≡ 0
      → lab' (near (q head) done) ≡ suc (lab (q head)) → ((r : ℕ) → r ≢ near (q head) done → lab' r ≡ lab r)
      → q' tail ≡ near (q head) done → ((i : ℕ) → i ≢ tail → q' i ≡ q i)
      → Reached m near stopped t lab' q' head (suc done) (suc tail)
  enter {lab} {q} {lab'} {q'} {head} {done} {tail} R h hd fresh new old last others = record {
    within = omega (arith, R.within);
    room = omega (arith, R.room, fewer);
    start = omega arith;
    front = others 0 (λ z. omega (arith, R.start)) ∙ R.front;
    one = old t (λ z. omega (arith, R.one, ap lab z)) ∙ R.one;
    halts = λ r a b. old r (λ z. true-false b (ap (has stopped) z ∙ runs)) ∙ R.halts r a b;
    relay = λ i a. relay i a (ℕ_discrete i tail);
    running = λ i a. running i a (ℕ_discrete i tail);
    positive = λ i a. positive i a (ℕ_discrete i tail);
    small = λ i a. small i a (ℕ_discrete i tail);
    rising = λ i j a b. rising i j a b (ℕ_discrete i tail) (ℕ_discrete j tail);
    close = λ j a b. close j b (ℕ_discrete j tail);
    held = λ r a b c. held r a b c (ℕ_discrete r (near (q head) done));
    shortest = λ i d a e. shortest i d a e (ℕ_discrete i tail);
    parent = λ i d a e. parent i d a e (ℕ_discrete i tail);
    followed = λ i k a b f. followed i k a b f (ℕ_discrete i tail);
  }
    where
      v_below : (near (q head) done) < m.relays
      v_below = L.below (q head) done (R.relay head h) hd

      runs : has stopped (near (q head) done) ≡ false
      runs = go (true-or (has stopped (near (q head) done)))
        where
          go : (has stopped (near (q head) done) ≡ true) ⊎ (has stopped (near (q head) done) ≡ false) → has stopped (near (q head) done) ≡ false
          go (inl s) = absurd (omega (arith, R.halts (near (q head) done) v_below s))
          go (inr r) = r

      fewer : unreached lab m.relays ≡ suc (unreached lab' m.relays)
      fewer = count-one-more (λ r. eqb (lab' r) 0) (λ r. eqb (lab r) 0) m.relays (near (q head) done) v_below (ne_eqb (lab' (near (q head) done)) 0 (λ z. omega (arith, new))) (eq-eqb (lab (near (q head) done)) 0 fresh) (λ i a ne. ap (λ (y : ℕ). eqb y 0) (old i ne))

      -- the labels that there were
      stays : (r : ℕ) → 0 < lab r → lab' r ≡ lab r
      stays r p = old r (λ z. omega (arith, ap lab z))

      same-q : (i : ℕ) → i < tail → q' i ≡ q i
      same-q i a = others i (λ z. omega arith)

      same : (i : ℕ) → i < tail → lab' (q' i) ≡ lab (q i)
      same i a = ap lab' (same-q i a) ∙ stays (q i) (R.positive i a)

      at_last : (i : ℕ) → i ≡ tail → lab' (q' i) ≡ suc (lab (q head))
      at_last i e = ap lab' (ap q' e ∙ last) ∙ new

      relay : (i : ℕ) → i < suc tail → Dec (i ≡ tail) → q' i < m.relays
      relay i a (yes e) = omega (arith, ap q' e, last, v_below)
      relay i a (no ne) = omega (arith, same-q i (omega arith), R.relay i (omega arith))

      running : (i : ℕ) → i < suc tail → Dec (i ≡ tail) → has stopped (q' i) ≡ false
      running i a (yes e) = ap (has stopped) (ap q' e ∙ last) ∙ runs
      running i a (no ne) = ap (has stopped) (same-q i (omega arith)) ∙ R.running i (omega arith)

      positive : (i : ℕ) → i < suc tail → Dec (i ≡ tail) → 0 < lab' (q' i)
      positive i a (yes e) = omega (arith, at_last i e)
      positive i a (no ne) = omega (arith, same i (omega arith), R.positive i (omega arith))

      small : (i : ℕ) → i < suc tail → Dec (i ≡ tail) → lab' (q' i) ≤ suc i
      small i a (yes e) = omega (arith, at_last i e, R.small head h)
      small i a (no ne) = omega (arith, same i (omega arith), R.small i (omega arith))

      rising : (i j : ℕ) → i ≤ j → j < suc tail → Dec (i ≡ tail) → Dec (j ≡ tail) → lab' (q' i) ≤ lab' (q' j)
      rising i j a b (yes e) (yes z) = omega (arith, at_last i e, at_last j z)
      rising i j a b (yes e) (no ne) = absurd (omega arith)
      rising i j a b (no ne) (yes z) = omega (arith, same i (omega arith), at_last j z, R.close i h (omega arith))
      rising i j a b (no ne) (no nz) = omega (arith, same i (omega arith), same j (omega arith), R.rising i j a (omega arith))

      close : (j : ℕ) → j < suc tail → Dec (j ≡ tail) → lab' (q' j) ≤ suc (lab' (q' head))
      close j b (yes e) = omega (arith, at_last j e, same head h)
      close j b (no ne) = omega (arith, same j (omega arith), same head h, R.close j h (omega arith))

      held : (r : ℕ) → r < m.relays → has stopped r ≡ false → 0 < lab' r → Dec (r ≡ (near (q head) done)) → (i : ℕ) × (i < suc tail) × (q' i ≡ r)
      held r a b c (yes e) = (tail, omega arith, last ∙ sym e)
      held r a b c (no ne) =
          let (i, hi, z) = R.held r a b (omega (arith, old r ne)) in
          (i, omega arith, same-q i hi ∙ z)

      back : (avoiding m stopped).linked (near (q head) done) (q head) ≡ true
      back = runs-link m stopped (near (q head) done) (q head) (L.both (near (q head) done) (q head) v_below (R.relay head h) ∙ L.linked (q head) done (R.relay head h) hd) runs (R.running head h)

      fresh_shortest : (d : ℕ) → lab (q head) ≡ suc d → Shortest (avoiding m stopped) (near (q head) done) t (suc d)
      fresh_shortest d e = record {
        way = ((q head), R.relay head h, back, (R.shortest head d h e).way);
        least = λ k w. least k (level R k (near (q head) done) v_below w);
      }
        where
          least : (k : ℕ) → Ahead stopped lab q head tail k (near (q head) done) → suc d ≤ k
          least k (inl (a, b, c)) = absurd (omega arith)
          least k (inr (i, a, b, c)) = omega (arith, R.rising head i a b)

      shortest : (i d : ℕ) → i < suc tail → lab' (q' i) ≡ suc d → Dec (i ≡ tail) → Shortest (avoiding m stopped) (q' i) t d
      shortest i d a e (yes z) = go (lab (q head)) refl
        where
          go : (l : ℕ) → lab (q head) ≡ l → Shortest (avoiding m stopped) (q' i) t d
          go zero w = absurd (omega (arith, R.positive head h))
          go (suc l) w =
              subst (λ (y : ℕ). Shortest (avoiding m stopped) (q' i) t y) (omega (arith, at_last i z))
              (subst (λ (y : ℕ). Shortest (avoiding m stopped) y t (suc l)) (sym (ap q' z ∙ last)) (fresh_shortest l w))
      shortest i d a e (no ne) =
          subst (λ (y : ℕ). Shortest (avoiding m stopped) y t d) (sym (same-q i (omega arith))) (R.shortest i d (omega arith) (sym (same i (omega arith)) ∙ e))

      parent : (i d : ℕ) → i < suc tail → lab' (q' i) ≡ suc (suc d) → Dec (i ≡ tail) → (k : ℕ) × (k < m.links) × (lab' (near (q' i) k) ≡ suc d)
      parent i d a e (yes z) =
          let (k, hk, w) = L.all (near (q head) done) (q head) v_below (R.relay head h) (L.both (near (q head) done) (q head) v_below (R.relay head h) ∙ L.linked (q head) done (R.relay head h) hd) in
          (k, hk, ap (λ (y : ℕ). lab' (near y k)) (ap q' z ∙ last) ∙ ap lab' w ∙ stays (q head) (R.positive head h) ∙ omega (arith, at_last i z, e))
      parent i d a e (no ne) =
          let (k, hk, w) = R.parent i d (omega arith) (sym (same i (omega arith)) ∙ e) in
          (k, hk, ap (λ (y : ℕ). lab' (near y k)) (same-q i (omega arith)) ∙ stays (near (q i) k) (omega (arith, w)) ∙ w)

      keep : (w d d' : ℕ) → d ≤ d' → Near stopped lab w d → Near stopped lab' w d'
      keep w d d' l (inl s) = inl s
      keep w d d' l (inr (p, u)) = inr (omega (arith, stays w p), omega (arith, stays w p))

      followed : (i k : ℕ) → i < suc tail → k < m.links → Followed head (suc done) i k → Dec (i ≡ tail) → Near stopped lab' (near (q' i) k) (lab' (q' i))
      followed i k a b (inl f) (yes e) = absurd (omega (arith, R.within))
      followed i k a b (inr (z, l)) (yes e) = absurd (omega arith)
      followed i k a b f (no ne) = subst (λ (y : ℕ). Near stopped lab' (near y k) (lab' (q' i))) (sym (same-q i (omega arith))) (go f)
        where
          go : Followed head (suc done) i k → Near stopped lab' (near (q i) k) (lab' (q' i))
          go (inl f) = keep (near (q i) k) (lab (q i)) (lab' (q' i)) (omega (arith, same i (omega arith))) (R.followed i k (omega arith) b (inl f))
          go (inr (z, l)) = at (ℕ_discrete k done)
            where
              at : Dec (k ≡ done) → Near stopped lab' (near (q i) k) (lab' (q' i))
              at (no nk) = keep (near (q i) k) (lab (q i)) (lab' (q' i)) (omega (arith, same i (omega arith))) (R.followed i k (omega arith) b (inr (z, omega arith)))
              at (yes e) =
                  let w : near (q i) k ≡ (near (q head) done) = ap (λ (y : ℕ). near (q y) k) z ∙ ap (near (q head)) e in
                  inr (omega (arith, ap lab' w, new), omega (arith, ap lab' w, new, same i (omega arith), ap (λ (y : ℕ). lab (q y)) z))

  -- the search begins: the target alone has a label of a way
  pub begin : {lab q : ℕ → ℕ} → t < m.relays → has stopped t ≡ false → lab t ≡ 1 → q 0 ≡ t
      → ((r : ℕ) → r < m.relays → has stopped r ≡ true → lab r ≡ halt)
      → ((r : ℕ) → r < m.relays → r ≢ t → has stopped r ≡ false → lab r ≡ 0)
      → Reached m near stopped t lab q 0 0 1
  begin {lab} {q} ht run one first halts zeros = record {
    within = omega arith;
    room = omega (arith, count_less (λ r. eqb (lab r) 0) m.relays t ht (ne_eqb (lab t) 0 (λ z. omega arith)));
    start = omega arith;
    front = first;
    one = one;
    halts = halts;
    relay = λ i a. omega (arith, at i a);
    running = λ i a. ap (has stopped) (at i a) ∙ run;
    positive = λ i a. omega (arith, ap lab (at i a));
    small = λ i a. omega (arith, ap lab (at i a));
    rising = λ i j a b. omega (arith, ap lab (at i (omega arith)), ap lab (at j b));
    close = λ j a b. omega (arith, ap lab (at j b));
    held = λ r a b c. held r a b c (ℕ_discrete r t);
    shortest = λ i d a e. shortest i d a e (omega (arith, ap lab (at i a)));
    parent = λ i d a e. absurd (omega (arith, ap lab (at i a)));
    followed = λ i k a b f. none i k f;
  }
    where
      at : (i : ℕ) → i < 1 → q i ≡ t
      at i a = ap q (omega arith) ∙ first

      held : (r : ℕ) → r < m.relays → has stopped r ≡ false → 0 < lab r → Dec (r ≡ t) → (i : ℕ) × (i < 1) × (q i ≡ r)
      held r a b c (yes e) = (0, omega arith, first ∙ sym e)
      held r a b c (no ne) = absurd (omega (arith, zeros r a ne b))

      shortest : (i d : ℕ) → i < 1 → lab (q i) ≡ suc d → d ≡ 0 → Shortest (avoiding m stopped) (q i) t d
      shortest i d a e z = subst (λ (y : ℕ). Shortest (avoiding m stopped) (q i) t y) (sym z) (record { way = at i a; least = λ k w. omega arith })

      none : (i k : ℕ) → Followed 0 0 i k → Near stopped lab (near (q i) k) (lab (q i))
      none i k (inl f) = absurd (omega arith)
      none i k (inr (z, l)) = absurd (omega arith)
