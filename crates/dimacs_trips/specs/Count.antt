-- The second count of a file is how many `e` lines it has (`edges-count`): each link has two ends, and each relay has as many links as the size says. Assumes nothing.
use Rattle.std.specs.Prelude.{ℕ, zero, suc, ◌+◌, ◌*◌, ◌<◌, ◌≡◌, refl, Bool, true, false, ◌&&◌, ◌⊎◌, List, [], ◌∷◌, ltb}
use Rattle.std.proofs.Common.{sym, ap, ap₂, ◌∙◌, inl, inr, arith, length-append, lt-ltb, le-ltb}
use Rattle.std.proofs.Math.ListN.{length}
use Rattle.bits.specs.Laws.{lt-or}
use Rattle.scan.specs.Scan.{pick, count}
use Rattle.scan.specs.Laws.{count-on, count_off, count_none}
use Rattle.paths.specs.Mesh.{Mesh}
use Rattle.paths.specs.Links.{Links, links-count}
use Rattle.dimacs.specs.Text.{edge, each, upward, row, edges, link_count}
use Rattle.dimacs.specs.Rows.{each_none, each_more}

-- 1 for yes
abbrev one : Bool → ℕ
one b = pick b 1 0

-- the sum of what stands for 0, for 1 and so on below n
total : (ℕ → ℕ) → ℕ → ℕ
total f zero = 0
total f (suc n) = total f n + f n

total-none : (f : ℕ → ℕ) → total f 0 ≡ 0
unfolding total
total-none f = refl

total-more : (f : ℕ → ℕ) (n : ℕ) → total f (suc n) ≡ total f n + f n
unfolding total
total-more f n = refl

total-same : (f g : ℕ → ℕ) (n : ℕ) → ((i : ℕ) → i < n → f i ≡ g i) → total f n ≡ total g n
total-same f g zero h = total-none f ∙ sym (total-none g)
total-same f g (suc n) h = omega (arith, total-more f n, total-more g n, h n (omega arith), total-same f g n (λ i l. h i (omega arith)))

total_plus : (f g : ℕ → ℕ) (n : ℕ) → total (λ i. f i + g i) n ≡ total f n + total g n
total_plus f g zero = omega (arith, total-none (λ i. f i + g i), total-none f, total-none g)
total_plus f g (suc n) = omega (arith, total-more (λ i. f i + g i) n, total-more f n, total-more g n, total_plus f g n)

total-each : (c n : ℕ) → total (λ i. c) n ≡ n * c
total-each c zero = omega (arith, total-none (λ i. c))
total-each c (suc n) = omega (arith, total-more (λ i. c) n, total-each c n)

count-more : (p : ℕ → Bool) (n : ℕ) → count p (suc n) ≡ count p n + one (p n)
count-more p n = go (p n) refl
  where
    go : (b : Bool) → p n ≡ b → count p (suc n) ≡ count p n + one (p n)
    go true e = omega (arith, count-on p n e, ap one e)
    go false e = omega (arith, count_off p n e, ap one e)

total-count : (p : ℕ → Bool) (n : ℕ) → total (λ i. one (p i)) n ≡ count p n
total-count p zero = omega (arith, total-none (λ i. one (p i)), count_none p)
total-count p (suc n) = omega (arith, total-more (λ i. one (p i)) n, count-more p n, total-count p n)

-- by rows and by columns
exchange : (p : ℕ → ℕ → Bool) (a b : ℕ) → total (λ u. count (p u) b) a ≡ total (λ v. count (λ u. p u v) a) b
exchange p a zero =
    total-same (λ u. count (p u) 0) (λ u. 0) a (λ u l. count_none (p u)) ∙ omega (arith, total-each 0 a, total-none (λ v. count (λ u. p u v) a))
exchange p a (suc b) =
    total-same (λ u. count (p u) (suc b)) (λ u. count (p u) b + one (p u b)) a (λ u l. count-more (p u) b)
    ∙ total_plus (λ u. count (p u) b) (λ u. one (p u b)) a
    ∙ omega (arith, exchange p a b, total-count (λ u. p u b) a, total-more (λ v. count (λ u. p u v) a) b)

-- ---- the lines of a mesh

module _ {A : Type 0} (f : ℕ → List A) where
  each-length : (n : ℕ) → length (each f n) ≡ total (λ i. length (f i)) n
  each-length zero = ap length (each_none f) ∙ sym (total-none (λ i. length (f i)))
  each-length (suc n) = ap length (each_more f n) ∙ length-append (each f n) (f n) ∙ omega (arith, each-length n, total-more (λ i. length (f i)) n)

module _ (m : Mesh) (near : ℕ → ℕ → ℕ) (k : Links m near) where
  abbrev up : ℕ → ℕ → Bool
  up u v = ltb u v && m.linked u v

  up-length : (u v : ℕ) → length (upward m u v) ≡ one (up u v)
  up-length u v = go (up u v)
    where
      go : (b : Bool) → length (pick b (edge (u + 1) (v + 1) ∷ []) []) ≡ one b
      go true = refl
      go false = refl

  row-length : (u : ℕ) → length (row m u) ≡ count (up u) m.relays
  unfolding row
  row-length u =
      each-length (upward m u) m.relays ∙ total-same (λ v. length (upward m u v)) (λ v. one (up u v)) m.relays (λ v l. up-length u v) ∙ total-count (up u) m.relays

  edges-length : length (edges m) ≡ total (λ u. count (up u) m.relays) m.relays
  unfolding edges
  edges-length = each-length (row m) m.relays ∙ total-same (λ u. length (row m u)) (λ u. count (up u) m.relays) m.relays (λ u l. row-length u)

  -- a link leads higher or lower, and lower from one end where it leads higher from the other
  one_way : (u v : ℕ) → u < m.relays → v < m.relays → one (m.linked u v) ≡ one (up u v) + one (up v u)
  one_way u v h g = go (lt-or u v)
    where
      go : (u < v) ⊎ ((u ≡ v) ⊎ (v < u)) → one (m.linked u v) ≡ one (up u v) + one (up v u)
      go (inl l) = omega (arith, ap (λ (b : Bool). one (b && m.linked u v)) (lt-ltb u v l), ap (λ (b : Bool). one (b && m.linked v u)) (le-ltb v u (omega arith)))
      go (inr (inl e)) = omega (arith, ap one (ap (m.linked u) (sym e) ∙ k.away u h), ap (λ (b : Bool). one (b && m.linked u v)) (le-ltb u v (omega arith)), ap (λ (b : Bool). one (b && m.linked v u)) (le-ltb v u (omega arith)))
      go (inr (inr l)) = omega (arith, ap one (k.both u v h g), ap (λ (b : Bool). one (b && m.linked u v)) (le-ltb u v (omega arith)), ap (λ (b : Bool). one (b && m.linked v u)) (lt-ltb v u l))

  both_ways : (u : ℕ) → u < m.relays → count (m.linked u) m.relays ≡ count (up u) m.relays + count (λ v. up v u) m.relays
  both_ways u h =
      sym (total-count (m.linked u) m.relays)
      ∙ total-same (λ v. one (m.linked u v)) (λ v. one (up u v) + one (up v u)) m.relays (λ v g. one_way u v h g)
      ∙ total_plus (λ v. one (up u v)) (λ v. one (up v u)) m.relays
      ∙ ap₂ (λ (x y : ℕ). x + y) (total-count (up u) m.relays) (total-count (λ v. up v u) m.relays)

  ends : m.relays * m.links ≡ length (edges m) + length (edges m)
  ends =
      sym (total-each m.links m.relays)
      ∙ total-same (λ u. m.links) (λ u. count (up u) m.relays + count (λ v. up v u) m.relays) m.relays (λ u h. sym (links-count m near k u h) ∙ both_ways u h)
      ∙ total_plus (λ u. count (up u) m.relays) (λ u. count (λ v. up v u) m.relays) m.relays
      ∙ ap₂ (λ (x y : ℕ). x + y) (sym edges-length) (sym (exchange up m.relays m.relays) ∙ sym edges-length)

  pub edges-count : link_count m ≡ length (edges m)
  edges-count = omega (arith, ends)
