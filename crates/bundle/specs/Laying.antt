-- The steps put together: the fan to the chosen ends may be asked for (`fan_layable`), its paths may be closed (`fan-rows`), and closed they are the bundle
-- (`bundle_laid`); and the same of the places as they are lent (`lent_layable`, `lent_rows`, `lent_laid`). Assumes nothing.
use Rattle.std.specs.Prelude.{ℕ, ◌+◌, ◌-◌, ◌*◌, ◌≤◌, ◌<◌, ◌≡◌, refl, Bool, true, false, List, [], ◌∷◌, ◌++◌, eqb, length, take, drop, Ok}
use Rattle.std.proofs.Common.{sym, ap₂, ◌∙◌, subst, append-nil, length-append, length-drop, length-take-le, take_all, get_or-append-add, get_or-drop, le-ltb}
use Rattle.std.proofs.Math.Path.{ap}
use Rattle.std.proofs.Math.Option.{none}
use native.Mathlib.Omega.{arith}
use Rattle.std.proofs.Math.ListN.{get_or}
use Rattle.std.proofs.Math.Seq.{drop-length}
use Rattle.scan.specs.Scan.{pick}
use Rattle.paths.specs.Mesh.{Mesh, width}
use Rattle.paths.specs.Fan.{filler, relay, hops, Fan}
use Rattle.paths.specs.Lists.{Laid}
use Rattle.paths.specs.Read.{read, fan_lists, fan-laid}
use Rattle.paths.specs.Bundle.{end_of, closed, bundled}
use Rattle.paths.specs.Bundles.{longer, Bundle, laid_bundle}
use Rattle.requests.specs.Planned as requests
use Rattle.mesh.specs.Kinds.{kind_of, mesh_of}
use Rattle.mesh.specs.Laws.{known-near}
use Rattle.mesh.specs.Requests.{Ends, ends-fine, room_enough}
use Rattle.planner.specs.Needs as planner
use Rattle.bundle.specs.Says.{Planned}
use Rattle.bundle.specs.Needs.{Layable}
use Rattle.bundle.specs.Ends.{Chosen, ends_many, ends-each, ends_clear}
use Rattle.bundle.specs.Closing.{Rows, Closed, Stands, hops_to}

-- a part has as many as it was cut to
pub part_long : (n : ℕ) (l : List ℕ) → n ≤ length l → n ≡ length (take n l)
part_long n l h = sym (length-take-le n l h)

-- a path that is closed has so many hops
hops-closed : (t e h : ℕ) (l : List ℕ) → h ≡ length l → hops_to t e h ≡ length (closed t e l)
hops-closed t e h l z = go (eqb e t)
  where
    go : (b : Bool) → pick b h (h + 1) ≡ length (pick b l (l ++ (t ∷ [])))
    go true = z
    go false = omega (arith, length-append l (t ∷ []))

module _ (kind n s t k w : ℕ) (l places counts : List ℕ) (p : Layable kind n s t (length places) (length counts)) (links : k ≡ (mesh_of kind n).links)
    (wide : w ≡ width (mesh_of kind n)) (many : k ≤ length l) (c : Chosen ((kind_of kind).near n) s t k l) where
  abbrev m : Mesh
  m = mesh_of kind n

  ends : Ends (kind_of kind) n s t
  ends = ends-fine (kind_of kind) n s t p.clear

  room : (k * (w + 1) ≤ length places) × (k ≤ length counts)
  room =
      let r = room_enough (longer m) m.links (length places) (length counts) p.room in
      (subst (λ (x : ℕ). x * (w + 1) ≤ length places) (sym links) (subst (λ (x : ℕ). m.links * (x + 1) ≤ length places) (sym wide) r.0), omega (arith, r.1))

  count_many : length (take k l) ≡ k
  count_many = length-take-le k l many

  pub fan_layable : planner.Layable kind n s (take k l) (length (drop k places)) (length counts)
  fan_layable = record {
    clear = ends_clear kind n s t k ends links l many c;
    room =
        let fits : length (take k l) * width m ≤ length (drop k places) = rw (count_many, sym wide) (omega (arith, room.0, length-drop k places)) in
        let counted : length (take k l) ≤ length counts = omega (arith, count_many, room.1) in
        simp (le-ltb (length (drop k places)) (length (take k l) * width m) fits, le-ltb (length counts) (length (take k l)) counted);
  }

  module _ (mid counts₁ : List ℕ) (f : requests.Planned none (mesh_of kind n) s (take k l) (drop k places) counts (Ok tt) mid counts₁) where
    fan : Fan (mesh_of kind n) s (take k l) mid counts₁
    fan = f.paths refl

    among : (j : ℕ) → j < k → j < length (take k l)
    among j h = omega (arith, count_many)

    front : length (take k places) ≡ k
    front = length-take-le k places (omega (arith, room.0))

    whole : length (take k places ++ mid) ≡ length places
    whole = omega (arith, length-append (take k places) mid, front, f.as_long, length-drop k places, room.0)

    -- the fan's places, seen from the front
    behind : (q : ℕ) → get_or (take k places ++ mid) (k + q) 0 ≡ get_or mid q 0
    behind q = ap (λ (x : ℕ). get_or (take k places ++ mid) (x + q) 0) (sym front) ∙ get_or-append-add (take k places) mid q 0

    pub fan-rows : Rows w k (length l) (length (take k places ++ mid)) counts₁
    unfolding hops
    fan-rows = record {
      ended = many;
      room = omega (arith, whole, room.0);
      counted = omega (arith, f.as_long_counts, room.1);
      short = λ j h. omega (arith, (fan.path j (among j h)).short);
    }

    -- the paths of the fan
    abbrev path : ℕ → List ℕ
    path j = read (width (mesh_of kind n)) mid counts₁ j

    stands : (j : ℕ) → j < k → Stands w (k + j * w) s (path j) (take k places ++ mid)
    unfolding relay
    stands j h q g =
        let here : k + j * w + q ≡ k + (j * w + q) = omega arith in
        ap (λ (x : ℕ). get_or (take k places ++ mid) x 0) here ∙ behind (j * w + q)
        ∙ ap (λ (x : ℕ). get_or mid (j * x + q) 0) wide ∙ (fan-laid m s (take k l) mid counts₁ fan).at j q (among j h) (omega arith)

    module _ (places₂ counts₂ : List ℕ) (g : Closed w k l t k (take k places ++ mid) places₂ counts₁ counts₂) where
      closed-laid : Laid (width (longer (mesh_of kind n))) s (mesh_of kind n).links (λ i. closed t (end_of ((kind_of kind).near n) s t i) (path i)) places₂ counts₂
      unfolding relay hops
      closed-laid = record {
        at = λ i q h b.
            let lt : i < k = omega arith in
            ap (λ (x : ℕ). get_or places₂ (i * (x + 1) + q) 0) (sym wide)
            ∙ g.is i lt s (path i) (sym ((fan-laid m s (take k l) mid counts₁ fan).count i (among i lt))) (stands i lt) q (omega arith)
            ∙ ap (λ (e : ℕ). get_or (s ∷ closed t e (path i)) q filler) (c.is i lt);
        count = λ i h.
            let lt : i < k = omega arith in
            g.count i lt ∙ ap (λ (e : ℕ). hops_to t e (get_or counts₁ i 0)) (c.is i lt)
            ∙ hops-closed t (end_of ((kind_of kind).near n) s t i) (get_or counts₁ i 0) (path i) ((fan-laid m s (take k l) mid counts₁ fan).count i (among i lt));
      }

      bundle : Bundle (mesh_of kind n) s t places₂ counts₂
      bundle =
          laid_bundle m s t places₂ counts₂ (λ i. closed t (end_of ((kind_of kind).near n) s t i) (path i))
          (bundled m ((kind_of kind).near n) (known-near kind n ends.known) s t ends.source ends.target (λ z. ends.other (sym z)) (take k l)
          (ends_many kind n s t k ends links l many c) (ends-each kind n s t k ends links l many c) path (fan_lists m s (take k l) mid counts₁ fan))
          closed-laid

      pub bundle_laid : length places₂ ≡ length (take k places ++ mid) → length counts₂ ≡ length counts₁ → Planned none (mesh_of kind n) s t places counts (Ok tt) places₂ counts₂
      bundle_laid long long_counts =
          requests.granted_as m.links (width (longer m)) (Bundle m s t) places counts places₂ counts₂ refl bundle
          (λ i h. beyond i (subst (λ (x : ℕ). x * (w + 1) ≤ i) (sym links) (subst (λ (x : ℕ). m.links * (x + 1) ≤ i) (sym wide) h)))
          (λ i h. g.kept i (omega arith) ∙ kept i (omega arith)) (long ∙ whole) (long_counts ∙ f.as_long_counts)
        where
          -- place i beyond the bundle is one beyond the fan
          beyond : (i : ℕ) → k * (w + 1) ≤ i → get_or places₂ i 0 ≡ get_or places i 0
          beyond i h = g.ahead i (omega arith) ∙ from (i - (k + k * w)) (omega arith)
            where
              from : (q : ℕ) → i ≡ k + (k * w + q) → get_or (take k places ++ mid) i 0 ≡ get_or places i 0
              from q z =
                  ap (λ (x : ℕ). get_or (take k places ++ mid) x 0) z ∙ behind (k * w + q)
                  ∙ ap (λ (x : ℕ). get_or mid (x + q) 0) same
                  ∙ sym (get_or-drop (length (take k l) * width m) mid q 0) ∙ ap (λ (x : List ℕ). get_or x q 0) f.beyond ∙ get_or-drop (length (take k l) * width m) (drop k places) q 0
                  ∙ get_or-drop k places (length (take k l) * width m + q) 0 ∙ ap (λ (x : ℕ). get_or places (k + (x + q)) 0) (sym same) ∙ ap (λ (x : ℕ). get_or places x 0) (sym z)
                where
                  same : k * w ≡ length (take k l) * width m
                  same = ap₂ (λ (x y : ℕ). x * y) (sym count_many) wide

          kept : (i : ℕ) → k ≤ i → get_or counts₁ i 0 ≡ get_or counts i 0
          kept i h = from (i - k) (omega (arith, count_many))
            where
              from : (q : ℕ) → i ≡ length (take k l) + q → get_or counts₁ i 0 ≡ get_or counts i 0
              from q z =
                  ap (λ (x : ℕ). get_or counts₁ x 0) z ∙ sym (get_or-drop (length (take k l)) counts₁ q 0) ∙ ap (λ (x : List ℕ). get_or x q 0) f.beyond_counts
                  ∙ get_or-drop (length (take k l)) counts q 0 ∙ ap (λ (x : ℕ). get_or counts x 0) (sym z)

  -- ---- the same of the places as they are lent: the part from k on, and put back with nothing after it

  part : take (length places - k) (drop k places) ≡ drop k places
  part = take_all (length places - k) (drop k places) (omega (arith, length-drop k places))

  back_is : (mid : List ℕ) → take k places ++ (mid ++ drop (length places - k) (drop k places)) ≡ take k places ++ mid
  back_is mid =
      let none_left : length places - k ≡ length (drop k places) = sym (length-drop k places) in
      ap (λ (x : List ℕ). take k places ++ (mid ++ x)) (ap (λ (n : ℕ). drop n (drop k places)) none_left ∙ drop-length (drop k places))
      ∙ ap (λ (x : List ℕ). take k places ++ x) (append-nil mid)

  pub many_places : k ≤ length places
  many_places = omega (arith, room.0)

  pub lent_layable : planner.Layable kind n s (take k l) (length (take (length places - k) (drop k places))) (length counts)
  lent_layable = subst (λ (x : List ℕ). planner.Layable kind n s (take k l) (length x) (length counts)) (sym part) fan_layable

  module _ (mid counts₁ : List ℕ) (f : requests.Planned none (mesh_of kind n) s (take k l) (take (length places - k) (drop k places)) counts (Ok tt) mid counts₁) where
    taken : requests.Planned none (mesh_of kind n) s (take k l) (drop k places) counts (Ok tt) mid counts₁
    taken = subst (λ (x : List ℕ). requests.Planned none (mesh_of kind n) s (take k l) x counts (Ok tt) mid counts₁) part f

    pub lent_rows : Rows w k (length l) (length (take k places ++ (mid ++ drop (length places - k) (drop k places)))) counts₁
    lent_rows = subst (λ (x : List ℕ). Rows w k (length l) (length x) counts₁) (sym (back_is mid)) (fan-rows mid counts₁ taken)

    pub lent_laid : (places₂ counts₂ : List ℕ) → Closed w k l t k (take k places ++ (mid ++ drop (length places - k) (drop k places))) places₂ counts₁ counts₂
        → length places₂ ≡ length (take k places ++ (mid ++ drop (length places - k) (drop k places))) → length counts₂ ≡ length counts₁
        → Planned none (mesh_of kind n) s t places counts (Ok tt) places₂ counts₂
    lent_laid places₂ counts₂ g long long_counts =
        bundle_laid mid counts₁ taken places₂ counts₂ (subst (λ (x : List ℕ). Closed w k l t k x places₂ counts₁ counts₂) (back_is mid) g)
        (long ∙ ap length (back_is mid)) long_counts
