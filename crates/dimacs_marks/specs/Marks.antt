-- Marks of links (`Marked`): bit i of a relay's mark is set where its link i, which leads higher, stands among the `e` lines seen. A line is marked where it is a link that is not marked (`Marks`), and
-- marks that lack a link are those of lines among which it is missing (`lacking-missing`). Assumes nothing.
use Rattle.std.specs.Prelude.{ℕ, zero, suc, ◌+◌, ◌-◌, ◌^◌, ◌≤◌, ◌<◌, ◌≡◌, refl, Bool, true, false, not, ◌&&◌, ◌≢◌, List, [], ◌∷◌, eqb, ltb, length, get_or, set, replicate, Option, Some, None}
use Rattle.std.proofs.Common.{sym, ap, ap₂, ◌∙◌, ⊎_elim, arith, length-set, get_or-set_same, get_or-set_other, eq-eqb, lt-ltb, le-ltb, ltb-true}
use Rattle.std.proofs.Math.Decide.{ℕ_discrete}
use Rattle.std.proofs.lemmas.Bool.{not-true}
use Rattle.bits.specs.Bit.{bit, flip}
use Rattle.bits.specs.Laws.{flip-lt, flip-same, flip-other, bit_off, bit-none}
use Rattle.scan.specs.Scan.{pick, any}
use Rattle.scan.specs.Laws.{true-or, true-false, tests_same, both_true, any-true, true-any}
use Rattle.scan.specs.Laws as scan
use Rattle.paths.specs.Links.{Links}
use Rattle.mesh.specs.Kinds.{kind_of, mesh_of}
use Rattle.dimacs.specs.Text.{Edge, edge}
use Rattle.dimacs.specs.Says.{is_link, same, times, stands, absent, missing}
use Rattle.dimacs.specs.Edges.{all_true, same_cases, same_straight, times-on, times_off, times_none, times-turn, times_turned, link_sound, link_complete, link-turn, link-other}
use Rattle.dimacs.specs.Needs.{Rowed, export_rising}
use Rattle.dimacs_size.specs.Sizes.{Rows}

-- ---- a link found

abbrev pub Leads : (k n links u v : ℕ) → Option ℕ → Type 0
Leads k n links u v (Some i) = (i < links) × ((kind_of k).near n u i ≡ v)
Leads k n links u v None = (i : ℕ) → i < links → (kind_of k).near n u i ≢ v

-- a loop over the links has come to i
pub record Looking (k n links u v i : ℕ) : Type 0 where
  pub within : i ≤ links
  pub past : (j : ℕ) → j < i → (kind_of k).near n u j ≢ v

module _ (k n links u v : ℕ) where
  pub look-start : Looking k n links u v 0
  look-start = record { within = omega arith; past = λ j h. absurd (omega arith) }

  module _ {i : ℕ} (l : Looking k n links u v i) where
    pub look-more : {w : ℕ} → i < links → w ≡ (kind_of k).near n u i → w ≢ v → Looking k n links u v (i + 1)
    look-more {w} h e ne = record { within = omega arith; past = λ j g. go j g (ℕ_discrete j i) }
      where
        go : (j : ℕ) → j < i + 1 → Dec (j ≡ i) → (kind_of k).near n u j ≢ v
        go j g (yes z) q = ne (e ∙ ap ((kind_of k).near n u) (sym z) ∙ q)
        go j g (no z) q = l.past j (omega arith) q

    pub look-found : {w : ℕ} → i < links → w ≡ (kind_of k).near n u i → w ≡ v → Leads k n links u v (Some i)
    look-found h e z = (h, sym e ∙ z)

    pub look_lost : links ≤ i → Leads k n links u v None
    look_lost h j q = l.past j (omega arith)

-- ---- a mark put

-- whether bit i is set
abbrev pub set? : ℕ → ℕ → Bool
set? i x = eqb (bit i x) 1

pub record Put (was : List ℕ) (u i : ℕ) (r : Bool) (now : List ℕ) : Type 0 where
  pub fresh : r ≡ not (set? i (get_or was u 0))
  pub left : now ≡ pick r (set was u (flip (get_or was u 0) i)) was

module _ (was : List ℕ) (u i : ℕ) {mark : ℕ} (is : mark ≡ get_or was u 0) where
  pub put_again : {r : Bool} → r ≡ set? i mark → r ≡ true → Put was u i false was
  put_again e t = record { fresh = ap not (sym t ∙ e ∙ ap (set? i) is); left = refl }

  pub put_first : {r : Bool} {x : ℕ} → r ≡ set? i mark → r ≡ false → x ≡ flip mark i → Put was u i true (set was u x)
  put_first e t z = record { fresh = ap not (sym t ∙ e ∙ ap (set? i) is); left = ap (set was u) (z ∙ ap (λ (y : ℕ). flip y i) is) }

pub put_long : {was : List ℕ} {u i : ℕ} {r : Bool} {now : List ℕ} → Put was u i r now → length now ≡ length was
put_long {was} {u} {i} {r} p = ap length p.left ∙ go r
  where
    go : (b : Bool) → length (pick b (set was u (flip (get_or was u 0) i)) was) ≡ length was
    go true = length-set was u (flip (get_or was u 0) i)
    go false = refl

-- ---- marks of lines

pub record Marked (k n : ℕ) (marks : List ℕ) (seen : List Edge) : Type 0 where
  pub bits : (u i : ℕ) → u < (mesh_of k n).relays → i < (mesh_of k n).links → u < (kind_of k).near n u i → set? i (get_or marks u 0) ≡ stands (u + 1) ((kind_of k).near n u i + 1) seen

-- what marking a line says and leaves, whatever lines were marked
pub record Marks (k n a b : ℕ) (was : List ℕ) (r : Bool) (now : List ℕ) : Type 0 where
  pub long : length now ≡ length was
  pub says : (seen : List Edge) → Marked k n was seen → r ≡ (is_link (mesh_of k n) a b && not (stands a b seen))
  pub next : (seen : List Edge) → Marked k n was seen → r ≡ true → Marked k n now (edge a b ∷ seen)

-- no mark at all
pub marked-none : (k n : ℕ) → Marked k n (replicate 2048 0) []
marked-none k n = record { bits = λ u i h l g. ap (set? i) (blank 2048 u) ∙ ap (λ (x : ℕ). eqb x 1) (bit-none i) ∙ sym (ap (ltb 0) (times_none (u + 1) ((kind_of k).near n u i + 1))) }
  where
    blank : (m u : ℕ) → ◌≡◌ {A = ℕ} (get_or (replicate m 0) u 0) 0
    blank zero u = refl
    blank (suc m) zero = refl
    blank (suc m) (suc u) = blank m u

-- nothing is marked where it is no link
pub no_link : {k n a b : ℕ} {was : List ℕ} → is_link (mesh_of k n) a b ≡ false → Marks k n a b was false was
no_link {k} {n} {a} {b} e = record { long = refl; says = λ seen m. sym (ap (λ (x : Bool). x && not (stands a b seen)) e); next = λ seen m t. absurd (true-false t refl) }

module _ {k n relays links : ℕ} (r : Rows k n relays links) (a b : ℕ) where
  edges-links : Links (mesh_of k n) ((kind_of k).near n)
  edges-links = (export_rising r.exported).links

  pub zero-first : {was : List ℕ} → a ≡ 0 → Marks k n a b was false was
  zero-first e = no_link (scan.not-true (λ t. let h = (link_sound (mesh_of k n) a b t).first in omega arith))

  pub past_last : {was : List ℕ} → relays < b → Marks k n a b was false was
  past_last h = no_link (scan.not-true (λ t. let g = (link_sound (mesh_of k n) a b t).second_in in omega (arith, r.relays_are)))

  pub loop_line : {was : List ℕ} → a ≡ b → Marks k n a b was false was
  loop_line e = no_link (scan.not-true (λ t. link-other (mesh_of k n) ((kind_of k).near n) edges-links a b t e))

  pub lower_row : a ≢ 0 → a < b → b ≤ relays → Rowed k n links (a - 1)
  lower_row ne h g = record { exported = r.exported; count = r.links_are; relay = omega (arith, r.relays_are) }

  pub not-linked : {was : List ℕ} → Leads k n links (a - 1) (b - 1) None → Marks k n a b was false was
  not-linked w = no_link (scan.not-true (λ t.
      let l = link_sound (mesh_of k n) a b t in
      let (j, g, z) = edges-links.all (a - 1) (b - 1) (omega (arith, l.first, l.first_in)) (omega (arith, l.second, l.second_in)) l.linked in
      w j (omega (arith, r.links_are)) z))

  -- where there is a link, what was put says whether it was marked
  module _ (ne : a ≢ 0) (h : a < b) (g : b ≤ relays) {i : ℕ} (w : Leads k n links (a - 1) (b - 1) (Some i)) where
    to : (kind_of k).near n (a - 1) i ≡ b - 1
    to = w.1

    pub link-few : i < 16
    link-few = omega (arith, w.0, r.links_are, r.exported.few)

    relay_in : a - 1 < (mesh_of k n).relays
    relay_in = omega (arith, r.relays_are)

    link_in : i < (mesh_of k n).links
    link_in = omega (arith, w.0, r.links_are)

    is_link_lem : is_link (mesh_of k n) a b ≡ true
    is_link_lem = link_complete (mesh_of k n) a b (record {
      first = omega arith;
      first_in = omega (arith, r.relays_are);
      second = omega arith;
      second_in = omega (arith, r.relays_are);
      linked = ap ((mesh_of k n).linked (a - 1)) (sym to) ∙ edges-links.linked (a - 1) i relay_in link_in;
    })

    -- the mark of the line itself
    its_mark : {was : List ℕ} (seen : List Edge) → Marked k n was seen → set? i (get_or was (a - 1) 0) ≡ stands a b seen
    its_mark seen q =
        q.bits (a - 1) i relay_in link_in (omega (arith, to))
        ∙ ap₂ (λ (x y : ℕ). stands x y seen) (omega arith) (omega (arith, to))

    -- another line's stays
    other : (u j : ℕ) → u < (kind_of k).near n u j → ((u ≡ a - 1) × ((kind_of k).near n u j ≡ b - 1) → ⊥) → same (u + 1) ((kind_of k).near n u j + 1) a b ≡ false
    other u j p off = scan.not-true (λ t. ⊎_elim
        (λ (x, y). off (omega arith, omega arith))
        (λ (x, y). let z : (kind_of k).near n u j < u = omega arith in omega arith)
        (same_cases (u + 1) ((kind_of k).near n u j + 1) a b t))

    module _ {was : List ℕ} {f : Bool} {now : List ℕ} (long : length was ≡ 2048) (p : Put was (a - 1) i f now) where
      now_is : f ≡ true → now ≡ set was (a - 1) (flip (get_or was (a - 1) 0) i)
      now_is t = p.left ∙ ap (λ (x : Bool). pick x (set was (a - 1) (flip (get_or was (a - 1) 0) i)) was) t

      module _ (seen : List Edge) (q : Marked k n was seen) (t : f ≡ true) where
        clear : bit i (get_or was (a - 1) 0) ≡ 0
        clear = bit_off i (get_or was (a - 1) 0) (not-true (set? i (get_or was (a - 1) 0)) (sym p.fresh ∙ t))

        here : get_or now (a - 1) 0 ≡ flip (get_or was (a - 1) 0) i
        here = ap (λ (l : List ℕ). get_or l (a - 1) 0) (now_is t) ∙ get_or-set_same was (a - 1) (flip (get_or was (a - 1) 0) i) 0 (omega (arith, r.exported.small, relay_in))

        there : (u : ℕ) → u ≢ a - 1 → get_or now u 0 ≡ get_or was u 0
        there u d = ap (λ (l : List ℕ). get_or l u 0) (now_is t) ∙ get_or-set_other was (a - 1) u (flip (get_or was (a - 1) 0) i) 0 d

        -- a bit that stays, of a line that is another
        stays : (u j : ℕ) → u < (mesh_of k n).relays → j < (mesh_of k n).links → u < (kind_of k).near n u j → bit j (get_or now u 0) ≡ bit j (get_or was u 0) → ((u ≡ a - 1) × ((kind_of k).near n u j ≡ b - 1) → ⊥)
            → set? j (get_or now u 0) ≡ stands (u + 1) ((kind_of k).near n u j + 1) (edge a b ∷ seen)
        stays u j x y z e off =
            ap (λ (v : ℕ). eqb v 1) e ∙ q.bits u j x y z
            ∙ ap (ltb 0) (sym (times_off (u + 1) ((kind_of k).near n u j + 1) a b seen (other u j z off)))

        by_case : (u j : ℕ) → Dec (u ≡ a - 1) → Dec (j ≡ i) → u < (mesh_of k n).relays → j < (mesh_of k n).links → u < (kind_of k).near n u j
            → set? j (get_or now u 0) ≡ stands (u + 1) ((kind_of k).near n u j + 1) (edge a b ∷ seen)
        by_case u j (no d) o x y z = stays u j x y z (ap (bit j) (there u d)) (λ (c, s). d c)
        by_case u j (yes d) (no o) x y z =
            stays u j x y z
            (ap (λ (v : ℕ). bit j (get_or now v 0)) d ∙ ap (bit j) here ∙ flip-other (get_or was (a - 1) 0) i j o ∙ ap (λ (v : ℕ). bit j (get_or was v 0)) (sym d))
            (λ (c, s). o (edges-links.differ (a - 1) j i relay_in y link_in (ap (λ (v : ℕ). (kind_of k).near n v j) (sym d) ∙ s ∙ sym to)))
        by_case u j (yes d) (yes o) x y z =
            eq-eqb (bit j (get_or now u 0)) 1 (ap₂ (λ (v c : ℕ). bit c (get_or now v 0)) d o ∙ ap (bit i) here ∙ flip-same (get_or was (a - 1) 0) i ∙ omega (arith, clear))
            ∙ sym (lt-ltb 0 (times (u + 1) ((kind_of k).near n u j + 1) (edge a b ∷ seen))
            (let e = times-on (u + 1) ((kind_of k).near n u j + 1) a b seen (same_straight (u + 1) ((kind_of k).near n u j + 1) a b (omega arith) (omega (arith, to, ap₂ ((kind_of k).near n) d o))) in omega arith))

      pub marks-link : Marks k n a b was f now
      marks-link = record {
        long = put_long p;
        says = λ seen q. p.fresh ∙ ap not (its_mark seen q) ∙ ap (λ (x : Bool). x && not (stands a b seen)) (sym is_link_lem);
        next = λ seen q t. record { bits = λ u j x y z. by_case seen q t u j (ℕ_discrete u (a - 1)) (ℕ_discrete j i) x y z };
      }

-- a line that is turned
pub marks_turned : {k n relays links : ℕ} → Rows k n relays links → (a b : ℕ) {was : List ℕ} {f : Bool} {now : List ℕ} → Marks k n b a was f now → Marks k n a b was f now
marks_turned {k} {n} r a b m = record {
  long = m.long;
  says = λ seen q.
      m.says seen q
      ∙ ap₂ (λ (x : Bool) (y : ℕ). x && not (ltb 0 y)) (link-turn (mesh_of k n) ((kind_of k).near n) (export_rising r.exported).links b a) (times-turn b a seen);
  next = λ seen q t. record { bits = λ u i x y z. (m.next seen q t).bits u i x y z ∙ ap (ltb 0) (times_turned (u + 1) ((kind_of k).near n u i + 1) b a seen) };
}

-- ---- marks that lack a link

abbrev pub lacks : (k n u mark i : ℕ) → Bool
lacks k n u mark i = ltb u ((kind_of k).near n u i) && not (set? i mark)

abbrev pub lacks_any : (k n links : ℕ) (marks : List ℕ) (u : ℕ) → Bool
lacks_any k n links marks u = any (lacks k n u (get_or marks u 0)) 0 links

module _ (k n u mark i : ℕ) {v : ℕ} (e : v ≡ (kind_of k).near n u i) where
  pub lacks-up : {r : Bool} → u < v → r ≡ set? i mark → not r ≡ lacks k n u mark i
  lacks-up {r} h f = ap not f ∙ ap (λ (x : Bool). x && not (set? i mark)) (sym (lt-ltb u ((kind_of k).near n u i) (omega arith)))

  pub lacks_down : v ≤ u → false ≡ lacks k n u mark i
  lacks_down h = ap (λ (x : Bool). x && not (set? i mark)) (sym (le-ltb u ((kind_of k).near n u i) (omega arith)))

-- a mark stays below 2^16
pub mark_fits : {mark i x : ℕ} → mark < 2 ^ 16 → i < 16 → x ≡ flip mark i → x < 2 ^ 16
mark_fits {mark} {i} h l e = omega (arith, flip-lt 16 mark i h l)

module _ {k n relays links : ℕ} (r : Rows k n relays links) {marks : List ℕ} {seen : List Edge} (q : Marked k n marks seen) where
  tells : (u i : ℕ) → u < (mesh_of k n).relays → i < (mesh_of k n).links → u < (kind_of k).near n u i → not (set? i (get_or marks u 0)) ≡ not (stands (u + 1) ((kind_of k).near n u i + 1) seen)
  tells u i h l g = ap not (q.bits u i h l g)

  found-missing : any (lacks_any k n links marks) 0 relays ≡ true → any (λ u. any (absent (mesh_of k n) seen u) 0 (mesh_of k n).relays) 0 (mesh_of k n).relays ≡ true
  found-missing e =
      let (u, p, h, x) = any-true (lacks_any k n links marks) 0 relays e in
      let (i, s, l, y) = any-true (lacks k n u (get_or marks u 0)) 0 links x in
      let (up, out) = both_true (ltb u ((kind_of k).near n u i)) (not (set? i (get_or marks u 0))) y in
      let hu : u < (mesh_of k n).relays = omega (arith, r.relays_are) in
      let hi : i < (mesh_of k n).links = omega (arith, r.links_are) in
      let g = ltb-true u ((kind_of k).near n u i) up in
      let k-links = (export_rising r.exported).links in
      true-any (λ u. any (absent (mesh_of k n) seen u) 0 (mesh_of k n).relays) 0 (mesh_of k n).relays u (omega arith) (omega arith)
      (true-any (absent (mesh_of k n) seen u) 0 (mesh_of k n).relays ((kind_of k).near n u i) (omega arith) (omega (arith, k-links.below u i hu hi))
      (all_true (all_true up (k-links.linked u i hu hi)) (sym (tells u i hu hi g) ∙ out)))

  missing-found : any (λ u. any (absent (mesh_of k n) seen u) 0 (mesh_of k n).relays) 0 (mesh_of k n).relays ≡ true → any (lacks_any k n links marks) 0 relays ≡ true
  missing-found e =
      let (u, p, h, x) = any-true (λ u. any (absent (mesh_of k n) seen u) 0 (mesh_of k n).relays) 0 (mesh_of k n).relays e in
      let (v, s, l, y) = any-true (absent (mesh_of k n) seen u) 0 (mesh_of k n).relays x in
      let (both, out) = both_true (ltb u v && (mesh_of k n).linked u v) (not (stands (u + 1) (v + 1) seen)) y in
      let (up, linked) = both_true (ltb u v) ((mesh_of k n).linked u v) both in
      let hu : u < (mesh_of k n).relays = omega arith in
      let (i, hi, z) = (export_rising r.exported).links.all u v hu (omega arith) linked in
      let higher : ltb u ((kind_of k).near n u i) ≡ true = ap (ltb u) z ∙ up in
      let bare : not (set? i (get_or marks u 0)) ≡ true = tells u i hu hi (ltb-true u ((kind_of k).near n u i) higher) ∙ ap (λ (w : ℕ). not (stands (u + 1) (w + 1) seen)) z ∙ out in
      true-any (lacks_any k n links marks) 0 relays u (omega arith) (omega (arith, r.relays_are))
      (true-any (lacks k n u (get_or marks u 0)) 0 links i (omega arith) (omega (arith, r.links_are)) (all_true higher bare))

  pub lacking-missing : any (lacks_any k n links marks) 0 relays ≡ missing (mesh_of k n) seen
  unfolding missing
  lacking-missing = tests_same (any (lacks_any k n links marks) 0 relays) (any (λ u. any (absent (mesh_of k n) seen u) 0 (mesh_of k n).relays) 0 (mesh_of k n).relays) found-missing missing-found

-- what was searched for a relay
pub as_any : (k n links : ℕ) (marks : List ℕ) (u : ℕ) {w : ℕ} {r : Bool} → w ≡ get_or marks u 0 → r ≡ any (lacks k n u w) 0 links → r ≡ lacks_any k n links marks u
as_any k n links marks u e f = f ∙ ap (λ (x : ℕ). any (lacks k n u x) 0 links) e
