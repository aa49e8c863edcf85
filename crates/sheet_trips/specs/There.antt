-- Bytes that were written are read back: a number (`number-there`), relays (`relays-there`), a path (`path-there`), paths and their zones (`paths_at-there`,
-- `zones_at-there`; nothing stands against them, `looked-there`), and the head (`head-there`), of every version. That a list stands in the bytes l from a place on, followed by c,
-- is said by drop place l ≡ list ++ c. Assumes nothing.
use Rattle.std.specs.Prelude.{ℕ, suc, ◌+◌, ◌-◌, ◌*◌, ◌^◌, ◌≤◌, ◌<◌, ◌≡◌, Bool, true, false, not, get_or, drop}
use Rattle.std.proofs.Math.Path.{refl, ap, ap₂, subst}
use Rattle.std.proofs.Common.{sym, ◌∙◌, zero-add, arith, length-append, get_or-drop, drop_at}
use mathlib.Core.List.{List, [], ◌∷◌, ◌++◌, append_assoc}
use Rattle.std.proofs.Math.Option.{none}
use Rattle.std.proofs.Math.ListN.{length, length-drop}
use borrow.Author.Tests.{le-ltb, eq-eqb, ne_eqb}
use Rattle.scan.specs.Scan.{pick}
use Rattle.octets.specs.Big.{big, number, big-length, number_cong, number-big}
use Rattle.sheet.specs.Format.{HEAD, fields, zoned, head, zone_bytes, relays_bytes, path_bytes, paths_bytes, body_of, sheet_of, length_at, version_at, kind_at, size_at, count_at, source_at, hops_at, after, zone_at, relays_at, paths_at, zones_at, zones_of}
use Rattle.sheet.specs.Lengths.{zone_length, path-length, body-length, sheet-length, bytes_of, paths-bytes}
use Rattle.sheet.specs.Lent.{drop_past, drop-first, drop-next}
use Rattle.sheet.specs.Says.{flawed}
use Rattle.sheet.specs.declared.Flaw.TheVariants as flaw
use Rattle.sheet_take.specs.Says.{bad_hops, looked}

-- numbers of 64 bits
abbrev pub Words : List ℕ → Type 0
Words [] = Unit
Words (x ∷ l) = (x < 2 ^ 64) × Words l

-- a path that a sheet can hold: one hop to `longest`, and its relays of 64 bits
pub record FitPath (longest : ℕ) (p : List ℕ) : Type 0 where
  pub some_hop : 0 < length p
  pub short : length p ≤ longest
  pub words : Words p

abbrev pub Fit : (longest : ℕ) → List (List ℕ) → Type 0
Fit longest [] = Unit
Fit longest (p ∷ l) = FitPath longest p × Fit longest l

-- ---- a number, relays, a path

pub number-there : (l c : List ℕ) (at w v : ℕ) → v < 256 ^ w → drop at l ≡ big w v ++ c → number l at w ≡ v
number-there l c at w v h e =
    number_cong l (drop at l) at 0 w (λ j g. sym (get_or-drop at l j 0) ∙ ap (λ (i : ℕ). get_or (drop at l) i 0) (sym (zero-add j)))
    ∙ ap (λ (r : List ℕ). number r 0 w) e ∙ number-big w v h c

pub relays-there : (l p c : List ℕ) (at : ℕ) → Words p → drop at l ≡ relays_bytes p ++ c → relays_at l at (length p) ≡ p
unfolding relays_bytes relays_at
relays-there l [] c at h e = refl
relays-there l (x ∷ p) c at h e =
    let first : drop at l ≡ big 8 x ++ (relays_bytes p ++ c) = e ∙ append_assoc (big 8 x) (relays_bytes p) c in
    ap₂ (λ (y : ℕ) (r : List ℕ). y ∷ r) (number-there l (relays_bytes p ++ c) at 8 x h.0 first)
    (relays-there l p c (at + 8) h.1 (drop_past l (big 8 x) (relays_bytes p ++ c) at 8 first (big-length 8 x)))

-- what is read of a path at a place
pub record PathAt (v : ℕ) (l : List ℕ) (at : ℕ) (p c : List ℕ) : Type 0 where
  pub hops : hops_at l at ≡ length p
  pub relays : relays_at l (at + head v) (hops_at l at) ≡ p
  pub rest : drop (after v l at) l ≡ c
  pub room : after v l at + length c ≡ length l
  pub begun : at + 2 ≤ after v l at

pub path-there : (v zone : ℕ) (l p c : List ℕ) (at longest : ℕ) → longest < 256 ^ 2 → FitPath longest p → at ≤ length l → drop at l ≡ path_bytes v zone p ++ c → PathAt v l at p c
unfolding path_bytes
path-there v zone l p c at longest few h room e =
    let body = zone_bytes v zone ++ relays_bytes p in
    let first : drop at l ≡ big 2 (length p) ++ (body ++ c) = e ∙ append_assoc (big 2 (length p)) body c in
    let n = number-there l (body ++ c) at 2 (length p) (omega (arith, h.short)) first in
    let second = drop_past l (big 2 (length p)) (body ++ c) at 2 first (big-length 2 (length p)) in
    let third = drop_past l (zone_bytes v zone) (relays_bytes p ++ c) (at + 2) (length (zone_bytes v zone)) (second ∙ append_assoc (zone_bytes v zone) (relays_bytes p) c) refl in
    let from : at + head v ≡ at + 2 + length (zone_bytes v zone) = omega (arith, zone_length v zone) in
    let past : after v l at ≡ at + (head v + length p * 8) = omega (arith, n) in
    record {
      hops = n;
      relays = ap (relays_at l (at + head v)) n ∙ relays-there l p c (at + head v) h.words (ap (λ (i : ℕ). drop i l) from ∙ third);
      rest = ap (λ (i : ℕ). drop i l) past ∙ drop_past l (path_bytes v zone p) c at (head v + length p * 8) e (path-length v zone p);
      room = omega (arith, past, path-length v zone p, ap length e, length-append (path_bytes v zone p) c, length-drop at l);
      begun = omega (arith, past, zone_length v zone);
    }

-- zones of 32 bits
abbrev pub Narrow : List ℕ → Type 0
Narrow zones = (i : ℕ) → get_or zones i 0 < 256 ^ 4

zone_there : (v zone : ℕ) (l p c : List ℕ) (at : ℕ) → zone < 256 ^ 4 → drop at l ≡ path_bytes v zone p ++ c → zone_at v l at ≡ pick (zoned v) zone 0
unfolding path_bytes
zone_there v zone l p c at h e =
    let body = zone_bytes v zone ++ relays_bytes p in
    let second = drop_past l (big 2 (length p)) (body ++ c) at 2 (e ∙ append_assoc (big 2 (length p)) body c) (big-length 2 (length p)) in
    go (zoned v) (second ∙ append_assoc (zone_bytes v zone) (relays_bytes p) c)
  where
    go : (z : Bool) → drop (at + 2) l ≡ pick z (big 4 zone) [] ++ (relays_bytes p ++ c) → pick z (number l (at + 2) 4) 0 ≡ pick z zone 0
    go true f = number-there l (relays_bytes p ++ c) (at + 2) 4 zone h f
    go false f = refl

-- ---- paths

module _ (v longest : ℕ) (few : longest < 256 ^ 2) (l : List ℕ) where
  pub paths_at-there : (ps : List (List ℕ)) (zones c : List ℕ) (at : ℕ) → Fit longest ps → at ≤ length l → drop at l ≡ paths_bytes v zones ps ++ c → paths_at v l at (length ps) ≡ ps
  unfolding paths_at paths_bytes
  paths_at-there [] zones c at h g e = refl
  paths_at-there (p ∷ ps) zones c at h g e =
      let rest = paths_bytes v (drop 1 zones) ps in
      let r = path-there v (get_or zones 0 0) l p (rest ++ c) at longest few h.0 g (e ∙ append_assoc (path_bytes v (get_or zones 0 0) p) rest c) in
      ap₂ (λ (q : List ℕ) (rest : List (List ℕ)). q ∷ rest) r.relays (paths_at-there ps (drop 1 zones) c (after v l at) h.1 (omega (arith, r.room)) r.rest)

  pub zones_at-there : (ps : List (List ℕ)) (zones c : List ℕ) (at : ℕ) → Fit longest ps → Narrow zones → at ≤ length l → drop at l ≡ paths_bytes v zones ps ++ c
      → zones_at v l at (length ps) ≡ zones_of v zones (length ps)
  unfolding zones_at zones_of paths_bytes
  zones_at-there [] zones c at h w g e = refl
  zones_at-there (p ∷ ps) zones c at h w g e =
      let rest = paths_bytes v (drop 1 zones) ps in
      let f = e ∙ append_assoc (path_bytes v (get_or zones 0 0) p) rest c in
      let r = path-there v (get_or zones 0 0) l p (rest ++ c) at longest few h.0 g f in
      let narrow : Narrow (drop 1 zones) = λ i. subst (λ (x : ℕ). x < 256 ^ 4) (sym (get_or-drop 1 zones i 0)) (w (1 + i)) in
      ap₂ (λ (z : ℕ) (rest : List ℕ). z ∷ rest) (zone_there v (get_or zones 0 0) l p (rest ++ c) at (w 0) f)
      (zones_at-there ps (drop 1 zones) c (after v l at) h.1 narrow (omega (arith, r.room)) r.rest)

  good_hops : (h : ℕ) → 0 < h → h ≤ longest → bad_hops longest h ≡ false
  good_hops h a b = simp (ne_eqb h 0 (λ e. omega arith), le-ltb longest h b)

  -- nothing stands against paths after which the bytes end
  pub looked-there : (ps : List (List ℕ)) (zones : List ℕ) (at i : ℕ) → Fit longest ps → at ≤ length l → drop at l ≡ paths_bytes v zones ps → looked v longest l at i (length ps) ≡ none
  unfolding looked paths_bytes
  looked-there [] zones at i h g e =
      let ends : at ≡ length l = omega (arith, ap length e, length-drop at l) in
      ap (λ (b : Bool). flawed (not b) flaw.LeftOver none) (eq-eqb at (length l) ends)
  looked-there (p ∷ ps) zones at i h g e =
      let r = path-there v (get_or zones 0 0) l p (paths_bytes v (drop 1 zones) ps) at longest few h.0 g e in
      let good = good_hops (hops_at l at) (omega (arith, r.hops, h.0.some_hop)) (omega (arith, r.hops, h.0.short)) in
      let begins = le-ltb (length l) (at + 2) (omega (arith, r.room, r.begun)) in
      let ends = le-ltb (length l) (after v l at) (omega (arith, r.room)) in
      simp (begins, good, ends) (looked-there ps (drop 1 zones) (after v l at) (suc i) h.1 (omega (arith, r.room)) r.rest)

-- ---- the head

-- what is read of a head, and what stands after it
pub record Head (v kind size s k : ℕ) (rest l : List ℕ) : Type 0 where
  pub long : HEAD ≤ length l
  pub counted : length_at l ≡ length l - 4
  pub version : version_at l ≡ v
  pub kind_is : kind_at l ≡ kind
  pub size_is : size_at l ≡ size
  pub count_is : count_at l ≡ k
  pub source_is : source_at l ≡ s
  pub after_it : drop HEAD l ≡ rest

pub head-there : (v kind size s : ℕ) (zones : List ℕ) (ps : List (List ℕ)) → s < 2 ^ 64 → 12 + bytes_of v ps < 256 ^ 4
    → Head v kind size s (length ps) (paths_bytes v zones ps) (sheet_of v kind size s zones ps)
unfolding sheet_of body_of
head-there v kind size s zones ps h g =
    let l = sheet_of v kind size s zones ps in
    let body = body_of v kind size s zones ps in
    let n = body-length v kind size s zones ps in
    let bytes = paths-bytes v zones ps in
    let end = big 8 s ++ paths_bytes v zones ps in
    let f : drop 4 l ≡ v ∷ kind ∷ size ∷ length ps ∷ end = drop_at (big 4 (length body)) body 4 (big-length 4 (length body)) ∙ append_assoc (fields v kind size (length ps)) (big 8 s) (paths_bytes v zones ps) in
    let a = drop-next l (kind ∷ size ∷ length ps ∷ end) v 4 f in
    let b = drop-next l (size ∷ length ps ∷ end) kind 5 a in
    let c = drop-next l (length ps ∷ end) size 6 b in
    let d = drop-next l end (length ps) 7 c in
    let long = sheet-length v kind size s zones ps in
    record {
      long = omega (arith, long);
      counted = number-there l body 0 4 (length body) (omega (arith, n)) refl ∙ omega (arith, n, long);
      version = drop-first l (kind ∷ size ∷ length ps ∷ end) v 4 f;
      kind_is = drop-first l (size ∷ length ps ∷ end) kind 5 a;
      size_is = drop-first l (length ps ∷ end) size 6 b;
      count_is = drop-first l end (length ps) 7 c;
      source_is = number-there l (paths_bytes v zones ps) 8 8 s h d;
      after_it = drop_past l (big 8 s) (paths_bytes v zones ps) 8 8 d (big-length 8 s);
    }
