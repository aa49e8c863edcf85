-- What a piece is, test by test (`piece_is`), and what is known of bytes that begin with one (`Begun`, `begun`). Assumes nothing.
use Rattle.std.specs.Prelude.{ℕ, zero, suc, ◌+◌, ◌*◌, ◌≤◌, ◌<◌, ◌≡◌, refl, Bool, true, false, not, List, ◌++◌, eqb, ltb, length, get_or, take, drop, Result, Ok, Err, is_ok}
use Rattle.std.proofs.Common.{sym, ap, ◌∙◌, subst, arith, length-take, get_or-take, length-take-le, ltb-false, lt-ltb, le-ltb, eq-eqb, ne_eqb}
use Rattle.std.proofs.Math.Path.{ap₂}
use Rattle.std.proofs.Math.Option.{Option, none, some}
use Rattle.scan.specs.Scan.{pick}
use Rattle.octets.specs.Big.{number, number_cong}
use Rattle.sheet.specs.Format.{HEAD, version_of, kind_at, size_at, source_at}
use Rattle.sheet.specs.Says.{reading_told, head_told}
use Rattle.sheet.specs.declared.Versioned.{Versioned}
use Rattle.sheet_check.specs.Says.{check_against, sheet_told}
use Rattle.sheet.specs.declared.Flaw.{Flaw}
use Rattle.book.specs.Pieces.{length_of, live}
use Rattle.book.specs.Sheets.{against, Keyed, accepted, check_fan, check_refused}
use Rattle.book.specs.Says.{LIMIT}
use Rattle.book.specs.Open.{fine_length, piece_length}
use Rattle.book_open.specs.Needs.{is_none, fine}

-- what the check says
pub fine_is : {V : Type 0} (l : List ℕ) (r : Result (Versioned V) Flaw) → reading_told (head_told r) ≡ sheet_told l (check_against (version_of l) l) → is_ok r ≡ fine l
fine_is l (Ok x) t = sym (ap is_none (check_fan l x.head t).fine)
fine_is l (Err f) t = sym (ap is_none (check_refused l f t))

module _ (at : ℕ) (l : List ℕ) where
  abbrev pub piece_by : (a b c d v : Bool) → Option Flaw → ℕ
  piece_by a b c d v o = pick a 0 (pick b 0 (pick c 0 (pick d 0 (pick v (fine_length o (length_of l)) (length_of l)))))

  pub piece_is : {a b c d v : Bool} {o : Option Flaw} → ltb (length l) HEAD ≡ a → ltb (length_of l) HEAD ≡ b → ltb (length l) (length_of l) ≡ c → ltb LIMIT (at + length_of l) ≡ d → live l ≡ v
      → against (take (length_of l) l) ≡ o → piece_length at l ≡ piece_by a b c d v o
  unfolding piece_length
  piece_is {a} {b} {c} {d} {v} {o} pa pb pc pd pv po =
      ap₂ (λ (x y : Bool). piece_by x y (ltb (length l) (length_of l)) (ltb LIMIT (at + length_of l)) (live l) (against (take (length_of l) l))) pa pb
      ∙ ap₂ (λ (x y : Bool). piece_by a b x y (live l) (against (take (length_of l) l))) pc pd ∙ ap₂ (λ (x : Bool) (y : Option Flaw). piece_by a b c d x y) pv po

  pub piece-short : length l < HEAD → 0 ≡ piece_length at l
  piece-short h = sym (piece_is (lt-ltb (length l) HEAD h) refl refl refl refl refl)

  -- n is what the first four bytes tell
  module _ {n : ℕ} (e : n ≡ number l 0 4) (h : HEAD ≤ length l) where
    long : ltb (length l) HEAD ≡ false
    long = le-ltb (length l) HEAD h

    pub piece_small : 4 + n < HEAD → 0 ≡ piece_length at l
    piece_small g = sym (piece_is long (lt-ltb (length_of l) HEAD (omega arith)) refl refl refl refl)

    module _ (big : HEAD ≤ 4 + n) where
      enough : ltb (length_of l) HEAD ≡ false
      enough = le-ltb (length_of l) HEAD (omega arith)

      pub piece_cut : length l < 4 + n → 0 ≡ piece_length at l
      piece_cut g = sym (piece_is long enough (lt-ltb (length l) (length_of l) (omega arith)) refl refl refl)

      module _ (whole : 4 + n ≤ length l) where
        inside : ltb (length l) (length_of l) ≡ false
        inside = le-ltb (length l) (length_of l) (omega arith)

        pub piece-far : 65536 < at + (4 + n) → 0 ≡ piece_length at l
        piece-far g = sym (piece_is long enough inside (lt-ltb LIMIT (at + length_of l) (omega arith)) refl refl)

        module _ (near : at + (4 + n) ≤ 65536) where
          close : ltb LIMIT (at + length_of l) ≡ false
          close = le-ltb LIMIT (at + length_of l) (omega arith)

          pub piece_removed : get_or l 4 0 ≡ 0 → 4 + n ≡ piece_length at l
          piece_removed z = ap (λ (m : ℕ). 4 + m) e ∙ sym (piece_is long enough inside close (ap not (eq-eqb (get_or l 4 0) 0 z)) refl)

          module _ (lively : get_or l 4 0 ≡ 0 → ⊥) {r : Bool} (er : r ≡ fine (take (4 + n) l)) where
            judged : is_none (against (take (length_of l) l)) ≡ r
            judged = sym (er ∙ ap (λ (m : ℕ). fine (take (4 + m) l)) e)

            pub piece-fine : r ≡ true → 4 + n ≡ piece_length at l
            piece-fine t = ap (λ (m : ℕ). 4 + m) e ∙ sym (piece_is long enough inside close (ap not (ne_eqb (get_or l 4 0) 0 lively)) refl ∙ go (against (take (length_of l) l)) (judged ∙ t))
              where
                go : (o : Option Flaw) → is_none o ≡ true → fine_length o (length_of l) ≡ length_of l
                go none q = refl
                go (some f) q = absurd (let z : ◌≡◌ {A = ℕ} 0 1 = cc in omega arith)

            pub piece-flawed : r ≡ false → 0 ≡ piece_length at l
            piece-flawed t = sym (piece_is long enough inside close (ap not (ne_eqb (get_or l 4 0) 0 lively)) refl ∙ go (against (take (length_of l) l)) (judged ∙ t))
              where
                go : (o : Option Flaw) → is_none o ≡ false → fine_length o (length_of l) ≡ 0
                go none q = absurd (let z : ◌≡◌ {A = ℕ} 0 1 = cc in omega arith)
                go (some f) q = refl

-- bytes that begin with a piece
pub record Begun (at : ℕ) (l : List ℕ) : Type 0 where
  pub long : HEAD ≤ length_of l
  pub whole : length_of l ≤ length l
  pub near : at + length_of l ≤ LIMIT
  pub is : piece_length at l ≡ length_of l
  pub sound : live l ≡ true → against (take (length_of l) l) ≡ none

pub begun : (at : ℕ) (l : List ℕ) → 0 < piece_length at l → Begun at l
unfolding piece_length
begun at l h =
    go (ltb (length l) HEAD) (ltb (length_of l) HEAD) (ltb (length l) (length_of l)) (ltb LIMIT (at + length_of l)) (live l) (against (take (length_of l) l)) refl refl refl refl refl refl
  where
    go : (a b c d v : Bool) (o : Option Flaw) → ltb (length l) HEAD ≡ a → ltb (length_of l) HEAD ≡ b → ltb (length l) (length_of l) ≡ c → ltb LIMIT (at + length_of l) ≡ d → live l ≡ v
        → against (take (length_of l) l) ≡ o → Begun at l
    go true b c d v o pa pb pc pd pv po = absurd (let z = piece_is at l pa pb pc pd pv po in omega arith)
    go false true c d v o pa pb pc pd pv po = absurd (let z = piece_is at l pa pb pc pd pv po in omega arith)
    go false false true d v o pa pb pc pd pv po = absurd (let z = piece_is at l pa pb pc pd pv po in omega arith)
    go false false false true v o pa pb pc pd pv po = absurd (let z = piece_is at l pa pb pc pd pv po in omega arith)
    go false false false false true (some f) pa pb pc pd pv po = absurd (let z = piece_is at l pa pb pc pd pv po in omega arith)
    go false false false false true none pa pb pc pd pv po = record {
      long = ltb-false (length_of l) HEAD pb;
      whole = ltb-false (length l) (length_of l) pc;
      near = ltb-false LIMIT (at + length_of l) pd;
      is = piece_is at l pa pb pc pd pv po;
      sound = λ z. po;
    }
    go false false false false false o pa pb pc pd pv po = record {
      long = ltb-false (length_of l) HEAD pb;
      whole = ltb-false (length l) (length_of l) pc;
      near = ltb-false LIMIT (at + length_of l) pd;
      is = piece_is at l pa pb pc pd pv po;
      sound = λ z. absurd (let y : ◌≡◌ {A = ℕ} 0 1 = cc in omega arith);
    }

-- its key is one
pub begun_keyed : {at : ℕ} {l : List ℕ} → Begun at l → live l ≡ true → Keyed (kind_at l) (size_at l) (source_at l)
begun_keyed {at} {l} b v =
    let k = (accepted (take (length_of l) l) (b.sound v)).keyed in
    let p = front 5 (omega arith) in
    let q = front 6 (omega arith) in
    let s : number (take (length_of l) l) 8 8 ≡ number l 8 8 = number_cong (take (length_of l) l) l 8 8 8 (λ j h. front (8 + j) (omega arith)) in
    record {
      some-kind = omega (arith, k.some-kind);
      few_kinds = omega (arith, k.few_kinds);
      small = omega (arith, k.small);
      near = omega (arith, k.near);
    }
  where
    front : (i : ℕ) → i < 16 → get_or (take (length_of l) l) i 0 ≡ get_or l i 0
    front i h = get_or-take (length_of l) l i 0 (omega (arith, b.long))
