-- The lines of a file spell its text: a file in which no line is malformed is made of exactly the lines that are read (`lines_spelt`), each ended by a newline; a comment begins with `c`, and every other line is `p edge N M` or `e U V`
-- with numbers below 2^64. Assumes nothing.
use Rattle.std.specs.Prelude.{ℕ, zero, suc, ◌+◌, ◌≤◌, ◌<◌, ◌≡◌, refl, Bool, true, false, ◌⊎◌, List, [], ◌∷◌, ◌++◌, eqb, length, drop}
use Rattle.std.proofs.Common.{sym, ap, ◌∙◌, subst, inl, inr, append_assoc, arith, length-append, eqb-true}
use Rattle.std.proofs.Math.Option.{Option, none, some}
use Rattle.scan.specs.Scan.{nowhere, at, pick}
use Rattle.scan.specs.Laws.{true-or, nowhere_at}
use Rattle.decimal.specs.Digits.{digits}
use Rattle.decimal.specs.Number.{limit}
use Rattle.line.specs.Text.{spaced, line_end}
use Rattle.line.specs.Parse.{Field, end, item, field, on_field, begins, begins_sound}
use Rattle.line.specs.Parse as parse
use Rattle.line.specs.Lines.{item_sound, end_sound}
use Rattle.dimacs.specs.Text.{edge, counts_word, edge_word, pair_text}
use Rattle.dimacs.specs.Parse.{Line, comment, counts, link, malformed, Piece, broken, piece, on_piece, skip, comment_of, Pair, unpaired, pair, closed, second, two, piece_of, edge_line, line_at, lines, lines_of}
use Rattle.dimacs.specs.Says.{malformed_at}
use Rattle.dimacs_trips.specs.Texts.{pair-bytes}

-- no newline stands in it
abbrev pub Plain : List ℕ → Type 0
Plain [] = 0 ≤ 0
Plain (b ∷ l) = (eqb b 10 ≡ false) × Plain l

-- how a line is spelt
abbrev pub Spells : Line → List ℕ → Type 0
Spells comment l = (x : List ℕ) × (l ≡ 99 ∷ (x ++ line_end)) × Plain x
Spells (counts a b) l = (a < limit) × (b < limit) × (l ≡ pair_text counts_word a b)
Spells (link (edge a b)) l = (a < limit) × (b < limit) × (l ≡ pair_text edge_word a b)
Spells malformed l = ⊥

abbrev pub Spelt : List ℕ → List Line → Type 0
Spelt text [] = text ≡ []
Spelt text (x ∷ ls) = (l : List ℕ) × (rest : List ℕ) × (text ≡ l ++ rest) × Spells x l × Spelt rest ls

-- ---- two numbers

not-pair : {a b : ℕ} {rest : List ℕ} {A : Type 0} → unpaired ≡ pair a b rest → A
not-pair e = let z : ◌≡◌ {A = ℕ} 0 1 = cc in absurd (omega arith)

same-pair : {a b c d : ℕ} {l m : List ℕ} → pair a b l ≡ pair c d m → (a ≡ c) × (b ≡ d) × (l ≡ m)
same-pair e = (cc, cc, cc)

record Two (text : List ℕ) (a b : ℕ) (rest : List ℕ) : Type 0 where
  pub first : a < limit
  pub second : b < limit
  pub is : text ≡ (spaced (a ∷ b ∷ []) ++ line_end) ++ rest

two_sound : (text : List ℕ) (a b : ℕ) (rest : List ℕ) → two text ≡ pair a b rest → Two text a b rest
unfolding two
two_sound text a b rest e = one (field text) refl e
  where
    three : (c d : ℕ) (l m : List ℕ) → text ≡ 32 ∷ (digits c ++ l) → c < limit → l ≡ 32 ∷ (digits d ++ m) → d < limit → (f : Field) → field m ≡ f → on_field f (pair c d (drop 1 m)) unpaired (λ n k. unpaired) ≡ pair a b rest → Two text a b rest
    three c d l m p h q g end z y =
        let (after, w) = end_sound m z in
        let (s, t, u) = same-pair y in
        let tail : m ≡ 10 ∷ rest = w ∙ ap (λ (k : List ℕ). 10 ∷ k) (sym (ap (drop 1) w) ∙ u) in
        record {
          first = omega (arith, s);
          second = omega (arith, t);
          is = p ∙ ap (λ (k : List ℕ). 32 ∷ (digits c ++ k)) q
              ∙ ap (λ (k : List ℕ). 32 ∷ (digits c ++ (32 ∷ (digits d ++ k)))) tail
              ∙ ap (λ (x : ℕ). 32 ∷ (digits x ++ (32 ∷ (digits d ++ (10 ∷ rest))))) s
              ∙ ap (λ (x : ℕ). 32 ∷ (digits a ++ (32 ∷ (digits x ++ (10 ∷ rest))))) t
              ∙ sym (pair-bytes a b rest);
        }
    three c d l m p h q g parse.broken z y = not-pair y
    three c d l m p h q g (item n k) z y = not-pair y

    deux : (c : ℕ) (l : List ℕ) → text ≡ 32 ∷ (digits c ++ l) → c < limit → (f : Field) → field l ≡ f → on_field f unpaired unpaired (closed c) ≡ pair a b rest → Two text a b rest
    deux c l p h end z y = not-pair y
    deux c l p h parse.broken z y = not-pair y
    deux c l p h (item d m) z y = let i = item_sound l z in three c d l m p h i.text_is i.below (field m) refl y

    one : (f : Field) → field text ≡ f → on_field f unpaired unpaired second ≡ pair a b rest → Two text a b rest
    one end z y = not-pair y
    one parse.broken z y = not-pair y
    one (item c l) z y = let i = item_sound text z in deux c l i.text_is i.below (field l) refl y

-- ---- a comment

not_some : {l : List ℕ} {A : Type 0} → none ≡ some l → A
not_some e = let z : ◌≡◌ {A = ℕ} 0 1 = cc in absurd (omega arith)

same_some : {l m : List ℕ} → some l ≡ some m → l ≡ m
same_some e = cc

skip_sound : (text rest : List ℕ) → skip text ≡ some rest → (x : List ℕ) × (text ≡ x ++ (10 ∷ rest)) × Plain x
unfolding skip
skip_sound [] rest e = not_some e
skip_sound (b ∷ l) rest e = go (true-or (eqb b 10)) (skip_sound l rest)
  where
    go : (eqb b 10 ≡ true) ⊎ (eqb b 10 ≡ false) → (skip l ≡ some rest → (x : List ℕ) × (l ≡ x ++ (10 ∷ rest)) × Plain x) → (x : List ℕ) × (b ∷ l ≡ x ++ (10 ∷ rest)) × Plain x
    go (inl t) r =
        let same = same_some (sym (ap (λ (y : Bool). pick y (some l) (skip l)) t) ∙ e) in
        ([], ap (λ (y : ℕ). y ∷ l) (eqb-true b 10 t) ∙ ap (λ (y : List ℕ). 10 ∷ y) same, omega arith)
    go (inr f) r =
        let (x, p, q) = r (sym (ap (λ (y : Bool). pick y (some l) (skip l)) f) ∙ e) in
        (b ∷ x, ap (λ (y : List ℕ). b ∷ y) p, (f, q))

-- ---- a line

not_piece : {x : Line} {rest : List ℕ} {A : Type 0} → broken ≡ piece x rest → A
not_piece e = let z : ◌≡◌ {A = ℕ} 0 1 = cc in absurd (omega arith)

same-piece : {x y : Line} {l m : List ℕ} → piece x l ≡ piece y m → (x ≡ y) × (l ≡ m)
same-piece e = (cc, cc)

-- a line at the front of a text
record Front (text : List ℕ) (x : Line) (rest : List ℕ) : Type 0 where
  pub bytes : List ℕ
  pub is : text ≡ bytes ++ rest
  pub spells : Spells x bytes
  pub some : 0 < length bytes

comment_front : (b : ℕ) (l : List ℕ) (x : Line) (rest : List ℕ) → b ≡ 99 → comment_of (skip l) ≡ piece x rest → Front (b ∷ l) x rest
comment_front b l x rest h e = go (skip l) refl e
  where
    go : (o : Option (List ℕ)) → skip l ≡ o → comment_of o ≡ piece x rest → Front (b ∷ l) x rest
    go none z y = not_piece y
    go (some r) z y =
        let (p, q) = same-piece y in
        let (xs, is, plain) = skip_sound l r z in
        subst (λ (t : Line). Front (b ∷ l) t rest) p (record {
          bytes = 99 ∷ (xs ++ line_end);
          is = ap (λ (t : ℕ). t ∷ l) h ∙ ap (λ (t : List ℕ). 99 ∷ t) (is ∙ ap (λ (t : List ℕ). xs ++ (10 ∷ t)) q ∙ sym (append_assoc xs line_end rest));
          spells = (xs, refl, plain);
          some = omega arith;
        })

pair-front : (word l text : List ℕ) (g : ℕ → ℕ → Line) (x : Line) (rest : List ℕ) → ((a b : ℕ) → a < limit → b < limit → Spells (g a b) (pair_text word a b)) → 0 < length word
    → text ≡ word ++ l → piece_of g (two l) ≡ piece x rest → Front text x rest
pair-front word l text g x rest spell long is e = go (two l) refl e
  where
    go : (t : Pair) → two l ≡ t → piece_of g t ≡ piece x rest → Front text x rest
    go unpaired z y = not_piece y
    go (pair a b r) z y =
        let (p, q) = same-piece y in
        let s = two_sound l a b r z in
        subst (λ (t : Line). Front text t rest) p (record {
          bytes = pair_text word a b;
          is = is ∙ ap (λ (t : List ℕ). word ++ t) (s.is ∙ ap (λ (t : List ℕ). (spaced (a ∷ b ∷ []) ++ line_end) ++ t) q) ∙ sym (append_assoc word (spaced (a ∷ b ∷ []) ++ line_end) rest);
          spells = spell a b s.first s.second;
          some = omega (arith, length-append word (spaced (a ∷ b ∷ []) ++ line_end));
        })

line-front : (b : ℕ) (l : List ℕ) (x : Line) (rest : List ℕ) → line_at (b ∷ l) ≡ piece x rest → Front (b ∷ l) x rest
unfolding line_at
line-front b l x rest e = go (true-or (eqb b 99)) (true-or (eqb b 101)) (true-or (begins counts_word (b ∷ l)))
  where
    go : (eqb b 99 ≡ true) ⊎ (eqb b 99 ≡ false) → (eqb b 101 ≡ true) ⊎ (eqb b 101 ≡ false) → (begins counts_word (b ∷ l) ≡ true) ⊎ (begins counts_word (b ∷ l) ≡ false) → Front (b ∷ l) x rest
    go (inl t) q s = comment_front b l x rest (eqb-true b 99 t) (sym (ap (λ (y : Bool). pick y (comment_of (skip l)) (pick (eqb b 101) (piece_of edge_line (two l)) (pick (begins counts_word (b ∷ l)) (piece_of counts (two (drop 6 (b ∷ l)))) broken))) t) ∙ e)
    go (inr f) (inl t) s =
        pair-front edge_word l (b ∷ l) edge_line x rest (λ a c h g. (h, g, refl)) (omega arith) (ap (λ (y : ℕ). y ∷ l) (eqb-true b 101 t))
        (sym (ap (λ (y : Bool). pick y (comment_of (skip l)) (pick (eqb b 101) (piece_of edge_line (two l)) (pick (begins counts_word (b ∷ l)) (piece_of counts (two (drop 6 (b ∷ l)))) broken))) f
        ∙ ap (λ (y : Bool). pick y (piece_of edge_line (two l)) (pick (begins counts_word (b ∷ l)) (piece_of counts (two (drop 6 (b ∷ l)))) broken)) t) ∙ e)
    go (inr f) (inr n) (inl t) =
        pair-front counts_word (drop 6 (b ∷ l)) (b ∷ l) counts x rest (λ a c h g. (h, g, refl)) (omega arith) (begins_sound counts_word (b ∷ l) t)
        (sym (ap (λ (y : Bool). pick y (comment_of (skip l)) (pick (eqb b 101) (piece_of edge_line (two l)) (pick (begins counts_word (b ∷ l)) (piece_of counts (two (drop 6 (b ∷ l)))) broken))) f
        ∙ ap (λ (y : Bool). pick y (piece_of edge_line (two l)) (pick (begins counts_word (b ∷ l)) (piece_of counts (two (drop 6 (b ∷ l)))) broken)) n
        ∙ ap (λ (y : Bool). pick y (piece_of counts (two (drop 6 (b ∷ l)))) broken) t) ∙ e)
    go (inr f) (inr n) (inr t) = not_piece (
        sym (ap (λ (y : Bool). pick y (comment_of (skip l)) (pick (eqb b 101) (piece_of edge_line (two l)) (pick (begins counts_word (b ∷ l)) (piece_of counts (two (drop 6 (b ∷ l)))) broken))) f
        ∙ ap (λ (y : Bool). pick y (piece_of edge_line (two l)) (pick (begins counts_word (b ∷ l)) (piece_of counts (two (drop 6 (b ∷ l)))) broken)) n
        ∙ ap (λ (y : Bool). pick y (piece_of counts (two (drop 6 (b ∷ l)))) broken) t) ∙ e)

-- ---- all lines

-- a line that is not malformed leaves the others to be looked at
onwards : (headed : Bool) (k : ℕ) (x : Line) (ls : List Line) → malformed_at headed k (x ∷ ls) ≡ nowhere → (after : Bool) × (malformed_at after (k + 1) ls ≡ nowhere)
unfolding malformed_at
onwards headed k comment ls e = (headed, e)
onwards true k (counts a b) ls e = absurd (nowhere_at e refl)
onwards false k (counts a b) ls e = (true, e)
onwards true k (link d) ls e = (true, e)
onwards false k (link d) ls e = absurd (nowhere_at e refl)
onwards headed k malformed ls e = absurd (nowhere_at e refl)

bad : (headed : Bool) (k : ℕ) → malformed_at headed k (malformed ∷ []) ≡ at (k + 1)
unfolding malformed_at
bad headed k = refl

spelt : (most : ℕ) (text : List ℕ) → length text ≤ most → (headed : Bool) (k : ℕ) → malformed_at headed k (lines most text) ≡ nowhere → Spelt text (lines most text)
unfolding lines
spelt zero [] h headed k e = refl
spelt zero (b ∷ l) h headed k e = absurd (omega arith)
spelt (suc most) [] h headed k e = refl
spelt (suc most) (b ∷ l) h headed k e = go (line_at (b ∷ l)) refl e (λ rest g. spelt most rest g)
  where
    go : (p : Piece) → line_at (b ∷ l) ≡ p → malformed_at headed k (on_piece p (malformed ∷ []) (λ x rest. x ∷ lines most rest)) ≡ nowhere
        → ((rest : List ℕ) → length rest ≤ most → (after : Bool) (j : ℕ) → malformed_at after j (lines most rest) ≡ nowhere → Spelt rest (lines most rest))
        → Spelt (b ∷ l) (on_piece p (malformed ∷ []) (λ x rest. x ∷ lines most rest))
    go broken z y more = absurd (nowhere_at y (bad headed k))
    go (piece x rest) z y more =
        let f = line-front b l x rest z in
        let (after, w) = onwards headed k x (lines most rest) y in
        (f.bytes, rest, f.is, f.spells, more rest (omega (arith, f.some, ap length f.is, length-append f.bytes rest)) after (k + 1) w)

pub lines_spelt : (text : List ℕ) → malformed_at false 0 (lines_of text) ≡ nowhere → Spelt text (lines_of text)
unfolding lines_of
lines_spelt text e = spelt (length text) text (omega arith) false 0 e
