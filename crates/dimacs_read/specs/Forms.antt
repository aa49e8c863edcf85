-- What the lines of a file come to by themselves (`Formed`): the first that is malformed, or the counts told; one line (`Stepped`), and a loop over them (`Forming`). Assumes nothing.
use Rattle.std.specs.Prelude.{ℕ, suc, ◌+◌, ◌-◌, ◌≤◌, ◌<◌, ◌≡◌, Bool, true, false, ◌&&◌, List, [], ◌∷◌, eqb, length, drop}
use Rattle.std.specs.Prelude.{Option, Some, None, Result, Ok, Err}
use Rattle.std.proofs.Math.Path.{refl}
use Rattle.std.proofs.Common.{ap, ◌∙◌, subst, arith}
use Rattle.scan.specs.Scan.{nowhere, at, pick}
use Rattle.dimacs.specs.Text.{Edge, edge}
use Rattle.dimacs.specs.Parse.{Line, comment, counts, link, malformed, Piece, line_at, lines, lines_of}
use Rattle.dimacs.specs.Says.{malformed_at, counted}
use Rattle.dimacs.specs.Lines.{lines-all, lines_end, lines-piece, lines-broken}
use Rattle.dimacs_take.specs.Takes.{Taken, line_of}
use Rattle.dimacs_take.specs.declared.Line as code
use Rattle.dimacs_take.specs.declared.Line.TheVariants.{Comment, Counts, Link}

-- whether there was a `p` line, which told these counts
abbrev pub headed : Option (ℕ × ℕ) → Bool
headed (Some c) = true
headed None = false

-- whether the counts are these, told by the first `p` line: one that was met, or one that is still to come
abbrev pub tells : Option (ℕ × ℕ) → (relays links : ℕ) (ls : List Line) → Bool
tells (Some (n, m)) relays links ls = eqb n relays && eqb m links
tells None relays links ls = counted relays links ls

-- ---- what the definitions say, line by line

module _ (headed : Bool) (k : ℕ) (ls : List Line) where
  bad-none : malformed_at headed k [] ≡ nowhere
  unfolding malformed_at
  bad-none = refl

  bad_comment : malformed_at headed k (comment ∷ ls) ≡ malformed_at headed (k + 1) ls
  unfolding malformed_at
  bad_comment = refl

  bad-counts : (n m : ℕ) → malformed_at headed k (counts n m ∷ ls) ≡ pick headed (at (k + 1)) (malformed_at true (k + 1) ls)
  unfolding malformed_at
  bad-counts n m = refl

  bad-link : (e : Edge) → malformed_at headed k (link e ∷ ls) ≡ pick headed (malformed_at headed (k + 1) ls) (at (k + 1))
  unfolding malformed_at
  bad-link e = refl

  bad-line : malformed_at headed k (malformed ∷ ls) ≡ at (k + 1)
  unfolding malformed_at
  bad-line = refl

module _ (relays links : ℕ) (ls : List Line) where
  told_none : counted relays links [] ≡ false
  unfolding counted
  told_none = refl

  told_comment : counted relays links (comment ∷ ls) ≡ counted relays links ls
  unfolding counted
  told_comment = refl

  told-counts : (n m : ℕ) → counted relays links (counts n m ∷ ls) ≡ (eqb n relays && eqb m links)
  unfolding counted
  told-counts n m = refl

-- ---- one line

pub record Onward (text : List ℕ) (from : ℕ) (c : Option (ℕ × ℕ)) (next : ℕ) (after : Option (ℕ × ℕ)) : Type 0 where
  pub later : from < next
  pub within : next ≤ length text
  pub bad : (most k : ℕ) → malformed_at (headed c) k (lines (suc most) (drop from text)) ≡ malformed_at (headed after) (k + 1) (lines most (drop next text))
  pub told : (most relays links : ℕ) → tells c relays links (lines (suc most) (drop from text)) ≡ tells after relays links (lines most (drop next text))

pub record Stops (text : List ℕ) (from : ℕ) (c : Option (ℕ × ℕ)) : Type 0 where
  pub bad : (most k : ℕ) → malformed_at (headed c) k (lines (suc most) (drop from text)) ≡ at (k + 1)

abbrev pub Stepped : (text : List ℕ) (from : ℕ) (c : Option (ℕ × ℕ)) → Option (Option (ℕ × ℕ) × ℕ) → Type 0
Stepped text from c (Some (after, next)) = Onward text from c next after
Stepped text from c None = Stops text from c

-- which it was
module _ (text : List ℕ) (from : ℕ) (c : Option (ℕ × ℕ)) {r : Option (Option (ℕ × ℕ) × ℕ)} where
  pub as_onward : {after : Option (ℕ × ℕ)} {next : ℕ} → r ≡ Some (after, next) → Stepped text from c r → Onward text from c next after
  as_onward e s = subst (Stepped text from c) e s

  pub as_stops : r ≡ None → Stepped text from c r → Stops text from c
  as_stops e s = subst (Stepped text from c) e s

pub as_taken : {text : List ℕ} {from : ℕ} {x y : code.Line} {next : ℕ} {p : Piece} → x ≡ y → Taken text from (Some (x, next)) p → Taken text from (Some (y, next)) p
as_taken {text} {from} {x} {y} {next} {p} e t = subst (λ (z : code.Line). Taken text from (Some (z, next)) p) e t

-- the line that is taken is the next one
pub next_is : (text : List ℕ) (from : ℕ) → from < length text → {x : code.Line} {next : ℕ} → Taken text from (Some (x, next)) (line_at (drop from text)) → (most : ℕ) → lines (suc most) (drop from text) ≡ line_of x ∷ lines most (drop next text)
next_is text from h {x} {next} t most = lines-piece text from most h (line_of x) (drop next text) t.same

module _ (text : List ℕ) (from : ℕ) (h : from < length text) where
  pub step-broken : (c : Option (ℕ × ℕ)) → Taken text from None (line_at (drop from text)) → Stops text from c
  step-broken c t = record { bad = λ most k. ap (malformed_at (headed c) k) (lines-broken text from most h t.same) ∙ bad-line (headed c) k [] }

  module _ {next : ℕ} where
    pub step_comment : (c : Option (ℕ × ℕ)) → Taken text from (Some (Comment, next)) (line_at (drop from text)) → Onward text from c next c
    step_comment c t = record {
      later = t.within.0;
      within = t.within.1;
      bad = λ most k. ap (malformed_at (headed c) k) (next_is text from h t most) ∙ bad_comment (headed c) k (lines most (drop next text));
      told = λ most relays links. ap (tells c relays links) (next_is text from h t most) ∙ skipped c relays links (lines most (drop next text));
    }
      where
        skipped : (c : Option (ℕ × ℕ)) (relays links : ℕ) (ls : List Line) → tells c relays links (comment ∷ ls) ≡ tells c relays links ls
        skipped (Some (n, m)) relays links ls = refl
        skipped None relays links ls = told_comment relays links ls

    module _ {a b : ℕ} where
      pub step_again : {c : ℕ × ℕ} → Taken text from (Some (Counts a b, next)) (line_at (drop from text)) → Stops text from (Some c)
      step_again t = record { bad = λ most k. ap (malformed_at true k) (next_is text from h t most) ∙ bad-counts true k (lines most (drop next text)) a b }

      pub step_counts : Taken text from (Some (Counts a b, next)) (line_at (drop from text)) → Onward text from None next (Some (a, b))
      step_counts t = record {
        later = t.within.0;
        within = t.within.1;
        bad = λ most k. ap (malformed_at false k) (next_is text from h t most) ∙ bad-counts false k (lines most (drop next text)) a b;
        told = λ most relays links. ap (counted relays links) (next_is text from h t most) ∙ told-counts relays links (lines most (drop next text)) a b;
      }

      pub step-link : (c : ℕ × ℕ) → Taken text from (Some (Link a b, next)) (line_at (drop from text)) → Onward text from (Some c) next (Some c)
      step-link (n, m) t = record {
        later = t.within.0;
        within = t.within.1;
        bad = λ most k. ap (malformed_at true k) (next_is text from h t most) ∙ bad-link true k (lines most (drop next text)) (edge a b);
        told = λ most relays links. refl;
      }

      pub step-early : Taken text from (Some (Link a b, next)) (line_at (drop from text)) → Stops text from None
      step-early t = record { bad = λ most k. ap (malformed_at false k) (next_is text from h t most) ∙ bad-link false k (lines most (drop next text)) (edge a b) }

-- ---- all lines

-- what the lines of a file come to, whatever the counts should be
abbrev pub Formed : List Line → Result (Option (ℕ × ℕ)) ℕ → Type 0
Formed ls (Err k) = malformed_at false 0 ls ≡ at k
Formed ls (Ok None) = (malformed_at false 0 ls ≡ nowhere) × ((relays links : ℕ) → counted relays links ls ≡ false)
Formed ls (Ok (Some (n, m))) = (malformed_at false 0 ls ≡ nowhere) × ((relays links : ℕ) → counted relays links ls ≡ (eqb n relays && eqb m links))

-- the loop has come to a place behind k lines
pub record Forming (text : List ℕ) (from k : ℕ) (c : Option (ℕ × ℕ)) : Type 0 where
  pub most : ℕ
  pub enough : length text ≤ from + most
  pub few : k ≤ from
  pub within : from ≤ length text
  pub bad : malformed_at false 0 (lines_of text) ≡ malformed_at (headed c) k (lines most (drop from text))
  pub told : (relays links : ℕ) → counted relays links (lines_of text) ≡ tells c relays links (lines most (drop from text))

pub form_start : (text : List ℕ) → Forming text 0 0 None
form_start text = record {
  most = length text;
  enough = omega arith;
  few = omega arith;
  within = omega arith;
  bad = ap (malformed_at false 0) (lines-all text);
  told = λ relays links. ap (counted relays links) (lines-all text);
}

-- the line ahead takes one of the bound
pub one_less : {most : ℕ} (text : List ℕ) (from : ℕ) → from < length text → length text ≤ from + most → most ≡ suc (most - 1)
one_less text from h e = omega arith

module _ {text : List ℕ} {from k : ℕ} {c : Option (ℕ × ℕ)} (f : Forming text from k c) where
  as_most : from < length text → lines f.most (drop from text) ≡ lines (suc (f.most - 1)) (drop from text)
  as_most h = ap (λ (x : ℕ). lines x (drop from text)) (one_less text from h f.enough)

  pub form_more : from < length text → {next : ℕ} {after : Option (ℕ × ℕ)} → Onward text from c next after → Forming text next (k + 1) after
  form_more h {next} {after} o = record {
    most = f.most - 1;
    enough = omega (arith, f.enough, o.later);
    few = omega (arith, f.few, o.later);
    within = o.within;
    bad = f.bad ∙ ap (malformed_at (headed c) k) (as_most h) ∙ o.bad (f.most - 1) k;
    told = λ relays links. f.told relays links ∙ ap (tells c relays links) (as_most h) ∙ o.told (f.most - 1) relays links;
  }

  pub form_stops : from < length text → Stops text from c → Formed (lines_of text) (Err (k + 1))
  form_stops h s = f.bad ∙ ap (malformed_at (headed c) k) (as_most h) ∙ s.bad (f.most - 1) k

  module _ (h : length text ≤ from) where
    none-bad : malformed_at false 0 (lines_of text) ≡ nowhere
    none-bad = f.bad ∙ ap (malformed_at (headed c) k) (lines_end text from f.most h) ∙ bad-none (headed c) k []

    told-all : (relays links : ℕ) → counted relays links (lines_of text) ≡ tells c relays links []
    told-all relays links = f.told relays links ∙ ap (tells c relays links) (lines_end text from f.most h)

pub form_done : {text : List ℕ} {from k : ℕ} (c : Option (ℕ × ℕ)) → Forming text from k c → length text ≤ from → Formed (lines_of text) (Ok c)
form_done None f h = (none-bad f h, λ relays links. told-all f h relays links ∙ told_none relays links [])
form_done (Some (n, m)) f h = (none-bad f h, told-all f h)

-- with a `p` line, and with none
pub form_counted : {text : List ℕ} {from k : ℕ} {n m : ℕ} → Forming text from k (Some (n, m)) → length text ≤ from → Formed (lines_of text) (Ok (Some (n, m)))
form_counted {n = n} {m} f h = form_done (Some (n, m)) f h

pub form_headless : {text : List ℕ} {from k : ℕ} → Forming text from k None → length text ≤ from → Formed (lines_of text) (Ok None)
form_headless f h = form_done None f h
