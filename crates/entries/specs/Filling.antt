-- A list of entries being filled from its front, one a turn (`none_yet`, `one_entry`; `Filling`, and from `begin` by `next` to `filled`). Assumes nothing.
use Rattle.std.specs.Prelude.{ℕ, zero, suc, ◌+◌, ◌-◌, ◌≤◌, ◌<◌, ◌≡◌, refl, List, ◌++◌, length, drop, set}
use Rattle.std.proofs.Common.{ap, ◌∙◌, append_assoc, add-one, arith, length-set, length-append, drop-cons}
use mathlib.Core.WellFounded.InvImage
use mathlib.Core.WellFounded.{WellFounded}
use Rattle.std.proofs.lemmas.List.{set_at}
use lib.WfN.{lt-wf_rel}
use Rattle.entries.specs.Says.{entries}
use Rattle.entries.specs.declared.Entry.{Entry}

pub entries-length : (f : ℕ → Entry) (k : ℕ) → length (entries f k) ≡ k
unfolding entries
entries-length f zero = refl
entries-length f (suc k) = simp length-append (omega (arith, entries-length f k))

pub none_yet : (f : ℕ → Entry) (was : List Entry) → was ≡ entries f 0 ++ drop 0 was
unfolding entries
none_yet f was = refl

one_more : (f : ℕ → Entry) (was : List Entry) (i : ℕ) → i < length was → set (entries f i ++ drop i was) i (f i) ≡ entries f (i + 1) ++ drop (i + 1) was
unfolding entries
one_more f was i h = rw (drop-cons was i (f i)) (rw (set_at (entries f i) _ _ _ i (entries-length f i)) (simp (add-one, append_assoc)))

-- entry i, where i entries of f stand at the front of what was there
pub one_entry : (f : ℕ → Entry) (was : List Entry) (i : ℕ) {out : List Entry} {e : Entry} → out ≡ entries f i ++ drop i was → i < length was → e ≡ f i
    → set out i e ≡ entries f (i + 1) ++ drop (i + 1) was
one_entry f was i {out} {e} holds h is =
    ap (λ (l : List Entry). set l i e) holds ∙ ap (λ (x : Entry). set (entries f i ++ drop i was) i x) is ∙ one_more f was i h

-- i entries of f stand at the front of what was there, of k that are to be written
pub record Filling (f : ℕ → Entry) (k : ℕ) (was : List Entry) : Type 0 where
  pub i : ℕ
  pub out : List Entry
  pub within : i ≤ k
  pub long : length out ≡ length was
  pub holds : out ≡ entries f i ++ drop i was

module _ (f : ℕ → Entry) (k : ℕ) (was : List Entry) where
  -- a turn leaves fewer to write
  abbrev pub Nearer : Filling f k was → Filling f k was → Type 0
  Nearer t s = k - t.i < k - s.i

  pub Nearer-wf : WellFounded Nearer
  Nearer-wf = InvImage.wf (λ (s : Filling f k was). k - s.i) lt-wf_rel.wf

  abbrev pub begin : Filling f k was
  begin = record { i = 0; out = was; within = omega arith; long = refl; holds = none_yet f was }

  pub stored : (s : Filling f k was) (e : Entry) → s.i < length was → e ≡ f s.i → set s.out s.i e ≡ entries f (s.i + 1) ++ drop (s.i + 1) was
  stored s e h is = one_entry f was s.i s.holds h is

  abbrev pub next : (s : Filling f k was) (e : Entry) → s.i < k → s.i < length was → e ≡ f s.i → Filling f k was
  next s e l h is = record {
    i = s.i + 1;
    out = set s.out s.i e;
    within = omega arith;
    long = length-set s.out s.i e ∙ s.long;
    holds = stored s e h is;
  }

  pub nearer : (s : Filling f k was) (e : Entry) (l : s.i < k) (h : s.i < length was) (is : e ≡ f s.i) → Nearer (next s e l h is) s
  nearer s e l h is = omega arith

  pub filled : (s : Filling f k was) → k ≤ s.i → s.out ≡ entries f k ++ drop k was
  filled s l = let all : s.i ≡ k = omega (arith, s.within) in s.holds ∙ ap (λ (j : ℕ). entries f j ++ drop j was) all
