-- `book_close::close` meets its contract. Assumes nothing.
use Rattle.std.proofs.Common.{ℕ, ◌≤◌, min, ◌≡◌, refl, sym, ap, ap₂, ◌∙◌, List, map, arith, rules, length, take}
use lib.Seq.{sets}
use Rattle.book.specs.Closed.{kept, slid}
use Rattle.book.specs.declared.Book.{Book}
use Rattle.book.specs.Says.{limit, capacity, count, book_of, in_use, close_book, close_bytes, close_index}
use Rattle.book_close.proofs.close.Goals as goal

count-few : (b : Book) (index : List ℕ) {n : ℕ} → n ≡ count b index → n ≤ length index
unfolding count capacity
count-few b index e = omega (arith, e)

used_is : (used : ℕ) (bytes : List ℕ) {a n : ℕ} → a ≡ min (length bytes) 65536 → n ≡ min used a → n ≡ min used (limit bytes)
unfolding limit
used_is used bytes e f = omega (arith, e, f)

used-few : (used : ℕ) (bytes : List ℕ) {n : ℕ} → n ≡ min used (limit bytes) → n ≤ length bytes
unfolding limit
used-few used bytes e = omega (arith, e)

pub close_index-requires : goal.close_index-requires
close_index-requires c =
    let a = c.args in
    (used-few a.book.used a.bytes.now (used_is a.book.used a.bytes.now c.min.ensures c.min-end.ensures), count-few a.book a.index.now c.count-n.ensures)

pub close_bytes-used-requires : goal.close_bytes-used-requires
close_bytes-used-requires c =
    let a = c.args in
    used-few a.book.used a.bytes.now (used_is a.book.used a.bytes.now c.min.ensures c.min-end.ensures)

pub returns : goal.returns
unfolding close_book close_bytes close_index in_use
returns c =
    let a = c.args in
    let end = used_is a.book.used a.bytes.now c.min.ensures c.min-end.ensures in
    let front = ap (λ (k : ℕ). take k a.bytes.now) end in (
      ap₂ book_of (c.close_bytes-used.ensures.value ∙ ap (λ (l : List ℕ). length (kept l)) front) c.count-n.ensures,
      c.close_bytes-used.ensures.bytes_after ∙ ap (λ (l : List ℕ). sets a.bytes.now 0 (kept l)) front,
      c.close_index.ensures ∙ ap₂ (λ (l : List ℕ) (k : ℕ). sets a.index.now 0 (map (slid l) (take k a.index.now))) front c.count-n.ensures,
    )
