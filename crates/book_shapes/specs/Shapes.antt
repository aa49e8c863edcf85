-- What the structs of a book that C is given say, by what its answers tell. Assumes nothing.
use Rattle.std.specs.Prelude.{ℕ, ◌≡◌}
use Rattle.std.proofs.Common.{ap, ap₂, ◌∙◌}
use Rattle.book.specs.Told.{added_number, added_path, added_place, added_book, found_number, found_start, found_length, removed_number, removed_book, opened_number, opened_place, opened_book}
use Rattle.book.specs.declared.Book.{Book}
use Rattle.book.specs.Types.{Added, MaybeFound, Opened, Removed}
use Rattle.book_shapes.specs.declared.GustBooked.{GustBooked}
use Rattle.book_shapes.specs.declared.GustFound.{GustFound}

abbrev pub booked : (number path place : ℕ) (book : Book) → GustBooked
booked n i p b = record { number = n; path = i; place = p; book = b }

abbrev pub added_in : Added → Book → GustBooked
added_in a was = booked (added_number a) (added_path a) (added_place a) (added_book a was)

abbrev pub removed_in : Removed → Book → GustBooked
removed_in m was = booked (removed_number m) 0 0 (removed_book m was)

abbrev pub opened_in : Opened → Book → GustBooked
opened_in o was = booked (opened_number o) 0 (opened_place o) (opened_book o was)

abbrev pub found_in : MaybeFound → GustFound
found_in f = record { number = found_number f; start = found_start f; length = found_length f }

-- equal fields
pub booked-same : {n n₁ i i₁ p p₁ : ℕ} {b b₁ : Book} → n ≡ n₁ → i ≡ i₁ → p ≡ p₁ → b ≡ b₁ → booked n i p b ≡ booked n₁ i₁ p₁ b₁
booked-same {n₁ = n₁} {i} {i₁} {p} {p₁} {b} e f g h = ap₂ (λ (x y : ℕ). booked x y p b) e f ∙ ap₂ (booked n₁ i₁) g h

pub found-same : {n n₁ s s₁ l l₁ : ℕ} → n ≡ n₁ → s ≡ s₁ → l ≡ l₁
    → ◌≡◌ {A = GustFound} (record { number = n; start = s; length = l }) (record { number = n₁; start = s₁; length = l₁ })
found-same {n₁ = n₁} {s} {s₁} {l} {l₁} e f g =
    ap₂ (λ (x y : ℕ). record { number = x; start = y; length = l }) e f ∙ ap (λ (z : ℕ). record { number = n₁; start = s₁; length = z }) g
