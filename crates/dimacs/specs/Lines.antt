-- The lines of a text, one at a time. Assumes nothing.
use Rattle.std.specs.Prelude.{ℕ, zero, suc, ◌+◌, ◌≤◌, ◌<◌, ◌≡◌, refl, List, [], ◌∷◌, length, get_or, drop}
use Rattle.std.proofs.Common.{sym, ap, ◌∙◌, drop_of_length-le}
use Rattle.decimal.specs.Read.{next_byte}
use Rattle.dimacs.specs.Parse.{Line, malformed, Piece, broken, piece, on_piece, line_at, lines, lines_of}

lines_none : (most : ℕ) → lines most [] ≡ []
unfolding lines
lines_none zero = refl
lines_none (suc most) = refl

lines_next : (most b : ℕ) (l : List ℕ) → lines (suc most) (b ∷ l) ≡ on_piece (line_at (b ∷ l)) (malformed ∷ []) (λ x rest. x ∷ lines most rest)
unfolding lines
lines_next most b l = refl

pub lines-all : (text : List ℕ) → lines_of text ≡ lines (length text) text
unfolding lines_of
lines-all text = refl

module _ (text : List ℕ) (at : ℕ) where
  pub lines_end : (most : ℕ) → length text ≤ at → lines most (drop at text) ≡ []
  lines_end most h = ap (lines most) (drop_of_length-le text h) ∙ lines_none most

  module _ (most : ℕ) (h : at < length text) where
    by_piece : lines (suc most) (drop at text) ≡ on_piece (line_at (drop at text)) (malformed ∷ []) (λ x rest. x ∷ lines most rest)
    by_piece =
        let e = next_byte text at h in
        ap (lines (suc most)) e ∙ lines_next most (get_or text at 0) (drop (at + 1) text)
        ∙ ap (λ (l : List ℕ). on_piece (line_at l) (malformed ∷ []) (λ x rest. x ∷ lines most rest)) (sym e)

    pub lines-piece : (x : Line) (rest : List ℕ) → piece x rest ≡ line_at (drop at text) → lines (suc most) (drop at text) ≡ x ∷ lines most rest
    lines-piece x rest e = by_piece ∙ ap (λ (p : Piece). on_piece p (malformed ∷ []) (λ x rest. x ∷ lines most rest)) (sym e)

    pub lines-broken : broken ≡ line_at (drop at text) → lines (suc most) (drop at text) ≡ malformed ∷ []
    lines-broken e = by_piece ∙ ap (λ (p : Piece). on_piece p (malformed ∷ []) (λ x rest. x ∷ lines most rest)) (sym e)
