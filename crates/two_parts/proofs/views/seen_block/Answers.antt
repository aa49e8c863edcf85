-- `two_parts::views::seen_block` meets its contract: five exchanges, and what is no block's dropped. Assumes nothing.
use Rattle.std.proofs.Common.{ℕ, ◌%◌, ◌≡◌, ap, ap₂, ◌∙◌, bit_xor}
use Rattle.two_parts.specs.Groups.{mask, exchanged, moved, moved-seen}
use Rattle.two_parts.proofs.views.seen_block.Goals as goal

pub returns : goal.returns
unfolding moved
returns c =
    let a = c.args in
    let b = a.b.0 in
    -- the five exchanges
    let all : c.exchanged-by_sixteen.result ≡ moved 5 b (bit_xor a.x.0 a.a.0) =
    c.exchanged-by_sixteen.ensures
    ∙ ap (exchanged (mask 4) 4 b)
    (c.exchanged-by_eight.ensures
    ∙ ap (exchanged (mask 3) 3 b)
    (c.exchanged-by_four.ensures
    ∙ ap (exchanged (mask 2) 2 b) (c.exchanged-by_two.ensures ∙ ap (exchanged (mask 1) 1 b) c.exchanged-by_one.ensures))) in
    ap₂ (λ (x y : ℕ). x % y) all c.blocks_in.ensures ∙ moved-seen a.order.0 a.a.0 b a.x.0 c.requires.order c.requires.slot
