-- Worked cases, by the rules over the history: wraps, gaps, and the numbers at either side of each bound. Assumes nothing.
use Rattle.std.specs.Prelude.{◌≡◌, [], ◌∷◌, refl}
use Rattle.arrivals.specs.Says.{minus, further, near}
use Rattle.arrivals.specs.History.{newest, ruled, marked, verdict}
use Rattle.arrivals.specs.Follows.{verdicts}

-- each number once, late ones too
pub once : verdicts [] (7 ∷ 7 ∷ 8 ∷ 7 ∷ 5 ∷ 5 ∷ 6 ∷ []) ≡ 0 ∷ 41 ∷ 0 ∷ 41 ∷ 0 ∷ 41 ∷ 0 ∷ []
unfolding verdicts verdict ruled marked newest further near minus
once = refl

-- 0 comes after 65,535
pub wraps : verdicts [] (65535 ∷ 0 ∷ 65535 ∷ 1 ∷ 65534 ∷ 65535 ∷ []) ≡ 0 ∷ 0 ∷ 41 ∷ 0 ∷ 0 ∷ 41 ∷ []
unfolding verdicts verdict ruled marked newest further near minus
wraps = refl

-- 63 behind is among the newest 64, and 64 behind is not
pub behind : verdicts [] (100 ∷ 163 ∷ 100 ∷ 99 ∷ 164 ∷ 100 ∷ 101 ∷ []) ≡ 0 ∷ 0 ∷ 41 ∷ 42 ∷ 0 ∷ 42 ∷ 0 ∷ []
unfolding verdicts verdict ruled marked newest further near minus
behind = refl

-- 32,767 ahead is passed, and 32,768 ahead is too old
pub ahead : verdicts [] (100 ∷ 32867 ∷ 100 ∷ []) ≡ 0 ∷ 0 ∷ 42 ∷ []
unfolding verdicts verdict ruled marked newest further near minus
ahead = refl

pub halfway : verdicts [] (100 ∷ 32868 ∷ 99 ∷ 37 ∷ 36 ∷ []) ≡ 0 ∷ 42 ∷ 0 ∷ 0 ∷ 42 ∷ []
unfolding verdicts verdict ruled marked newest further near minus
halfway = refl
