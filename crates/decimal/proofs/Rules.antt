-- The cases of the first digit: none, another than 0, a 0 before another digit, a 0 alone.
use Rattle.decimal.specs.Read.{read_none, read_first, read_led, read-zero}

pub ruleset first_cases = (read_none, read_first, read_led, read-zero)
