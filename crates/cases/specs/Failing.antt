-- Worked cases of failures, each computed from the definitions that the contracts cite: order 1, the fan 0 2 3 7 6 4 5 and 0 1 from relay 0, with relays stopped and
-- links cut; for each which paths are whole, and how many different things have failed (`failing`). Assumes nothing.
use Rattle.std.specs.Prelude.{ℕ, ◌≡◌, refl, Bool, true, false, List, [], ◌∷◌}
use Rattle.std.specs.Int.Count.{ones, ones_in}
use Rattle.scan.specs.Scan.{seek, any, among, has, different}
use Rattle.paths.specs.Fan.{filler, relay, hops}
use Rattle.paths.specs.Whole.{failed, failures, pair, cut, stops, severs, broken, whole, relays_of, link, numbered, links_of}
use Rattle.two_parts.specs.Two.{two, joined, linked}

abbrev places : List ℕ
places = 0 ∷ 2 ∷ 3 ∷ 7 ∷ 6 ∷ 4 ∷ 5 ∷ filler ∷ filler ∷ filler ∷ filler ∷ 0 ∷ 1 ∷ []

-- path 0 and path 1 are whole or not, and so many things have failed
abbrev Says : (stopped cuts : List ℕ) (first second : Bool) (f : ℕ) → Type 0
Says stopped cuts first second f =
    (whole 11 places (6 ∷ 1 ∷ []) (failed stopped cuts) 0 ≡ first) × (whole 11 places (6 ∷ 1 ∷ []) (failed stopped cuts) 1 ≡ second) × (failures (two 1) (failed stopped cuts) ≡ f)

pub record Failing : Type 0 where
  pub link-of_the_source : Says [] (0 ∷ 1 ∷ []) true false 1
  -- the same link twice, in either order
  pub both_ways : Says [] (1 ∷ 0 ∷ 0 ∷ 1 ∷ []) true false 1
  pub relay-and-link : Says (7 ∷ []) (2 ∷ 3 ∷ []) false true 2
  -- a link that is on no path, and a pair that is no link
  pub elsewhere : Says [] (1 ∷ 5 ∷ []) true true 1
  pub no_link : Says [] (0 ∷ 7 ∷ []) true true 0
  -- a last number without a partner
  pub last-over : Says [] (4 ∷ 6 ∷ 9 ∷ []) false true 1
  pub one_number : Says [] (6 ∷ []) true true 0
  pub both-paths : Says (5 ∷ []) (0 ∷ 1 ∷ []) false false 2
  -- numbers that are no relay, and the source
  pub no_relay : Says (8 ∷ 9 ∷ []) [] true true 0
  pub source : Says (0 ∷ []) [] false false 1

pub failing : Failing
unfolding seek any among has different relay hops pair cut stops severs broken whole relays_of link numbered links_of joined linked ones ones_in
failing = record {
  link-of_the_source = (refl, refl, refl);
  both_ways = (refl, refl, refl);
  relay-and-link = (refl, refl, refl);
  elsewhere = (refl, refl, refl);
  no_link = (refl, refl, refl);
  last-over = (refl, refl, refl);
  one_number = (refl, refl, refl);
  both-paths = (refl, refl, refl);
  no_relay = (refl, refl, refl);
  source = (refl, refl, refl);
}
