-- What failures strike of a set of paths: what a path has (`thing`: with d = 0 its relays, with d = 1 its links, each from a relay to the one d places on), what is listed as
-- failed (`Listed`), and marks of all that the paths have and that is listed (`Struck`). Definitions; assumes nothing.
use Rattle.std.specs.Prelude.{ℕ, ◌+◌, ◌-◌, ◌≤◌, ◌<◌, ◌≡◌, true, List, length, get_or}
use Rattle.std.specs.Int.Bits.{bit_or}
use Rattle.marks.specs.Marks.{words, marked}
use Rattle.paths.specs.Fan.{relay, hops}
use Rattle.paths.specs.Cuts.{Two}

-- one number for two relays, the same in either order
unfoldable pub key : (u v : ℕ) → ℕ
key u v = bit_or u v

-- what path i has at place p, and how much it has
abbrev pub thing : (w : ℕ) (places : List ℕ) (d i p : ℕ) → ℕ
thing w places d i p = key (relay w places i p) (relay w places i (p + d))

abbrev pub things : (counts : List ℕ) (d i : ℕ) → ℕ
things counts d i = hops counts i + 1 - d

-- u and v stand in the list, in either order, the one d places after the other
pub record Listed (list : List ℕ) (d u v : ℕ) : Type 0 where
  pub place : ℕ
  pub within : place + d < length list
  pub two : Two (get_or list place 0) (get_or list (place + d) 0) u v

-- the marks `after` have what `before` have, and x where the marks of the paths have it
pub record Kept (paths : List ℕ) (x : ℕ) (before after : List ℕ) : Type 0 where
  pub long : length after ≡ words
  pub own : marked paths x ≡ true → marked after x ≡ true
  pub rest : (y : ℕ) → marked before y ≡ true → marked after y ≡ true

-- all that is listed and that the marks of the paths have
pub record Hits (list : List ℕ) (d : ℕ) (paths hit : List ℕ) : Type 0 where
  pub long : length hit ≡ words
  pub all : (u v : ℕ) → Listed list d u v → marked paths (key u v) ≡ true → marked hit (key u v) ≡ true

-- all that is listed and that path i has
pub record Struck (hit : List ℕ) (w : ℕ) (places counts list : List ℕ) (d i : ℕ) : Type 0 where
  pub long : length hit ≡ words
  pub all : (p : ℕ) → p + d ≤ hops counts i → Listed list d (relay w places i p) (relay w places i (p + d)) → marked hit (thing w places d i p) ≡ true
