-- The kinds of mesh, each by what is asked of it at every size: 1 is the plain cube, 2 the two-level mesh, 3 the metacube. Of any other number no
-- size is known. Kinds meet here and in `planner`.
use Rattle.std.specs.Prelude.{ℕ, Bool, true, false, List, [], eqb, ltb}
use Rattle.bits.specs.Bit.{flip}
use Rattle.scan.specs.Scan.{pick}
use Rattle.paths.specs.Mesh.{Mesh}
use Rattle.cube.specs.Cube as cube
use Rattle.cube.specs.Route as plain
use Rattle.two_parts.specs.Two as two
use Rattle.two_parts.specs.Near as links
use Rattle.two.specs.Next as walk
use Rattle.meta_parts.specs.Meta as meta
use Rattle.meta_parts.specs.Near as metaLinks
use Rattle.meta.specs.Says as metaWalk

pub record Kind : Type 0 where
  -- which sizes there are, and the mesh of a size
  pub known : ℕ → Bool
  pub mesh : ℕ → Mesh
  -- the relay at the other end of link i of u: links in the order of the bits, lowest first; in the two-level mesh the slot's and then the block's, in a metacube the own part's and then the class's
  pub near : (size u i : ℕ) → ℕ
  -- the relay after u on the way to t; the plain route from s to t, with its hops
  pub next : (size u t : ℕ) → ℕ
  pub hops : (size s t : ℕ) → ℕ
  pub route : (size s t : ℕ) → List ℕ
  -- the sizes whose distances are not answered
  pub undistanced : ℕ → Bool
  -- whether it is served by the planners, by distance and by sheets
  pub planned : Bool

abbrev pub cubes : Kind
cubes = record {
  known = cube.known;
  mesh = cube.cube;
  near = λ n. flip;
  next = λ n. plain.next;
  hops = λ n. plain.hops;
  route = λ n. plain.route;
  undistanced = λ n. true;
  planned = true;
}

abbrev pub twos : Kind
twos = record {
  known = two.known;
  mesh = two.two;
  near = links.near;
  next = walk.next;
  hops = walk.hops;
  route = walk.route;
  undistanced = ltb 3;
  planned = true;
}

abbrev pub metas : Kind
metas = record {
  known = meta.known;
  mesh = meta.metacube;
  near = λ n. metaLinks.near (meta.class_bits n) (meta.part_bits n);
  next = metaWalk.next;
  hops = metaWalk.hops;
  route = metaWalk.route;
  undistanced = λ n. true;
  planned = false;
}

-- no kind: none of its sizes is known
abbrev pub others : Kind
others = record {
  known = λ n. false;
  mesh = λ n. record { relays = 0; links = 0; longest = 0; linked = λ u v. false };
  near = λ n u i. 0;
  next = λ n u t. 0;
  hops = λ n s t. 0;
  route = λ n s t. [];
  undistanced = λ n. false;
  planned = false;
}

-- the numbers of the kinds
abbrev pub CUBE : ℕ
CUBE = 1

abbrev pub TWO : ℕ
TWO = 2

abbrev pub META : ℕ
META = 3

unfoldable pub kind_of : ℕ → Kind
kind_of k = pick (eqb k CUBE) cubes (pick (eqb k TWO) twos (pick (eqb k META) metas others))

-- whether there is a mesh of a kind and size, and the mesh
abbrev pub known : (kind size : ℕ) → Bool
known kind size = (kind_of kind).known size

-- whether there is one that the planners serve
abbrev pub planned : (kind size : ℕ) → Bool
planned kind size = pick (known kind size) (kind_of kind).planned false

abbrev pub mesh_of : (kind size : ℕ) → Mesh
mesh_of kind size = (kind_of kind).mesh size
