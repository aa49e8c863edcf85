-- The cube's links: the relays linked to u are those with one of its bits changed (`linked-flip`, `flip-linked`). A relay may change every bit (`doors`), and what follows
-- of its links is told of any mesh (`links`). Assumes nothing.
use Rattle.std.specs.Prelude.{ℕ, ◌^◌, ◌<◌, ◌≡◌, refl, true}
use Rattle.std.proofs.Common.{sym, ap, ◌∙◌, eqb-true, eq-eqb}
use Rattle.std.specs.Int.Bits.{bit_xor}
use Rattle.std.proofs.lemmas.Nat.{xor_lt}
use Rattle.std.specs.Int.Count.{ones}
use Rattle.bits.specs.Bit.{flip}
use Rattle.bits.specs.Laws.{ones-one, ones-pow}
use Rattle.bits.specs.Parts.{xor_forth, xor-flip}
use Rattle.paths.specs.Links.{Links}
use Rattle.paths.specs.Doors.{Doors}
use Rattle.paths.proofs.Doors.{door-links}
use Rattle.cube.specs.Cube.{linked, cube}

pub linked-flip : (u i : ℕ) → linked u (flip u i) ≡ true
unfolding linked flip
linked-flip u i = eq-eqb (ones (bit_xor u (bit_xor u (2 ^ i)))) 1 (ap ones (xor_forth u (2 ^ i)) ∙ ones-pow i)

pub flip-linked : (n u v : ℕ) → u < 2 ^ n → v < 2 ^ n → linked u v ≡ true → (i : ℕ) × (i < n) × (flip u i ≡ v)
unfolding linked
flip-linked n u v hu hv e =
    let (i, l, z) = ones-one n (bit_xor u v) (xor_lt n u v hu hv) (eqb-true (ones (bit_xor u v)) 1 e) in
    (i, l, sym (xor-flip u v i z))

-- link i of a relay changes bit i
pub doors : (n : ℕ) → Doors (cube n) n flip (λ u i. i)
doors n = record {
  relays = refl;
  within = λ u i h l. l;
  differ = λ u i j h l g e. e;
  flips = λ u i h l. refl;
  back = λ u i h l. (i, l, refl);
  linked = λ u i h l. linked-flip u i;
  all = flip-linked n;
}

pub links : (n : ℕ) → Links (cube n) flip
links n = door-links (cube n) n flip (λ u i. i) (doors n)
