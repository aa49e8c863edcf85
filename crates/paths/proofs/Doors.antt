-- Of a mesh given by which bits a relay may change (`Doors`) the links go both ways, none leads to where it comes from, and `near` tells them all, each once
-- (`door-links`). Assumes nothing.
use Rattle.std.specs.Prelude.{ℕ, ◌<◌, ◌≡◌, true}
use Rattle.std.proofs.Common.{sym, ap, ◌∙◌, subst}
use Rattle.bits.specs.Bit.{flip}
use Rattle.bits.specs.Laws.{flip-lt, flip-flip, flip-moves, flip-eq}
use Rattle.scan.specs.Laws.{tests_same, not-true}
use Rattle.paths.specs.Mesh.{Mesh}
use Rattle.paths.specs.Links.{Links}
use Rattle.paths.specs.Doors.{Doors}

module _ (m : Mesh) (bits : ℕ) (near door : ℕ → ℕ → ℕ) (d : Doors m bits near door) where
  below : (u i : ℕ) → u < m.relays → i < m.links → near u i < m.relays
  below u i h l =
      let flipped = flip-lt bits u (door u i) (subst (λ (n : ℕ). u < n) d.relays h) (d.within u i h l) in
      subst (λ (v : ℕ). v < m.relays) (sym (d.flips u i h l)) (subst (λ (n : ℕ). flip u (door u i) < n) (sym d.relays) flipped)

  -- a link is one of the links back
  returns : (u v : ℕ) → u < m.relays → v < m.relays → m.linked u v ≡ true → m.linked v u ≡ true
  returns u v h g e =
      let (i, l, z) = d.all u v h g e in
      let there : flip u (door u i) ≡ v = sym (d.flips u i h l) ∙ z in
      let (j, k, y) = d.back u i h l in
      let same : door v j ≡ door u i = ap (λ (w : ℕ). door w j) (sym there) ∙ y in
      let home : near v j ≡ u = d.flips v j g k ∙ ap (flip v) same ∙ ap (λ (w : ℕ). flip w (door u i)) (sym there) ∙ flip-flip u (door u i) in
      sym (ap (m.linked v) home) ∙ d.linked v j g k

  pub door-links : Links m near
  door-links = record {
    both = λ u v h g. tests_same (m.linked u v) (m.linked v u) (returns u v h g) (returns v u g h);
    away = λ u h. not-true (λ e. let (i, l, z) = d.all u u h h e in flip-moves u (door u i) (sym (d.flips u i h l) ∙ z));
    below = below;
    linked = d.linked;
    all = d.all;
    differ = λ u i j h l g e. d.differ u i j h l g (flip-eq u (door u i) (door u j) (sym (d.flips u i h l) ∙ e ∙ d.flips u j h g));
  }
