-- The 16 bytes before the paths (`head_bytes`), put piece by piece (`head-put`); with the paths they are the sheet (`sheet_is`). Assumes nothing.
use Rattle.std.specs.Prelude.{ℕ, ◌+◌, ◌<◌, ◌≡◌}
use Rattle.std.proofs.Common.{sym, ap₂, ◌∙◌, mod-eq_of_lt, arith, length-append}
use Rattle.std.proofs.Math.Path.{ap}
use mathlib.Core.List.{List, [], ◌++◌, ◌∷◌, append_assoc}
use Rattle.std.proofs.Math.ListN.{length}
use Rattle.std.proofs.lemmas.List.Edits.{sets}
use Rattle.std.proofs.Math.Seq.{append_snoc}
use Rattle.octets.specs.Big.{big, big-length}
use Rattle.sheet.specs.Format.{sheet_of, fields, paths_bytes, body_of}
use Rattle.sheet.specs.Lengths.{body-length}
use Rattle.sheet.specs.Pieces.{after-put}

-- the 16 bytes before the paths
unfoldable pub head_bytes : (v kind size source k n : ℕ) → List ℕ
head_bytes v kind size s k n = big 4 (n + 12) ++ big 1 v ++ big 1 kind ++ big 1 size ++ big 1 k ++ big 8 s

big-one : (x : ℕ) → x < 256 → big 1 x ≡ x ∷ []
unfolding big
big-one x h = ap (λ (y : ℕ). y ∷ []) (mod-eq_of_lt h)

-- `at` bytes are written from the front on
record Begun (o a now : List ℕ) (at : ℕ) : Type 0 where
  pub long : length a ≡ at
  pub is : now ≡ sets o 0 a

begun_more : {o a o₁ o₂ : List ℕ} {at w : ℕ} (b : List ℕ) → Begun o a o₁ at → length b ≡ w → o₂ ≡ sets o₁ at b → Begun o (a ++ b) o₂ (at + w)
begun_more {o} {a} {o₁} {o₂} {at} {w} b g l q = record {
  long = length-append a b ∙ ap₂ (λ (x y : ℕ). x + y) g.long l;
  is = q ∙ ap (λ (x : List ℕ). sets x at b) g.is ∙ after-put a b o 0 at (omega (arith, g.long));
}

pub head-put : (v kind size s k n : ℕ) (o : List ℕ) {o₁ o₂ o₃ o₄ o₅ o₆ : List ℕ} → o₁ ≡ sets o 0 (big 4 (n + 12)) → o₂ ≡ sets o₁ 4 (big 1 v) → o₃ ≡ sets o₂ 5 (big 1 kind)
    → o₄ ≡ sets o₃ 6 (big 1 size) → o₅ ≡ sets o₄ 7 (big 1 k) → o₆ ≡ sets o₅ 8 (big 8 s) → o₆ ≡ sets o 0 (head_bytes v kind size s k n)
unfolding head_bytes
head-put v kind size s k n o {o₁} {o₂} {o₃} {o₄} {o₅} {o₆} p₁ p₂ p₃ p₄ p₅ p₆ =
    let b₁ : Begun o (big 4 (n + 12)) o₁ 4 = record { long = big-length 4 (n + 12); is = p₁ } in
    let b₂ = begun_more {w = 1} (big 1 v) b₁ (big-length 1 v) p₂ in
    let b₃ = begun_more {w = 1} (big 1 kind) b₂ (big-length 1 kind) p₃ in
    let b₄ = begun_more {w = 1} (big 1 size) b₃ (big-length 1 size) p₄ in
    let b₅ = begun_more {w = 1} (big 1 k) b₄ (big-length 1 k) p₅ in
    (begun_more {w = 8} (big 8 s) b₅ (big-length 8 s) p₆).is

pub head-length : (v kind size s k n : ℕ) → length (head_bytes v kind size s k n) ≡ 16
unfolding head_bytes
head-length v kind size s k n =
    length-append (big 4 (n + 12) ++ big 1 v ++ big 1 kind ++ big 1 size ++ big 1 k) (big 8 s)
    ∙ omega (
      arith,
      length-append (big 4 (n + 12) ++ big 1 v ++ big 1 kind ++ big 1 size) (big 1 k),
      length-append (big 4 (n + 12) ++ big 1 v ++ big 1 kind) (big 1 size),
      length-append (big 4 (n + 12) ++ big 1 v) (big 1 kind),
      length-append (big 4 (n + 12)) (big 1 v),
      big-length 4 (n + 12),
      big-length 1 v,
      big-length 1 kind,
      big-length 1 size,
      big-length 1 k,
      big-length 8 s,
    )

module _ (v : ℕ) (zones : List ℕ) (kind size s : ℕ) (ps : List (List ℕ)) where
  pub sheet_is : v < 256 → kind < 256 → size < 256 → length ps < 256 → head_bytes v kind size s (length ps) (length (paths_bytes v zones ps)) ++ paths_bytes v zones ps ≡ sheet_of v kind size s zones ps
  unfolding head_bytes sheet_of body_of
  sheet_is hv hk hs hl =
      let a = big 4 (length (paths_bytes v zones ps) + 12) in
      let one : big 1 v ≡ v ∷ [] = big-one v hv in
      ap (λ (x : List ℕ). a ++ x ++ big 1 kind ++ big 1 size ++ big 1 (length ps) ++ big 8 s ++ paths_bytes v zones ps) one
      ∙ ap (λ (x : List ℕ). a ++ (v ∷ []) ++ x ++ big 1 size ++ big 1 (length ps) ++ big 8 s ++ paths_bytes v zones ps) (big-one kind hk)
      ∙ ap (λ (x : List ℕ). a ++ (v ∷ []) ++ (kind ∷ []) ++ x ++ big 1 (length ps) ++ big 8 s ++ paths_bytes v zones ps) (big-one size hs)
      ∙ ap (λ (x : List ℕ). a ++ (v ∷ []) ++ (kind ∷ []) ++ (size ∷ []) ++ x ++ big 8 s ++ paths_bytes v zones ps) (big-one (length ps) hl)
      ∙ ap (λ (x : List ℕ). x ++ big 8 s ++ paths_bytes v zones ps) joined
      ∙ ap (λ (x : List ℕ). x ++ paths_bytes v zones ps) (append_assoc a (fields v kind size (length ps)) (big 8 s))
      ∙ append_assoc a (fields v kind size (length ps) ++ big 8 s) (paths_bytes v zones ps)
      ∙ ap (λ (n : ℕ). big 4 n ++ (fields v kind size (length ps) ++ big 8 s ++ paths_bytes v zones ps)) (sym (body-length v kind size s zones ps))
    where
      joined : big 4 (length (paths_bytes v zones ps) + 12) ++ (v ∷ []) ++ (kind ∷ []) ++ (size ∷ []) ++ (length ps ∷ []) ≡ big 4 (length (paths_bytes v zones ps) + 12) ++ fields v kind size (length ps)
      joined =
          append_snoc (big 4 (length (paths_bytes v zones ps) + 12) ++ (v ∷ []) ++ (kind ∷ [])) size (length ps ∷ [])
          ∙ append_snoc (big 4 (length (paths_bytes v zones ps) + 12) ++ (v ∷ [])) kind (size ∷ length ps ∷ [])
          ∙ append_snoc (big 4 (length (paths_bytes v zones ps) + 12)) v (kind ∷ size ∷ length ps ∷ [])
