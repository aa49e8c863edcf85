-- `sheet_check::check_either` meets its contract: the check of the sheet's own version, and the version with it. Assumes nothing.
use Rattle.std.proofs.Common.{ℕ, ap, ◌∙◌, ◌≡◌, subst}
use Rattle.sheet.specs.Format.{version_of}
use Rattle.sheet.specs.Says.{settled, reading_told, version_number, version_told, head_told}
use Rattle.sheet_check.specs.Says.{check_against, sheet_told}
use Rattle.sheet_check.specs.Told.{told_version, reading-kept}
use Rattle.sheet_check.proofs.check_either.Goals as goal

pub returns : goal.returns
returns c =
    let l = c.args.bytes.now in
    let v = c.version_of-version.result in
    let x = c.check_in.result in
    let n : c.number.result ≡ version_of l = c.number.ensures ∙ c.version_of-version.ensures in
    let told : reading_told x ≡ sheet_told l (check_against (version_of l) l) = subst (λ (u : ℕ). reading_told x ≡ sheet_told l (check_against u l)) n c.check_in.ensures in
    record {
      version_is = ap version_told c.with_version.ensures ∙ told_version l (check_against (version_of l) l) version_number v x told ∙ ap (λ (u : ℕ). settled (check_against (version_of l) l) u 0) c.version_of-version.ensures;
      told = ap (λ r. reading_told (head_told r)) c.with_version.ensures ∙ ap reading_told (reading-kept v x) ∙ told;
    }
