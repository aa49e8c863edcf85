-- `two_choose::shared` meets its contract. Assumes nothing.
use Rattle.std.proofs.Common.{◌∙◌, sym}
use Rattle.two_gate.specs.Says.{tells_differ}
use Rattle.two_choose.specs.Masks.{shared_no, shared_yes}
use Rattle.two_choose.proofs.shared.Goals as goal

pub returns : goal.returns
returns c =
    let blocks = c.args.targets.now.blocks in
    tells_differ _ _ (λ ne. shared_yes blocks _ c.args.j _ c.requires.1 c.equals-same.ensures (λ z. ne (c.flip.ensures ∙ z)))
    (λ z. shared_no blocks _ c.args.j _ c.requires.1 c.equals-same.ensures (sym c.flip.ensures ∙ z))
