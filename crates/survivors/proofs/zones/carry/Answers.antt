-- `survivors::zones::carry` meets its contract: copied where paths are counted. Assumes nothing.
use Rattle.std.proofs.Common.{sym, ap, ◌∙◌, take, Err}
use Rattle.judge.specs.declared.Fault.{Fault}
use Rattle.std.proofs.lemmas.Result.{err_from_is_err_and}
use Rattle.columns.specs.Says.{ahead}
use Rattle.survivors.specs.Tally.{Tally}
use Rattle.survivors.specs.Says.{counted}
use Rattle.survivors.proofs.zones.carry.Goals as goal

pub returns-in_err-count : goal.returns-in_err-count
returns-in_err-count c =
    let a = c.args in
    let p = err_from_is_err_and c.from_residual.result c.from_residual.ensures.1 in
    record {
      told = p.1 ∙ ap (λ (f : Fault). Err f) p.2 ∙ sym c.in_err-count.was;
      column = sym (ap (λ (t : Tally). counted t (ahead a.k (take a.k a.zones.now) a.sites.now) a.sites.now) c.in_err-count.was);
    }

pub copy-requires : goal.copy-requires
copy-requires c = c.requires _ c.in_ok-count.was

pub returns : goal.returns
returns c =
    let a = c.args in
    record {
      told = sym c.in_ok-count.was;
      column = c.copy.ensures ∙ sym (ap (λ (t : Tally). counted t (ahead a.k (take a.k a.zones.now) a.sites.now) a.sites.now) c.in_ok-count.was);
    }
