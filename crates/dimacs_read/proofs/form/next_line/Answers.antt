-- `dimacs_read::form::next_line` meets its contract, by what the line is. Assumes nothing.
use Rattle.dimacs_read.specs.Forms.{as_taken, step_comment, step-broken, step_again, step_counts, step-link, step-early}
use Rattle.dimacs_read.proofs.form.next_line.Goals as goal

pub returns-in_err-line : goal.returns-in_err-line
returns-in_err-line c = rw c.from_residual.ensures (step-broken _ _ c.requires c.args.told c.in_err-line.ensures)

pub returns-in-Comment-default : goal.returns-in-Comment-default
returns-in-Comment-default c = step_comment _ _ c.requires c.args.told (as_taken c.in-Comment-default.is-0 c.in_ok-line.ensures)

pub returns-in-Counts-None : goal.returns-in-Counts-None
returns-in-Counts-None c = rw c.in-Counts-None.is-1 (step_counts _ _ c.requires (as_taken c.in-Counts-None.is-0 c.in_ok-line.ensures))

pub returns-in-Link-Some : goal.returns-in-Link-Some
returns-in-Link-Some c = rw c.in-Link-Some.is-1 (step-link _ _ c.requires _ (as_taken c.in-Link-Some.is-0 c.in_ok-line.ensures))

pub returns-in_default : goal.returns-in_default
returns-in_default c = rw c.in_default.is-1 (step_again _ _ c.requires (as_taken c.in_default.is-0 c.in_ok-line.ensures))

pub returns-in_default-2 : goal.returns-in_default-2
returns-in_default-2 c = rw c.in_default.is-1 (step-early _ _ c.requires (as_taken c.in_default.is-0 c.in_ok-line.ensures))
