use Rattle.command_forms.proofs.status_line.mismatch_line.Goals as goal

pub returns : goal.returns
returns c = rw (c.in_ok-left.ensures, c.in_ok-right.ensures) at c.format.ensures.ok
