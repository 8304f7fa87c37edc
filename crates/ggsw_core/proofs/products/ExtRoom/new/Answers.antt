use Rattle.std.proofs.Common.{ap, ◌∙◌, ◌+◌, ◌^◌}
use Rattle.glwe_core.specs.Glwe.{lengths_of}
use Rattle.ggsw_core.proofs.Rows.{zero_lengths}
use Rattle.ggsw_core.proofs.products.ExtRoom.new.Goals as goal

pub returns : goal.returns
returns c = ap lengths_of c.in_ok-more.ensures ∙ zero_lengths (c.args.k + 1) (2 ^ c.args.log_n)
