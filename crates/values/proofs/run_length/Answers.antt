-- The first index at which the separator stands is where the first part ends.
use mathlib.Core.Path.{ap, ◌∙◌}
use lib.ListN.{length}
use Rattle.std.specs.Option.{unwrap_or}
use Rattle.values.proofs.Runs.{run_position}
use Rattle.values.proofs.run_length.Goals as goal

pub returns : goal.returns
returns c =
    run_position _ _ _ (c.unwrap_or.ensures ∙ ap (λ o. unwrap_or o (length c.args.s.now)) c.separator_in.ensures)
