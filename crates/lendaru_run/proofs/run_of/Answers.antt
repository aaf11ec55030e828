-- The run on a valid record; any other is refused with 4.
use Rattle.std.proofs.Common.{sym, ◌∙◌}
use Rattle.engine.proofs.Steps.{malformed_gives}
use Rattle.lendaru_run.proofs.run_of.Goals as goal

pub returns-else-is_valid : goal.returns-else-is_valid
returns-else-is_valid c =
    malformed_gives _ _ (sym c.is_valid.ensures ∙ c.if-is_valid.false)
