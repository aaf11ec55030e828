-- A malformed record is refused.
use mathlib.Core.Path.{sym, ◌∙◌}
use Rattle.engine.proofs.Steps.{malformed_gives}
use Rattle.engine.proofs.execute.Goals as goal

pub returns-else-is_valid : goal.returns-else-is_valid
returns-else-is_valid c =
    c.refused.ensures ∙ (malformed_gives _ _ (sym c.is_valid.ensures ∙ c.if-is_valid.false)).is
