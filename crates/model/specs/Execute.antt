-- What a command gives: for every record and every command one outcome. Document 01, "Where each command is checked".
use Rattle.std.specs.Prelude.{cond, eqb}
use Rattle.model.specs.declared.Engine.{Engine}
use Rattle.model.specs.declared.Command.{Command}
use Rattle.model.specs.declared.Outcome.{Outcome}
use Rattle.model.specs.Outcome.{refused}
use Rattle.model.specs.Ops.{performed}
use Rattle.model.specs.Checks.{answer_of}

-- the checks, then the op
unfoldable pub execute : Engine → Command → Outcome
execute e c = cond (eqb (answer_of e c) 0) (performed e c) (refused e (answer_of e c))
