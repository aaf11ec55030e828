-- The checks of a preview above number 15, and what its ticks ask. Document 02, A.5.
use Rattle.std.specs.Prelude.{ℕ, ◌≡◌, true, cond, eqb, leb}
use Rattle.model.specs.declared.Engine.{Engine}
use Rattle.model.specs.declared.Command.{Command}
use Rattle.model.specs.Tests.{every}
use Rattle.model.specs.Words.{whole_in, count_in}
use Rattle.model.specs.Ranges.{valid}
use Rattle.model.specs.Fields.{preview_fields}

-- the number of the first of them that fails, 0 where none does
unfoldable pub refusal_before : Engine → Command → ℕ
refusal_before e c =
    cond (every (preview_fields c))
    (cond (leb 1 (whole_in e.words))
    (cond (leb 1 (count_in e.words)) (cond (eqb e.steering.waiting.cycles 0) 0 11) 10)
    9)
    6

-- a preview that has passed them
pub record Previewing (e : Engine) (c : Command) : Type 0 where
  pub on : valid e ≡ true
  pub op : c.op ≡ 10
  pub passed : refusal_before e c ≡ 0
