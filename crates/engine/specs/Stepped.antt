-- An accepted command of ops 1 to 8; and one command on a valid record: the model's outcome, with a
-- record that is valid again.
use Rattle.std.specs.Prelude.{◌≤◌, ◌≡◌, true, false, eqb}
use Rattle.model.specs.declared.Engine.{Engine}
use Rattle.model.specs.declared.Command.{Command}
use Rattle.model.specs.declared.Outcome.{Outcome}
use Rattle.model.specs.Ranges.{valid}
use Rattle.model.specs.Checks.{answer_of}
use Rattle.model.specs.Execute.{execute}
use Rattle.op.specs.declared.Op.{Op}
use Rattle.op.specs.Numbers.{op_number}

pub record Performing (e : Engine) (c : Command) (op : Op) : Type 0 where
  pub passed : answer_of e c ≡ 0
  pub no_tick : eqb c.op 0 ≡ false
  pub few : c.op ≤ 8
  pub named : op_number op ≡ c.op

pub record Stepped (e : Engine) (c : Command) (r : Outcome) : Type 0 where
  pub is : r ≡ execute e c
  pub keeps : valid r.engine ≡ true
