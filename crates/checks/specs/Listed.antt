-- What the checks below number 6 begin with. Document 01, "Where each command is checked".
use Rattle.std.specs.Prelude.{ℕ, ◌≡◌, true}
use Rattle.model.specs.declared.Engine.{Engine}
use Rattle.model.specs.declared.Command.{Command}
use Rattle.model.specs.Ranges.{valid}
use Rattle.model.specs.Fields.{fields_ok}

-- a command of this op on a valid record, whose fields are in their lists
pub record Listed (n : ℕ) (e : Engine) (c : Command) : Type 0 where
  pub on : valid e ≡ true
  pub op : c.op ≡ n
  pub fields : fields_ok c ≡ true
