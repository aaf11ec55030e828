-- A command that is no tick and reads no FIFO moves none, so its change applied to the record is the record after it;
-- a refusal leaves the record.
use mathlib.Core.Path.{◌≡◌, ap, ◌∙◌}
use mathlib.Core.Bool.{false}
use Rattle.model.specs.declared.Engine.{Engine}
use Rattle.model.specs.declared.Command.{Command}
use Rattle.model.specs.Ranges.{valid}
use Rattle.model.specs.Execute.{execute}
use Rattle.model.proofs.Laws.Valid.{execute_valid}
use Rattle.std.specs.Prelude.{Ok, Err}
use Rattle.change.specs.declared.Change.{Change}
use Rattle.change.specs.declared.refusal.Refusal.{Refusal}
use Rattle.change.specs.Changes.{applied, Gives}
use Rattle.change.proofs.Given.{others_still}
use Rattle.tick_bench.specs.Ticks.{Still, Gave}

module _ (e : Engine) (c : Command) (still : Still e c) where
  pub still_gave : (m : Change) → Gives e c (execute e c) (Ok m) → Gave e c (applied e m)
  still_gave m gives =
      let moves_none : m.moves ≡ false = gives.moving ∙ others_still e c still.no_tick still.reads_none in
      let is = rw moves_none at (ap (λ o. o.engine) gives.is) in
      record { is = is; keeps = ap valid is ∙ execute_valid e c still.on }

  pub refused_gave : (r : Refusal) → Gives e c (execute e c) (Err r) → Gave e c e
  refused_gave r gives = record { is = ap (λ o. o.engine) gives.is; keeps = still.on }
