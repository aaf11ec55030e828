-- Demand 2, about the definitions: an accepted TIME write with a TIME read in the same command gives back the same
-- five words. That code's answers, values and records are these definitions' is for the engine to prove.
use mathlib.Core.Path.{◌≡◌}
use Rattle.model.specs.declared.Engine.{Engine}
use Rattle.model.specs.declared.Command.{Command}
use Rattle.model.specs.Execute.{execute}
use Rattle.model.proofs.Laws.Outcomes.{time_written_read}

-- op 2 with write selector 0 and read selector 0, accepted: its values, and the words after it, are the words before
-- it
pub time_back : (e : Engine) (c : Command) → c.op ≡ 2 → c.a ≡ 0 → c.b ≡ 0 → (execute e c).answer ≡ 0
    → ((execute e c).values ≡ e.words) × ((execute e c).engine.words ≡ e.words)
time_back = time_written_read
