-- When a record agrees with the ledger. The timestamp FIFOs and the interrupt bits have no
-- part in it.
use Prim.Native.Nat.{ℕ, ◌^◌}
use mathlib.Core.Path.{◌≡◌}
use mathlib.Core.List.{List, []}
use mathlib.Core.Bool.{false}
use lib.Dec.{eqb}
use Rattle.model.specs.declared.Engine.{Engine}
use Rattle.model.specs.declared.Clock.{Clock}
use Rattle.model.specs.declared.Command.{Command}
use Rattle.model.specs.declared.Outcome.{Outcome}
use Rattle.model.specs.declared.Generator.{Generator}
use Rattle.model.specs.declared.Adjustment.{Adjustment}
use Rattle.model.specs.declared.Steering.{Steering}
use Rattle.model.specs.declared.Words.{Words}
use Rattle.model.specs.Clock.{shown, exact}
use Rattle.model.specs.Generator.{is_running}
use Rattle.model.specs.Run.{entry_of}
use Rattle.ledger.specs.Ledger.{Waiting, none_waits, waits, LedgerSteering, Edge, Order, none, standing, Ledger}
use Rattle.ledger.specs.Bookings.{told}
use Rattle.ledger.proofs.Laws.FractionValues.{Is}
use Rattle.ledger.proofs.Follow.Train.{Standing}

-- a generator against its order and its returned edges
abbrev pub Follows : Order → List Edge → Generator → ℕ → Type 0
Follows none edges g now = (edges ≡ []) × (is_running g ≡ false)
Follows (standing start interval count) edges g now = Standing start interval count edges g now

-- the waiting adjustment against the adjust write that waits
abbrev pub Waits : Waiting → Adjustment → Type 0
Waits none_waits j = j.cycles ≡ 0
Waits (waits amount count) j = (count ≡ j.cycles) × Is amount j.amount (2 ^ 32)

-- the steering against PERIOD, the cycles owed and, while some are, PER_ADJ; and against what waits
pub record Steers (s : Steering) (o : LedgerSteering) : Type 0 where
  pub period_is : Is o.period s.period (2 ^ 32)
  pub owes : o.owed ≡ s.adjustment.cycles
  pub adjust_is : eqb s.adjustment.cycles 0 ≡ false → Is o.adjust s.adjustment.amount (2 ^ 32)
  pub waits_is : Waits o.waiting s.waiting

pub record AgreesIn (w : Words) (k : Clock) (s : Steering) (g₁ g₂ : Generator) (l : Ledger) : Type 0 where
  pub words : l.words ≡ w
  pub time : Is l.time (exact k) (2 ^ 32)
  pub steering : Steers s l.steering
  pub generator1 : Follows l.train1.order l.train1.edges g₁ (shown k)
  pub generator2 : Follows l.train2.order l.train2.edges g₂ (shown k)

abbrev pub Agrees : Engine → Ledger → Type 0
Agrees e l = AgreesIn e.words e.clock e.steering e.generator1 e.generator2 l

-- the ledger after a command that had an outcome
abbrev pub after : Ledger → Command → Outcome → Ledger
after l c o = told l (entry_of c o)
