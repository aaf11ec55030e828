-- What document 02, A.4, says of commands, in terms of `execute` alone, for every record and every command. That the
-- amounts enter the exact time in their turn is demand 3's to say; what stays as it was, BeforeWaiting's.
use Prim.Native.Nat.{ℕ, ◌+◌, ◌-◌, ◌≤◌, ◌<◌}
use mathlib.Core.Path.{◌≡◌}
use mathlib.Core.Logic.{◌⊎◌}
use mathlib.Core.Bool.{true}
use Rattle.model.specs.declared.Engine.{Engine}
use Rattle.model.specs.declared.Command.{Command}
use Rattle.model.specs.declared.Steering.{Steering}
use Rattle.model.specs.Clock.{exact, no_adjustment}
use Rattle.model.specs.Interrupts.{has_bit}
use Rattle.model.specs.OtherOps.{adjustment_in}
use Rattle.model.specs.Bounds.{AdjustmentRange}
use Rattle.model.specs.Checks.{passes}
use Rattle.model.specs.Execute.{execute}
use Rattle.model.proofs.Laws.Waiting as Law

-- "Number 11 now comes only if the waiting place is taken", and only for an adjust write, or a preview of one (A.5)
pub gets_11 : (e : Engine) (c : Command) → (execute e c).answer ≡ 11
    → (0 < e.steering.waiting.cycles) × (((c.op ≡ 2) × (c.a ≡ 2)) ⊎ (c.op ≡ 10))
gets_11 = Law.eleven

-- and then it does come, where the checks above it pass
pub taken_gets_11 : (e : Engine) (c : Command) → c.op ≡ 2 → c.a ≡ 2 → 0 < e.steering.waiting.cycles
    → ((m : ℕ) → 4 ≤ m → m < 11 → passes e c m ≡ true)
    → (execute e c).answer ≡ 11
taken_gets_11 = Law.taken_eleven

-- "zero when unused and checked like the running one": where the answer is not 4, a waiting adjustment is in range and
-- stands behind a running one, and an unused place is zero
pub record WaitingPlace (s : Steering) : Type 0 where
  pub unused : s.waiting.cycles ≡ 0 → s.waiting ≡ no_adjustment
  pub used : 0 < s.waiting.cycles → AdjustmentRange s.waiting
  pub behind : 0 < s.waiting.cycles → 0 < s.adjustment.cycles

pub passes_4 : (e : Engine) (c : Command) → ((execute e c).answer ≡ 4 → ⊥) → WaitingPlace e.steering
passes_4 e c n = record { unused = Law.unused e c n; used = Law.used e c n; behind = Law.behind e c n }

-- 4 "is also given if one waits while none runs"
pub gets_4 : (e : Engine) (c : Command) → 0 < e.steering.waiting.cycles → e.steering.adjustment.cycles ≡ 0
    → (execute e c).answer ≡ 4
gets_4 = Law.waits_alone

-- an accepted adjust write runs at once where none runs, and waits behind one that does
module _ (e : Engine) (c : Command) (o : c.op ≡ 2) (h : (execute e c).answer ≡ 0) where
  pub runs_at_once : c.a ≡ 2 → e.steering.adjustment.cycles ≡ 0
      → (execute e c).engine.steering
      ≡ record {
        period = e.steering.period;
        adjustment = adjustment_in e.words;
        waiting = e.steering.waiting;
      }
  runs_at_once = Law.runs_at_once e c h o

  pub waits : c.a ≡ 2 → 0 < e.steering.adjustment.cycles
      → (execute e c).engine.steering
      ≡ record {
        period = e.steering.period;
        adjustment = e.steering.adjustment;
        waiting = adjustment_in e.words;
      }
  waits = Law.waits e c h o

  -- "A TIME write keeps both"
  pub time_keeps_both : c.a ≡ 0 → (execute e c).engine.steering ≡ e.steering
  time_keeps_both = Law.time_keeps e c h o

-- an accepted tick
module _ (e : Engine) (c : Command) (o : c.op ≡ 0) (h : (execute e c).answer ≡ 0) where
  -- "It becomes the running one in the tick that ends the other", and in no tick before
  pub taken_up : e.steering.adjustment.cycles ≡ 1
      → (execute e c).engine.steering
      ≡ record { period = e.steering.period; adjustment = e.steering.waiting; waiting = no_adjustment }
  taken_up = Law.taken_up e c h o

  pub still_waits : (e.steering.adjustment.cycles ≡ 1 → ⊥)
      → (execute e c).engine.steering
      ≡ record {
        period = e.steering.period;
        adjustment = record {
          amount = e.steering.adjustment.amount;
          cycles = e.steering.adjustment.cycles - 1;
        };
        waiting = e.steering.waiting;
      }
  still_waits = Law.still_waits e c h o

  -- "and steers from the tick after": the tick that ends the other adds the other's amount, as every tick adds that of
  -- the adjustment that ran before it
  pub steers : 0 < e.steering.adjustment.cycles
      → exact (execute e c).engine.clock ≡ exact e.clock + e.steering.adjustment.amount
  steers = Law.steers e c h o

  -- "TAC is set at the end of each", and by no other cycle
  pub sets_tac : e.steering.adjustment.cycles ≡ 1 → has_bit 0 (execute e c).engine.interrupts.latched ≡ true
  sets_tac = Law.sets_tac e c h o

  pub keeps_tac : (e.steering.adjustment.cycles ≡ 1 → ⊥)
      → has_bit 0 (execute e c).engine.interrupts.latched ≡ has_bit 0 e.interrupts.latched
  keeps_tac = Law.keeps_tac e c h o
