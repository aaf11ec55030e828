-- An accepted tick has a valid record, input codes within their list and time left: so its step is small, the clock
-- after it is in range, and every part may move.
use Prim.Native.Nat.{ℕ, ◌<◌, ◌≤◌, ◌^◌}
use mathlib.Core.Path.{◌≡◌, refl}
use mathlib.Core.Bool.{true}
use borrow.Author.Tests.{ltb-true}
use Rattle.model.specs.declared.Engine.{Engine}
use Rattle.model.specs.declared.Command.{Command}
use Rattle.model.specs.declared.Generator.{Generator}
use Rattle.model.specs.Clock.{shown, cycle_amount, ticked}
use Rattle.model.specs.Tick.{tick_step}
use Rattle.model.specs.Ranges.{generator_ok}
use Rattle.model.specs.Bounds.{ClockRange}
use Rattle.model.specs.Sentences.{Codes}
use Rattle.model.proofs.Laws.InRange.{Valid, valid_parts, clock_in}
use Rattle.model.proofs.Laws.ExactTime.{cycle_amount_in, shown_ticked, ticked_ok}
use Rattle.model.proofs.Laws.Listed.{listed_in}
use Rattle.model.proofs.Laws.Accepting.{Accepted, tick_first, accepted_facts}
use Rattle.model.proofs.Laws.TickRange.{tick_step_bounds}
use Rattle.clock.specs.Cycle.{Cycle}
use Rattle.fifo.specs.Capture.{Capturing}
use Rattle.generator.specs.Advance.{Ticking}
use Rattle.tick.specs.Ticks.{Ticks}

module _ (e : Engine) (c : Command) (t : Ticks e c) where
  facts : Accepted e c
  facts = accepted_facts e c t.passed

  parts : Valid e
  parts = valid_parts e facts.valid

  pub clock_within : ClockRange e.clock
  clock_within = clock_in e.clock parts.clock

  pub amount_low : cycle_amount e.steering < 2 ^ 40
  amount_low = (cycle_amount_in e.steering parts.steering).high

  -- the clock may take this step
  pub cycle : Cycle e.clock (cycle_amount e.steering) (tick_step e)
  cycle = record { clock = clock_within; high = amount_low; is = refl; low = (tick_step_bounds e parts).1 }

  -- a generator in range at the time shown may move
  ticking : (g : Generator) → generator_ok g (shown e.clock) ≡ true
      → Ticking g e.clock (ticked e.clock (cycle_amount e.steering)) (tick_step e)
  ticking g ok = record {
    generator = ok;
    clock = parts.clock;
    later = ticked_ok e.clock _ (ltb-true _ _ (facts.check15 (tick_first c t.op)));
    apart = shown_ticked e.clock (cycle_amount e.steering);
    low = (tick_step_bounds e parts).1;
  }

  -- both generators may move in this tick
  pub ticking1 : Ticking e.generator1 e.clock (ticked e.clock (cycle_amount e.steering)) (tick_step e)
  ticking1 = ticking e.generator1 parts.generator1

  pub ticking2 : Ticking e.generator2 e.clock (ticked e.clock (cycle_amount e.steering)) (tick_step e)
  ticking2 = ticking e.generator2 parts.generator2

  -- an input's code may be captured
  pub codes_few : Codes c
  codes_few = ((listed_in c facts.fields).tick t.op).0

  pub capturing : (code : ℕ) → code ≤ 16 → Capturing e.clock (tick_step e) code
  capturing code few = record {
    clock = clock_within;
    low = (tick_step_bounds e parts).1;
    near = ltb-true _ _ (facts.check15 (tick_first c t.op));
    few = few;
  }
