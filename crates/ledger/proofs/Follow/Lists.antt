-- Every list from power-on: the invariant holds at power-on and each command keeps it, so it holds after the list,
-- and each part of demand 3 is read off it.
use Prim.Native.Nat.{ℕ, ◌*◌, ◌<◌, ◌^◌}
use mathlib.Core.Path.{◌≡◌, refl}
use mathlib.Core.List.{List, [], ◌∷◌}
use mathlib.Core.Bool.{true}
use native.Mathlib.Omega.{arith}
use Rattle.model.specs.declared.Engine.{Engine}
use Rattle.model.specs.declared.Command.{Command}
use Rattle.model.specs.declared.Generator.{Generator}
use Rattle.model.specs.Units.{step_unit}
use Rattle.model.specs.Clock.{shown, end_of_time}
use Rattle.model.specs.Record.{power_on}
use Rattle.model.specs.Ranges.{valid, generator_ok}
use Rattle.model.specs.Execute.{execute}
use Rattle.model.specs.Run.{entry_of, engine_by, history_by, engine_from, history_from, engine_after}
use Rattle.ledger.specs.Fractions.{over, plus, Same, NotAbove, Below}
use Rattle.ledger.specs.Ledger.{Edge, Order, none, standing, Ledger, open_ledger}
use Rattle.ledger.specs.Bookings.{told, ledger_from, ledger_after}
use Rattle.ledger.specs.Instants.{time_shown, time_left, EdgesReturned, EdgesLag}
use Rattle.model.proofs.Laws.InRange.{Valid, valid_parts, clock_in}
use Rattle.model.proofs.Laws.ExactTime.{shown_low}
use Rattle.ledger.proofs.Laws.FractionValues.{Is, is_over, is_finer, is_plus, is_same, is_below_lem, is_not_above}
use Rattle.model.proofs.Laws.Valid.{power_on_valid, execute_valid}
use Rattle.model.proofs.Laws.Outcomes.{list_valid}
use Rattle.ledger.proofs.Follow.Train.{standing_passed}
use Rattle.ledger.proofs.Follow.Agrees.{Agrees, Follows}
use Rattle.ledger.proofs.Follow.OnCommand.{execute_agrees}

run_agrees : (cs : List Command) (e : Engine) (l : Ledger) → valid e ≡ true → Agrees e l
    → Agrees (engine_from e cs) (ledger_from l (history_from e cs))
unfolding engine_by history_by ledger_from
run_agrees [] e l v h = h
run_agrees (c ∷ cs) e l v h =
    run_agrees cs (execute e c).engine (told l (entry_of c (execute e c))) (execute_valid e c v)
    (execute_agrees e l c v h)

power_on_agrees : Agrees power_on open_ledger
unfolding power_on open_ledger
power_on_agrees = record {
  words = refl;
  time = record { den = omega arith; unit = omega arith; value = refl };
  steering = record {
    period_is = record { den = omega arith; unit = omega arith; value = refl };
    owes = refl;
    adjust_is = λ n. record { den = omega arith; unit = omega arith; value = refl };
    waits_is = refl;
  };
  generator1 = (refl, refl);
  generator2 = (refl, refl);
}

module _ (cs : List Command) where
  agrees : Agrees (engine_after cs) (ledger_after cs)
  agrees = run_agrees cs power_on _ power_on_valid power_on_agrees

  parts : Valid (engine_after cs)
  parts = valid_parts (engine_after cs) (list_valid cs)

  -- the three times, in 2^-32 ns
  shown_is : Is (time_shown (engine_after cs)) (shown (engine_after cs).clock * step_unit) (2 ^ 32)
  shown_is = is_finer step_unit (omega arith) (is_over _ 256 (omega arith))

  left_is : Is (time_left (engine_after cs)) (engine_after cs).clock.remainder (2 ^ 32)
  left_is = is_over _ (2 ^ 32) (omega arith)

  a_256th_is : Is (over 1 256) step_unit (2 ^ 32)
  a_256th_is = is_finer step_unit (omega arith) (is_over 1 256 (omega arith))

  pub exact_time : Same (plus (time_shown (engine_after cs)) (time_left (engine_after cs))) (ledger_after cs).time
  exact_time = is_same (is_plus shown_is left_is) agrees.time

  pub not_above : NotAbove (time_shown (engine_after cs)) (ledger_after cs).time
  not_above = is_not_above shown_is agrees.time (omega arith)

  pub less_than_a_256th_below :
      Below (ledger_after cs).time (plus (time_shown (engine_after cs)) (over 1 256))
  less_than_a_256th_below =
      is_below_lem agrees.time (is_plus shown_is a_256th_is)
      (omega (arith, (clock_in (engine_after cs).clock parts.clock).remainder))

-- a generator that follows its order
follows_returned : (o : Order) (edges : List Edge) (g : Generator) (now : ℕ) → Follows o edges g now
    → generator_ok g now ≡ true
    → now < end_of_time → EdgesReturned o edges (over now 256)
follows_returned none edges g now h ok near = h.0
follows_returned (standing start interval count) edges g now h ok near = standing_passed h ok near

follows_lag : (o : Order) (edges : List Edge) (g : Generator) (now : ℕ) → Follows o edges g now → EdgesLag o edges
follows_lag none edges g now h = tt
follows_lag (standing start interval count) edges g now h = h.lags

module _ (cs : List Command) where
  near : shown (engine_after cs).clock < end_of_time
  near = shown_low (engine_after cs).clock (clock_in (engine_after cs).clock (parts cs).clock)

  pub edges_returned_1 :
      EdgesReturned (ledger_after cs).train1.order (ledger_after cs).train1.edges (time_shown (engine_after cs))
  edges_returned_1 =
      follows_returned (ledger_after cs).train1.order (ledger_after cs).train1.edges (engine_after cs).generator1 _
      (agrees cs).generator1 (parts cs).generator1 near

  pub edges_returned_2 :
      EdgesReturned (ledger_after cs).train2.order (ledger_after cs).train2.edges (time_shown (engine_after cs))
  edges_returned_2 =
      follows_returned (ledger_after cs).train2.order (ledger_after cs).train2.edges (engine_after cs).generator2 _
      (agrees cs).generator2 (parts cs).generator2 near

  pub edges_lag_1 : EdgesLag (ledger_after cs).train1.order (ledger_after cs).train1.edges
  edges_lag_1 = follows_lag (ledger_after cs).train1.order _ (engine_after cs).generator1 _ (agrees cs).generator1

  pub edges_lag_2 : EdgesLag (ledger_after cs).train2.order (ledger_after cs).train2.edges
  edges_lag_2 = follows_lag (ledger_after cs).train2.order _ (engine_after cs).generator2 _ (agrees cs).generator2
