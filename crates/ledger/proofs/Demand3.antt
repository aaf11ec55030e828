-- Demand 3, against the ledger of document 01: one statement over every list of commands from power-on. The record
-- after the list is `engine_after cs`; `ledger_after cs` is the ledger, with the returned edges under each order, kept
-- from the commands, answers and values alone.
--
-- To read it beside document 01: specs/Fractions.antt (`over 1 256` is 1/256; fractions are compared and added by
-- cross-multiplying), Ledger.antt (the account and its step), Bookings.antt (what a command tells it), Instants.antt
-- (instants, the edges returned, the lag); then, for what the engine does, the model's Clock.antt to Ops.antt, in the
-- order of its specs/Lib.antt. `cond b x y` is x where b holds, else y; `A × B` is both, `A ⊎ B` one of them; a record
-- is all its lines. Why it holds is told by Follow.antt.
use mathlib.Core.List.{List}
use Rattle.model.specs.declared.Command.{Command}
use Rattle.model.specs.Run.{engine_after}
use Rattle.ledger.specs.Fractions.{Fraction, over, plus, Same, NotAbove, Below}
use Rattle.ledger.specs.Bookings.{ledger_after}
use Rattle.ledger.specs.Instants.{time_shown, time_left, EdgesReturned, EdgesLag}
use Rattle.ledger.proofs.Follow.Lists

-- the time shown after the list, and the ledger's exact time
abbrev pub shown_after : List Command → Fraction
shown_after cs = time_shown (engine_after cs)

abbrev pub exact_after : List Command → Fraction
exact_after cs = (ledger_after cs).time

pub record Demand3 (cs : List Command) : Type 0 where
  -- the time shown plus the remainder equals the ledger's exact time
  pub exact : Same (plus (shown_after cs) (time_left (engine_after cs))) (exact_after cs)
  -- so the time shown is not above it, and less than 1/256 ns below it
  pub not_above : NotAbove (shown_after cs) (exact_after cs)
  pub less_than256th_below : Below (exact_after cs) (plus (shown_after cs) (over 1 256))
  -- while an order stands, the edges returned since the arming are edges 0 to j - 1 in this order, j of its instants
  -- being below the time shown, edge k rising where k is even; without an order there are none
  pub edges1 : EdgesReturned (ledger_after cs).train1.order (ledger_after cs).train1.edges (shown_after cs)
  pub edges2 : EdgesReturned (ledger_after cs).train2.order (ledger_after cs).train2.edges (shown_after cs)
  -- instant k minus the exact time at the start of its edge's eighth is above -1/256 ns and below an eighth of the
  -- amount
  pub lags1 : EdgesLag (ledger_after cs).train1.order (ledger_after cs).train1.edges
  pub lags2 : EdgesLag (ledger_after cs).train2.order (ledger_after cs).train2.edges

pub demand_3 : (cs : List Command) → Demand3 cs
demand_3 cs = record {
  exact = Lists.exact_time cs;
  not_above = Lists.not_above cs;
  less_than256th_below = Lists.less_than_a_256th_below cs;
  edges1 = Lists.edges_returned_1 cs;
  edges2 = Lists.edges_returned_2 cs;
  lags1 = Lists.edges_lag_1 cs;
  lags2 = Lists.edges_lag_2 cs;
}
