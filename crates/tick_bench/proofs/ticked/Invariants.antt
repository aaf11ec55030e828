-- A tick keeps the record valid, so the next may be made and no check fails; each turn runs one command of the list.
use Prim.Native.Nat.{◌-◌}
use mathlib.Core.Path.{◌≡◌}
use mathlib.Core.Bool.{true}
use Rattle.model.specs.Ranges.{valid}
use Rattle.tick_bench.specs.Ticks.{ticks}
use Rattle.tick_bench.proofs.ticked.Given as goal

abbrev pub invariant-loop : goal.invariant-loop
invariant-loop l =
    (valid l.run.engine ≡ true) × (ticks l.c (l.n - l.counter) l.run ≡ ticks l.c l.n l.initial.run)
