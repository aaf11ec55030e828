-- An event comes only with its cause, an edge placed or an edge at an input, so the cause may be asked for first.
use Prim.Native.Nat.{ℕ}
use mathlib.Core.Path.{◌≡◌}
use mathlib.Core.Bool.{◌&&◌, not, and_self_left}
use lib.Dec.{eqb}
use Rattle.model.specs.declared.Fifo.{Fifo}
use Rattle.model.specs.declared.Generator.{Generator}
use Rattle.model.specs.Fifo.{is_empty, is_full, captures_first, overflows}
use Rattle.model.specs.Generator.{is_due, is_last, placed, completes_event, completes_sequence}
use Rattle.model.proofs.Laws.Latching.{placed_due}

module _ (g : Generator) (a s : ℕ) where
  pub event_placed : (not (eqb (placed g a s) 0) && completes_event g a s) ≡ completes_event g a s
  unfolding completes_event
  event_placed = rw placed_due (and_self_left (is_due g a s) (eqb g.mark 1))

  pub sequence_placed : (not (eqb (placed g a s) 0) && completes_sequence g a s) ≡ completes_sequence g a s
  unfolding completes_sequence
  sequence_placed = rw placed_due (and_self_left (is_due g a s) (is_last g))

module _ (f : Fifo) (code : ℕ) where
  pub first_came : (not (eqb code 0) && captures_first f code) ≡ captures_first f code
  unfolding captures_first
  first_came = and_self_left (not (eqb code 0)) (is_empty f)

  pub overflow_came : (not (eqb code 0) && overflows f code) ≡ overflows f code
  unfolding overflows
  overflow_came = and_self_left (not (eqb code 0)) (is_full f)
