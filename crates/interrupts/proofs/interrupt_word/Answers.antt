-- No bit is in both words where none is enabled.
use mathlib.Core.Bool.{and-false}
use native.Mathlib.Nat.{add-zero}
use Rattle.model.specs.Interrupts.{any_both, interrupt_word}
use Rattle.interrupts.proofs.interrupt_word.Goals as goal

pub returns-then-enabled-eq0 : goal.returns-then-enabled-eq0
unfolding interrupt_word any_both
returns-then-enabled-eq0 c = simp (c.if-enabled-eq0.true, and-false, add-zero)
