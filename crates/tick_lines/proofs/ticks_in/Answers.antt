-- The loop passes the digits of a number, seven at most. Only where the first is not 0 and the two numbers tell what
-- belongs behind them is one found.
use mathlib.Core.Path.{sym, ◌∙◌}
use Prim.Native.Nat.{◌<◌}
use native.Mathlib.Omega.{arith}
use borrow.Author.Rules.{rules}
use Rattle.tick_lines.proofs.Digits.{digits_on}
use Rattle.tick_lines.proofs.TicksLines.{ticks_found}
use Rattle.tick_lines.proofs.ticks_in.Goals as goal

pub loop-b-preserved : goal.loop-b-preserved
loop-b-preserved c =
    let to = c.loop-b.invariant.1 in
    let room : c.loop-b.digits < 7 = omega (arith, to.few) in (
      search rules,
      digits_on to c.loop-b.invariant.0 room c.loop-b-test.true c.from.ensures c.if-b-lt48.false c.if-b-gt57.false,
    )

pub returns : goal.returns
returns c =
    let bytes = c.type_inv.s in
    ticks_found c.loop-b.invariant.1 (λ j. omega (arith, bytes j)) (search rules) (omega arith)
    (sym c.eight_at.ensures ∙ c.if-eight_at-ne-ZEROS_BEHIND.false)
    (sym c.eight_at-else-eight_at-ne-ZEROS_BEHIND.ensures ∙ c.if-eight_at-ne-ZEROS_TO_END.false)
