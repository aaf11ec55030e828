-- Each return is at the first place that differs, or at the last, and that place decides the order of the totals.
use Rattle.std.proofs.lemmas.Bool.{eq-eqb, ne_eqb}
use Rattle.generator.proofs.Order.{placewise}
use Rattle.generator.proofs.is_before.Goals as goal

pub returns-then-g-k : goal.returns-then-g-k
returns-then-g-k c = rw (ne_eqb _ _ c.if-g-k.true) at (placewise c.requires)

pub returns-then-g-k-2 : goal.returns-then-g-k-2
returns-then-g-k-2 c =
    rw (eq-eqb _ _ c.if-g-k.false, ne_eqb _ _ c.if-g-k-2.true) at (placewise c.requires)

pub returns : goal.returns
returns c = rw (eq-eqb _ _ c.if-g-k.false, eq-eqb _ _ c.if-g-k-2.false) at (placewise c.requires)
