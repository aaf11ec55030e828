-- An idle generator and a far instant have no edge among the ticks; a near one has it where they bring it.
use mathlib.Core.Path.{sym, ap, ◌∙◌}
use native.Mathlib.Omega.{arith}
use Prim.Native.Nat.{ℕ}
use Rattle.std.specs.Prelude.{Some}
use Rattle.reach.proofs.Cases.{idle_none, far_none, near, edge_ahead, short_none, met}
use Rattle.reach.proofs.Span.edge_tick.Goals as goal
use Rattle.reach.proofs.Span.edge_tick.Goals.{then-g-eq0-via-then-g-eq0, then-g-eq0-via-else-g-eq0+then-self-g}

pub returns-then-g-eq0 : goal.returns-then-g-eq0
returns-then-g-eq0 c =
    let a = c.args in
    elim c.then-g-eq0.branch [
      | then-g-eq0-via-then-g-eq0 w ↦ sym (idle_none a.g _ a.self.here _ _ w.if-g-eq0.true)
      | then-g-eq0-via-else-g-eq0+then-self-g w ↦
          sym (far_none _ _ _ _ _ a.self.in_time c.requires w.if-g-eq0.false w.if-self-g.true)
    ]

pub edge_after-edge-requires : goal.edge_after-edge-requires
edge_after-edge-requires c =
    near _ _ _ _ _ c.args.self.in_time c.requires c.if-g-eq0.false c.if-self-g.false

pub returns-then-self-edge : goal.returns-then-self-edge
returns-then-self-edge c =
    sym (short_none _ _ _ _ _ c.args.self.in_time c.requires c.if-g-eq0.false _ c.edge_after-edge.ensures
    c.if-self-edge.true)

pub overflow_sub-edge : goal.overflow_sub-edge
overflow_sub-edge c =
    let far = edge_ahead _ _ _ _ _ c.args.self.in_time c.requires c.if-g-eq0.false _ c.edge_after-edge.ensures in
    omega arith

pub cycles_to-requires : goal.cycles_to-requires
cycles_to-requires c =
    let far = edge_ahead _ _ _ _ _ c.args.self.in_time c.requires c.if-g-eq0.false _ c.edge_after-edge.ensures in
    (c.args.self.in_time.steering, omega arith)

pub returns : goal.returns
returns c =
    ap (λ (n : ℕ). Some n) c.cycles_to.ensures
    ∙ sym (met _ _ _ _ _ c.args.self.in_time c.requires c.if-g-eq0.false _ c.edge_after-edge.ensures
    c.if-self-edge.false)
