-- Carrying from place to place splits the total that the step brings: one second where there is one, else none.
use Rattle.std.proofs.Common.{arith, ◌∙◌}
use Rattle.std.proofs.lemmas.Grind.{common_steps}
use Rattle.model.specs.Clock.{ticked, remainder_by}
use Rattle.clock.proofs.Carries.{carried}
use Rattle.clock.proofs.tick_clock.Goals as goal

pub returns : goal.returns
unfolding ticked remainder_by
returns c =
    let p = c.requires in
    carried c.args.k _ c.from-carry.result p.clock (grind (arith, common_steps)) (grind (arith, common_steps)) _
    ∙ simp p.is
