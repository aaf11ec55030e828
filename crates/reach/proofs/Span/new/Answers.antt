-- A million cycles bring less than a second.
use Rattle.elapse.proofs.Numbers.{amount_low}
use Rattle.reach.proofs.Span.new.Goals as goal

pub invariant_of-result : goal.invariant_of-result
invariant_of-result c =
    let p = c.requires in
    record {
      in_time = record {
        clock = p.clock_range;
        in_here = c.in_second.ensures;
        steering = p.steering_range;
        short = rw c.amount_of.ensures (amount_low c.args.steering p.steering_range c.args.ticks p.few);
      };
    }
