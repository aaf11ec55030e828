-- The ticks before the end of time, up to the earlier of the two edges: the run, by what Found says of these numbers.
use Rattle.std.proofs.Common.{◌≡◌, sym, ap, ◌∙◌, ℕ, ◌≤◌, Some}
use Rattle.model.specs.declared.Engine.{Engine}
use Rattle.model.specs.Elapse.{amount_of}
use Rattle.model.proofs.Laws.InRange.{Valid, valid_parts, clock_in}
use Rattle.reach.specs.declared.Span.{Span}
use Rattle.run.specs.Runs.{ran_to}
use Rattle.run.proofs.Found.{few, first, few_most, few_all, few_is, first_is, found_none, first_most}
use Rattle.run.proofs.Found.{among, found_ticks, found_edge}
use Rattle.run.proofs.run_within.Goals as goal
use Rattle.run.proofs.run_within.Goals.{After-ticks_in_time-few, Joined-few-n, then-few-n, else-few-n, After-earlier}
use Rattle.run.proofs.run_within.Goals.{In-Some}

pub new-all-requires-clause-clock_range : goal.new-all-requires-clause-clock_range
new-all-requires-clause-clock_range c = clock_in _ (valid_parts _ c.requires.0).clock

pub new-all-requires-clause-steering_range : goal.new-all-requires-clause-steering_range
new-all-requires-clause-steering_range c = (valid_parts _ c.requires.0).steering

-- the ticks in time
few_found : (c : After-ticks_in_time-few) → c.ticks_in_time-few.result
    ≡ few c.args.e (valid_parts c.args.e c.requires.0) c.args.n c.requires.1
few_found c =
    let all = c.new-all.ensures in
    few_is _ (valid_parts _ c.requires.0) _ c.requires.1 all.amount_value
    (rw (all.clock_value, all.steering_value) at c.ticks_in_time-few.ensures)

pub new-within-requires-clause-few : goal.new-within-requires-clause-few
new-within-requires-clause-few c =
    rw (few_found (goal.at.new-within-requires-clause-few c).After-ticks_in_time-few)
    (few_most _ (valid_parts _ c.requires.0) _ c.requires.1)

pub new-within-requires-clause-clock_range : goal.new-within-requires-clause-clock_range
new-within-requires-clause-clock_range c = clock_in _ (valid_parts _ c.requires.0).clock

-- what they bring: worked out for fewer than n, or what n bring
record Bringing (e : Engine) (v : Valid e) (n : ℕ) (most : n ≤ 1000000) (span : Span) : Type 0 where
  clock : span.clock ≡ e.clock
  steering : span.steering ≡ e.steering
  amount : span.amount ≡ amount_of e.steering (few e v n most)

brought : (c : Joined-few-n)
    → Bringing c.args.e (valid_parts c.args.e c.requires.0) c.args.n c.requires.1 c.if-few-n.within
brought c =
    let s = c.args.e.steering in
    let v = valid_parts _ c.requires.0 in
    let is = few_found (c.before) in
    let all = c.new-all.ensures in
    elim c.if-few-n.branch [
      | then-few-n w ↦
          let new = w.new-within.ensures in
          rw w.within-is
          (record {
            clock = new.clock_value;
            steering = new.steering_value;
            amount = new.amount_value ∙ ap (amount_of s) is;
          })
      | else-few-n w ↦
          rw w.within-is
          (record {
            clock = all.clock_value;
            steering = all.steering_value;
            amount = all.amount_value ∙ ap (amount_of s) (few_all _ v _ c.requires.1 _ is w.if-few-n.false);
          })
    ]

pub edge_tick-edge1-requires : goal.edge_tick-edge1-requires
edge_tick-edge1-requires c =
    rw (brought (goal.at.edge_tick-edge1-requires c).Joined-few-n).clock (valid_parts _ c.requires.0).generator1

pub edge_tick-edge2-requires : goal.edge_tick-edge2-requires
edge_tick-edge2-requires c =
    rw (brought (goal.at.edge_tick-edge2-requires c).Joined-few-n).clock (valid_parts _ c.requires.0).generator2

-- the first tick with an edge
first_found : (c : After-earlier)
    → Bringing c.args.e (valid_parts c.args.e c.requires.0) c.args.n c.requires.1 c.if-few-n.within
    → c.earlier.result ≡ first c.args.e (valid_parts c.args.e c.requires.0) c.args.n c.requires.1
first_found c b =
    first_is _ (valid_parts _ c.requires.0) _ c.requires.1 b.amount
    (rw (b.clock, b.steering) at c.edge_tick-edge1.ensures)
    (rw (b.clock, b.steering) at c.edge_tick-edge2.ensures)
    c.earlier.ensures

pub pass-requires : goal.pass-requires
pass-requires c =
    let p = c.requires in
    let v = valid_parts _ p.0 in
    let are = few_found (goal.at.pass-requires c).After-ticks_in_time-few in
    let b = brought (goal.at.pass-requires c).Joined-few-n in
    record {
      starting = record { on = p.0; few = rw are (few_most _ v _ p.1) };
      clock_value = b.clock;
      amount_value = rw are b.amount;
    }

pub returns-in-None : goal.returns-in-None
returns-in-None c =
    let p = c.requires in
    let v = valid_parts _ p.0 in
    let are = few_found (goal.at.returns-in-None c).After-ticks_in_time-few in
    let is = first_found (goal.at.returns-in-None c).After-earlier (brought (goal.at.returns-in-None c).Joined-few-n) in
    c.pass.ensures ∙ rw are (ap ran_to (sym (found_none _ v _ p.1 (sym is ∙ c.in-None.is))))

-- the tick that is met is that first one
met : (c : In-Some)
    → Bringing c.args.e (valid_parts c.args.e c.requires.0) c.args.n c.requires.1 c.if-few-n.within
    → first c.args.e (valid_parts c.args.e c.requires.0) c.args.n c.requires.1 ≡ Some c.in-Some.first
met c b = sym (first_found c.before b) ∙ c.in-Some.is

pub overflow_sub-first : goal.overflow_sub-first
overflow_sub-first c =
    let p = c.requires in
    (among _ (valid_parts _ p.0) _ p.1 _ (met c (brought (goal.at.overflow_sub-first c).Joined-few-n))).0

pub meet-requires : goal.meet-requires
meet-requires c =
    let p = c.requires in
    let v = valid_parts _ p.0 in
    let is = met (goal.at.meet-requires c).In-Some (brought (goal.at.meet-requires c).Joined-few-n) in
    record {
      start = record { on = p.0; few = first_most _ v _ p.1 _ is };
      more = found_ticks _ v _ p.1 _ is;
    }

pub returns-in-Some : goal.returns-in-Some
returns-in-Some c =
    let p = c.requires in
    let v = valid_parts _ p.0 in
    let is = met (goal.at.returns-in-Some c).In-Some (brought (goal.at.returns-in-Some c).Joined-few-n) in
    c.meet.ensures ∙ ap ran_to (sym (found_edge _ v _ p.1 _ is))
