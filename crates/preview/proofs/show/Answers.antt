-- The exact time behind the ticks, cut at the second shown, tells whether they end in time, and the time shown then.
use Prim.Native.Nat.{◌+◌}
use mathlib.Core.Path.{◌≡◌, sym, ◌∙◌}
use native.Mathlib.Omega.{arith}
use Rattle.model.specs.Elapse.{amount_of}
use Rattle.model.proofs.Laws.InRange.{valid_parts, clock_in, words_in}
use Rattle.elapse.specs.Seconds.{in_second}
use Rattle.change.proofs.Given.{handed_on}
use Rattle.preview.proofs.Checked.{late_refused, shown_gives}
use Rattle.preview.proofs.Shown.{tried, asked, seconds_low, after_low, after_is, in_time, shows}
use Rattle.preview.proofs.show.Goals as goal
use Rattle.preview.proofs.show.Goals.{After-amount_of}

pub adjustment_in-requires : goal.adjustment_in-requires
adjustment_in-requires c = words_in _ (valid_parts _ c.requires.on).words

pub in_second-requires : goal.in_second-requires
in_second-requires c = clock_in _ (valid_parts _ c.requires.on).clock

pub amount_of-requires : goal.amount_of-requires
amount_of-requires c =
    let p = c.requires in
    asked _ _ p c.adjustment_in.ensures c.adjust-steering.ensures

-- the time behind the ticks, as it is worked out
after : (x : After-amount_of)
    → let start = x in
    let e = start.args.e in
    let c = start.args.c in
    x.in_second.result + x.amount_of.result
    ≡ in_second e.clock + amount_of (tried e c start.requires) c.a
after x =
    let adjusted = x in
    let p = adjusted.requires in
    after_is _ _ p adjusted.adjustment_in.ensures adjusted.adjust-steering.ensures
    x.in_second.ensures x.amount_of.ensures

pub overflow_add-after : goal.overflow_add-after
overflow_add-after c =
    let p = c.requires in
    rw (after (goal.at.overflow_add-after c).After-amount_of) (omega (arith, after_low _ _ p))

pub is_in_time-requires : goal.is_in_time-requires
is_in_time-requires c =
    let p = c.requires in
    rw (after (goal.at.is_in_time-requires c).After-amount_of) (seconds_low _ _ p, after_low _ _ p)

pub clock_at-k-requires : goal.clock_at-k-requires
clock_at-k-requires c =
    let p = c.requires in
    rw (after (goal.at.clock_at-k-requires c).After-amount_of) (seconds_low _ _ p, after_low _ _ p)

pub returns-in_err-ensure : goal.returns-in_err-ensure
returns-in_err-ensure c =
    let p = c.requires in
    let f = c.in_err-ensure.ensures in
    let ended = rw (after (goal.at.returns-in_err-ensure c).After-amount_of) at c.is_in_time.ensures in
    handed_on _ _ c.from_residual.ensures.1 f.refused
    (late_refused _ _ p.on p.op p.passed (sym (f.passed ∙ ended ∙ in_time _ _ p)))

pub returns : goal.returns
returns c =
    let p = c.requires in
    let ended = rw (after (goal.at.returns c).After-amount_of) at c.is_in_time.ensures in
    let shown = c.time_words-time.ensures
    ∙ shows _ _ p _ (rw (after (goal.at.returns c).After-amount_of) at c.clock_at-k.ensures) in
    rw (c.change_to.ensures, shown)
    (shown_gives _ _ p.on p.op p.passed (sym (c.in_ok-ensure.ensures.passed ∙ ended ∙ in_time _ _ p)))
