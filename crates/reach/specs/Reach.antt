-- The cycle in which the exact time has gained so much: until an edge, or until the end of time. Times are in 2^-32 ns,
-- cycles are counted from 1. Document 02, A.1 and A.4.
use Rattle.std.specs.Prelude.{ℕ, ◌+◌, ◌*◌, ◌-◌, ◌/◌, ◌^◌, ◌&&◌, cond, eqb, leb, Some, None}
use Rattle.std.specs.declared.option.Option.{Option}
use Rattle.model.specs.declared.Clock.{Clock}
use Rattle.model.specs.declared.Steering.{Steering}
use Rattle.model.specs.declared.Generator.{Generator}
use Rattle.model.specs.Clock.{exact}
use Rattle.model.specs.Generator.{is_running, pending_total}
use Rattle.elapse.specs.Seconds.{second, in_second}

-- how many cycles of one amount bring a need, which is not 0
abbrev pub cycles_of : ℕ → ℕ → ℕ
cycles_of amount need = (need - 1) / amount + 1

-- the same where c cycles of one amount come first, and then another course
abbrev pub phase_to : ℕ → ℕ → (ℕ → ℕ) → ℕ → ℕ
phase_to c amount after need =
    cond (leb need (c * amount)) (cycles_of amount need) (c + after (need - c * amount))

-- the first cycle at whose end the cycles have brought a need: one of the running adjustment's, one of those of the
-- adjustment that waits (A.4), or one after them
unfoldable pub cycles_to : Steering → ℕ → ℕ
cycles_to s need =
    phase_to s.adjustment.cycles s.adjustment.amount
    (phase_to s.waiting.cycles s.waiting.amount (cycles_of s.period))
    need

-- the first time shown, in 1/256 ns, that is above the pending instant
unfoldable pub edge_time : Generator → ℕ
edge_time g = pending_total g * 256 / g.denominator + 1

-- what is missing until then
abbrev pub edge_need : Generator → Clock → ℕ
edge_need g k = edge_time g * 2 ^ 24 - exact k

-- the tick in which a generator has its edge, in a stretch that brings an amount, where it has one
unfoldable pub edge_tick : Generator → Clock → Steering → ℕ → Option ℕ
edge_tick g k s amount = cond (is_running g && leb (edge_need g k) amount) (Some (cycles_to s (edge_need g k))) None

-- of n ticks that bring an amount, less than a second, those before the end of time: fewer only in the last second
unfoldable pub ticks_in_time : Clock → Steering → ℕ → ℕ → ℕ
ticks_in_time k s n amount =
    cond (eqb k.seconds (2 ^ 48 - 1) && leb second (in_second k + amount)) (cycles_to s (second - in_second k) - 1) n
