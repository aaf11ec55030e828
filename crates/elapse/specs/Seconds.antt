-- A second in 2^-32 ns, and what of the exact time lies in the second shown. Document 02, A.1.
use Rattle.std.specs.Prelude.{ℕ, ◌+◌, ◌*◌, ◌^◌}
use Rattle.model.specs.declared.Clock.{Clock}
use Rattle.model.specs.Units.{ns_per_second}

abbrev pub second : ℕ
second = ns_per_second * 2 ^ 32

abbrev pub in_second : Clock → ℕ
in_second k = k.nanoseconds * 2 ^ 32 + k.fraction * 2 ^ 24 + k.remainder
