-- Numbers that have a name. Document 01, "The clock": time is counted in seconds, nanoseconds and 1/256 ns, amounts and
-- the remainder in 2^-32 ns.
use Rattle.std.specs.Prelude.{ℕ, ◌*◌, ◌^◌}

-- the nanoseconds of a second
abbrev pub ns_per_second : ℕ
ns_per_second = 1000000000

-- 2^-32 ns in 1/256 ns, and eighths of 2^-32 ns in a nanosecond: 16,777,216 and 34,359,738,368
abbrev pub step_unit : ℕ
step_unit = 2 ^ 24

abbrev pub eighth_unit : ℕ
eighth_unit = 8 * 2 ^ 32
