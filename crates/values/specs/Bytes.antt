-- Some bytes of a text as one number, which is read and compared at once.
use Rattle.std.specs.Prelude.{ℕ, ◌+◌, ◌*◌, ◌^◌, List, get_or}

-- two, four or eight bytes from an index on as a number, the first byte lowest
abbrev pub pair_at : List ℕ → ℕ → ℕ
pair_at s at = get_or s (at + 1) 0 * 2 ^ 8 + get_or s at 0

abbrev pub four_at : List ℕ → ℕ → ℕ
four_at s at = pair_at s (at + 2) * 2 ^ 16 + pair_at s at

abbrev pub eight_at : List ℕ → ℕ → ℕ
eight_at s at = four_at s (at + 4) * 2 ^ 32 + four_at s at
