-- A digit of a base, one digit more of a value, and the number of the digits of a base. Document 01, "Command sheet";
-- document 02, A.6.
use Rattle.std.specs.Prelude.{ℕ, ◌+◌, ◌*◌, ◌^◌, ◌&&◌, cond, List, ltb, drop, Option, Some, None}
use Rattle.text.specs.Text.{digit_of, number_after, is_number, starts_with, base_prefix}

-- the digit of a base that a byte is, or none
abbrev pub digit_in : (base b : ℕ) → Option ℕ
digit_in base b = cond (ltb (digit_of b) base) (Some (digit_of b)) None

-- v with the digit b of a base written after it, where b is one and the number is below 2^64
abbrev pub digit_after : (base v b : ℕ) → Option ℕ
digit_after base v b =
    cond (ltb (digit_of b) base && ltb (v * base + digit_of b) (2 ^ 64)) (Some (v * base + digit_of b)) None

-- the number of these digits, or none
abbrev pub number_in : (base : ℕ) → List ℕ → Option ℕ
number_in base bs = cond (is_number base bs) (Some (number_after base 0 bs)) None

-- the number of digits behind 0x, or none
abbrev pub base16_in : List ℕ → Option ℕ
base16_in bs = cond (starts_with base_prefix bs) (number_in 16 (drop 2 bs)) None
