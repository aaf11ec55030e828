-- Values in base 16, from document 02, A.6, worked out by hand: 1 and the number of a text that is a value, 0 for one
-- that is none.
use Prim.Native.Nat.{ℕ}
use Prim.Native.String.{String}
use mathlib.Core.List.{List, [], ◌∷◌, ◌++◌}
use Rattle.std.specs.Prelude.{Option, Some, None}
use Rattle.text.specs.Text.{bytes, value_of, base16}
use Rattle.model.proofs.Examples.Runs.{Example}

abbrev told_value : Option ℕ → List ℕ
told_value (Some n) = 1 ∷ n ∷ []
told_value None = 0 ∷ []

unfoldable pub told : String → List ℕ
told t = told_value (value_of (bytes t))

unfoldable pub told_of : List String → List ℕ
told_of [] = []
told_of (t ∷ ts) = told t ++ told_of ts

unfoldable pub writings : List Example
writings =
    -- the digits, and numbers of more than one
    record {
      found = told_of ("0x0" ∷ "0x1" ∷ "0x2" ∷ "0x3" ∷ "0x4" ∷ "0x5" ∷ "0x6" ∷ "0x7" ∷ []);
      stated = 1 ∷ 0 ∷ 1 ∷ 1 ∷ 1 ∷ 2 ∷ 1 ∷ 3 ∷ 1 ∷ 4 ∷ 1 ∷ 5 ∷ 1 ∷ 6 ∷ 1 ∷ 7 ∷ [];
    }
    ∷ record {
      found = told_of ("0x8" ∷ "0x9" ∷ "0xa" ∷ "0xb" ∷ "0xc" ∷ "0xd" ∷ "0xe" ∷ "0xf" ∷ []);
      stated = 1 ∷ 8 ∷ 1 ∷ 9 ∷ 1 ∷ 10 ∷ 1 ∷ 11 ∷ 1 ∷ 12 ∷ 1 ∷ 13 ∷ 1 ∷ 14 ∷ 1 ∷ 15 ∷ [];
    }
    ∷ record {
      found = told_of ("0x10" ∷ "0x3f7f" ∷ "0xffffffffffffffff" ∷ "18446744073709551615" ∷ []);
      stated = 1 ∷ 16 ∷ 1 ∷ 16255 ∷ 1 ∷ 18446744073709551615 ∷ 1 ∷ 18446744073709551615 ∷ [];
    }
    -- what is almost base 16
    ∷ record {
      found = told_of ("0x" ∷ "0X1f" ∷ "0x1F" ∷ "0x01" ∷ "0x00" ∷ "00x1" ∷ "x1" ∷ "0xg" ∷ "-0x1" ∷ "0x 1" ∷ []);
      stated = 0 ∷ 0 ∷ 0 ∷ 0 ∷ 0 ∷ 0 ∷ 0 ∷ 0 ∷ 0 ∷ 0 ∷ [];
    }
    ∷ record {
      found = told_of ("0x123456789abcdef01" ∷ "0x10000000000000000" ∷ "18446744073709551616" ∷ "1a" ∷ "a" ∷ []);
      stated = 0 ∷ 0 ∷ 0 ∷ 0 ∷ 0 ∷ [];
    }
    -- "0x3f7f" as its bytes
    ∷ record { found = base16 16255; stated = 48 ∷ 120 ∷ 51 ∷ 102 ∷ 55 ∷ 102 ∷ [] }
    ∷ []
