-- Departure times in correctionFields, each worked out by hand: what goes in, what comes out, what stays, and numbers
-- 16 and 17 on both sides of their limits. Document 02, A.7.
use Prim.Native.Nat.{ℕ, ◌*◌, ◌-◌, ◌^◌}
use mathlib.Core.List.{List, [], ◌∷◌, ◌++◌}
use Rattle.model.specs.declared.Command.{Command}
use Rattle.model.specs.Units.{ns_per_second}
use Rattle.model.specs.Departure.{depart_line, recover_line}
use Rattle.model.proofs.Examples.Runs.{Example, line, load, write, read, answers, gives}

-- 1,000,005 s and 123,456,789 ns; the low four bits of the seconds are 5, so the field is 5,123,456,789 ns
abbrev leaving : List Command
leaving = load 16965 15 0 52501 1883 ∷ write 0 ∷ []

abbrev left : ℕ
left = 5123456789 * 2 ^ 16

-- some seconds below 2^16, and 1 ns
abbrev second : ℕ → List Command
second s = load s 0 0 1 0 ∷ write 0 ∷ []

unfoldable pub departures : List Example
departures =
    -- 5,123,456,789 is 1 × 2^32 + 12,641 × 2^16 + 48,917
    gives leaving (depart_line 0) (0 ∷ 48917 ∷ 12641 ∷ 1 ∷ 0 ∷ [])
    -- out of it with the second itself, and with one fifteen back
    ∷ gives [] (recover_line 1000005 left) (16965 ∷ 15 ∷ 0 ∷ 52501 ∷ 1883 ∷ [])
    ∷ gives [] (recover_line 999990 left) (16965 ∷ 15 ∷ 0 ∷ 52501 ∷ 1883 ∷ [])
    -- sixteen back it is 16 s early; one later and fifteen later, which are not covered, 16 s late
    ∷ gives [] (recover_line 999989 left) (16949 ∷ 15 ∷ 0 ∷ 52501 ∷ 1883 ∷ [])
    ∷ gives [] (recover_line 1000006 left) (16981 ∷ 15 ∷ 0 ∷ 52501 ∷ 1883 ∷ [])
    ∷ gives [] (recover_line 1000020 left) (16981 ∷ 15 ∷ 0 ∷ 52501 ∷ 1883 ∷ [])
    -- four bits: second 15 adds 15 s, second 16 none, second 31 fifteen; 15,000,000,001 is 3 × 2^32 + 32,273 × 2^16
    -- + 54,785
    ∷ gives (second 15) (depart_line 0) (0 ∷ 54785 ∷ 32273 ∷ 3 ∷ 0 ∷ [])
    ∷ gives (second 16) (depart_line 0) (0 ∷ 1 ∷ 0 ∷ 0 ∷ 0 ∷ [])
    ∷ gives (second 31) (depart_line 0) (0 ∷ 54785 ∷ 32273 ∷ 3 ∷ 0 ∷ [])
    -- a field that held something: 3 and -1, -2^16 and -2^17 of them, with 2^16 more; the lowest
    ∷ gives (second 0) (depart_line 3) (3 ∷ 1 ∷ 0 ∷ 0 ∷ 0 ∷ [])
    ∷ gives (second 0) (depart_line (2 ^ 64 - 1)) (65535 ∷ 0 ∷ 0 ∷ 0 ∷ 0 ∷ [])
    ∷ gives (second 0) (depart_line (2 ^ 64 - 2 ^ 16)) (0 ∷ 0 ∷ 0 ∷ 0 ∷ 0 ∷ [])
    ∷ gives (second 0) (depart_line (2 ^ 64 - 2 ^ 17)) (0 ∷ 65535 ∷ 65535 ∷ 65535 ∷ 0 ∷ [])
    ∷ gives (second 0) (depart_line (2 ^ 63)) (0 ∷ 1 ∷ 0 ∷ 32768 ∷ 0 ∷ [])
    -- the part below 1 ns is dropped: 1 s less 2^-16 ns, and 1 s; more than 15 s are counted on, 20 s from second 3
    ∷ gives [] (recover_line 0 (ns_per_second * 2 ^ 16 - 1)) (0 ∷ 0 ∷ 0 ∷ 51711 ∷ 15258 ∷ [])
    ∷ gives [] (recover_line 0 (ns_per_second * 2 ^ 16)) (1 ∷ 0 ∷ 0 ∷ 0 ∷ 0 ∷ [])
    ∷ gives [] (recover_line 3 (20 * ns_per_second * 2 ^ 16)) (20 ∷ 0 ∷ 0 ∷ 0 ∷ 0 ∷ [])
    -- neither changes words or time
    ∷ gives (leaving ++ depart_line 0 ∷ recover_line 7 left ∷ []) (line 8 0 0 0 0 0)
    (16965 ∷ 15 ∷ 0 ∷ 52501 ∷ 1883 ∷ [])
    ∷ gives (leaving ++ depart_line 0 ∷ recover_line 7 left ∷ []) (read 0) (16965 ∷ 15 ∷ 0 ∷ 52501 ∷ 1883 ∷ [])
    -- 16: with nothing added 2^63 - 1 stays; with 2^16 added it leaves, 2^63 - 2^16 too, and one less stays
    ∷ record {
      found = answers (
          depart_line (2 ^ 63 - 1) ∷ load 0 0 0 1 0 ∷ write 0 ∷ depart_line (2 ^ 63 - 1) ∷ depart_line (2 ^ 63 - 2 ^ 16)
          ∷ depart_line (2 ^ 63 - 2 ^ 16 - 1) ∷ depart_line (2 ^ 63) ∷ []
          );
      stated = 0 ∷ 0 ∷ 0 ∷ 16 ∷ 16 ∷ 0 ∷ 0 ∷ [];
    }
    -- 17: the sign bit; and seconds of 2^48, where one less is a time
    ∷ record {
      found = answers (
          recover_line 0 (2 ^ 63 - 1) ∷ recover_line 0 (2 ^ 63)
          ∷ recover_line (2 ^ 48 - 16) (15 * ns_per_second * 2 ^ 16)
          ∷ recover_line (2 ^ 48 - 16) (16 * ns_per_second * 2 ^ 16) ∷ recover_line (2 ^ 48 - 1) 0
          ∷ recover_line (2 ^ 48 - 17) (16 * ns_per_second * 2 ^ 16 - 1)
          ∷ []
          );
      stated = 0 ∷ 17 ∷ 0 ∷ 17 ∷ 17 ∷ 0 ∷ [];
    }
    ∷ []
