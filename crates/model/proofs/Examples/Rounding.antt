-- Timestamps to the nearest nanosecond, worked out by hand from document 02, A.2. Words 4 and 5 of 999,999,999 ns are
-- 51711 and 15258; bit 15 of word 5 is set for a rising edge.
use Prim.Native.Nat.{◌+◌}
use mathlib.Core.List.{List, [], ◌∷◌}
use Rattle.model.proofs.Examples.Runs.{Example, tick, input, load, write, read, values}

unfoldable pub timestamps : List Example
timestamps =
    -- PERIOD 12 ns, eighth 1: 1.5 ns, a half, goes upward to 2 ns.
    record {
      found = values (load 0 0 0 0 3072 ∷ write 1 ∷ input (1 + 1) ∷ read 1 ∷ []);
      stated = 0 ∷ 0 ∷ 0 ∷ 2 ∷ 0 ∷ [];
    }
    -- PERIOD 11 + 255/256 ns, eighth 1: 1.4995 ns is 1 ns.
    ∷ record {
      found = values (load 0 0 0 0 3071 ∷ write 1 ∷ input (1 + 1) ∷ read 1 ∷ []);
      stated = 0 ∷ 0 ∷ 0 ∷ 1 ∷ 0 ∷ [];
    }
    -- PERIOD 8.75 ns, second tick, eighth 4: 8.75 + 4.375 = 13.125 ns is 13 ns; without the fraction of 8.75 it would
    -- be 12.
    ∷ record {
      found = values (load 0 0 0 0 2240 ∷ write 1 ∷ tick ∷ input (1 + 4) ∷ read 1 ∷ []);
      stated = 0 ∷ 0 ∷ 0 ∷ 13 ∷ 0 ∷ [];
    }
    -- 0 s 999,999,999 ns, PERIOD 4 ns, eighth 1: 999,999,999.5 ns is 1 s 0 ns.
    ∷ record {
      found =
          values
          (load 0 0 0 0 1024 ∷ write 1 ∷ load 0 0 0 51711 15258 ∷ write 0 ∷ input (1 + 1) ∷ read 1 ∷ []);
      stated = 1 ∷ 0 ∷ 0 ∷ 0 ∷ 0 ∷ [];
    }
    -- The last second, 999,999,998 ns, PERIOD 1 + 15/16 ns, rising at eighth 7: 999,999,999.695 ns stays at
    -- 999,999,999.
    ∷ record {
      found =
          values
          (load 0 0 0 0 496 ∷ write 1 ∷ load 65535 65535 65535 51710 15258 ∷ write 0 ∷ input (9 + 7) ∷ read 1 ∷ []);
      stated = 65535 ∷ 65535 ∷ 65535 ∷ 51711 ∷ (32768 + 15258) ∷ [];
    }
    ∷ []
