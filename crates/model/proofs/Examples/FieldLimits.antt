-- Number 6: of every op each field at its limits and one step beyond them, and each field that is not listed. What is
-- told is the answer at power-on, where some ops get another number, and of a run at the end of time, 15. Document 01,
-- "Command sheet"; op 9, document 02, A.1; op 10, A.5; ops 11 and 12, A.7.
use Prim.Native.Nat.{ℕ, ◌*◌, ◌-◌, ◌^◌}
use mathlib.Core.List.{List, [], ◌∷◌, ◌++◌, map}
use Rattle.model.specs.declared.Engine.{Engine}
use Rattle.model.specs.declared.Command.{Command}
use Rattle.model.specs.Units.{ns_per_second}
use Rattle.model.specs.Record.{power_on, with_clock}
use Rattle.model.specs.Execute.{execute}
use Rattle.model.proofs.Examples.Runs.{Example}

-- the answer of each command on a record
unfoldable pub answers_to : Engine → List Command → List ℕ
answers_to e cs = map (λ c. (execute e c).answer) cs

abbrev to_each : List Command → List ℕ → Example
to_each cs stated = record { found = answers_to power_on cs; stated = stated }

-- the last 1/256 ns
abbrev at_the_end : Engine
at_the_end =
    with_clock power_on (record { seconds = 2 ^ 48 - 1; nanoseconds = 999999999; fraction = 255; remainder = 0 })

abbrev command : ℕ → ℕ → ℕ → ℕ → ℕ → ℕ → ℕ → ℕ → ℕ → Command
command op a b c d e f g h = record { op = op; a = a; b = b; c = c; d = d; e = e; f = f; g = g; h = h }

-- this op with this a, and each field from b on that is 1 by itself: from d, from f, and all
abbrev from_f : ℕ → List Command
from_f op = command op 0 0 0 0 0 1 0 0 ∷ command op 0 0 0 0 0 0 1 0 ∷ command op 0 0 0 0 0 0 0 1 ∷ []

abbrev unlisted : ℕ → ℕ → List Command
unlisted op a =
    command op a 1 0 0 0 0 0 0 ∷ command op a 0 1 0 0 0 0 0 ∷ command op a 0 0 1 0 0 0 0 ∷ command op a 0 0 0 1 0 0 0
    ∷ command op a 0 0 0 0 1 0 0 ∷ command op a 0 0 0 0 0 1 0 ∷ command op a 0 0 0 0 0 0 1
    ∷ []

abbrev seven_sixes : List ℕ
seven_sixes = 6 ∷ 6 ∷ 6 ∷ 6 ∷ 6 ∷ 6 ∷ 6 ∷ []

unfoldable pub field_limits : List Example
field_limits =
    -- op 0: codes of at most 16
    to_each (
    command 0 16 16 16 0 0 0 0 0
    ∷ command 0 17 0 0 0 0 0 0 0 ∷ command 0 0 17 0 0 0 0 0 0 ∷ command 0 0 0 17 0 0 0 0 0
    ∷ command 0 0 0 0 1 0 0 0 0 ∷ command 0 0 0 0 0 1 0 0 0
    ∷ from_f 0
    ) (0 ∷ seven_sixes ++ 6 ∷ [])
    -- op 1: words
    ∷ to_each (
    command 1 65535 65535 65535 65535 65535 0 0 0
    ∷ command 1 65536 0 0 0 0 0 0 0 ∷ command 1 0 65536 0 0 0 0 0 0 ∷ command 1 0 0 65536 0 0 0 0 0
    ∷ command 1 0 0 0 65536 0 0 0 0 ∷ command 1 0 0 0 0 65536 0 0 0
    ∷ from_f 1
    ) (0 ∷ seven_sixes ++ 6 ∷ [])
    -- op 2: write 0 to 2 or 16, read 0 to 3 or 8; PERIOD and adjust get 9 of words that are 0, and no FIFO has a
    -- timestamp, 7
    ∷ to_each (
    command 2 0 0 0 0 0 0 0 0 ∷ command 2 1 0 0 0 0 0 0 0 ∷ command 2 2 0 0 0 0 0 0 0 ∷ command 2 16 0 0 0 0 0 0 0
    ∷ command 2 3 0 0 0 0 0 0 0 ∷ command 2 15 0 0 0 0 0 0 0 ∷ command 2 17 0 0 0 0 0 0 0
    ∷ []
    ) (0 ∷ 9 ∷ 9 ∷ 0 ∷ 6 ∷ 6 ∷ 6 ∷ [])
    ∷ to_each (
    command 2 16 1 0 0 0 0 0 0 ∷ command 2 16 2 0 0 0 0 0 0 ∷ command 2 16 3 0 0 0 0 0 0 ∷ command 2 16 8 0 0 0 0 0 0
    ∷ command 2 16 4 0 0 0 0 0 0 ∷ command 2 16 7 0 0 0 0 0 0 ∷ command 2 16 9 0 0 0 0 0 0
    ∷ []
    ) (7 ∷ 7 ∷ 7 ∷ 0 ∷ 6 ∷ 6 ∷ 6 ∷ [])
    ∷ to_each (
    command 2 0 0 1 0 0 0 0 0 ∷ command 2 0 0 0 1 0 0 0 0 ∷ command 2 0 0 0 0 1 0 0 0
    ∷ from_f 2
    ) (6 ∷ 6 ∷ 6 ∷ 6 ∷ 6 ∷ 6 ∷ [])
    -- op 3: lowest and highest
    ∷ to_each (
    command 3 1 0 0 256 0 1 1 0
    ∷ command 3 2 (2 ^ 48 - 1) 999999999 999999999 (2 ^ 32 - 2) (2 ^ 32 - 1) (2 ^ 32 - 1) 1
    ∷ []
    ) (0 ∷ 0 ∷ [])
    ∷ to_each (
    command 3 0 0 0 256 0 1 1 0 ∷ command 3 3 0 0 256 0 1 1 0 ∷ command 3 1 (2 ^ 48) 0 256 0 1 1 0
    ∷ command 3 1 0 ns_per_second 256 0 1 1 0 ∷ command 3 1 0 0 255 0 1 1 0 ∷ command 3 1 0 0 ns_per_second 0 1 1 0
    ∷ command 3 1 0 0 256 (2 ^ 32) 1 1 0 ∷ command 3 1 0 0 256 0 0 1 0 ∷ command 3 1 0 0 256 0 (2 ^ 32) 1 0
    ∷ command 3 1 0 0 256 0 1 0 0 ∷ command 3 1 0 0 256 0 1 (2 ^ 32) 0 ∷ command 3 1 0 0 256 0 1 1 2
    ∷ []
    ) (6 ∷ 6 ∷ 6 ∷ 6 ∷ 6 ∷ seven_sixes)
    -- op 4: generator 1 or 2
    ∷ to_each (
    command 4 1 0 0 0 0 0 0 0 ∷ command 4 2 0 0 0 0 0 0 0 ∷ command 4 0 0 0 0 0 0 0 0 ∷ command 4 3 0 0 0 0 0 0 0
    ∷ unlisted 4 1
    ) (0 ∷ 0 ∷ 6 ∷ 6 ∷ seven_sixes)
    -- ops 5, 7 and 8: nothing
    ∷ to_each (command 5 0 0 0 0 0 0 0 0 ∷ command 5 1 0 0 0 0 0 0 0 ∷ unlisted 5 0) (0 ∷ 6 ∷ seven_sixes)
    ∷ to_each (command 7 0 0 0 0 0 0 0 0 ∷ command 7 1 0 0 0 0 0 0 0 ∷ unlisted 7 0) (0 ∷ 6 ∷ seven_sixes)
    ∷ to_each (command 8 0 0 0 0 0 0 0 0 ∷ command 8 1 0 0 0 0 0 0 0 ∷ unlisted 8 0) (0 ∷ 6 ∷ seven_sixes)
    -- op 6: bits of 0x3F7F
    ∷ to_each (
    command 6 0x3F7F 0 0 0 0 0 0 0
    ∷ command 6 (2 ^ 7) 0 0 0 0 0 0 0 ∷ command 6 (2 ^ 14) 0 0 0 0 0 0 0 ∷ command 6 (2 ^ 15) 0 0 0 0 0 0 0
    ∷ command 6 (2 ^ 16) 0 0 0 0 0 0 0
    ∷ unlisted 6 0
    ) (0 ∷ 6 ∷ 6 ∷ 6 ∷ 6 ∷ seven_sixes)
    -- op 9: 1 to 1,000,000 ticks
    ∷ record {
      found = answers_to at_the_end (
          command 9 1 0 0 0 0 0 0 0 ∷ command 9 1000000 0 0 0 0 0 0 0 ∷ command 9 0 0 0 0 0 0 0 0
          ∷ command 9 1000001 0 0 0 0 0 0 0
          ∷ unlisted 9 1
          );
      stated = 15 ∷ 15 ∷ 6 ∷ 6 ∷ seven_sixes;
    }
    -- op 10: 1 to 1,000; the words are 0, 9
    ∷ to_each (
    command 10 1 0 0 0 0 0 0 0 ∷ command 10 1000 0 0 0 0 0 0 0 ∷ command 10 0 0 0 0 0 0 0 0
    ∷ command 10 1001 0 0 0 0 0 0 0
    ∷ unlisted 10 1
    ) (9 ∷ 9 ∷ 6 ∷ 6 ∷ seven_sixes)
    -- op 11: a field of 64 bits
    ∷ to_each (
    command 11 0 0 0 0 0 0 0 0 ∷ command 11 (2 ^ 64 - 1) 0 0 0 0 0 0 0 ∷ command 11 (2 ^ 64) 0 0 0 0 0 0 0
    ∷ unlisted 11 0
    ) (0 ∷ 0 ∷ 6 ∷ seven_sixes)
    -- op 12: seconds of 48 bits, a field of 64; one with its top bit is negative, 17
    ∷ to_each (
    command 12 (2 ^ 48 - 1) (15 * ns_per_second * 2 ^ 16) 0 0 0 0 0 0 ∷ command 12 0 (2 ^ 64 - 1) 0 0 0 0 0 0
    ∷ command 12 (2 ^ 48) 0 0 0 0 0 0 0 ∷ command 12 0 (2 ^ 64) 0 0 0 0 0 0
    ∷ command 12 0 0 1 0 0 0 0 0 ∷ command 12 0 0 0 1 0 0 0 0 ∷ command 12 0 0 0 0 1 0 0 0
    ∷ from_f 12
    ) (0 ∷ 17 ∷ 6 ∷ 6 ∷ 6 ∷ 6 ∷ 6 ∷ 6 ∷ 6 ∷ 6 ∷ [])
    ∷ []
