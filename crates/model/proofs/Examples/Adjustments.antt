-- Two adjustments in succession, each worked out by hand from PERIOD 8 ns: what each tick brings, TAC at both ends,
-- what a TIME and a PERIOD write leave, and runs that end between the two and behind both. Document 02, A.4.
use mathlib.Core.List.{List, [], ◌∷◌, ◌++◌}
use Rattle.model.specs.declared.Command.{Command}
use Rattle.model.specs.RunLine.{run_line}
use Rattle.model.proofs.Examples.Runs.{Example, tick, load, write, read, arm, interrupts, answers, gives}

-- 9 ns for one cycle, and 10 ns for one that waits
abbrev one_and_one : List Command
one_and_one = load 0 1 0 0 2304 ∷ write 2 ∷ load 0 1 0 0 2560 ∷ write 2 ∷ []

-- 9 ns for two cycles, and 10 ns for three that wait
abbrev two_and_three : List Command
two_and_three = load 0 2 0 0 2304 ∷ write 2 ∷ load 0 3 0 0 2560 ∷ write 2 ∷ []

-- 8 ns and FRAC 0xFFFFFFFF for one cycle, and 8 ns and FRAC 1 for one that waits
abbrev fractions : List Command
fractions = load 0 1 65280 65535 2303 ∷ write 2 ∷ load 0 1 256 0 2048 ∷ write 2 ∷ []

unfoldable pub adjustments : List Example
adjustments =
    -- one runs, one waits, the third gets 11; the tick that ends the first takes up the second, so the place is free
    record {
      found = answers (load 0 1 0 0 2304 ∷ write 2 ∷ write 2 ∷ write 2 ∷ tick ∷ write 2 ∷ []);
      stated = 0 ∷ 0 ∷ 0 ∷ 11 ∷ 0 ∷ 0 ∷ [];
    }
    -- the tick that ends the first is steered by it, the next by the second, then PERIOD: 9, 10, 8 ns
    ∷ gives (one_and_one ++ tick ∷ []) (read 0) (0 ∷ 0 ∷ 0 ∷ 9 ∷ 0 ∷ [])
    ∷ gives (one_and_one ++ tick ∷ tick ∷ []) (read 0) (0 ∷ 0 ∷ 0 ∷ 19 ∷ 0 ∷ [])
    ∷ gives (one_and_one ++ tick ∷ tick ∷ tick ∷ []) (read 0) (0 ∷ 0 ∷ 0 ∷ 27 ∷ 0 ∷ [])
    -- TAC at the end of each, and not again
    ∷ gives (one_and_one ++ tick ∷ []) interrupts (1 ∷ 0 ∷ 0 ∷ 0 ∷ 0 ∷ [])
    ∷ gives (one_and_one ++ tick ∷ interrupts ∷ tick ∷ []) interrupts (1 ∷ 0 ∷ 0 ∷ 0 ∷ 0 ∷ [])
    ∷ gives (one_and_one ++ tick ∷ interrupts ∷ tick ∷ interrupts ∷ tick ∷ []) interrupts (0 ∷ 0 ∷ 0 ∷ 0 ∷ 0 ∷ [])
    -- TIME 0 between keeps both: 9 + 10; PERIOD 6 ns between: 9 + 10 + 6
    ∷ gives (one_and_one ++ load 0 0 0 0 0 ∷ write 0 ∷ tick ∷ tick ∷ []) (read 0) (0 ∷ 0 ∷ 0 ∷ 19 ∷ 0 ∷ [])
    ∷ gives (one_and_one ++ load 0 0 0 0 1536 ∷ write 1 ∷ tick ∷ tick ∷ tick ∷ []) (read 0) (0 ∷ 0 ∷ 0 ∷ 25 ∷ 0 ∷ [])
    -- (9 - 2^-32) + (8 + 2^-32) = 17 ns: the remainder is carried from one to the other, by ticks and by formula
    ∷ gives (fractions ++ tick ∷ tick ∷ []) (read 0) (0 ∷ 0 ∷ 0 ∷ 17 ∷ 0 ∷ [])
    ∷ gives (fractions ++ run_line 2 ∷ []) (read 0) (0 ∷ 0 ∷ 0 ∷ 17 ∷ 0 ∷ [])
    -- a run over both ends: 2 × 9 + 3 × 10 + 5 × 8 ns; TAC
    ∷ gives (two_and_three ++ run_line 10 ∷ []) (read 0) (0 ∷ 0 ∷ 0 ∷ 88 ∷ 0 ∷ [])
    ∷ gives (two_and_three ++ run_line 10 ∷ []) interrupts (1 ∷ 0 ∷ 0 ∷ 0 ∷ 0 ∷ [])
    -- a run that ends between the two, 18 + 20, then 10 and 8 ns; and TAC again at the second end, in a second run
    ∷ gives (two_and_three ++ run_line 4 ∷ tick ∷ tick ∷ []) (read 0) (0 ∷ 0 ∷ 0 ∷ 56 ∷ 0 ∷ [])
    ∷ gives (two_and_three ++ run_line 4 ∷ interrupts ∷ run_line 6 ∷ []) interrupts (1 ∷ 0 ∷ 0 ∷ 0 ∷ 0 ∷ [])
    -- an edge in a cycle of the second, from 18 to 28 ns: floor(8 × 3 / 10) = 2; and one behind both, from 48 to 56 ns
    ∷ gives (two_and_three ++ arm 21 256 0 1 1 ∷ []) (run_line 40) (11 ∷ 0 ∷ 3 ∷ 0 ∷ 0 ∷ [])
    ∷ gives (two_and_three ++ arm 51 256 0 1 1 ∷ []) (run_line 40) (12 ∷ 0 ∷ 6 ∷ 0 ∷ 0 ∷ [])
    ∷ []
