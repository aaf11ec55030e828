-- Run lines, each worked out by hand from ticks of 8 ns: ended by the count, by an edge of either generator or of both
-- in one tick, by the end of time; and what an adjustment that ends inside leaves. Document 02, A.1.
use Prim.Native.Nat.{ℕ}
use mathlib.Core.List.{List, [], ◌∷◌, ◌++◌}
use Rattle.model.specs.declared.Command.{Command}
use Rattle.model.specs.RunLine.{run_line}
use Rattle.model.proofs.Examples.Runs.{Example, line, tick, load, write, read, arm, interrupts, answers, gives}

-- generator 2 from 0 s and some ns, at an interval of 256 ns, marked
abbrev arm2 : ℕ → ℕ → Command
arm2 ns count = record { op = 3; a = 2; b = 0; c = ns; d = 256; e = 0; f = 1; g = count; h = 1 }

-- generator 1 from 0 s 3 ns, 256 + 1/3 ns, count 4: ticks 1, 33, 65, 97, eighths 3, 3, 3, 4
abbrev thirds : List Command
thirds = arm 3 256 1 3 4 ∷ []

abbrev one : List Command
one = thirds ++ run_line 40 ∷ []

-- the last second, 999,999,960 ns: four ticks are left
abbrev near_end : List Command
near_end = load 65535 65535 65535 51672 15258 ∷ write 0 ∷ []

-- adjust 9 ns, COUNT 2
abbrev adjusted : List Command
adjusted = load 0 2 0 0 2304 ∷ write 2 ∷ []

unfoldable pub run_lines : List Example
run_lines =
    -- by the count
    gives [] (run_line 5) (0 ∷ 0 ∷ 5 ∷ 0 ∷ 0 ∷ [])
    ∷ gives (run_line 5 ∷ []) (read 0) (0 ∷ 0 ∷ 0 ∷ 40 ∷ 0 ∷ [])
    -- by edges of generator 1: in the first tick, then 32 ticks each; the count is done after the fourth
    ∷ gives thirds (run_line 40) (12 ∷ 0 ∷ 1 ∷ 0 ∷ 0 ∷ [])
    ∷ gives one (run_line 31) (0 ∷ 0 ∷ 31 ∷ 0 ∷ 0 ∷ [])
    ∷ gives one (run_line 40) (4 ∷ 0 ∷ 32 ∷ 0 ∷ 0 ∷ [])
    ∷ gives (one ++ run_line 32 ∷ []) (run_line 40) (12 ∷ 0 ∷ 32 ∷ 0 ∷ 0 ∷ [])
    ∷ gives (one ++ run_line 32 ∷ run_line 32 ∷ []) (run_line 40) (5 ∷ 0 ∷ 32 ∷ 0 ∷ 0 ∷ [])
    ∷ gives (one ++ run_line 32 ∷ run_line 32 ∷ run_line 32 ∷ []) (run_line 40) (0 ∷ 0 ∷ 40 ∷ 0 ∷ 0 ∷ [])
    -- by an edge of generator 2 at 20 ns, in tick 3 at eighth 4, which is marked and its last (bits 4 and 5); and by
    -- both in one tick
    ∷ gives (arm2 20 1 ∷ []) (run_line 40) (0 ∷ 13 ∷ 3 ∷ 0 ∷ 0 ∷ [])
    ∷ gives (arm2 20 1 ∷ run_line 40 ∷ []) interrupts (48 ∷ 0 ∷ 0 ∷ 0 ∷ 0 ∷ [])
    ∷ gives (arm 17 256 0 1 1 ∷ arm2 20 1 ∷ []) (run_line 40) (10 ∷ 13 ∷ 3 ∷ 0 ∷ 0 ∷ [])
    -- by the end of time; then 15 from the very first tick
    ∷ gives near_end (run_line 40) (0 ∷ 0 ∷ 4 ∷ 0 ∷ 0 ∷ [])
    ∷ record { found = answers (near_end ++ run_line 40 ∷ run_line 40 ∷ tick ∷ []); stated = 0 ∷ 0 ∷ 0 ∷ 15 ∷ 15 ∷ [] }
    -- an adjustment ends inside: 9 + 9 + 8 ns, and TAC
    ∷ gives (adjusted ++ run_line 3 ∷ []) (read 0) (0 ∷ 0 ∷ 0 ∷ 26 ∷ 0 ∷ [])
    ∷ gives (adjusted ++ run_line 3 ∷ []) interrupts (1 ∷ 0 ∷ 0 ∷ 0 ∷ 0 ∷ [])
    ∷ gives (adjusted ++ run_line 1 ∷ []) interrupts (0 ∷ 0 ∷ 0 ∷ 0 ∷ 0 ∷ [])
    -- a run of no tick, and a field that is not listed
    ∷ record { found = answers (run_line 0 ∷ line 9 1 1 0 0 0 ∷ []); stated = 6 ∷ 6 ∷ [] }
    ∷ []
