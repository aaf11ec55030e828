-- Previews, each worked out by hand from PERIOD 8 ns: what the copy comes to, that nothing of the record changes, and
-- each number that refuses one. Document 02, A.5.
use mathlib.Core.List.{List, [], ◌∷◌, ◌++◌}
use Rattle.model.specs.declared.Command.{Command}
use Rattle.model.specs.RunLine.{run_line}
use Rattle.model.specs.Preview.{preview_line}
use Rattle.model.proofs.Examples.Runs.{Example, line, tick, load, write, read, arm, interrupts, answers, gives}

-- 9 ns for two cycles in the words
abbrev nine_twice : List Command
nine_twice = load 0 2 0 0 2304 ∷ []

-- that adjustment runs, and 10 ns for three cycles stand in the words
abbrev running : List Command
running = nine_twice ++ write 2 ∷ load 0 3 0 0 2560 ∷ []

-- 26 ns before the end of time, with the same two cycles in the words
abbrev near_the_end : List Command
near_the_end = load 65535 65535 65535 51686 15258 ∷ write 0 ∷ load 0 2 0 0 2304 ∷ []

unfoldable pub previews : List Example
previews =
    -- 2 × 9 + 3 × 8 ns; done for real behind the preview, the same
    gives nine_twice (preview_line 5) (0 ∷ 0 ∷ 0 ∷ 42 ∷ 0 ∷ [])
    ∷ gives (nine_twice ++ preview_line 5 ∷ write 2 ∷ run_line 5 ∷ []) (read 0) (0 ∷ 0 ∷ 0 ∷ 42 ∷ 0 ∷ [])
    -- nothing has changed: the time, the words, the interrupt bits, and the next tick's amount
    ∷ gives (nine_twice ++ preview_line 5 ∷ []) (read 0) (0 ∷ 0 ∷ 0 ∷ 0 ∷ 0 ∷ [])
    ∷ gives (nine_twice ++ preview_line 5 ∷ []) (line 8 0 0 0 0 0) (0 ∷ 2 ∷ 0 ∷ 0 ∷ 2304 ∷ [])
    ∷ gives (nine_twice ++ preview_line 5 ∷ []) interrupts (0 ∷ 0 ∷ 0 ∷ 0 ∷ 0 ∷ [])
    ∷ gives (nine_twice ++ preview_line 5 ∷ tick ∷ []) (read 0) (0 ∷ 0 ∷ 0 ∷ 8 ∷ 0 ∷ [])
    -- one runs, so the copy's waits: 9 + 9 + 10 + 10 ns, and behind both 9 + 9 + 3 × 10 + 8 ns
    ∷ gives running (preview_line 4) (0 ∷ 0 ∷ 0 ∷ 38 ∷ 0 ∷ [])
    ∷ gives running (preview_line 6) (0 ∷ 0 ∷ 0 ∷ 56 ∷ 0 ∷ [])
    -- the ticks go on across an edge, which the record still has before it
    ∷ gives (arm 3 256 0 1 1 ∷ nine_twice) (preview_line 5) (0 ∷ 0 ∷ 0 ∷ 42 ∷ 0 ∷ [])
    ∷ gives (arm 3 256 0 1 1 ∷ nine_twice ++ preview_line 5 ∷ []) tick (12 ∷ 0 ∷ 0 ∷ 0 ∷ 0 ∷ [])
    -- NS 0: 9; COUNT 0: 10; no ticks, or a field that is not listed: 6; one runs, one waits: 11
    ∷ record {
      found = answers (
          preview_line 1 ∷ load 0 0 0 0 2304 ∷ preview_line 1 ∷ load 0 1 0 0 2304 ∷ preview_line 0 ∷ line 10 1 1 0 0 0
          ∷ preview_line 1 ∷ write 2 ∷ preview_line 1 ∷ write 2 ∷ preview_line 1 ∷ load 0 0 0 0 0 ∷ preview_line 1 ∷ []
          );
      stated = 9 ∷ 0 ∷ 10 ∷ 0 ∷ 6 ∷ 6 ∷ 0 ∷ 0 ∷ 0 ∷ 0 ∷ 11 ∷ 0 ∷ 9 ∷ [];
    }
    -- 26 ns are left: 9 + 9 ns fit, and 8 more reach the end of time: 15
    ∷ gives near_the_end (preview_line 2) (65535 ∷ 65535 ∷ 65535 ∷ 51704 ∷ 15258 ∷ [])
    ∷ record {
      found = answers (near_the_end ++ preview_line 2 ∷ preview_line 3 ∷ []);
      stated = 0 ∷ 0 ∷ 0 ∷ 0 ∷ 15 ∷ [];
    }
    ∷ []
