-- The starred examples of document 01, "Edges of the rules", but the two of sheets, which the crate text has; at their
-- end some of "Command sheet" that are not starred.
use Prim.Native.Nat.{ℕ, suc, ◌+◌}
use mathlib.Core.List.{List, [], ◌∷◌, ◌++◌, map}
use mathlib.Core.Bool.{cond}
use lib.ListN.{length, replicate}
use lib.Dec.{eqb}
use Rattle.model.specs.declared.Command.{Command}
use Rattle.model.specs.Clock.{shown}
use Rattle.model.specs.Record.{record_version}
use Rattle.model.specs.Ops.{ops}
use Rattle.model.specs.Checks.{last_number}
use Rattle.model.specs.Run.{Entry, engine_after, history}
use Rattle.model.proofs.Examples.Runs.{Example, line, tick, input, load, write, read, arm, answers, values}

-- the time shown, in 1/256 ns
unfoldable pub shown_after : List Command → ℕ
shown_after cs = shown (engine_after cs).clock

-- the number of each entry, from n, that returned an edge of generator 1, and the edge's code
unfoldable pub edge_at : ℕ → ℕ → List ℕ
edge_at n code = cond (eqb code 0) [] (n ∷ code ∷ [])

unfoldable pub edges_from : ℕ → List Entry → List ℕ
edges_from n [] = []
edges_from n (x ∷ xs) = edge_at n x.values.w1 ++ edges_from (suc n) xs

unfoldable pub starred : List Example
starred =
    -- Fresh, one tick: 8 ns.
    record { found = values (tick ∷ read 0 ∷ []); stated = 0 ∷ 0 ∷ 0 ∷ 8 ∷ 0 ∷ [] }
    -- FRAC 0x00800000, NS 8 (words 0, 0, 0, 32768, 2048): steps 2048, 2049, 2048.
    ∷ record {
      found =
          shown_after (load 0 0 0 32768 2048 ∷ write 1 ∷ tick ∷ [])
          ∷ shown_after (load 0 0 0 32768 2048 ∷ write 1 ∷ tick ∷ tick ∷ [])
          ∷ shown_after (load 0 0 0 32768 2048 ∷ write 1 ∷ tick ∷ tick ∷ tick ∷ [])
          ∷ [];
      stated = 2048 ∷ (2048 + 2049) ∷ (2048 + 2049 + 2048) ∷ [];
    }
    -- Fresh, generator 1 from 0 s 3 ns, 256 + 1/3 ns, count 4: ticks 1, 33, 65, 97, eighths 3, 3, 3, 4, rising first.
    ∷ record {
      found = edges_from 0 (history (arm 3 256 1 3 4 ∷ replicate 200 tick));
      stated = 1 ∷ (9 + 3) ∷ 33 ∷ (1 + 3) ∷ 65 ∷ (9 + 3) ∷ 97 ∷ (1 + 4) ∷ [];
    }
    -- At 0 s 999,999,998 ns (words 4, 5: 51710, 15258), input at eighth 3: 1 s 1 ns.
    ∷ record {
      found = values (load 0 0 0 51710 15258 ∷ write 0 ∷ input (1 + 3) ∷ read 1 ∷ []);
      stated = 1 ∷ 0 ∷ 0 ∷ 1 ∷ 0 ∷ [];
    }
    -- Last second, 999,999,991 ns at PERIOD 8 ns: accepted; 999,999,992: 15.
    ∷ record {
      found = answers (load 65535 65535 65535 51703 15258 ∷ write 0 ∷ tick ∷ []);
      stated = 0 ∷ 0 ∷ 0 ∷ [];
    }
    ∷ record {
      found = answers (load 65535 65535 65535 51704 15258 ∷ write 0 ∷ tick ∷ []);
      stated = 0 ∷ 0 ∷ 15 ∷ [];
    }
    -- At 8 ns, start 7 ns: 14; start 8 ns: accepted, eighth 0.
    ∷ record { found = answers (tick ∷ arm 7 256 0 1 1 ∷ []); stated = 0 ∷ 14 ∷ [] }
    ∷ record { found = answers (tick ∷ arm 8 256 0 1 1 ∷ []); stated = 0 ∷ 0 ∷ [] }
    ∷ record { found = values (tick ∷ arm 8 256 0 1 1 ∷ tick ∷ []); stated = (9 + 0) ∷ 0 ∷ 0 ∷ 0 ∷ 0 ∷ [] }
    -- W 255: 6; 256 accepted.
    ∷ record { found = answers (arm 0 255 0 1 1 ∷ []); stated = 6 ∷ [] }
    ∷ record { found = answers (arm 0 256 0 1 1 ∷ []); stated = 0 ∷ [] }
    -- Fresh, adjust 9 ns, COUNT 1: 9 ns, then 17 ns.
    ∷ record {
      found = values (load 0 1 0 0 2304 ∷ write 2 ∷ tick ∷ read 0 ∷ []);
      stated = 0 ∷ 0 ∷ 0 ∷ 9 ∷ 0 ∷ [];
    }
    ∷ record {
      found = values (load 0 1 0 0 2304 ∷ write 2 ∷ tick ∷ tick ∷ read 0 ∷ []);
      stated = 0 ∷ 0 ∷ 0 ∷ 17 ∷ 0 ∷ [];
    }
    -- A ninth unread stamp: dropped (eight reads find one, the ninth is refused with 7), OF (bit 9, beside NE, bit
    -- 8). The first eight are kept, of ticks at 0, 8 and so on to 56 ns.
    ∷ record {
      found = answers (replicate 9 (input 1) ++ replicate 9 (read 1));
      stated = replicate 9 0 ++ replicate 8 0 ++ 7 ∷ [];
    }
    ∷ record {
      found = map (λ (x : Entry). x.values.w4) (history (replicate 9 (input 1) ++ replicate 8 (read 1)));
      stated = replicate 9 0 ++ 0 ∷ 8 ∷ 16 ∷ 24 ∷ 32 ∷ 40 ∷ 48 ∷ 56 ∷ [];
    }
    ∷ record {
      found = values (replicate 9 (input 1) ++ line 5 0 0 0 0 0 ∷ []);
      stated = (512 + 256) ∷ 0 ∷ 0 ∷ 0 ∷ 0 ∷ [];
    }
    -- Not starred: the ops are 0 to 12, and the table of checks ends with 17.
    ∷ record { found = length ops ∷ last_number ∷ []; stated = 13 ∷ 17 ∷ [] }
    ∷ record { found = answers (line 9 1 0 0 0 0 ∷ line 13 1 0 0 0 0 ∷ []); stated = 0 ∷ 5 ∷ [] }
    -- Not starred: the version of the record, which the waiting adjustment counted on.
    ∷ record { found = record_version ∷ []; stated = 2 ∷ [] }
    -- Not starred: each input has its FIFO and its selector (eighths 1, 3 and 5 of 8 ns).
    ∷ record {
      found =
          values (line 0 2 4 6 0 0 ∷ read 1 ∷ [])
          ++ values (line 0 2 4 6 0 0 ∷ read 2 ∷ [])
          ++ values (line 0 2 4 6 0 0 ∷ read 3 ∷ []);
      stated = 0 ∷ 0 ∷ 0 ∷ 1 ∷ 0 ∷ 0 ∷ 0 ∷ 0 ∷ 3 ∷ 0 ∷ 0 ∷ 0 ∷ 0 ∷ 5 ∷ 0 ∷ [];
    }
    -- Not starred: op 6 sets the mask that op 5 asks (TS1_NE, bit 8, and bit 14), op 7 reads status (FIFO 2, bit 8), op
    -- 8 shows the words; op 4 stops the train that op 3 armed, which has no edge then.
    ∷ record {
      found = values (line 6 256 0 0 0 0 ∷ input 1 ∷ line 5 0 0 0 0 0 ∷ []);
      stated = (16384 + 256) ∷ 0 ∷ 0 ∷ 0 ∷ 0 ∷ [];
    }
    ∷ record { found = values (line 0 0 1 0 0 0 ∷ line 7 0 0 0 0 0 ∷ []); stated = 256 ∷ 0 ∷ 0 ∷ 0 ∷ 0 ∷ [] }
    ∷ record { found = values (load 1 2 3 4 5 ∷ line 8 0 0 0 0 0 ∷ []); stated = 1 ∷ 2 ∷ 3 ∷ 4 ∷ 5 ∷ [] }
    ∷ record {
      found = values (arm 3 256 0 1 1 ∷ line 4 1 0 0 0 0 ∷ tick ∷ []);
      stated = 0 ∷ 0 ∷ 0 ∷ 0 ∷ 0 ∷ [];
    }
    ∷ []
