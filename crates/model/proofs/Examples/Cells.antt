-- Each cell of the tables of five words: the words in which one field is 1, or its top bit alone, and what they hold.
-- Document 01, "The five words"; sheet 000, Tables 7-3 and 7-4.
use Prim.Native.Nat.{ℕ, ◌+◌, ◌^◌}
use mathlib.Core.List.{List, [], ◌∷◌, ◌++◌}
use Rattle.model.specs.declared.Command.{Command}
use Rattle.model.specs.Run.{engine_after}
use Rattle.model.proofs.Examples.Runs.{Example, line, load, write, read, answers, values}

-- write 0: the seconds and nanoseconds that the clock then has; and reads 0 to 3, the timestamps being those of edges
-- at that time, falling, rising and falling
unfoldable pub time_cell : ℕ → ℕ → ℕ → ℕ → ℕ → ℕ → ℕ → Example
time_cell w1 w2 w3 w4 w5 seconds nanoseconds =
    let set = load w1 w2 w3 w4 w5 ∷ write 0 ∷ [] in
    let stamped = set ++ line 0 1 9 1 0 0 ∷ [] in
    let words : ℕ → List ℕ = λ edge. w1 ∷ w2 ∷ w3 ∷ w4 ∷ (w5 + edge) ∷ [] in
    record {
      found =
          (engine_after set).clock.seconds ∷ (engine_after set).clock.nanoseconds
          ∷ values (set ++ read 0 ∷ [])
          ++ values (stamped ++ read 1 ∷ [])
          ++ values (stamped ++ read 2 ∷ [])
          ++ values (stamped ++ read 3 ∷ []);
      stated = seconds ∷ nanoseconds ∷ words 0 ++ words 0 ++ words 0x8000 ++ words 0;
    }

-- writes 1 and 2, which read an amount alike: PERIOD, then PER_ADJ with a COUNT of 1, both in 2^-32 ns
unfoldable pub amount_cell : ℕ → ℕ → ℕ → ℕ → Example
amount_cell w3 w4 w5 amount = record {
  found =
      (engine_after (load 0xffff 0xffff w3 w4 w5 ∷ write 1 ∷ [])).steering.period
      ∷ (engine_after (load 0xffff 1 w3 w4 w5 ∷ write 2 ∷ [])).steering.adjustment.amount
      ∷ [];
  stated = amount ∷ amount ∷ [];
}

-- write 2: COUNT
unfoldable pub count_cell : ℕ → ℕ → ℕ → Example
count_cell w2 w3 count = record {
  found = (engine_after (load 0xffff w2 w3 0 0x100 ∷ write 2 ∷ [])).steering.adjustment.cycles ∷ [];
  stated = count ∷ [];
}

-- bits that have to be 0
unfoldable pub refused_cell : Command → ℕ → ℕ → Example
refused_cell words selector number =
    record { found = answers (words ∷ write selector ∷ []); stated = 0 ∷ number ∷ [] }

unfoldable pub cells : List Example
cells =
    -- sec 15:0
    time_cell 1 0 0 0 0 1 0
    ∷ time_cell 0x8000 0 0 0 0 (2 ^ 15) 0
    -- sec 31:16
    ∷ time_cell 0 1 0 0 0 (2 ^ 16) 0
    ∷ time_cell 0 0x8000 0 0 0 (2 ^ 31) 0
    -- sec 47:32
    ∷ time_cell 0 0 1 0 0 (2 ^ 32) 0
    ∷ time_cell 0 0 0x8000 0 0 (2 ^ 47) 0
    -- NS 15:0
    ∷ time_cell 0 0 0 1 0 0 1
    ∷ time_cell 0 0 0 0x8000 0 0 (2 ^ 15)
    -- NS 29:16, and above it nothing
    ∷ time_cell 0 0 0 0 1 0 (2 ^ 16)
    ∷ time_cell 0 0 0 0 0x2000 0 (2 ^ 29)
    ∷ refused_cell (load 0 0 0 0 0x4000) 0 8
    ∷ refused_cell (load 0 0 0 0 0x8000) 0 8
    -- NS 7:0 of an amount, which is never 0, and FRAC 31:24
    ∷ amount_cell 0 0 0x100 (2 ^ 32)
    ∷ amount_cell 0 0 0x8000 (2 ^ 39)
    ∷ amount_cell 0 0 0x101 (2 ^ 32 + 2 ^ 24)
    ∷ amount_cell 0 0 0x180 (2 ^ 32 + 2 ^ 31)
    -- FRAC 23:8
    ∷ amount_cell 0 1 0x100 (2 ^ 32 + 2 ^ 8)
    ∷ amount_cell 0 0x8000 0x100 (2 ^ 32 + 2 ^ 23)
    -- FRAC 7:0, and below it PERIOD's 0x00
    ∷ amount_cell 0x100 0 0x100 (2 ^ 32 + 1)
    ∷ amount_cell 0x8000 0 0x100 (2 ^ 32 + 2 ^ 7)
    ∷ refused_cell (load 0 0 1 0 0x100) 1 9
    ∷ refused_cell (load 0 0 0x80 0 0x100) 1 9
    -- COUNT 15:0, and 23:16
    ∷ count_cell 1 0 1
    ∷ count_cell 0x8000 0 (2 ^ 15)
    ∷ count_cell 0 1 (2 ^ 16)
    ∷ count_cell 0 0x80 (2 ^ 23)
    ∷ []
