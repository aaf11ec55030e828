-- What the run of a sheet leaves in a buffer that it was lent, and what it returns. Document 01, "Command sheet".
use Rattle.std.specs.Prelude.{ℕ, ◌≡◌, List, ◌++◌, Bool, cond, leb, length, drop}
use Rattle.text.specs.Results.{results, results_room}

-- the buffer has room for the results of every sheet
abbrev pub has_room : List ℕ → Bool
has_room out = leb results_room (length out)

-- the results at the front of the buffer and their length, what stands behind them as it was; with too little room
-- nothing is written, and 0 is returned
pub record Ran (sheet before after : List ℕ) (count : ℕ) : Type 0 where
  pub holds : after ≡ cond (has_room before) (results sheet ++ drop (length (results sheet)) before) before
  pub returned : count ≡ cond (has_room before) (length (results sheet)) 0
