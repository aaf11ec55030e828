-- The lines that are read at once: that of a tick, and that of a number of ticks. Document 01, "Command sheet".
use Rattle.std.specs.Prelude.{ℕ, ◌+◌, ◌^◌, ◌<◌, ◌≡◌, List, ◌++◌, Bool, true, ◌&&◌, cond, leb, length}
use Rattle.std.specs.Prelude.{Option, Some, None}
use Rattle.model.specs.declared.Command.{Command}
use Rattle.text.specs.Text.{bytes, decimal, starts_with}
use Rattle.tick_lines.specs.declared.Begun.{Begun}

-- the value line of a tick without inputs and its line end
abbrev pub tick_line : List ℕ
tick_line = bytes "0,0,0,0,0,0,0,0,0\n"

-- a text of 18 bytes or more, as many as a value line has, begins with these bytes
abbrev pub begins : List ℕ → List ℕ → Bool
begins word t = leb 18 (length t) && starts_with word t

-- the op that has a number of ticks and nothing else, with which a text begins, and the index of its number
abbrev pub begun_in : List ℕ → Option Begun
begun_in t =
    cond (begins (bytes "9,") t)
    (Some (record { op = 9; from = 2 }))
    (cond (begins (bytes "10,") t) (Some (record { op = 10; from = 3 })) None)

-- the command of such an op, and what stands behind its number
abbrev pub ticks_line : ℕ → ℕ → Command
ticks_line op a = record { op = op; a = a; b = 0; c = 0; d = 0; e = 0; f = 0; g = 0; h = 0 }

abbrev pub ticks_end : List ℕ
ticks_end = bytes ",0,0,0,0,0,0,0\n"

-- a number stands at the front with what belongs behind it, up to the line end at an index
pub record TicksIn (s : List ℕ) (a end : ℕ) : Type 0 where
  pub fits : a < 2 ^ 64
  pub text : starts_with (decimal a ++ ticks_end) s ≡ true
  pub line_end : end ≡ length (decimal a) + 14
