-- The command sheet: its form, its lines as commands, and the decimal text of a list of commands. Document 01, "Command
-- sheet".
use Rattle.std.specs.Prelude.{ℕ, ◌^◌, List, [], ◌∷◌, ◌++◌, map, Bool, true, ◌&&◌, cond, ltb, get_or, replicate}
use Rattle.std.specs.Prelude.{Option, Some, None}
use Rattle.model.specs.declared.Command.{Command}
use Rattle.model.specs.Tests.{every}
use Rattle.text.specs.Text.{bytes, row}
use Rattle.text.specs.Forms.{Form, decimal_value, either_value, WritesSheet, reads_line, row_in, rows_of, rows_in}
use Rattle.text.specs.Forms.{Verdict, lines_verdict, verdict_of}

-- the version of the sheet format: 1 is document 01's, 2 has run lines, 3 previews, 4 values in base 16, 5 departure
-- times (document 02, A.1, A.5, A.6 and A.7). A change of what a sheet may say counts it on
abbrev pub sheet_version : ℕ
sheet_version = 5

-- `op,a,b,c,d,e,f,g,h` and its line end, then lines of nine values
abbrev pub first_line : List ℕ
first_line = bytes "op,a,b,c,d,e,f,g,h\n"

unfoldable pub command_sheet : Form
command_sheet = record { first_line = first_line; values = replicate 9 either_value }

-- the sheet as it was before document 02, A.6, in decimal alone
unfoldable pub decimal_sheet : Form
decimal_sheet = record { first_line = first_line; values = replicate 9 decimal_value }

-- nine numbers as a command, and a command as nine numbers
abbrev pub command_of : List ℕ → Command
command_of ns = record {
  op = get_or ns 0 0;
  a = get_or ns 1 0;
  b = get_or ns 2 0;
  c = get_or ns 3 0;
  d = get_or ns 4 0;
  e = get_or ns 5 0;
  f = get_or ns 6 0;
  g = get_or ns 7 0;
  h = get_or ns 8 0;
}

abbrev pub fields_of : Command → List ℕ
fields_of c = c.op ∷ c.a ∷ c.b ∷ c.c ∷ c.d ∷ c.e ∷ c.f ∷ c.g ∷ c.h ∷ []

-- these bytes are a sheet of these commands
abbrev pub Writes : List ℕ → List Command → Type 0
Writes s cs = WritesSheet command_sheet s (map fields_of cs)

-- a value line, without its line end, and its command
abbrev pub is_line : List ℕ → Bool
is_line bs = reads_line command_sheet bs

abbrev pub command_in : List ℕ → Command
command_in bs = command_of (row_in command_sheet bs)

unfoldable pub line_of : List ℕ → Option Command
line_of bs = cond (is_line bs) (Some (command_in bs)) None

-- the answer to the sheet, and to its value lines from line number k on
abbrev pub sheet_verdict : List ℕ → Verdict
sheet_verdict s = verdict_of command_sheet s

abbrev pub body_verdict : ℕ → List (List ℕ) → Verdict
body_verdict k ls = lines_verdict command_sheet k ls

-- the commands of the value lines, and of an accepted sheet
abbrev pub commands_of : List (List ℕ) → List Command
commands_of ls = map command_of (rows_of command_sheet ls)

unfoldable pub commands_in : List ℕ → List Command
commands_in s = map command_of (rows_in command_sheet s)

-- the value lines of a list of commands in decimal, and the sheet
abbrev pub lines_text : List Command → List ℕ
lines_text [] = []
lines_text (c ∷ cs) = row (fields_of c) ++ lines_text cs

unfoldable pub sheet_text : List Command → List ℕ
sheet_text cs = first_line ++ lines_text cs

-- every field is below 2^64, as in every command of a sheet
abbrev pub fields_fit : List Command → Bool
fields_fit [] = true
fields_fit (c ∷ cs) = every (map (λ n. ltb n (2 ^ 64)) (fields_of c)) && fields_fit cs
