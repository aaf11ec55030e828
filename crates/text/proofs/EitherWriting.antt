-- Document 02, A.6. A number below 2^64 has two writings, in decimal and in base 16; each is read as the number, and
-- nothing else is. Lines and sheets of the same numbers, in whichever writing, say the same; and a sheet without an x
-- is read exactly as when there was decimal alone, whatever its bytes.
use Prim.Native.Nat.{ℕ, ◌^◌, ◌≤◌, ◌<◌}
use mathlib.Core.Path.{◌≡◌, refl, sym, ap, ◌∙◌}
use mathlib.Core.List.{List, map}
use mathlib.Core.Logic.{◌⊎◌, inl, inr}
use lib.ListN.{length, replicate}
use Rattle.std.specs.Prelude.{Some}
use Rattle.model.specs.declared.Command.{Command}
use Rattle.text.specs.Text.{value_of, Lacks, decimal, base16}
use Rattle.text.specs.Forms.{either_value, WritesEach, with_commas, rows_in, verdict_of}
use Rattle.text.specs.Sheet.{decimal_sheet, command_of, Writes, line_of, sheet_verdict, commands_in}
use Rattle.text.specs.Results.{results}
use Rattle.text.proofs.Laws.Lines.{texts_line}
use Rattle.text.proofs.Laws.TwoWritings.{value_read, value_written}
use Rattle.text.proofs.Laws.PlainSheets.{sheet_plain}
use Rattle.text.proofs.Sheets.{written_is_read}

pub decimal_read : (n : ℕ) → n < 2 ^ 64 → value_of (decimal n) ≡ Some n
decimal_read n l = value_read (decimal n) n (inl (refl, l))

pub base16_read : (n : ℕ) → n < 2 ^ 64 → value_of (base16 n) ≡ Some n
base16_read n l = value_read (base16 n) n (inr (refl, l))

pub no_other_writing : (bs : List ℕ) (n : ℕ) → value_of bs ≡ Some n
    → ((bs ≡ decimal n) × (n < 2 ^ 64)) ⊎ ((bs ≡ base16 n) × (n < 2 ^ 64))
no_other_writing = value_written

-- nine texts, each in whichever writing, are a line of the command of their numbers
pub line_read : (ts : List (List ℕ)) (ns : List ℕ) → WritesEach (replicate 9 either_value) ts ns
    → line_of (with_commas ts) ≡ Some (command_of ns)
line_read = texts_line

-- so other writings of the same numbers give one command
pub one_command : (ts us : List (List ℕ)) (ns : List ℕ) → WritesEach (replicate 9 either_value) ts ns
    → WritesEach (replicate 9 either_value) us ns
    → line_of (with_commas ts) ≡ line_of (with_commas us)
one_command ts us ns v w = line_read ts ns v ∙ sym (line_read us ns w)

-- and sheets of the same commands one run
pub same_run : (s t : List ℕ) (cs : List Command) → Writes s cs → Writes t cs → length s ≤ 65536 → length t ≤ 65536
    → (commands_in s ≡ commands_in t) × (results s ≡ results t)
same_run s t cs v w short few =
    let one = written_is_read s cs v short in
    let other = written_is_read t cs w few in
    (one.commands ∙ sym other.commands, one.prints ∙ sym other.prints)

-- 0x78 is x
pub plain_as_before : (s : List ℕ) → Lacks 0x78 s
    → (sheet_verdict s ≡ verdict_of decimal_sheet s) × (commands_in s ≡ map command_of (rows_in decimal_sheet s))
unfolding commands_in
plain_as_before s h = let plain = sheet_plain s h in (plain.0, ap (map command_of) plain.1)
