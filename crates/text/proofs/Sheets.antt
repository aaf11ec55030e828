-- The runs that demand 3 speaks of are the runs of sheets. Every accepted sheet writes one list of commands, and what
-- is printed for it is told of that list's run from power-on; and every list of commands whose fields are below 2^64
-- is written by its decimal text, which is a sheet where it is not over 65,536 bytes. What it is that bytes write is
-- said of no reader (specs/Forms.antt): reading is the inverse of writing.
use Prim.Native.Nat.{ℕ, ◌≤◌}
use mathlib.Core.Path.{◌≡◌, refl, ap, ◌∙◌}
use mathlib.Core.Bool.{true}
use mathlib.Core.List.{List, ◌++◌, map}
use lib.ListN.{length}
use Rattle.model.specs.declared.Command.{Command}
use Rattle.model.specs.Run.{history}
use Rattle.text.specs.Forms.{WritesSheet, sheet_accepted}
use Rattle.text.specs.Sheet.{decimal_sheet, fields_of, Writes, sheet_verdict, commands_in, sheet_text, fields_fit}
use Rattle.text.specs.Results.{result_head, result_lines, results}
use Rattle.text.proofs.Laws.CommandSheets as Law
use Rattle.text.proofs.Laws.ResultsFit.{results_accepted}
use Rattle.ledger.proofs.Demand3.{Demand3, demand_3}

-- the run of a sheet is that of a list of commands
pub record RunOf (s : List ℕ) (cs : List Command) : Type 0 where
  pub accepted : sheet_verdict s ≡ sheet_accepted
  pub text : Writes s cs
  pub commands : commands_in s ≡ cs
  pub prints : results s ≡ result_head ++ result_lines 2 (history cs)
  pub exact : Demand3 cs

pub sheet_is_list : (s : List ℕ) → sheet_verdict s ≡ sheet_accepted → RunOf s (commands_in s)
sheet_is_list s h = record {
  accepted = h;
  text = Law.sheet_writes s h;
  commands = refl;
  prints = results_accepted s h;
  exact = demand_3 (commands_in s);
}

-- reading is the inverse of writing: bytes that write commands are read as these, and as no others
pub written_is_read : (s : List ℕ) (cs : List Command) → Writes s cs → length s ≤ 65536 → RunOf s cs
written_is_read s cs w short =
    let read = Law.writes_read s cs w short in
    record {
      accepted = read.0;
      text = w;
      commands = read.1;
      prints = results_accepted s read.0 ∙ ap (λ ds. result_head ++ result_lines 2 (history ds)) read.1;
      exact = demand_3 cs;
    }

-- the decimal text of a list writes it
pub text_writes : (cs : List Command) → fields_fit cs ≡ true → Writes (sheet_text cs) cs
text_writes = Law.text_writes

pub list_is_sheet : (cs : List Command) → fields_fit cs ≡ true → length (sheet_text cs) ≤ 65536
    → RunOf (sheet_text cs) cs
list_is_sheet cs fit short = written_is_read (sheet_text cs) cs (Law.text_writes cs fit) short

-- and in decimal alone nothing else does
pub one_text : (s : List ℕ) (cs : List Command) → WritesSheet decimal_sheet s (map fields_of cs)
    → (s ≡ sheet_text cs) × (fields_fit cs ≡ true)
one_text = Law.decimal_text
