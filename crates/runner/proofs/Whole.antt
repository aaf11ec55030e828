-- The head and what is written behind it are the results, for which every buffer with room for the longest has room.
use Prim.Native.Nat.{ℕ, ◌≤◌, ◌<◌}
use mathlib.Core.Path.{◌≡◌, ap, ◌∙◌}
use mathlib.Core.List.{List, ◌++◌}
use native.Mathlib.Nat.{zero-add}
use native.Mathlib.Omega.{arith}
use lib.ListN.{length}
use borrow.Author.Tests.{le-leb, lt-leb}
use Rattle.std.specs.Prelude.{Err}
use Rattle.text.specs.declared.SheetRefusal.{SheetRefusal}
use Rattle.model.specs.Words.{no_words}
use Rattle.text.specs.Forms.{sheet_accepted, refusal_number, refusal_line}
use Rattle.text.specs.Sheet.{sheet_verdict}
use Rattle.text.specs.Results.{result_head, result_line, command_results, results, results_room}
use Rattle.text.proofs.Laws.ResultsFit.{results_fit, results_accepted, results_refused}
use Rattle.numerals.specs.declared.TextWriter.{TextWriter}
use Rattle.numerals.specs.Written.{Written, HasRoom, AppendsText}
use Rattle.numerals.proofs.Puts.{room_behind, appends_then}
use Rattle.runner.specs.Ran.{Ran}

pub ran_short : (s out : List ℕ) → length out < results_room → Ran s out out 0
ran_short s out h =
    let short = lt-leb results_room (length out) h in
    record { holds = rw short; returned = rw short }

ran_written : (s : List ℕ) {out after text : List ℕ} {end : ℕ} → results_room ≤ length out → results s ≡ text
    → Written out after 0 text end
    → Ran s out after end
ran_written s {out} room is written =
    let full = le-leb results_room (length out) room in
    record {
      holds = rw (full, is) (written.holds ∙ rw zero-add);
      returned = rw (full, is) (written.end ∙ rw zero-add);
    }

-- behind the head, which a writer has put at the front
module _ (s : List ℕ) {first middle : TextWriter} (front : first.end ≡ 0) (room : results_room ≤ length first.out.now)
    (head : AppendsText first middle result_head) where
  room_for : {text : List ℕ} → results s ≡ result_head ++ text → HasRoom middle text
  room_for {text} is =
      let whole : HasRoom first (result_head ++ text) = omega (arith, results_fit s, ap length is) in
      room_behind text head whole

  behind : {last : TextWriter} {text : List ℕ} → results s ≡ result_head ++ text → AppendsText middle last text
      → Ran s first.out.now last.out.now last.end
  behind is written = ran_written s room is (rw front at (appends_then head written (omega arith)).written)

  module _ (accepted : sheet_verdict s ≡ sheet_accepted) where
    pub commands_room : HasRoom middle (command_results s)
    commands_room = room_for (results_accepted s accepted)

    pub ran_accepted : {last : TextWriter} → AppendsText middle last (command_results s)
        → Ran s first.out.now last.out.now last.end
    ran_accepted written = behind (results_accepted s accepted) written

  module _ {refusal : SheetRefusal} (refused : sheet_verdict s ≡ Err refusal) where
    abbrev refusal_result : List ℕ
    refusal_result = result_line (refusal_line refusal) (refusal_number refusal) no_words

    pub refused_room : HasRoom middle refusal_result
    refused_room = room_for (results_refused s refusal refused)

    pub ran_refused : {last : TextWriter} → AppendsText middle last refusal_result
        → Ran s first.out.now last.out.now last.end
    ran_refused written = behind (results_refused s refusal refused) written
