-- A short buffer is left alone; any other gets the head, and behind it the lines of the commands or of the refusal.
use Prim.Native.Nat.{◌≤◌}
use mathlib.Core.Path.{◌≡◌, refl, sym, ◌∙◌}
use borrow.Author.Rules.{rules}
use lib.ListN.{length}
use Rattle.model.specs.Words.{no_words}
use Rattle.runner.specs.Ran.{Ran}
use Rattle.runner.proofs.Whole.{commands_room, ran_accepted, refused_room, ran_refused}
use Rattle.runner.proofs.run_sheet.Goals as goal
use Rattle.runner.proofs.run_sheet.Goals.{Joined-check_sheet, in-Ok, in-Err}

pub put_results-requires-clause-room : goal.put_results-requires-clause-room
put_results-requires-clause-room c =
    let room : 138309 ≤ length c.args.out.now = search rules in
    commands_room _ refl room c.put_bytes.ensures (sym c.in-Ok.ensures)

pub put_result-requires : goal.put_result-requires
put_result-requires c =
    let room : 138309 ≤ length c.args.out.now = search rules in
    let none : c.default.result ≡ no_words = search rules in
    rw (c.line.ensures, c.number.ensures, none) (refused_room _ refl room c.put_bytes.ensures (sym c.in-Err.ensures))

-- the results are written, into the buffer that was lent
written : (c : Joined-check_sheet)
    → (c.match-check_sheet.writer.out.ghost_name ≡ c.put_bytes.new.writer.out.ghost_name)
    × Ran c.args.s.now c.args.out.now c.match-check_sheet.writer.out.now c.match-check_sheet.writer.end
written c =
    let room : 138309 ≤ length c.args.out.now = search rules in
    elim c.match-check_sheet.branch [
      | in-Ok w ↦
          let ran = ran_accepted _ refl room c.put_bytes.ensures (sym w.in-Ok.ensures) w.put_results.ensures in
          rw w.writer-is (w.put_results.ensures.same_buffer, ran)
      | in-Err w ↦
          let none : w.default.result ≡ no_words = search rules in
          let line = rw (w.line.ensures, w.number.ensures, none) at w.put_result.ensures in
          let ran = ran_refused _ refl room c.put_bytes.ensures (sym w.in-Err.ensures) line in
          rw w.writer-is (line.same_buffer, ran)
    ]

pub returns : goal.returns
returns c =
    let done = written (goal.at.returns c).Joined-check_sheet in
    record { holds = search rules ∙ done.1.holds; returned = done.1.returned }
