-- Each turn writes the line of the next command, so the lines written and those of the commands left are all of them.
use mathlib.Core.Path.{◌≡◌, refl}
use mathlib.Core.Bool.{cond}
use Prim.Native.Nat.{◌+◌}
use borrow.Author.Rules.{rules}
use Rattle.model.specs.Words.{no_words}
use Rattle.change.specs.Changes.{fifos_moved}
use Rattle.engine.proofs.Steps.{gives_stepped}
use Rattle.text.proofs.Laws.FirstPart.{rest_is}
use Rattle.runner.proofs.Turns.{sheet_long, run_start, line_inside, line_room, run_on, run_end}
use Rattle.runner.proofs.put_results.Goals as goal
use Rattle.runner.proofs.put_results.Goals.{in-Ok, in-Err, then-change, else-change}

pub slice_bounds-rest-count : goal.slice_bounds-rest-count
slice_bounds-rest-count c = sheet_long c.args.s.now c.requires.s_value

pub slice_bounds-rest-start : goal.slice_bounds-rest-start
slice_bounds-rest-start c = let long = sheet_long c.args.s.now c.requires.s_value in search rules

pub loop-command-init : goal.loop-command-init
loop-command-init c =
    rw (rest_is c.args.s.now 19) (run_start _ _ _ c.requires.s_value c.requires.room c.power_on-e.ensures)

pub returns-in_default : goal.returns-in_default
returns-in_default c = run_end c.loop-command.invariant c.next_line-next.ensures c.in_default.is

pub put_result-requires : goal.put_result-requires
put_result-requires c =
    let run = c.loop-command.invariant in
    let read = c.next_line-next.ensures in
    elim c.match-change_by.branch [
      | in-Ok w ↦
          rw w.answer-is (line_room run read c.in-Some.is _ (gives_stepped _ _ run.is_valid w.in-Ok.ensures))
      | in-Err w ↦
          let none : w.default.result ≡ no_words = search rules in
          rw (w.answer-is, w.number.ensures, w.change_to.ensures, none)
          (line_room run read c.in-Some.is _ (gives_stepped _ _ run.is_valid w.in-Err.ensures))
    ]

pub overflow_add-rest : goal.overflow_add-rest
overflow_add-rest c =
    let inside = line_inside c.loop-command.invariant c.next_line-next.ensures c.in-Some.is in
    search rules

pub slice_bounds-rest-count-in-loop-command : goal.slice_bounds-rest-count-in-loop-command
slice_bounds-rest-count-in-loop-command c =
    let inside = line_inside c.loop-command.invariant c.next_line-next.ensures c.in-Some.is in
    search rules

pub slice_bounds-rest-start-in-loop-command : goal.slice_bounds-rest-start-in-loop-command
slice_bounds-rest-start-in-loop-command c =
    let inside = line_inside c.loop-command.invariant c.next_line-next.ensures c.in-Some.is in
    search rules

pub loop-command-preserved : goal.loop-command-preserved
loop-command-preserved c =
    let run = c.loop-command.invariant in
    let e = c.loop-command.e in
    let command = c.in-Some.command in
    let read = c.next_line-next.ensures in
    let moved : c.if-change.e ≡ cond c.match-change_by.answer.1.moves (fifos_moved e command) e =
    elim c.if-change.branch [
      | then-change v ↦ rw (v.e-is, v.move_fifos-e.ensures, v.if-change.true) refl
      | else-change v ↦ rw (v.e-is, v.if-change.false) refl
    ] in
    rw (rest_is c.loop-command.rest.now (c.next_line-next.result.end + 1))
    (elim c.match-change_by.branch [
      | in-Ok w ↦
          let written = rw w.answer-is at c.put_result.ensures in
          rw (c.apply-e.ensures, moved, w.answer-is)
          (run_on run read c.in-Some.is _ (gives_stepped _ _ run.is_valid w.in-Ok.ensures) written)
      | in-Err w ↦
          let none : w.default.result ≡ no_words = search rules in
          let written = rw (w.answer-is, w.number.ensures, w.change_to.ensures, none) at c.put_result.ensures in
          rw (c.apply-e.ensures, moved, w.answer-is, w.change_to.ensures)
          (run_on run read c.in-Some.is _ (gives_stepped _ _ run.is_valid w.in-Err.ensures) written)
    ])
