-- Fewer than 18 bytes do not start with 18; and where one of the two numbers differs, or the byte behind them, so does
-- the text.
use mathlib.Core.Path.{sym, ◌∙◌}
use Rattle.text.proofs.Laws.Starts.{starts_short}
use Rattle.tick_lines.specs.AtOnce.{tick_line}
use Rattle.tick_lines.proofs.Eights.{no_tick}
use Rattle.tick_lines.proofs.is_tick.Goals as goal

pub returns-then-s-lt18 : goal.returns-then-s-lt18
returns-then-s-lt18 c =
    let s = c.args.s.now in
    elim c.then-s-lt18.branch [
      | goal.then-s-lt18-via-then-s-lt18 w ↦ sym (starts_short tick_line s w.if-s-lt18.true)
      | goal.then-s-lt18-via-else-s-lt18+then-eight_at-ne-FOUR_ZEROS w ↦
          sym (no_tick s 0 (λ h. w.if-eight_at-ne-FOUR_ZEROS.true (w.eight_at.ensures ∙ h.first)))
      | goal.then-s-lt18-via-else-s-lt18+else-eight_at-ne-FOUR_ZEROS+then-eight_at-ne-FOUR_ZEROS-2 w ↦
          let second = w.eight_at-else-eight_at-ne-FOUR_ZEROS.ensures in
          sym (no_tick s 0 (λ h. w.if-eight_at-ne-FOUR_ZEROS-2.true (second ∙ h.second)))
      | goal.then-s-lt18-via-else-s-lt18+else-eight_at-ne-FOUR_ZEROS+else-eight_at-ne-FOUR_ZEROS-2+then-s-ne48 w ↦
          sym (no_tick s 0 (λ h. w.if-s-ne48.true h.last))
    ]
