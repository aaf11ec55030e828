-- What is asked of three FIFOs, and of what was seen of their places. Document 01, "Where each command is checked",
-- below the table.
use Rattle.std.specs.Prelude.{◌^◌, Bool, ◌&&◌, not, eqb, ltb, leb}
use Rattle.model.specs.declared.Fifo.{Fifo}
use Rattle.fifo_places.specs.declared.Seen.{Seen}

-- one test of three FIFOs
abbrev pub of_three : (Fifo → Bool) → Fifo → Fifo → Fifo → Bool
of_three test x y z = test x && (test y && test z)

-- nothing was seen that is out of range
unfoldable pub in_range : Seen → Bool
in_range s = not s.late && (eqb s.rest 0 && (ltb s.seconds (2 ^ 48) && leb s.rising 1))
