-- The definition tests a count and the places FIFO by FIFO. Here the three counts come first, and then the three FIFOs
-- place by place: the same tests in another order.
use mathlib.Core.Bool.{and_assoc}
use lib.Dec.{leb}
use Rattle.model.specs.Ranges.{place_ok, fifo_ok}
use Rattle.fifo_places.proofs.Places.{by_fifos}
use Rattle.fifo_places.proofs.fifos_ok.Goals as goal

pub returns : goal.returns
unfolding fifo_ok
returns c =
    let a = c.args in
    let all = by_fifos 8 (λ f. leb f.count 8) place_ok a.fifo1 a.fifo2 a.fifo3 in
    rw c.places_ok.ensures (simp and_assoc (simp and_assoc at all))
