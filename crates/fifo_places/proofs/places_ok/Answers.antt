-- What was seen is in order just where every place is, one index after the other.
use mathlib.Core.Path.{◌≡◌, refl, ◌∙◌}
use mathlib.Core.Bool.{true, false}
use Rattle.model.specs.Tests.{every_below}
use Rattle.fifo_places.specs.declared.Seen.{Seen}
use Rattle.model.specs.Ranges.{place_ok}
use Rattle.fifo_places.specs.Fifos.{of_three, in_range}
use Rattle.fifo_places.proofs.places_ok.Goals as goal
use Rattle.fifo_places.proofs.places_ok.Goals.{After-see_place-all}

none_seen : (s : Seen) → (s.seconds ≡ 0) × ((s.rising ≡ 0) × ((s.rest ≡ 0) × (s.late ≡ false))) → in_range s ≡ true
unfolding in_range
none_seen s h = rw (h.0, h.1.0, h.1.1.0, h.1.1.1) refl

all_seen : (c : After-see_place-all)
    → let to7 = c in
    let fifos = to7.args in
    in_range c.see_place-all.result
    ≡ every_below 8 (λ i. of_three (λ f. place_ok f i) fifos.fifo1 fifos.fifo2 fifos.fifo3)
all_seen c =
    simp (
      c.see_place-all.ensures,
      c.see_place-to7.ensures,
      c.see_place-to6.ensures,
      c.see_place-to5.ensures,
      c.see_place-to4.ensures,
      c.see_place-to3.ensures,
      c.see_place-to2.ensures,
      c.see_place-to1.ensures,
      none_seen _ c.default.ensures,
    )

pub returns : goal.returns
returns c = c.all_in_range.ensures ∙ all_seen (goal.at.returns c).After-see_place-all
