-- What becomes of an edge in the words of the model, and an edge that is not stored leaves the FIFO as it was.
use Rattle.std.proofs.Common.{ℕ, ◌≡◌, refl, Bool, true, false, ◌&&◌, ◌||◌, not, cond, eqb, leb}
use Rattle.std.proofs.Common.{arith}
use mathlib.Core.Path.{sym}
use mathlib.Core.Bool.{false≢true}
use Rattle.std.proofs.lemmas.Bool.Decides.{nat_tests}
use Rattle.model.specs.declared.Fifo.{Fifo}
use Rattle.model.specs.Fifo.{is_empty, is_full, captured, captures_first, overflows}
use Rattle.fifo.specs.Capture.{arrival_of, is_stored, is_first, is_dropped}
use Rattle.fifo.specs.declared.Arrival.{Arrival}
use Rattle.fifo.specs.declared.Arrival.TheVariants.{NoEdge, Stored, Overflow}

-- by no edge, a full FIFO and an empty one
abbrev arrives : Bool → Bool → Bool → Arrival
arrives none full empty = cond none NoEdge (cond full Overflow (Stored empty))

stored_unless : (none full empty : Bool) → is_stored (arrives none full empty) ≡ not (none || full)
stored_unless true full empty = refl
stored_unless false true empty = refl
stored_unless false false empty = refl

first_where : (none : Bool) (count : ℕ) → is_first (arrives none (leb 8 count) (eqb count 0)) ≡ not none && eqb count 0
first_where none count = grind (arith, nat_tests)

dropped_where : (none full empty : Bool) → is_dropped (arrives none full empty) ≡ not none && full
dropped_where true full empty = refl
dropped_where false true empty = refl
dropped_where false false empty = refl

first_of : (b : Bool) (x y : Fifo) → not b ≡ false → cond b x y ≡ x
first_of true x y h = refl
first_of false x y h = absurd (false≢true (sym h))

module _ (f : Fifo) (code : ℕ) where
  pub stored_where_free : is_stored (arrival_of f code) ≡ not (eqb code 0 || is_full f)
  unfolding arrival_of
  stored_where_free = stored_unless (eqb code 0) (is_full f) (is_empty f)

  pub first_of_all : is_first (arrival_of f code) ≡ captures_first f code
  unfolding arrival_of captures_first
  first_of_all = first_where (eqb code 0) f.count

  pub dropped_where_full : is_dropped (arrival_of f code) ≡ overflows f code
  unfolding arrival_of overflows
  dropped_where_full = dropped_where (eqb code 0) (is_full f) (is_empty f)

  pub not_stored : (a s : ℕ) → is_stored (arrival_of f code) ≡ false → captured f a s code ≡ f
  unfolding captured
  not_stored a s h = grind (arith, nat_tests, stored_where_free)
