-- What came of the sheet is as much of it as number 1 needs, and its results are what the writer was given.
use Rattle.std.proofs.Common.{◌≡◌, ℕ, Option, None, Some, IfSome, Result, Ok, Err, MatchResult, List, ap, ◌∙◌}
use Rattle.std.proofs.Common.{subst, take}
use Rattle.std.specs.Io.KnownBytes.{Appends, Consumes}
use Rattle.text.specs.Results.{results}
use Rattle.streams.specs.declared.Failure.{Failure}
use Rattle.streams.proofs.Enough.{enough}
use Rattle.streams.proofs.write_results.Goals as goal

-- the bytes that came, where those of the whole sheet are known
consumed : (known left : Option (List ℕ)) (sheet : List ℕ) (room : ℕ) → room ≡ 65537
    → IfSome known (λ whole. sheet ≡ take room whole) → Consumes known left sheet
    → IfSome known (λ whole. Consumes known left (take 65537 whole))
consumed None left sheet room full came gone = tt
consumed (Some whole) left sheet room full came gone =
    subst (Consumes (Some whole) left) (came ∙ ap (λ n. take n whole) full) gone

-- the bytes written, where those of the whole sheet are known
written : (known before after : Option (List ℕ)) (sheet : List ℕ) (room : ℕ) → room ≡ 65537
    → IfSome known (λ whole. sheet ≡ take room whole) → Appends before after (results sheet)
    → IfSome known (λ whole. Appends before after (results whole))
written None before after sheet room full came put = tt
written (Some whole) before after sheet room full came put =
    subst (Appends before after) (ap results (came ∙ ap (λ n. take n whole) full) ∙ enough whole) put

-- what `map_err` gives is Ok only where what it was given was
was_ok : {T E : Type 0} (r : Result T E) (x : T)
    → MatchResult r (λ y. let given : Result T Failure = Ok x in given ≡ Ok y) (λ e. ⊥)
    → r ≡ Ok x
was_ok (Ok y) x h = cc
was_ok (Err e) x h = absurd h

pub returns-clause-written : goal.returns-clause-written
returns-clause-written g c =
    let read = was_ok c.read_until_full.result c.in_ok-count.count c.in_ok-count.ensures.cases in
    let put = was_ok c.write_results_of.result c.in_ok-map_err.field-0 c.in_ok-map_err.ensures.cases in
    written _ _ _ _ _ c.read_until_full.auto.buffer (rw read at c.read_until_full.ensures.front)
    (rw put at c.write_results_of.ensures)

pub returns-clause-read : goal.returns-clause-read
returns-clause-read g c =
    let read = was_ok c.read_until_full.result c.in_ok-count.count c.in_ok-count.ensures.cases in
    consumed _ _ _ _ c.read_until_full.auto.buffer (rw read at c.read_until_full.ensures.front)
    (rw read at c.read_until_full.ensures.bytes)
