-- Times shown, ideal instants and returned edges, compared. Document 01, "The ledger of demand 3", the three bullets.
use Rattle.std.specs.Prelude.{ℕ, suc, ◌+◌, ◌%◌, ◌^◌, ◌<◌, ◌≡◌, List, [], ◌∷◌, length}
use Rattle.model.specs.declared.Engine.{Engine}
use Rattle.model.specs.Tests.{count_below}
use Rattle.model.specs.Clock.{shown}
use Rattle.ledger.specs.Fractions.{Fraction, over, plus, part, is_below, Below}
use Rattle.ledger.specs.Ledger.{Edge, Order, none, standing}

-- a record's time shown, in 1/256 ns, and its remainder, in 2^-32 ns
abbrev pub time_shown : Engine → Fraction
time_shown e = over (shown e.clock) 256

abbrev pub time_left : Engine → Fraction
time_left e = over e.clock.remainder (2 ^ 32)

-- ideal instant k: start + k × interval
abbrev pub ideal : Fraction → Fraction → ℕ → Fraction
ideal start interval k = plus start (part k 1 interval)

-- j: how many ideal instants, k from 0 to the count less 1, are below a time
abbrev pub passed : Fraction → Fraction → ℕ → Fraction → ℕ
passed start interval count now = count_below count (λ k. is_below (ideal start interval k) now)

-- edges k, k + 1, .. in this order: an edge is rising (1) where its number is even
abbrev pub AlternateFrom : ℕ → List Edge → Type 0
AlternateFrom k [] = Unit {0}
AlternateFrom k (x ∷ xs) = (x.rising ≡ (k + 1) % 2) × AlternateFrom (suc k) xs

-- what a generator's edges are, at a time shown
pub record EdgesPassed (start interval : Fraction) (count : ℕ) (edges : List Edge) (now : Fraction) : Type 0 where
  pub start_den : 0 < start.den
  pub interval_den : 0 < interval.den
  pub as_many : length edges ≡ passed start interval count now
  pub alternating : AlternateFrom 0 edges

-- second bullet: while an order stands its edges are edges 0 to j - 1; without an order there are none
abbrev pub EdgesReturned : Order → List Edge → Fraction → Type 0
EdgesReturned none edges now = edges ≡ []
EdgesReturned (standing start interval count) edges now = EdgesPassed start interval count edges now

-- the exact time at the start of an edge's eighth: the exact time before its tick plus p eighths of the amount
abbrev pub eighth_start : Edge → Fraction
eighth_start x = plus x.time (part x.eighth 8 x.amount)

-- an instant minus the exact time at the start of the edge's eighth is above -1/256 ns and below an eighth of the
-- amount
pub record Lag (instant : Fraction) (x : Edge) : Type 0 where
  pub eighth : x.eighth < 8
  pub above_minus256th : Below (eighth_start x) (plus instant (over 1 256))
  pub below_eighth : Below instant (plus (eighth_start x) (part 1 8 x.amount))

abbrev pub LagsFrom : Fraction → Fraction → ℕ → List Edge → Type 0
LagsFrom start interval k [] = Unit {0}
LagsFrom start interval k (x ∷ xs) = Lag (ideal start interval k) x × LagsFrom start interval (suc k) xs

-- third bullet: each returned edge k lags its ideal instant k so little
abbrev pub EdgesLag : Order → List Edge → Type 0
EdgesLag none edges = Unit {0}
EdgesLag (standing start interval count) edges = LagsFrom start interval 0 edges
