-- Exact fractions: a whole numerator over a whole denominator above 0, added and compared by cross-multiplying.
-- Document 01, "The ledger of demand 3".
use Rattle.std.specs.Prelude.{ℕ, ◌+◌, ◌*◌, ◌<◌, ◌≤◌, ◌≡◌, Bool, ltb}

pub record Fraction : Type 0 where
  pub num : ℕ
  pub den : ℕ

-- n / d
abbrev pub over : ℕ → ℕ → Fraction
over n d = record { num = n; den = d }

abbrev pub plus : Fraction → Fraction → Fraction
plus x y = over (x.num * y.den + y.num * x.den) (x.den * y.den)

-- n / d of a fraction
abbrev pub part : ℕ → ℕ → Fraction → Fraction
part n d x = over (n * x.num) (d * x.den)

-- the test of x < y
abbrev pub is_below : Fraction → Fraction → Bool
is_below x y = ltb (x.num * y.den) (y.num * x.den)

-- the three comparisons; each says also that both are fractions
pub record Same (x y : Fraction) : Type 0 where
  pub left : 0 < x.den
  pub right : 0 < y.den
  pub same : x.num * y.den ≡ y.num * x.den

pub record Below (x y : Fraction) : Type 0 where
  pub left : 0 < x.den
  pub right : 0 < y.den
  pub below : x.num * y.den < y.num * x.den

pub record NotAbove (x y : Fraction) : Type 0 where
  pub left : 0 < x.den
  pub right : 0 < y.den
  pub not_above : x.num * y.den ≤ y.num * x.den
