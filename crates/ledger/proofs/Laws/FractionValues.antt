-- Laws of fractions. `Is f n q` says that f is n / q; sums and comparisons of such fractions are those of their
-- numerators, because cross-multiplying by positive denominators keeps both.
use Prim.Native.Nat.{ℕ, ◌+◌, ◌*◌, ◌<◌, ◌≤◌}
use mathlib.Core.Path.{◌≡◌, refl, ap, sym, ◌∙◌}
use native.Mathlib.Omega.{arith}
use native.Mathlib.Nat.{mul-pos, mul-lt-mul_of_pos_right, mul-le-mul_right, lt_of_mul-lt-mul_right}
use native.Mathlib.Nat.{le_of_mul-le-mul_right}
use native.Mathlib.Decide.{dec_lt}
use lib.Dec.{ltb}
use borrow.Author.Tests.{lt-ltb, le-ltb}
use Rattle.ledger.specs.Fractions.{Fraction, over, plus, part, is_below, Same, Below, NotAbove}

pub record Is (f : Fraction) (n q : ℕ) : Type 0 where
  pub den : 0 < f.den
  pub unit : 0 < q
  pub value : f.num * q ≡ n * f.den

-- a fraction is its numerator over its denominator
pub is_over : (n q : ℕ) → 0 < q → Is (over n q) n q
is_over n q h = record { den = h; unit = h; value = refl }

-- the same value in a finer unit
pub is_finer : {f : Fraction} {n q : ℕ} (k : ℕ) → 0 < k → Is f n q → Is f (n * k) (q * k)
is_finer {f} {n} {q} k pos h = record {
  den = h.den;
  unit = mul-pos h.unit pos;
  value = omega (arith, ap (λ (m : ℕ). m * k) h.value);
}

pub is_plus : {f g : Fraction} {n m q : ℕ} → Is f n q → Is g m q → Is (plus f g) (n + m) q
is_plus {f} {g} {n} {m} {q} hf hg = record {
  den = mul-pos hf.den hg.den;
  unit = hf.unit;
  value =
      omega
      (arith, ap (λ (x : ℕ). x * g.den) hf.value, ap (λ (x : ℕ). x * f.den) hg.value);
}

pub is_part : {f : Fraction} {n q : ℕ} (k d : ℕ) → 0 < d → Is f n q → Is (part k d f) (k * n) (d * q)
is_part {f} {n} {q} k d pos h = record {
  den = mul-pos pos h.den;
  unit = mul-pos pos h.unit;
  value = omega (arith, ap (λ (x : ℕ). k * d * x) h.value);
}

module _ {f g : Fraction} {n m q : ℕ} (hf : Is f n q) (hg : Is g m q) where
  -- both cross products times the unit, over the numerators
  left : f.num * g.den * q ≡ n * (f.den * g.den)
  left = omega (arith, ap (λ (x : ℕ). x * g.den) hf.value)

  right : g.num * f.den * q ≡ m * (f.den * g.den)
  right = omega (arith, ap (λ (x : ℕ). x * f.den) hg.value)

  dens : 0 < f.den * g.den
  dens = mul-pos hf.den hg.den

  less : n < m → f.num * g.den < g.num * f.den
  less h = lt_of_mul-lt-mul_right q (rw (left, right) (mul-lt-mul_of_pos_right h dens))

  at_most : n ≤ m → f.num * g.den ≤ g.num * f.den
  at_most h = le_of_mul-le-mul_right (rw (left, right) (mul-le-mul_right (f.den * g.den) h)) hf.unit

  pub is_below_lem : n < m → Below f g
  is_below_lem h = record { left = hf.den; right = hg.den; below = less h }

  pub is_not_above : n ≤ m → NotAbove f g
  is_not_above h = record { left = hf.den; right = hg.den; not_above = at_most h }

-- the test of a comparison, over the numerators
pub is_below_test : {f g : Fraction} {n m q : ℕ} → Is f n q → Is g m q → is_below f g ≡ ltb n m
is_below_test {f} {g} {n} {m} hf hg = at (dec_lt n m)
  where
    at : Dec (n < m) → is_below f g ≡ ltb n m
    at (yes l) = lt-ltb _ _ (less hf hg l) ∙ sym (lt-ltb n m l)
    at (no l) = let h : m ≤ n = omega arith in le-ltb _ _ (at_most hg hf h) ∙ sym (le-ltb n m h)

-- fractions of one value are the same
pub is_same : {f g : Fraction} {n q : ℕ} → Is f n q → Is g n q → Same f g
is_same hf hg = record {
  left = hf.den;
  right = hg.den;
  same =
      let h = (is_not_above hf hg (omega arith)).not_above in
      let k = (is_not_above hg hf (omega arith)).not_above in
      omega arith;
}
