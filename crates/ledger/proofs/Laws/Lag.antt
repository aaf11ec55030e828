-- The lag of an edge behind its eighth. The eighth p is the whole part of 8 × (E - A) / S, so p steps' eighths lie at
-- or below E and p + 1 above it; the exact time differs from the time shown by a remainder below 2^24 before and
-- after the tick, and p + (8 - p) eighths of such remainders stay below 1/256 ns.
use Prim.Native.Nat.{ℕ, ◌+◌, ◌*◌, ◌/◌, ◌-◌, ◌<◌, ◌≤◌}
use mathlib.Core.Path.{◌≡◌, ap}
use native.Mathlib.Omega.{arith}
use native.Mathlib.Nat.{mul-pos, mul-le-mul_left, mul-le-mul_right, div-mul-le_self, div-lt_iff_lt-mul}
use native.Mathlib.Nat.{lt-div-mul-add}
use Rattle.model.specs.Units.{eighth_unit, step_unit}

-- In units of 1/d: r and n the remainders before and after, s the step, a the amount, u the instant minus the time
-- shown.
module _ (d r n s a u p : ℕ) (tick : r + a ≡ s * step_unit + n) (pos : 0 < d) (few : p < 8) where
  times_p : p * r + p * a ≡ p * s * step_unit + p * n
  times_p = omega (arith, ap (λ (x : ℕ). p * x) tick)

  pub early : r + d ≤ step_unit * d → n + d ≤ step_unit * d → p * s ≤ 8 * u → 8 * r + p * a < 8 * step_unit * (u + d)
  early r_low n_low h =
      let q = 8 - p in
      let both : p + q ≡ 8 = omega arith in
      let in_r : p * r + q * r ≡ 8 * r = omega (arith, ap (λ (x : ℕ). x * r) both) in
      let in_d : p * d + q * d ≡ 8 * d = omega (arith, ap (λ (x : ℕ). x * d) both) in
      let before : q * (r + d) ≤ q * (step_unit * d) = mul-le-mul_left q r_low in
      let after : p * (n + d) ≤ p * (step_unit * d) = mul-le-mul_left p n_low in
      sum (p * r) (q * r) (p * d) (q * d) (p * n) (p * s) (p * a) in_r in_d (omega arith) (omega arith) times_p h
    where
      sum : (pr qr pd qd pn ps pa : ℕ) → pr + qr ≡ 8 * r → pd + qd ≡ 8 * d → qr + qd ≤ step_unit * qd
          → pn + pd ≤ step_unit * pd
          → pr + pa ≡ ps * step_unit + pn → ps ≤ 8 * u → 8 * r + pa < 8 * step_unit * (u + d)
      sum pr qr pd qd pn ps pa e₁ e₂ h₁ h₂ t l = omega arith

  pub late : 8 * u < p * s + s → 8 * step_unit * u < 8 * r + p * a + a
  late h =
      let most : (p + 1) * r ≤ 8 * r = mul-le-mul_right r (omega arith) in
      sum (p * r) (p * n) (p * s) (p * a) (omega arith) times_p h
    where
      sum : (pr pn ps pa : ℕ) → pr + r ≤ 8 * r → pr + pa ≡ ps * step_unit + pn → 8 * u < ps + s
          → 8 * step_unit * u < 8 * r + pa + a
      sum pr pn ps pa m t l = omega arith

-- The instant is e / d ns, the time shown A in 1/256 ns, the step S, the remainders r and n, the amount a.
module _ (e A S r n a d : ℕ) (pos : 0 < d) (step : 0 < S) (tick : r + a ≡ S * step_unit + n)
    (from : A * d ≤ e * 256) (to : e * 256 < (A + S) * d) where
  abbrev pub eighth : ℕ
  eighth = 8 * (e * 256 - A * d) / (S * d)

  room : 0 < S * d
  room = mul-pos step pos

  pub eighth_few : eighth < 8
  eighth_few = (div-lt_iff_lt-mul room).1 (omega arith)

  scaled : r * d + a * d ≡ S * d * step_unit + n * d
  scaled = omega (arith, ap (λ (x : ℕ). x * d) tick)

  low : (x : ℕ) → x < step_unit → x * d + d ≤ step_unit * d
  low x h = let m : (x + 1) * d ≤ step_unit * d = mul-le-mul_right d (omega arith) in omega arith

  pub not_early : r < step_unit → n < step_unit
      → (8 * (A * step_unit + r) + eighth * a) * d < e * eighth_unit + 8 * step_unit * d
  not_early r_low n_low =
      let p = 8 * (e * 256 - A * d) / (S * d) in
      let u = e * 256 - A * d in
      let floor = div-mul-le_self (8 * u) (S * d) in
      let h = early d (r * d) (n * d) (S * d) (a * d) u p scaled pos eighth_few (low r r_low) (low n n_low) floor in
      omega arith

  pub not_late : e * eighth_unit < (8 * (A * step_unit + r) + eighth * a) * d + a * d
  not_late =
      let p = 8 * (e * 256 - A * d) / (S * d) in
      let u = e * 256 - A * d in
      let h = late d (r * d) (n * d) (S * d) (a * d) u p scaled pos eighth_few (lt-div-mul-add room) in
      omega arith
