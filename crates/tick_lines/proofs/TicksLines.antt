-- Two bytes, or eight, are told by their number, since bytes are below 256. So the numbers that are compared tell how
-- a line of ticks begins, and what belongs behind its digits.
use Prim.Native.Nat.{ℕ, suc, ◌+◌, ◌*◌, ◌-◌, ◌^◌, ◌≤◌, ◌<◌}
use mathlib.Core.Path.{◌≡◌, refl, sym, ap, ◌∙◌}
use mathlib.Core.Bool.{Bool, true, false, false≢true, ◌&&◌, cond, and-true}
use mathlib.Core.List.{List}
use native.Mathlib.Numerals.{add-one}
use native.Mathlib.Omega.{arith}
use lib.Dec.{eqb}
use lib.ListN.{length, get_or, take, drop, length-drop}
use lib.Seq.{drop-cons, length-take-le}
use borrow.Author.Tests.{lt-leb, le-leb, eqb-true, eq-eqb, ne_eqb}
use Rattle.std.specs.Prelude.{Option, Some, None, IfSome}
use Rattle.text.specs.Text.{bytes}
use Rattle.values.specs.Bytes.{pair_at, eight_at}
use Rattle.tick_lines.specs.declared.Begun.{Begun}
use Rattle.tick_lines.specs.AtOnce.{begun_in, ticks_end, TicksIn}
use Rattle.text.proofs.Laws.Starts.{starts_take, starts_then}
use Rattle.tick_lines.proofs.Eights.{BytesAt, starts_at, bytes_join, bytes_split, eight_bytes_lem}
use Rattle.tick_lines.proofs.Digits.{DigitsTo, digits_below, digits_decimal}

-- two bytes as a number tell both
two_bytes : (a b x y : ℕ) → a < 256 → b < 256 → x < 256 → y < 256 → (b * 2 ^ 8 + a ≡ y * 2 ^ 8 + x → ⊥)
    → (eqb a x && eqb b y) ≡ false
two_bytes a b x y fa fb fx fy n = by (eqb a x) (eqb b y) refl refl
  where
    by : (p q : Bool) → eqb a x ≡ p → eqb b y ≡ q → (p && q) ≡ false
    by true true e f = absurd (n (omega (arith, eqb-true a x e, eqb-true b y f)))
    by true false e f = refl
    by false q e f = refl

with_third : (p q r : Bool) → (p && q) ≡ false → (p && (q && r)) ≡ false
with_third true true r h = absurd (false≢true (sym h))
with_third true false r h = refl
with_third false q r h = refl

-- how a text begins, by its first three bytes
by_bytes : ℕ → ℕ → ℕ → Option Begun
by_bytes a b c =
    cond (eqb a 57 && eqb b 44)
    (Some (record { op = 9; from = 2 }))
    (cond (eqb a 49 && (eqb b 48 && eqb c 44)) (Some (record { op = 10; from = 3 })) None)

module _ (s : List ℕ) (at : ℕ) where
  pub begun_few : length s - at < 18 → None ≡ begun_in (drop at s)
  begun_few few = rw (length-drop, lt-leb 18 (length s - at) few)

  module _ (more : at + 18 ≤ length s) (fits : (i : ℕ) → get_or s i 0 < 256) where
    begun_by : begun_in (drop at s) ≡ by_bytes (get_or s at 0) (get_or s (at + 1) 0) (get_or s (at + 2) 0)
    unfolding by_bytes
    begun_by =
        let first : at < length s = omega arith in
        let second : suc at < length s = omega arith in
        let third : suc (suc at) < length s = omega arith in
        let two : at + 2 ≡ suc (suc at) = omega arith in
        let long : 18 ≤ length (drop at s) = omega (arith, length-drop at s) in
        rw (
          le-leb 18 (length (drop at s)) long,
          add-one,
          two,
          drop-cons s at 0 first,
          drop-cons s (suc at) 0 second,
          drop-cons s (suc (suc at)) 0 third,
          and-true (eqb (get_or s (suc at) 0) 44),
          and-true (eqb (get_or s (suc (suc at)) 0) 44),
        )

    pub begun_nine : pair_at s at ≡ 0x2C39 → Some (record { op = 9; from = 2 }) ≡ begun_in (drop at s)
    unfolding by_bytes
    begun_nine pair =
        let a = fits at in
        let b = fits (at + 1) in
        let one = eq-eqb (get_or s at 0) 57 (omega arith) in
        let two = eq-eqb (get_or s (at + 1) 0) 44 (omega arith) in
        sym (begun_by ∙ rw (one, two) refl)

    pub begun_other : (pair_at s at ≡ 0x2C39 → ⊥) → (pair_at s at ≡ 0x3031 → ⊥)
        → None ≡ begun_in (drop at s)
    unfolding by_bytes
    begun_other no_nine no_ten =
        let a = fits at in
        let b = fits (at + 1) in
        let nine = two_bytes (get_or s at 0) (get_or s (at + 1) 0) 57 44 a b (omega arith) (omega arith) no_nine in
        let ten = two_bytes (get_or s at 0) (get_or s (at + 1) 0) 49 48 a b (omega arith) (omega arith) no_ten in
        sym (begun_by ∙ rw (nine, with_third _ _ (eqb (get_or s (at + 2) 0) 44) ten) refl)

    module _ (no_nine : pair_at s at ≡ 0x2C39 → ⊥) (ten : pair_at s at ≡ 0x3031) where
      nine : (eqb (get_or s at 0) 57 && eqb (get_or s (at + 1) 0) 44) ≡ false
      nine =
          two_bytes (get_or s at 0) (get_or s (at + 1) 0) 57 44 (fits at) (fits (at + 1)) (omega arith) (omega arith)
          no_nine

      ten_one : eqb (get_or s at 0) 49 ≡ true
      ten_one =
          let a = fits at in
          let b = fits (at + 1) in
          eq-eqb (get_or s at 0) 49 (omega arith)

      ten_two : eqb (get_or s (at + 1) 0) 48 ≡ true
      ten_two =
          let a = fits at in
          let b = fits (at + 1) in
          eq-eqb (get_or s (at + 1) 0) 48 (omega arith)

      pub begun_bare : (get_or s (at + 2) 0 ≡ 44 → ⊥) → None ≡ begun_in (drop at s)
      unfolding by_bytes
      begun_bare n = sym (begun_by ∙ rw (nine, ten_one, ten_two, ne_eqb (get_or s (at + 2) 0) 44 n) refl)

      pub begun_ten : get_or s (at + 2) 0 ≡ 44 → Some (record { op = 10; from = 3 }) ≡ begun_in (drop at s)
      unfolding by_bytes
      begun_ten comma = sym (begun_by ∙ rw (nine, ten_one, ten_two, eq-eqb (get_or s (at + 2) 0) 44 comma) refl)

-- the first eight and the last eight of the 15 bytes behind the number, as numbers: they share one byte
abbrev zeros_behind : ℕ
zeros_behind = 0x302C_302C_302C_302C

abbrev zeros_to_end : ℕ
zeros_to_end = 0x0A30_2C30_2C30_2C30

ticks_end_lem : (s : List ℕ) → ((i : ℕ) → get_or s i 0 < 256) → (i : ℕ)
    → eight_at s i ≡ zeros_behind → eight_at s (i + 7) ≡ zeros_to_end
    → BytesAt ticks_end s i
ticks_end_lem s fits i first second =
    let front = bytes_split (bytes "0") s (bytes ",0,0,0,") i (eight_bytes_lem s fits i _ first) in
    bytes_join (bytes "0,0,0,0\n") s (bytes ",0,0,0,") i front.0 (eight_bytes_lem s fits (i + 7) _ second)

-- the digits, and the two numbers behind them
pub ticks_found : {s : List ℕ} {i v : ℕ} → DigitsTo s i v
    → ((j : ℕ) → get_or s j 0 < 256)
    → i + 15 ≤ length s
    → 48 < get_or s 0 0
    → eight_at s i ≡ zeros_behind
    → eight_at s (i + 7) ≡ zeros_to_end
    → TicksIn s v (i + 14)
ticks_found {s} {i} {v} to fits more lead first second =
    let end = ticks_end_lem s fits i first second in
    let value = digits_decimal to lead end.0 in
    let size : length (take i s) ≡ i = length-take-le i s (omega arith) in
    let behind = starts_at ticks_end s i more end in
    record {
      fits = omega (arith, digits_below to);
      text = rw value (starts_then (take i s) ticks_end s (starts_take i s) (rw size behind));
      line_end = omega (arith, ap length value);
    }

-- of no number nothing is claimed
pub ticks_none : (s : List ℕ) {r : Option (ℕ × ℕ)} → r ≡ None → IfSome r (λ found. TicksIn s found.0 found.1)
ticks_none s e = rw e tt
