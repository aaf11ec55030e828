-- A number of eight bytes tells each of them: a number of two halves tells both where the lower one is below the upper
-- one's unit, and bytes are below 256.
use Prim.Native.Nat.{ℕ, ◌+◌, ◌/◌, ◌%◌, ◌≤◌, ◌<◌}
use mathlib.Core.Path.{◌≡◌, refl, sym}
use mathlib.Core.Bool.{Bool, true, false}
use mathlib.Core.List.{List, [], ◌∷◌, ◌++◌}
use native.Mathlib.Numerals.{add-one}
use native.Mathlib.Nat.{add-zero}
use native.Mathlib.Omega.{arith}
use lib.Dec.{eqb}
use lib.ListN.{length, get_or, drop, length-drop}
use lib.Seq.{drop-cons}
use borrow.Author.Tests.{eqb-true, eqb-false, eq-eqb}
use Rattle.text.specs.Text.{bytes, starts_with}
use Rattle.model.proofs.Laws.Testing.{both}
use Rattle.values.specs.Bytes.{pair_at, four_at, eight_at}
use Rattle.tick_lines.specs.AtOnce.{tick_line}
use Rattle.text.proofs.Laws.Starts.{starts_length}

-- "0,0,0,0," as a number
abbrev four_zeros : ℕ
four_zeros = 0x2C30_2C30_2C30_2C30

-- the two, four or eight bytes of a number, the lowest first
abbrev pair_bytes : ℕ → List ℕ
pair_bytes n = n % 256 ∷ n / 256 ∷ []

abbrev four_bytes : ℕ → List ℕ
four_bytes n = pair_bytes (n % 65536) ++ pair_bytes (n / 65536)

abbrev pub eight_bytes : ℕ → List ℕ
eight_bytes n = four_bytes (n % 4294967296) ++ four_bytes (n / 4294967296)

-- the line of a tick stands at an index, as it is compared
pub record TickAt (s : List ℕ) (at : ℕ) : Type 0 where
  pub first : eight_at s at ≡ four_zeros
  pub second : eight_at s (at + 8) ≡ four_zeros
  pub last : get_or s (at + 16) 0 ≡ 48
  pub end : get_or s (at + 17) 0 ≡ 10

-- the bytes of a text stand from an index on
abbrev pub BytesAt : List ℕ → List ℕ → ℕ → Type 0
BytesAt [] s at = Unit {0}
BytesAt (b ∷ h) s at = (get_or s at 0 ≡ b) × BytesAt h s (at + 1)

pub starts_at : (h s : List ℕ) (at : ℕ) → at + length h ≤ length s → BytesAt h s at → starts_with h (drop at s) ≡ true
starts_at [] s at l e = refl
starts_at (b ∷ h) s at l e =
    let m : at < length s = omega arith in
    rw (drop-cons s at 0 m, eq-eqb _ _ e.0, ← add-one) (starts_at h s (at + 1) (omega arith) e.1)

bytes_of : (h s : List ℕ) (at : ℕ) → at + length h ≤ length s → starts_with h (drop at s) ≡ true → BytesAt h s at
bytes_of [] s at l e = tt
bytes_of (b ∷ h) s at l e =
    let m : at < length s = omega arith in
    let tests = both _ _ (rw (drop-cons s at 0 m, ← add-one) at e) in
    (eqb-true _ _ tests.0, bytes_of h s (at + 1) (omega arith) tests.1)

-- the bytes of two texts, one behind the other
module _ (h s : List ℕ) where
  pub bytes_join : (g : List ℕ) (at : ℕ) → BytesAt g s at → BytesAt h s (at + length g) → BytesAt (g ++ h) s at
  bytes_join [] at d e = rw add-zero at e
  bytes_join (b ∷ g) at d e =
      let next : at + length (b ∷ g) ≡ at + 1 + length g = omega arith in
      (d.0, bytes_join g (at + 1) d.1 (rw next at e))

  pub bytes_split : (g : List ℕ) (at : ℕ) → BytesAt (g ++ h) s at → BytesAt g s at × BytesAt h s (at + length g)
  bytes_split [] at e = (tt, rw add-zero e)
  bytes_split (b ∷ g) at e =
      let next : at + length (b ∷ g) ≡ at + 1 + length g = omega arith in
      let rest = bytes_split g (at + 1) e.1 in
      ((e.0, rest.0), rw next rest.1)

-- the bytes from an index on as a number, and back
module _ (s : List ℕ) where
  pair_is : (at n : ℕ) → BytesAt (pair_bytes n) s at → pair_at s at ≡ n
  pair_is at n e = omega (arith, e.0, e.1.0)

  four_is : (at n : ℕ) → BytesAt (four_bytes n) s at → four_at s at ≡ n
  four_is at n e =
      let halves = bytes_split (pair_bytes (n / 65536)) s (pair_bytes (n % 65536)) at e in
      omega (arith, pair_is at _ halves.0, pair_is (at + 2) _ halves.1)

  eight_is : (at n : ℕ) → BytesAt (eight_bytes n) s at → eight_at s at ≡ n
  eight_is at n e =
      let halves = bytes_split (four_bytes (n / 4294967296)) s (four_bytes (n % 4294967296)) at e in
      omega (arith, four_is at _ halves.0, four_is (at + 4) _ halves.1)

  tick_at : (at : ℕ) → starts_with tick_line (drop at s) ≡ true → TickAt s at
  tick_at at e =
      let l : at + 18 ≤ length s = omega (arith, starts_length tick_line (drop at s) e, length-drop at s) in
      let four = bytes "0,0,0,0," in
      let line = bytes_split (bytes "0\n") s (four ++ four) at (bytes_of tick_line s at l e) in
      let halves = bytes_split four s four at line.0 in
      let next : at + 16 + 1 ≡ at + 17 = omega arith in
      record {
        first = eight_is at four_zeros halves.0;
        second = eight_is (at + 8) four_zeros halves.1;
        last = line.1.0;
        end = rw next at line.1.1.0;
      }

  -- a line that differs somewhere is another
  pub no_tick : (at : ℕ) → (TickAt s at → ⊥) → starts_with tick_line (drop at s) ≡ false
  no_tick at differs = go (starts_with tick_line (drop at s)) refl
    where
      go : (t : Bool) → starts_with tick_line (drop at s) ≡ t → t ≡ false
      go true e = absurd (differs (tick_at at e))
      go false e = refl

module _ (s : List ℕ) (fits : (i : ℕ) → get_or s i 0 < 256) where
  pair_below : (at : ℕ) → pair_at s at < 65536
  pair_below at = omega (arith, fits at, fits (at + 1))

  four_below : (at : ℕ) → four_at s at < 4294967296
  four_below at = omega (arith, pair_below at, pair_below (at + 2))

  pair_bytes_lem : (at n : ℕ) → pair_at s at ≡ n → BytesAt (pair_bytes n) s at
  pair_bytes_lem at n e =
      let low = fits at in
      (omega arith, (omega arith, tt))

  four_bytes_lem : (at n : ℕ) → four_at s at ≡ n → BytesAt (four_bytes n) s at
  four_bytes_lem at n e =
      let low = pair_below at in
      bytes_join (pair_bytes (n / 65536)) s (pair_bytes (n % 65536)) at (pair_bytes_lem at _ (omega arith))
      (pair_bytes_lem (at + 2) _ (omega arith))

  pub eight_bytes_lem : (at n : ℕ) → eight_at s at ≡ n → BytesAt (eight_bytes n) s at
  eight_bytes_lem at n e =
      let low = four_below at in
      bytes_join (four_bytes (n / 4294967296)) s (four_bytes (n % 4294967296)) at (four_bytes_lem at _ (omega arith))
      (four_bytes_lem (at + 4) _ (omega arith))

  tick_starts : (at : ℕ) → at + 18 ≤ length s → TickAt s at → starts_with tick_line (drop at s) ≡ true
  tick_starts at l e =
      let four = bytes "0,0,0,0," in
      let halves = bytes_join four s four at (eight_bytes_lem at _ e.first) (eight_bytes_lem (at + 8) _ e.second) in
      let next : at + 16 + 1 ≡ at + 17 = omega arith in
      starts_at tick_line s at l (bytes_join (bytes "0\n") s (four ++ four) at halves (e.last, (rw next e.end, tt)))

  -- once the bytes before it agree, the last one decides
  pub tick_end : (at : ℕ) → at + 18 ≤ length s
      → eight_at s at ≡ four_zeros → eight_at s (at + 8) ≡ four_zeros → get_or s (at + 16) 0 ≡ 48
      → eqb (get_or s (at + 17) 0) 10 ≡ starts_with tick_line (drop at s)
  tick_end at l first second last = go (eqb (get_or s (at + 17) 0) 10) refl
    where
      go : (t : Bool) → eqb (get_or s (at + 17) 0) 10 ≡ t → t ≡ starts_with tick_line (drop at s)
      go true e =
          let end = eqb-true _ 10 e in
          sym (tick_starts at l (record { first = first; second = second; last = last; end = end }))
      go false e = sym (no_tick s at (λ h. eqb-false _ 10 e h.end))
