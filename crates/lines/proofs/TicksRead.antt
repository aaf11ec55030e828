-- An op of ticks, its comma, a number in decimal and what belongs behind it are the row of the op with this number, so
-- they read as its command does.
use Prim.Native.Nat.{ℕ, ◌+◌, ◌^◌, ◌≤◌, ◌<◌}
use mathlib.Core.Path.{◌≡◌, refl, sym, ap, subst, ◌∙◌}
use mathlib.Core.Bool.{Bool, true, false, cond}
use mathlib.Core.List.{List, ◌++◌, append_assoc}
use native.Mathlib.Omega.{arith}
use lib.Dec.{leb}
use lib.ListN.{length, drop, length-append, length-drop}
use borrow.Author.Tests.{lt-ltb, leb-true}
use Rattle.std.specs.Prelude.{Some, None}
use Rattle.text.specs.Text.{bytes, decimal, numbers, row, starts_with}
use Rattle.text.specs.Sheet.{fields_of}
use Rattle.model.proofs.Laws.Testing.{both}
use Rattle.text.proofs.Laws.Decimal.{decimal_digit, decimal_more}
use Rattle.tick_lines.specs.declared.Begun.{Begun}
use Rattle.tick_lines.specs.AtOnce.{begins, begun_in, ticks_line, ticks_end, TicksIn}
use Rattle.text.proofs.Laws.Starts.{starts_length, starts_then}
use Rattle.lines.specs.Reading.{ReadFrom}
use Rattle.lines.proofs.Rows.{row_read}

-- the row of such a line: the op and its comma are one text
module _ (op : ℕ) (word : List ℕ) (low : op < 2 ^ 64) (is : decimal op ++ bytes "," ≡ word) where
  ticks_row : (a : ℕ) → row (fields_of (ticks_line op a)) ≡ word ++ (decimal a ++ ticks_end)
  ticks_row a =
      let zeros = bytes ",0,0,0,0,0,0,0" in
      rw (decimal_digit 0 (omega arith))
      (append_assoc (decimal op) (bytes "," ++ (decimal a ++ zeros)) (bytes "\n")
      ∙ ap (λ x. decimal op ++ (bytes "," ++ x)) (append_assoc (decimal a) zeros (bytes "\n"))
      ∙ sym (append_assoc (decimal op) (bytes ",") (decimal a ++ ticks_end))
      ∙ ap (λ x. x ++ (decimal a ++ ticks_end)) is)

  ticks_size : (a : ℕ) → length word + (length (decimal a) + 14) ≡ length (numbers (fields_of (ticks_line op a)))
  ticks_size a =
      omega (
        arith,
        ap length (ticks_row a),
        length-append (numbers (fields_of (ticks_line op a))) (bytes "\n"),
        length-append word (decimal a ++ ticks_end),
        length-append (decimal a) ticks_end,
      )

  ticks_read : {s : List ℕ} {a end : ℕ} → begins word s ≡ true → TicksIn (drop (length word) s) a end
      → ReadFrom s (record { line = Some (ticks_line op a); end = length word + end })
  ticks_read {s} {a} starts run =
      let here = (both (leb 18 (length s)) (starts_with word s) starts).1 in
      rw (run.line_end, ticks_size a)
      (row_read s (ticks_line op a)
      (rw (lt-ltb op (2 ^ 64) low, lt-ltb a (2 ^ 64) run.fits))
      (rw (ticks_row a) (starts_then word (decimal a ++ ticks_end) s here run.text)))

-- the two ops, and how a text begins that has one
nine_word : decimal 9 ++ bytes "," ≡ bytes "9,"
nine_word = rw (decimal_digit 9 (omega arith)) refl

ten_word : decimal 10 ++ bytes "," ≡ bytes "10,"
ten_word = rw (decimal_more 10 (omega arith) (omega arith), decimal_digit 1 (omega arith)) refl

module _ (s : List ℕ) (b : Begun) where
  -- how a text begins whose op has a number of ticks
  by_begun : (P : Begun → Type 0) → Some b ≡ begun_in s
      → (begins (bytes "9,") s ≡ true → P (record { op = 9; from = 2 }))
      → (begins (bytes "10,") s ≡ true → P (record { op = 10; from = 3 }))
      → P b
  by_begun P is f g = by (begins (bytes "9,") s) (begins (bytes "10,") s) refl refl is
    where
      by : (x y : Bool) → begins (bytes "9,") s ≡ x → begins (bytes "10,") s ≡ y
          → Some b ≡ cond x (Some (record { op = 9; from = 2 })) (cond y (Some (record { op = 10; from = 3 })) None)
          → P b
      by true y p q e = let same : record { op = 9; from = 2 } ≡ b = cc in subst P same (f p)
      by false true p q e = let same : record { op = 10; from = 3 } ≡ b = cc in subst P same (g q)
      by false false p q e = cc

  -- there is room for the 15 bytes that belong behind the number
  pub begun_room : Some b ≡ begun_in s → b.from + 15 ≤ length s
  begun_room is = by_begun (λ x. x.from + 15 ≤ length s) is nine ten
    where
      long : (word : List ℕ) → begins word s ≡ true → 18 ≤ length s
      long word h = leb-true 18 (length s) (both (leb 18 (length s)) (starts_with word s) h).0

      nine : begins (bytes "9,") s ≡ true → 2 + 15 ≤ length s
      nine h = omega (arith, long (bytes "9,") h)

      ten : begins (bytes "10,") s ≡ true → 3 + 15 ≤ length s
      ten h = omega (arith, long (bytes "10,") h)

  -- the line end is within the text
  pub ticks_inside : {a end : ℕ} → Some b ≡ begun_in s → TicksIn (drop b.from s) a end → b.from + end ≤ length s
  ticks_inside {a} is run =
      omega (
        arith,
        begun_room is,
        run.line_end,
        starts_length (decimal a ++ ticks_end) (drop b.from s) run.text,
        length-append (decimal a) ticks_end,
        length-drop b.from s,
      )

  pub ticks_begun : {a end : ℕ} → Some b ≡ begun_in s → TicksIn (drop b.from s) a end
      → ReadFrom s (record { line = Some (ticks_line b.op a); end = b.from + end })
  ticks_begun {a} {end} is =
      by_begun
      (λ x. TicksIn (drop x.from s) a end
      → ReadFrom s (record { line = Some (ticks_line x.op a); end = x.from + end }))
      is
      (λ h t. ticks_read 9 (bytes "9,") (omega arith) nine_word h t)
      (λ h t. ticks_read 10 (bytes "10,") (omega arith) ten_word h t)
