-- The value line at the front of a text: the part that is read, what it reads as, and where it ends. Document 01,
-- "Command sheet".
use Rattle.std.specs.Prelude.{ℕ, ◌≡◌, List, ◌++◌, cond, ltb, length, take, drop, Option, None, option_map}
use Rattle.text.specs.Text.{line_end, first_part}
use Rattle.text.specs.Sheet.{line_of}
use Rattle.lines.specs.declared.Next.{Next}

-- the part of a text up to the first line end that stands behind 17 bytes, as a value line has no fewer
abbrev pub line_part : List ℕ → List ℕ
line_part t = take 17 t ++ first_part line_end (drop 17 t)

-- what the value line at the front reads as, without a line end none; and the index behind the part that was read,
-- which is that of the line end where it is a line
pub record ReadFrom (s : List ℕ) (r : Next) : Type 0 where
  pub line :
      let here = first_part line_end s in
      r.line ≡ cond (ltb (length here) (length s)) (line_of here) None
  pub end : r.end ≡ length (line_part s)

-- where the line that is read ends, if it is one
pub record EndOf (s : List ℕ) (end : Option ℕ) : Type 0 where
  pub next : Next
  pub read : ReadFrom s next
  pub is : end ≡ option_map (λ c. next.end) next.line
