-- The value at the front of a text, and the text up to the next separator. Document 01, "Command sheet".
use Rattle.std.specs.Prelude.{ℕ, ◌≤◌, ◌≡◌, List, cond, ltb, length, None}
use Rattle.text.specs.Text.{comma, first_part, value_of}
use Rattle.values.specs.declared.Taken.{Taken}

-- the length of the text up to the next separator, which ends within the whole
pub record RunTo (separator : ℕ) (s : List ℕ) (r : ℕ) : Type 0 where
  pub is : r ≡ length (first_part separator s)
  pub within : r ≤ length s

-- the value up to the next comma, without one none; and the index of the comma, or the end of the text
pub record TakenFrom (s : List ℕ) (r : Taken) : Type 0 where
  pub value : r.value ≡ cond (ltb r.end (length s)) (value_of (first_part comma s)) None
  pub end : r.end ≡ length (first_part comma s)
