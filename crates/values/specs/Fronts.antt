-- The front of a line: its first values, as many as there are places for their numbers, each with a part behind it.
-- Document 01, "Command sheet".
use Rattle.std.specs.Prelude.{ℕ, ◌+◌, ◌≡◌, List, [], ◌∷◌, Bool, true, false, cond, length, Result, Ok, Err}
use Rattle.text.specs.Text.{comma, number_of, is_value, parts}

-- whether each place has its number, the numbers in the places, and the index behind the last comma that was passed
pub record Found : Type 0 where
  pub ok : Bool
  pub numbers : List ℕ
  pub end : ℕ

-- a number in the first place, before what is found for the others
abbrev pub with_first : ℕ → Found → Found
with_first n f = record { ok = f.ok; numbers = n ∷ f.numbers; end = f.end }

-- the front of these parts, which begin at an index; the places from the first part on that is no value, or has no
-- part behind it, stay as they were
abbrev pub front_in : (places : List ℕ) (at : ℕ) (ps : List (List ℕ)) → Found
front_in [] at ps = record { ok = true; numbers = []; end = at }
front_in (n ∷ ns) at [] = record { ok = false; numbers = n ∷ ns; end = at }
front_in (n ∷ ns) at (p ∷ []) = record { ok = false; numbers = n ∷ ns; end = at }
front_in (n ∷ ns) at (p ∷ q ∷ ps) =
    cond (is_value p)
    (with_first (number_of p) (front_in ns (at + length p + 1) (q ∷ ps)))
    (record { ok = false; numbers = n ∷ ns; end = at })

-- what a reader has found, with these numbers left in the places
abbrev pub front_to : List ℕ → Result ℕ ℕ → Found
front_to ns (Ok end) = record { ok = true; numbers = ns; end = end }
front_to ns (Err end) = record { ok = false; numbers = ns; end = end }

-- it is the front of the line s
abbrev pub FrontOf : (s places ns : List ℕ) → Result ℕ ℕ → Type 0
FrontOf s places ns r = front_to ns r ≡ front_in places 0 (parts comma s)
