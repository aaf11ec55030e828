-- The codes of signal edges. Document 01, "Command sheet", op 0: 0 none, 1 to 8 falling at eighth code - 1, 9 to 16
-- rising at code - 9. Inputs and generators have the same codes.
use Rattle.std.specs.Prelude.{ℕ, ◌+◌, ◌-◌, cond, eqb, leb}

-- 1 rising, 0 falling
abbrev pub code_rising : ℕ → ℕ
code_rising code = cond (leb code 8) 0 1

abbrev pub code_eighth : ℕ → ℕ
code_eighth code = cond (leb code 8) (code - 1) (code - 9)

-- the code of an edge, by its direction (0 rising, 1 falling)
abbrev pub edge_code : ℕ → ℕ → ℕ
edge_code direction eighth = cond (eqb direction 0) (eighth + 9) (eighth + 1)
