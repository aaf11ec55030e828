-- Commands as examples write them, and what a run from power-on gives.
use Prim.Native.Nat.{ℕ}
use mathlib.Core.List.{List, [], ◌∷◌, ◌++◌, map}
use Rattle.model.specs.declared.Command.{Command}
use Rattle.model.specs.Run.{Entry, history}

-- an example: what a run gives, and what document 01 states
pub record Example : Type 0 where
  pub found : List ℕ
  pub stated : List ℕ

-- commands
abbrev pub line : ℕ → ℕ → ℕ → ℕ → ℕ → ℕ → Command
line op a b c d e = record { op = op; a = a; b = b; c = c; d = d; e = e; f = 0; g = 0; h = 0 }

abbrev pub tick : Command
tick = line 0 0 0 0 0 0

abbrev pub input : ℕ → Command
input code = line 0 code 0 0 0 0

abbrev pub load : ℕ → ℕ → ℕ → ℕ → ℕ → Command
load w1 w2 w3 w4 w5 = line 1 w1 w2 w3 w4 w5

abbrev pub write : ℕ → Command
write selector = line 2 selector 8 0 0 0

abbrev pub read : ℕ → Command
read selector = line 2 16 selector 0 0 0

abbrev pub interrupts : Command
interrupts = line 5 0 0 0 0 0

-- generator 1 from 0 s and some ns, at an interval of w + n/d ns
abbrev pub arm : ℕ → ℕ → ℕ → ℕ → ℕ → Command
arm ns w n d count = record { op = 3; a = 1; b = 0; c = ns; d = w; e = n; f = d; g = count; h = 0 }

-- the answers, and the values of the last command
unfoldable pub answers : List Command → List ℕ
answers cs = map (λ (x : Entry). x.answer) (history cs)

unfoldable pub last_values : List Entry → List ℕ
last_values [] = []
last_values (x ∷ []) = x.values.w1 ∷ x.values.w2 ∷ x.values.w3 ∷ x.values.w4 ∷ x.values.w5 ∷ []
last_values (x ∷ y ∷ xs) = last_values (y ∷ xs)

unfoldable pub values : List Command → List ℕ
values cs = last_values (history cs)

-- what a command behind others gives
abbrev pub gives : List Command → Command → List ℕ → Example
gives before c v = record { found = values (before ++ c ∷ []); stated = v }
