-- The table by op: number 6, and then what the numbers below it make of an op.
use Prim.Native.Nat.{ℕ, ◌+◌, ◌*◌, ◌≤◌, ◌<◌}
use mathlib.Core.Path.{◌≡◌, refl}
use mathlib.Core.Bool.{true, false, cond, not-not}
use native.Mathlib.Omega.{arith}
use lib.Dec.{eqb, leb, ltb}
use borrow.Author.Tests.{ne_eqb, lt-ltb}
use Rattle.model.specs.declared.Engine.{Engine}
use Rattle.model.specs.declared.Command.{Command}
use Rattle.model.specs.Checks.{checks, answer_of, passes}
use Rattle.model.specs.Units.{ns_per_second}
use Rattle.model.specs.Clock.{shown}
use Rattle.model.specs.Record.{generator}
use Rattle.model.specs.Ranges.{valid}
use Rattle.model.specs.Bounds.{ClockRange, WordsRange}
use Rattle.model.specs.Fields.{fields_ok}
use Rattle.model.proofs.Laws.InRange.{valid_parts, clock_in, words_in}
use Rattle.checks.specs.Listed.{Listed}

module _ (e : Engine) (c : Command) where
  pub words_within : Listed 2 e c → WordsRange e.words
  words_within k = words_in e.words (valid_parts e k.on).words

  pub clock_within : Listed 3 e c → ClockRange e.clock
  clock_within k = clock_in e.clock (valid_parts e k.on).clock

  pub command_answer : Listed 2 e c
      → answer_of e c
      ≡ cond (passes e c 7)
      (cond (passes e c 8) (cond (passes e c 9) (cond (passes e c 10) (cond (passes e c 11) 0 11) 10) 9) 8)
      7
  unfolding answer_of checks
  command_answer k = rw (k.on, k.fields, k.op) refl

  pub arm_answer : Listed 3 e c
      → answer_of e c
      ≡ cond (ltb c.e c.f)
      (cond (eqb (generator e c.a).left 0) (cond (leb (shown e.clock) ((c.b * ns_per_second + c.c) * 256)) 0 14) 13)
      12
  unfolding answer_of checks
  arm_answer k = rw (k.on, k.fields, k.op) (simp not-not)

  -- of ops up to 8 number 5 asks nothing, nor do 16 and 17, and no op of them is a preview
  module _ (v : valid e ≡ true) (few : c.op ≤ 8) where
    known : ltb c.op 13 ≡ true
    known = lt-ltb c.op 13 (omega arith)

    other : (n : ℕ) → 8 < n → eqb c.op n ≡ false
    other n l = ne_eqb c.op n (λ z. omega arith)

    pub unlisted : fields_ok c ≡ false → answer_of e c ≡ 6
    unfolding answer_of checks
    unlisted f = rw (v, known, f) refl

    pub other_answer : fields_ok c ≡ true → (c.op ≡ 2 → ⊥) → (c.op ≡ 3 → ⊥)
        → answer_of e c ≡ cond (passes e c 15) 0 15
    unfolding answer_of checks
    other_answer f two three =
        simp (
          v,
          known,
          f,
          ne_eqb c.op 2 two,
          ne_eqb c.op 3 three,
          other 10 (omega arith),
          other 11 (omega arith),
          other 12 (omega arith),
        )

pub ruleset answers = (unlisted, other_answer)

pub ruleset arming = (arm_answer, clock_within)
