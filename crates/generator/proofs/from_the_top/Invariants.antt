-- While an eighth starts after the instant, those below it give the whole answer.
use Rattle.std.proofs.Common.{◌≡◌, ℕ, ◌*◌, ◌-◌, ◌<◌, leb}
use Rattle.model.specs.Generator.{first_of}
use Rattle.model.proofs.Laws.Eighths.{down_from}
use Rattle.generator.specs.Advance.{topmost}
use Rattle.generator.proofs.from_the_top.Given as goal

-- the answer among the eighths from p down
abbrev pub among : ℕ → ℕ → ℕ → ℕ
among ahead length p = first_of (λ x. leb (x * length) ahead) (down_from p)

abbrev pub invariant-loop-p : goal.invariant-loop-p
invariant-loop-p l = (0 < l.p) × (among l.ahead l.length (l.p - 1) ≡ topmost l.ahead l.length)
