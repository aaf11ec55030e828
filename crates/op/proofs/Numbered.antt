-- A number that names an op is that op's: what a match on the op tells of the number.
use mathlib.Core.Path.{◌≡◌, refl, ◌∙◌, sym, ap}
use Prim.Native.Nat.{ℕ, ◌≤◌}
use native.Mathlib.Omega.{arith}
use Rattle.op.specs.declared.Op.{Op}
use Rattle.op.specs.declared.Op.TheVariants.{Tick, LoadWords, Command, Arm, Stop, ReadInterrupts, SetMask, ReadStatus}
use Rattle.op.specs.declared.Op.TheVariants.{ShowWords, Run, Preview, Depart, Recover}
use Rattle.op.specs.Numbers.{op_number}

pub named : {o p : Op} {n : ℕ} → op_number o ≡ n → o ≡ p → n ≡ op_number p
named names is = sym names ∙ ap op_number is

-- an op from 1 to 8 that is none of the first seven is the eighth
pub named_last : (o : Op)
    → (o ≡ LoadWords → ⊥) → (o ≡ Command → ⊥) → (o ≡ Arm → ⊥) → (o ≡ Stop → ⊥)
    → (o ≡ ReadInterrupts → ⊥) → (o ≡ SetMask → ⊥) → (o ≡ ReadStatus → ⊥)
    → 1 ≤ op_number o → op_number o ≤ 8
    → o ≡ ShowWords
named_last Tick n1 n2 n3 n4 n5 n6 n7 some few = absurd (omega arith)
named_last LoadWords n1 n2 n3 n4 n5 n6 n7 some few = absurd (n1 refl)
named_last Command n1 n2 n3 n4 n5 n6 n7 some few = absurd (n2 refl)
named_last Arm n1 n2 n3 n4 n5 n6 n7 some few = absurd (n3 refl)
named_last Stop n1 n2 n3 n4 n5 n6 n7 some few = absurd (n4 refl)
named_last ReadInterrupts n1 n2 n3 n4 n5 n6 n7 some few = absurd (n5 refl)
named_last SetMask n1 n2 n3 n4 n5 n6 n7 some few = absurd (n6 refl)
named_last ReadStatus n1 n2 n3 n4 n5 n6 n7 some few = absurd (n7 refl)
named_last ShowWords n1 n2 n3 n4 n5 n6 n7 some few = refl
named_last Run n1 n2 n3 n4 n5 n6 n7 some few = absurd (omega arith)
named_last Preview n1 n2 n3 n4 n5 n6 n7 some few = absurd (omega arith)
named_last Depart n1 n2 n3 n4 n5 n6 n7 some few = absurd (omega arith)
named_last Recover n1 n2 n3 n4 n5 n6 n7 some few = absurd (omega arith)
