-- The number of each op, and which numbers name none. Document 01, "Command sheet"; document 02, A.1, A.5 and A.7.
use Rattle.std.specs.Prelude.{ℕ, ◌≤◌, ◌≡◌, Result, Ok, Err}
use Rattle.change.specs.declared.refusal.Refusal.{Refusal}
use Rattle.change.specs.declared.refusal.Refusal.TheVariants as refusal
use Rattle.op.specs.declared.Op.{Op}
use Rattle.op.specs.declared.Op.TheVariants.{Tick, LoadWords, Command, Arm, Stop, ReadInterrupts, SetMask, ReadStatus}
use Rattle.op.specs.declared.Op.TheVariants.{ShowWords, Run, Preview, Depart, Recover}

abbrev pub op_number : Op → ℕ
op_number Tick = 0
op_number LoadWords = 1
op_number Command = 2
op_number Arm = 3
op_number Stop = 4
op_number ReadInterrupts = 5
op_number SetMask = 6
op_number ReadStatus = 7
op_number ShowWords = 8
op_number Run = 9
op_number Preview = 10
op_number Depart = 11
op_number Recover = 12

-- a number names this op, or, past the last, none
abbrev pub Names : ℕ → Result Op Refusal → Type 0
Names n (Ok op) = op_number op ≡ n
Names n (Err r) = (13 ≤ n) × (r ≡ refusal.Op)
