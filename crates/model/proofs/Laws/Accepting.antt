-- What an accepted command has passed. The answer is 0 exactly when every check of the table holds, and each check,
-- where it applies, is then a fact.
use Prim.Native.Nat.{ℕ, ◌+◌, ◌*◌, ◌-◌, ◌<◌, ◌≤◌}
use mathlib.Core.Path.{◌≡◌, refl, sym, ap, ◌∙◌}
use mathlib.Core.Bool.{Bool, true, false, not, true≢false}
use native.Mathlib.Omega.{arith}
use lib.Dec.{eqb}
use lib.ListN.{length, get_or}
use borrow.Author.Tests.{ltb-true, leb-true, eqb-true, eqb-false, eq-eqb, ne_eqb}
use Rattle.model.specs.declared.Engine.{Engine}
use Rattle.model.specs.declared.Command.{Command}
use Rattle.model.specs.declared.Outcome.{Outcome}
use Rattle.model.specs.Units.{ns_per_second}
use Rattle.model.specs.Words
use Rattle.model.specs.Clock.{shown}
use Rattle.model.specs.Fifo.{is_empty}
use Rattle.model.specs.Generator.{idle_generator}
use Rattle.model.specs.Record
use Rattle.model.specs.Outcome.{refused, accepted}
use Rattle.model.specs.Tick
use Rattle.model.specs.RunLine
use Rattle.model.specs.OtherOps
use Rattle.model.specs.Preview
use Rattle.model.specs.Departure
use Rattle.model.specs.Ops
use Rattle.model.specs.Ranges.{valid}
use Rattle.model.specs.Fields
use Rattle.model.specs.Checks
use Rattle.model.specs.Execute.{execute}
use Rattle.model.proofs.Laws.Testing.{split, both, asked, Numbered, answer_none}
use Rattle.model.proofs.Laws.Tables.{◌&◌, by_row}

-- the checks are numbered 4, 5, .. in the order of the table
pub numbered : (e : Engine) (c : Command) → Numbered 4 (Checks.checks e c)
unfolding Checks.checks
numbered e c = omega arith

-- the facts of an accepted command
pub record Accepted (e : Engine) (c : Command) : Type 0 where
  pub valid : valid e ≡ true
  pub op : c.op < length Ops.ops
  pub fields : Fields.fields_ok c ≡ true
  pub check7 : Checks.reads_fifo c ≡ true → not (is_empty (Record.fifo e c.b)) ≡ true
  pub check8 : Checks.writes 0 c ≡ true
      → (Words.nanoseconds_in e.words ≤ 999999999) × (Words.above_nanoseconds e.words ≡ 0)
  pub check9 : Checks.writes_amount c ≡ true → 1 ≤ Words.whole_in e.words
  pub check10 : Checks.adjusts c ≡ true → 1 ≤ Words.count_in e.words
  pub check11 : Checks.adjusts c ≡ true → e.steering.waiting.cycles ≡ 0
  pub check12 : Checks.is_op 3 c ≡ true → c.e < c.f
  pub check14 : Checks.is_op 3 c ≡ true → shown e.clock ≤ (c.b * ns_per_second + c.c) * 256
  pub check15 : Checks.ticks_first c ≡ true → Tick.ends_in_time e ≡ true
  pub check15previewed : c.op ≡ 10 → Tick.in_time_for c.a (OtherOps.adjust_written e) ≡ true
  pub check16 : Checks.is_op 11 c ≡ true → Departure.stays_signed e.clock c.a ≡ true
  pub check17 : Checks.is_op 12 c ≡ true → Departure.is_time c.a c.b ≡ true

-- ops 0 and 9 begin with a tick
pub tick_first : (c : Command) → c.op ≡ 0 → Checks.ticks_first c ≡ true
tick_first c o = rw o refl

pub run_first : (c : Command) → c.op ≡ 9 → Checks.ticks_first c ≡ true
run_first c o = rw o refl

-- what 15 asks of an op that begins with a tick, and of a preview
first_asked : (e : Engine) (c : Command) → Checks.passes e c 15 ≡ true → Checks.ticks_first c ≡ true
    → Tick.ends_in_time e ≡ true
unfolding Checks.checks
first_asked e c h first = by (Checks.is_op 10 c) refl (asked (Checks.is_ticking c) _ h (rw first refl))
  where
    by : (b : Bool) → Checks.is_op 10 c ≡ b → Checks.in_time b e c.a ≡ true → Tick.ends_in_time e ≡ true
    by true o t = absurd (true≢false (sym first ∙ rw (eqb-true c.op 10 o) refl))
    by false o t = t

preview_asked : (e : Engine) (c : Command) → Checks.passes e c 15 ≡ true → c.op ≡ 10
    → Tick.in_time_for c.a (OtherOps.adjust_written e) ≡ true
unfolding Checks.checks
preview_asked e c h o = rw o at h

pub accepted_facts : (e : Engine) (c : Command) → Checks.answer_of e c ≡ 0 → Accepted e c
unfolding Checks.answer_of Checks.checks
accepted_facts e c h =
    let passed : (n : ℕ) → Checks.passes e c n ≡ true =
    λ n. answer_none 3 (Checks.checks e c) (numbered e c) h (n - 4)
    in
    record {
      valid = passed 4;
      op = ltb-true _ _ (passed 5);
      fields = passed 6;
      check7 = asked _ _ (passed 7);
      check8 = λ a. let p = both _ _ (asked _ _ (passed 8) a) in (leb-true _ _ p.0, eqb-true _ _ p.1);
      check9 = λ a. leb-true _ _ (both _ _ (asked _ _ (passed 9) a)).0;
      check10 = λ a. leb-true _ _ (asked _ _ (passed 10) a);
      check11 = λ a. eqb-true _ _ (asked _ _ (passed 11) a);
      check12 = λ a. ltb-true _ _ (asked _ _ (passed 12) a);
      check14 = λ a. leb-true _ _ (asked _ _ (passed 14) a);
      check15 = first_asked e c (passed 15);
      check15previewed = preview_asked e c (passed 15);
      check16 = asked _ _ (passed 16);
      check17 = asked _ _ (passed 17);
    }

-- an outcome by the answer: a refusal with the number of the first failed check, or the op performed
pub by_answer : (P : Outcome → Type 0) (e : Engine) (c : Command)
    → ((Checks.answer_of e c ≡ 0 → ⊥) → P (refused e (Checks.answer_of e c)))
    → (Accepted e c → P (Ops.performed e c))
    → P (execute e c)
unfolding execute
by_answer P e c f g =
    split P (eqb (Checks.answer_of e c) 0)
    (λ z. g (accepted_facts e c (eqb-true _ _ z)))
    (λ z. f (eqb-false _ _ z))

-- a performed command is its op's row, and by its op
pub performed_row : (e : Engine) (c : Command) (n : ℕ) → c.op ≡ n
    → Ops.performed e c ≡ get_or Ops.ops n Ops.unknown e c
unfolding Ops.performed
performed_row e c n o = ap (λ (k : ℕ). get_or Ops.ops k Ops.unknown e c) o

pub record ByOp (P : Outcome → Type 0) (e : Engine) (c : Command) : Type 0 where
  pub tick : c.op ≡ 0 → P (accepted (Tick.tick_values e) (Tick.tick_engine e c))
  pub load : c.op ≡ 1 → P (accepted Words.no_words (Record.with_words e (OtherOps.loaded_words c)))
  pub command : c.op ≡ 2 → P (OtherOps.commanded e c.a c.b)
  pub arm : c.op ≡ 3 → P (accepted Words.no_words (Record.with_generator e c.a (OtherOps.armed_by c)))
  pub stop : c.op ≡ 4 → P (accepted Words.no_words (Record.with_generator e c.a idle_generator))
  pub interrupts : c.op ≡ 5 → P (OtherOps.interrupts_read e)
  pub mask : c.op ≡ 6 → P (accepted Words.no_words (OtherOps.mask_set e c.a))
  pub status : c.op ≡ 7 → P (accepted (OtherOps.just_first (OtherOps.status_of e)) e)
  pub show : c.op ≡ 8 → P (accepted e.words e)
  pub run : c.op ≡ 9 → P (RunLine.ran e c.a)
  pub preview : c.op ≡ 10 → P (Preview.previewed e c.a)
  pub depart : c.op ≡ 11 → P (Departure.departed e c.a)
  pub recover : c.op ≡ 12 → P (Departure.recovered e c.a c.b)

pub by_op : (P : Outcome → Type 0) (e : Engine) (c : Command) → c.op < length Ops.ops → ByOp P e c
    → P (Ops.performed e c)
unfolding Ops.performed
by_op P e c few by =
    by_row (λ n op. c.op ≡ n → P (op e c)) Ops.ops c.op Ops.unknown
    (
    by.tick & by.load & by.command & by.arm & by.stop & by.interrupts & by.mask & by.status & by.show & by.run
    & by.preview & by.depart & by.recover & tt
    )
    (λ n past o. absurd (omega arith)) refl

-- what a write leaves, by its selector
pub record ByWrite (P : Engine → Type 0) (e : Engine) (selector : ℕ) : Type 0 where
  pub time : selector ≡ 0 → P (OtherOps.time_written e)
  pub period : selector ≡ 1 → P (OtherOps.period_written e)
  pub adjust : selector ≡ 2 → P (OtherOps.adjust_written e)
  pub none : 3 ≤ selector → P e

pub by_write : (P : Engine → Type 0) (e : Engine) (selector : ℕ) → ByWrite P e selector
    → P (OtherOps.written e selector)
unfolding OtherOps.written
by_write P e selector by =
    by_row (λ n write. selector ≡ n → P (write e)) OtherOps.writings selector (λ e. e)
    (search) (λ n past o. by.none (omega arith)) refl

pub commanded_accepted : (e : Engine) (write read : ℕ) → (OtherOps.commanded e write read).answer ≡ 0
unfolding OtherOps.commanded
commanded_accepted e write read = split (λ (x : Outcome). x.answer ≡ 0) (eqb read 8) (λ y. refl) (λ y. refl)

performed_answer : (e : Engine) (c : Command) → c.op < length Ops.ops → (Ops.performed e c).answer ≡ 0
unfolding OtherOps.interrupts_read RunLine.ran Preview.previewed Departure.departed Departure.recovered
performed_answer e c few =
    by_op (λ (x : Outcome). x.answer ≡ 0) e c few
    (record {
      tick = λ o. refl;
      load = λ o. refl;
      command = λ o. commanded_accepted e c.a c.b;
      arm = λ o. refl;
      stop = λ o. refl;
      interrupts = λ o. refl;
      mask = λ o. refl;
      status = λ o. refl;
      show = λ o. refl;
      run = λ o. refl;
      preview = λ o. refl;
      depart = λ o. refl;
      recover = λ o. refl;
    })

-- the answer of an outcome is the number of the first failed check
pub execute_answer : (e : Engine) (c : Command) → (execute e c).answer ≡ Checks.answer_of e c
unfolding execute
execute_answer e c =
    split (λ (x : Outcome). x.answer ≡ Checks.answer_of e c) (eqb (Checks.answer_of e c) 0)
    (λ z. let h = eqb-true _ _ z in performed_answer e c (accepted_facts e c h).op ∙ sym h)
    (λ z. refl)

pub execute_refused : (e : Engine) (c : Command) → ((execute e c).answer ≡ 0 → ⊥)
    → execute e c ≡ refused e (execute e c).answer
unfolding execute
execute_refused e c n =
    let z : Checks.answer_of e c ≡ 0 → ⊥ = λ h. n (execute_answer e c ∙ h) in
    rw (ne_eqb (Checks.answer_of e c) 0 z)

pub execute_accepted : (e : Engine) (c : Command) → (execute e c).answer ≡ 0
    → Accepted e c × (execute e c ≡ Ops.performed e c)
unfolding execute
execute_accepted e c h =
    let z = sym (execute_answer e c) ∙ h in
    (accepted_facts e c z, rw (eq-eqb (Checks.answer_of e c) 0 z))
