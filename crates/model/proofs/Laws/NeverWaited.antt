-- Why a list that met no 11 stays as it was. By the rule before, an adjust write is accepted only where none runs, so
-- that the waiting place is never used; and where it is free, the two tables differ in a row that holds now, so that
-- the first failed check is the same unless it was that row.
use Prim.Native.Nat.{ℕ, zero, suc}
use mathlib.Core.Path.{◌≡◌, refl, ap, ◌∙◌}
use mathlib.Core.List.{List, [], ◌∷◌, ◌++◌}
use mathlib.Core.Bool.{Bool, true, false, not, cond, true≢false}
use native.Mathlib.Omega.{arith}
use lib.Dec.{eqb}
use lib.ListN.{take, drop}
use borrow.Author.Tests.{not-true, eqb-true, eq-eqb}
use Rattle.model.specs.declared.Engine.{Engine}
use Rattle.model.specs.declared.Command.{Command}
use Rattle.model.specs.declared.Outcome.{Outcome}
use Rattle.model.specs.declared.Steering.{Steering}
use Rattle.model.specs.declared.Adjustment.{Adjustment}
use Rattle.model.specs.Tests.{Check, check, first_failed}
use Rattle.model.specs.Clock.{no_adjustment, last_cycle, steering_after, adjusted_by}
use Rattle.model.specs.Record.{power_on}
use Rattle.model.specs.Tick.{tick_engine, no_inputs, ticks}
use Rattle.model.specs.RunLine.{run, ran}
use Rattle.model.specs.OtherOps.{adjust_written, written, read_engine, commanded, interrupts_read}
use Rattle.model.specs.Preview.{previewed}
use Rattle.model.specs.Departure.{departed, recovered}
use Rattle.model.specs.Ops.{performed}
use Rattle.model.specs.Checks.{adjusts, table, checked, checks, answer_of}
use Rattle.model.specs.Execute.{execute}
use Rattle.model.specs.Run.{Entry, entry_of, engine_by, history_by, engine_from, history_from}
use Rattle.model.specs.RuleBefore.{none_runs, table_before, answer_before, execute_before, none_got11}
use Rattle.model.proofs.Laws.Testing.{split, both, or_right, asked, Numbered, answer_none}
use Rattle.model.proofs.Laws.Accepting.{accepted_facts, by_op, by_write}
use Rattle.model.proofs.Laws.RunTicks.{ran_ticks}

-- a row that holds in the place of one numbered 11: the first failed check stays, unless it was 11
swap_here : (holds : Bool) (number next : ℕ) → number ≡ 11 → (cond holds next number ≡ 11 → ⊥)
    → next ≡ cond holds next number
swap_here true number next eleven n = refl
swap_here false number next eleven n = absurd (n eleven)

swap_below : (holds : Bool) (number new old : ℕ) → (cond holds old number ≡ 11 → ⊥)
    → ((old ≡ 11 → ⊥) → new ≡ old)
    → cond holds new number ≡ cond holds old number
swap_below true number new old n same = same n
swap_below false number new old n same = refl

swap : (above : List Check) (new old : Check) (below : List Check) → new.holds ≡ true → old.number ≡ 11
    → (first_failed (above ++ old ∷ below) ≡ 11 → ⊥)
    → first_failed (above ++ new ∷ below) ≡ first_failed (above ++ old ∷ below)
swap [] new old below h eleven n = rw h (swap_here old.holds old.number (first_failed below) eleven n)
swap (k ∷ ks) new old below h eleven n =
    swap_below k.holds k.number _ _ n (λ m. swap ks new old below h eleven m)

-- the waiting place is not used
abbrev Free : Engine → Type 0
Free e = e.steering.waiting ≡ no_adjustment

module _ (e : Engine) (c : Command) (free : Free e) where
  now : Check
  now = check 11 (adjusts c) (eqb e.steering.waiting.cycles 0)

  now_holds : now.holds ≡ true
  unfolding now
  now_holds = or_right (not (adjusts c)) _ (eq-eqb _ 0 (ap (λ (j : Adjustment). j.cycles) free))

  same_answer : (answer_before e c ≡ 11 → ⊥) → answer_of e c ≡ answer_before e c
  unfolding answer_of checks answer_before now
  same_answer n =
      swap (checked e c (take 7 table)) now (check 11 (adjusts c) (none_runs.asks e c)) (checked e c (drop 8 table))
      now_holds refl n

  pub same_outcome : (answer_before e c ≡ 11 → ⊥) → execute e c ≡ execute_before e c
  unfolding execute execute_before
  same_outcome n = rw (same_answer n)

-- an accepted adjust write found none running
numbered_before : (e : Engine) (c : Command) → Numbered 4 (checked e c table_before)
numbered_before e c = omega arith

none_ran : (e : Engine) (c : Command) → answer_before e c ≡ 0 → adjusts c ≡ true
    → eqb e.steering.adjustment.cycles 0 ≡ true
unfolding answer_before
none_ran e c h w = asked _ _ (answer_none 3 (checked e c table_before) (numbered_before e c) h 7) w

-- so no op uses the place: a tick empties it or leaves it
after_free : (s : Steering) → s.waiting ≡ no_adjustment → (steering_after s).waiting ≡ no_adjustment
unfolding steering_after
after_free s free =
    split (λ (x : Steering). x.waiting ≡ no_adjustment) (last_cycle s.adjustment) (λ z. refl) (λ z. free)

tick_free : (e : Engine) (c : Command) → Free e → Free (tick_engine e c)
unfolding tick_engine
tick_free e c free = after_free e.steering free

ticks_zero_free : (e : Engine) → Free e → Free (ticks 0 e)
unfolding ticks
ticks_zero_free e free = free

ticks_suc_free : (n : ℕ) (e : Engine) → Free (ticks n e) → Free (ticks (suc n) e)
unfolding ticks
ticks_suc_free n e free = tick_free (ticks n e) no_inputs free

ticks_free : (n : ℕ) (e : Engine) → Free e → Free (ticks n e)
ticks_free zero e free = ticks_zero_free e free
ticks_free (suc n) e free = ticks_suc_free n e (ticks_free n e free)

run_free : (a : ℕ) (e : Engine) → Free e → Free (ran e a).engine
unfolding ran
run_free a e free = rw (ran_ticks a e).engine (ticks_free (run a e).done e free)

-- an adjust write where none runs takes the other place
adjust_free : (e : Engine) → Free e → eqb e.steering.adjustment.cycles 0 ≡ true → Free (adjust_written e)
unfolding adjusted_by
adjust_free e free none = rw none free

write_free : (e : Engine) (a : ℕ) → Free e → (a ≡ 2 → eqb e.steering.adjustment.cycles 0 ≡ true)
    → Free (written e a)
write_free e a free none =
    by_write Free e a
    (record {
      time = λ z. search;
      period = λ z. search;
      adjust = λ z. adjust_free e free (none z);
      none = λ past. free;
    })

read_free : (e : Engine) (b : ℕ) → Free e → Free (read_engine e b)
unfolding read_engine
read_free e b free = split Free (eqb b 0) (λ z. free) (λ z. free)

command_free : (e : Engine) (a b : ℕ) → Free (written e a) → Free (commanded e a b).engine
unfolding commanded
command_free e a b free =
    split (λ (x : Outcome). Free x.engine) (eqb b 8) (λ z. free) (λ z. read_free (written e a) b free)

interrupts_free : (e : Engine) → Free e → Free (interrupts_read e).engine
unfolding interrupts_read
interrupts_free e free = free

performed_free : (e : Engine) (c : Command) → Free e → answer_before e c ≡ 0 → Free (performed e c).engine
unfolding previewed departed recovered
performed_free e c free h =
    let passed : answer_of e c ≡ 0 = same_answer e c free (λ z. omega arith) ∙ h in
    by_op (λ (x : Outcome). Free x.engine) e c (accepted_facts e c passed).op
    (record {
      tick = λ o. tick_free e c free;
      load = λ o. free;
      command = λ o. command_free e c.a c.b (write_free e c.a free (λ z. none_ran e c h (writes_adjust o z)));
      arm = λ o. free;
      stop = λ o. free;
      interrupts = λ o. interrupts_free e free;
      mask = λ o. free;
      status = λ o. free;
      show = λ o. free;
      run = λ o. run_free c.a e free;
      preview = λ o. free;
      depart = λ o. free;
      recover = λ o. free;
    })
  where
    writes_adjust : c.op ≡ 2 → c.a ≡ 2 → adjusts c ≡ true
    writes_adjust o a = rw (o, a) refl

execute_free : (e : Engine) (c : Command) → Free e → Free (execute_before e c).engine
unfolding execute_before
execute_free e c free =
    split (λ (x : Outcome). Free x.engine) (eqb (answer_before e c) 0)
    (λ z. performed_free e c free (eqb-true _ 0 z))
    (λ z. free)

pub list_free : (cs : List Command) (e : Engine) → Free e → Free (engine_by execute_before e cs)
unfolding engine_by
list_free [] e free = free
list_free (c ∷ cs) e free = list_free cs (execute_before e c).engine (execute_free e c free)

pub power_on_free : Free power_on
unfolding power_on
power_on_free = refl

-- an outcome that was not answered with 11
not_11 : (e : Engine) (c : Command) → eqb (execute_before e c).answer 11 ≡ false → answer_before e c ≡ 11 → ⊥
unfolding execute_before
not_11 e c h z = true≢false (rw z at h)

-- so every command of such a list gives what it gave
one_same : (c : Command) (cs : List Command) (e : Engine) → Free e
    → none_got11 (history_by execute_before e (c ∷ cs)) ≡ true
    → (execute e c ≡ execute_before e c)
    × (none_got11 (history_by execute_before (execute_before e c).engine cs) ≡ true)
unfolding history_by
one_same c cs e free h =
    let first = both (not (eqb (execute_before e c).answer 11)) _ h in
    (same_outcome e c free (not_11 e c (not-true _ first.0)), first.1)

pub record SameRun (cs : List Command) (e : Engine) : Type 0 where
  pub engine : engine_from e cs ≡ engine_by execute_before e cs
  pub history : history_from e cs ≡ history_by execute_before e cs

pub same_run : (cs : List Command) (e : Engine) → Free e → none_got11 (history_by execute_before e cs) ≡ true
    → SameRun cs e
unfolding engine_by history_by
same_run [] e free h = record { engine = refl; history = refl }
same_run (c ∷ cs) e free h =
    let one = one_same c cs e free h in
    let rest = same_run cs (execute_before e c).engine (execute_free e c free) one.1 in
    record {
      engine = ap (λ (o : Outcome). engine_from o.engine cs) one.0 ∙ rest.engine;
      history =
          ap (λ (o : Outcome). entry_of c o ∷ history_from o.engine cs) one.0
          ∙ ap (λ (xs : List Entry). entry_of c (execute_before e c) ∷ xs) rest.history;
    }
