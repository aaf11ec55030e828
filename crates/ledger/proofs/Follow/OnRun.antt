-- An accepted run keeps the agreement: each of its ticks does, a tick that places no edge adds none to the ledger, and
-- the edges of the last one are booked with the ledger before its step. Nothing here knows of the formula.
use Prim.Native.Nat.{ℕ, zero, suc, ◌-◌, ◌≤◌, ◌<◌}
use mathlib.Core.Path.{◌≡◌, refl, ap}
use mathlib.Core.List.{append-nil}
use mathlib.Core.Bool.{true}
use native.Mathlib.Omega.{arith}
use Rattle.model.specs.declared.Engine.{Engine}
use Rattle.model.specs.declared.Command.{Command}
use Rattle.model.specs.declared.Words.{Words}
use Rattle.model.specs.Words.{no_words}
use Rattle.model.specs.Tick.{tick_values, no_inputs, ticks}
use Rattle.model.specs.RunLine.{ticks_told, run, ran}
use Rattle.model.specs.Ranges.{valid}
use Rattle.model.specs.Run.{Entry, entry_of}
use Rattle.ledger.specs.Ledger.{Ledger, ledger_ticks, ledger_edges}
use Rattle.ledger.specs.Bookings.{edges_in, booked, told}
use Rattle.model.proofs.Laws.InRange.{Valid, valid_parts}
use Rattle.model.proofs.Laws.RunTicks.{last_values, ran_ticks, ticks_valid}
use Rattle.ledger.proofs.Follow.Agrees.{Agrees, after}
use Rattle.ledger.proofs.Follow.OnTick.{tick_agrees}

-- m ticks, of which the last returned the codes of an entry
abbrev ticked : ℕ → Ledger → Entry → Ledger
ticked m l x =
    ledger_edges (ledger_ticks m l) (edges_in 1 (ledger_ticks (m - 1) l) x) (edges_in 2 (ledger_ticks (m - 1) l) x)

-- the entry of a tick that returned nothing
abbrev quiet : Entry
quiet = record { command = no_inputs; answer = 0; values = no_words }

module _ (e : Engine) (l : Ledger) (h : Agrees e l) where
  -- ticks that place no edge
  none : Agrees (ticks 0 e) (ledger_ticks 0 l)
  unfolding ticks ledger_ticks
  none = h

  quiet_on : (m : ℕ) → Valid (ticks m e) → tick_values (ticks m e) ≡ no_words → Agrees (ticks m e) (ledger_ticks m l)
      → Agrees (ticks (suc m) e) (ledger_ticks (suc m) l)
  unfolding ticks ledger_ticks
  quiet_on m v q a =
      let one : 0 ≡ (tick_values (ticks m e)).w1 = rw q refl in
      let two : 0 ≡ (tick_values (ticks m e)).w2 = rw q refl in
      simp append-nil at (tick_agrees (ticks m e) (ledger_ticks m l) no_inputs quiet v a one two)

  quiet_ticks : (m : ℕ)
      → ((k : ℕ) → k < m → Valid (ticks k e))
      → ((k : ℕ) → k < m → tick_values (ticks k e) ≡ no_words)
      → Agrees (ticks m e) (ledger_ticks m l)
  quiet_ticks zero v q = none
  quiet_ticks (suc m) v q =
      quiet_on m (v m (omega arith)) (q m (omega arith))
      (quiet_ticks m (λ k l. v k (omega arith)) (λ k l. q k (omega arith)))

  -- and one more, which may place edges
  last_none : (x : Entry) → x.values.w1 ≡ 0 → x.values.w2 ≡ 0 → Agrees (ticks 0 e) (ticked 0 l x)
  unfolding ticks ledger_ticks
  last_none x one two = simp (one, two, append-nil) h

  last_on : (m : ℕ) (x : Entry) → Valid (ticks m e)
      → x.values.w1 ≡ (tick_values (ticks m e)).w1
      → x.values.w2 ≡ (tick_values (ticks m e)).w2
      → Agrees (ticks m e) (ledger_ticks m l)
      → Agrees (ticks (suc m) e) (ticked (suc m) l x)
  unfolding ticks ledger_ticks
  last_on m x v one two a =
      let same : suc m - 1 ≡ m = omega arith in
      rw same (tick_agrees (ticks m e) (ledger_ticks m l) no_inputs x v a one two)

  ticks_agree : (m : ℕ) (x : Entry)
      → ((k : ℕ) → k ≤ m → Valid (ticks k e))
      → ((k : ℕ) → suc k < m → tick_values (ticks k e) ≡ no_words)
      → x.values.w1 ≡ (last_values m e).w1
      → x.values.w2 ≡ (last_values m e).w2
      → Agrees (ticks m e) (ticked m l x)
  ticks_agree zero x v q one two = last_none x one two
  ticks_agree (suc m) x v q one two =
      last_on m x (v m (omega arith)) one two
      (quiet_ticks m (λ k l. v k (omega arith)) (λ k l. q k (omega arith)))

-- op 9: v3 and v4 tell the ticks done
ticks_told_lem : (e : Engine) (a : ℕ) → ticks_told (ran e a).values ≡ (run a e).done
unfolding ran
ticks_told_lem e a = omega arith

ran_accepted : (e : Engine) (a : ℕ) → (ran e a).answer ≡ 0
unfolding ran
ran_accepted e a = refl

op_9_told : (e : Engine) (l : Ledger) (c : Command) → c.op ≡ 9
    → after l c (ran e c.a) ≡ ticked (run c.a e).done l (entry_of c (ran e c.a))
unfolding told booked
op_9_told e l c o = rw (o, ran_accepted e c.a, ticks_told_lem e c.a)

op_9_left : (e : Engine) (c : Command) → (ran e c.a).engine ≡ ticks (run c.a e).done e
unfolding ran
op_9_left e c = (ran_ticks c.a e).engine

op_9_codes : (e : Engine) (c : Command)
    → let v = last_values (run c.a e).done e in
    ((ran e c.a).values.w1 ≡ v.w1) × ((ran e c.a).values.w2 ≡ v.w2)
unfolding ran
op_9_codes e c =
    let r = (ran_ticks c.a e).values in
    (ap (λ (w : Words). w.w1) r, ap (λ (w : Words). w.w2) r)

pub op_9_agrees : (e : Engine) (l : Ledger) (c : Command) → valid e ≡ true → Agrees e l → c.op ≡ 9
    → Agrees (ran e c.a).engine (after l c (ran e c.a))
op_9_agrees e l c v h o =
    let codes = op_9_codes e c in
    rw (op_9_told e l c o, op_9_left e c)
    (ticks_agree e l h (run c.a e).done (entry_of c (ran e c.a))
    (ticks_valid c.a e (valid_parts e v)) (ran_ticks c.a e).silent codes.0 codes.1)
