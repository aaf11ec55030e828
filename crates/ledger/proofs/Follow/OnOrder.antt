-- Accepted ops 3 and 4: a generator and its order are replaced together, and its edges begin anew. A fresh order has
-- no edge and instant 0 pending; a stopped generator has no order, no edge and is idle.
use Prim.Native.Nat.{ℕ, ◌+◌, ◌*◌, ◌≤◌}
use mathlib.Core.Path.{◌≡◌, refl, ap}
use mathlib.Core.List.{[]}
use mathlib.Core.Bool.{Bool, true, false, not}
use native.Mathlib.Omega.{arith}
use native.Mathlib.Nat.{mul-le-mul_right}
use lib.Dec.{eqb}
use borrow.Author.Tests.{ne_eqb}
use Rattle.model.specs.declared.Engine.{Engine}
use Rattle.model.specs.declared.Command.{Command}
use Rattle.model.specs.declared.Generator.{Generator}
use Rattle.model.specs.Units.{ns_per_second}
use Rattle.model.specs.Words.{no_words}
use Rattle.model.specs.Clock.{shown}
use Rattle.model.specs.Generator.{idle_generator}
use Rattle.model.specs.Record.{with_generator}
use Rattle.model.specs.Outcome.{accepted}
use Rattle.model.specs.OtherOps.{armed_by}
use Rattle.ledger.specs.Ledger.{Order, none, Ledger, ledger_order, order_of}
use Rattle.ledger.specs.Bookings.{booked, told}
use Rattle.model.specs.Sentences.{Arms}
use Rattle.ledger.proofs.Laws.FractionValues.{is_over}
use Rattle.model.proofs.Laws.Listed.{listed_in}
use Rattle.model.proofs.Laws.Accepting.{Accepted}
use Rattle.ledger.proofs.Follow.Train.{running}
use Rattle.ledger.proofs.Follow.Agrees.{Follows, Agrees, after}

order_agrees : (e : Engine) (l : Ledger) (n : ℕ) (g : Generator) (o : Order) → Agrees e l
    → Follows o [] g (shown e.clock)
    → Agrees (with_generator e n g) (ledger_order l n o)
order_agrees e l n g o h f = by (eqb n 1) refl
  where
    by : (b : Bool) → eqb n 1 ≡ b → Agrees (with_generator e n g) (ledger_order l n o)
    by true z = rw z (search)
    by false z = rw z (search)

armed_follows : (c : Command) (now : ℕ) → Arms c → Follows (order_of c) [] (armed_by c) now
armed_follows c now f = record {
  s = c.b * ns_per_second + c.c;
  i = c.d * c.f + c.e;
  d = c.f;
  order = record {
    start_is = is_over (c.b * ns_per_second + c.c) 1 (omega arith);
    interval_is = record { den = omega arith; unit = f.denominator.0; value = omega arith };
    wide = let m : 256 * c.f ≤ c.d * c.f = mul-le-mul_right c.f f.whole.0 in omega arith;
  };
  alternating = tt;
  lags = tt;
  behind = λ k m. absurd (omega arith);
  stands = running (ap not (ne_eqb c.g 0 (λ z. omega arith))) refl refl (omega arith) (omega arith) refl;
}

-- op 3
pub arm_agrees : (e : Engine) (l : Ledger) (c : Command) → Agrees e l → Accepted e c → c.op ≡ 3
    → Agrees (with_generator e c.a (armed_by c))
    (after l c (accepted no_words (with_generator e c.a (armed_by c))))
unfolding told booked
arm_agrees e l c h k o =
    rw o (order_agrees e l c.a (armed_by c) (order_of c) h (armed_follows c _ ((listed_in c k.fields).arm o).1))

-- op 4
pub stop_agrees : (e : Engine) (l : Ledger) (c : Command) → Agrees e l → c.op ≡ 4
    → Agrees (with_generator e c.a idle_generator)
    (after l c (accepted no_words (with_generator e c.a idle_generator)))
unfolding told booked
stop_agrees e l c h o = rw o (order_agrees e l c.a idle_generator none h (refl, refl))
