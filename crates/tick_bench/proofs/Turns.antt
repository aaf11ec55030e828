-- A turn is one tick of the definition, and turns add up.
use Prim.Native.Nat.{ℕ, suc, ◌+◌, ◌-◌, ◌<◌, ◌≤◌}
use mathlib.Core.Path.{◌≡◌, refl, sym, ap, ◌∙◌}
use mathlib.Core.Bool.{true}
use native.Mathlib.Omega.{arith}
use Rattle.std.specs.Prelude.{Ok, Err}
use Rattle.std.specs.Int.Bits.{bit_or, or_zero_r}
use Rattle.model.specs.declared.Engine.{Engine}
use Rattle.model.specs.declared.Command.{Command}
use Rattle.model.specs.declared.Outcome.{Outcome}
use Rattle.model.specs.Ranges.{valid}
use Rattle.model.specs.Execute.{execute}
use Rattle.model.proofs.Laws.Valid.{execute_valid}
use Rattle.change.specs.declared.Change.{Change}
use Rattle.change.specs.declared.refusal.Refusal.{Refusal}
use Rattle.change.specs.Refusals.{number_of}
use Rattle.change.specs.Changes.{Gives}
use Rattle.tick_bench.specs.declared.Run.{Run}
use Rattle.tick_bench.specs.Ticks.{told_by, ticks, TicksTo}

module _ (t : Run) (c : Command) (v : valid t.engine ≡ true) where
  module _ (e : Engine) (told : ℕ) (engine_is : e ≡ (execute t.engine c).engine)
      (told_is : told ≡ told_by t.told (execute t.engine c)) where
    ticked_once : TicksTo t c 1 (record { engine = e; told = told })
    unfolding ticks
    ticked_once = record {
      is = λ i. record { engine = engine_is i; told = told_is i };
      keeps = ap valid engine_is ∙ execute_valid t.engine c v;
    }

  pub accepted_tick : (m : Change) (e : Engine) → Gives t.engine c (execute t.engine c) (Ok m)
      → e ≡ (execute t.engine c).engine
      → TicksTo t c 1 (record { engine = e; told = bit_or (bit_or t.told m.values.w1) m.values.w2 })
  accepted_tick m e g is =
      ticked_once _ _ is
      (ap (λ x. bit_or (bit_or x m.values.w1) m.values.w2) (sym (or_zero_r t.told)) ∙ ap (told_by t.told) g.is)

  pub refused_tick : (r : Refusal) → Gives t.engine c (execute t.engine c) (Err r)
      → TicksTo t c 1 (record { engine = t.engine; told = bit_or t.told (number_of r) })
  refused_tick r g =
      ticked_once _ _ (ap (λ (o : Outcome). o.engine) g.is)
      (sym (or_zero_r _ ∙ or_zero_r (bit_or t.told (number_of r))) ∙ ap (told_by t.told) g.is)

-- a turn runs the first of the ticks left, so what is left leads from the record after it to the same end
pub turn_leads : {t r : Run} {c : Command} (n i : ℕ) → TicksTo t c 1 r → i < n
    → ticks c (n - (i + 1)) r ≡ ticks c (n - i) t
unfolding ticks
turn_leads {t} {r} {c} n i once more =
    let first : n - i ≡ suc (n - (i + 1)) = omega arith in
    rw (first, once.is) refl

pub none_left : (t : Run) (c : Command) (n i : ℕ) → n ≤ i → ticks c (n - i) t ≡ t
unfolding ticks
none_left t c n i over =
    let none : n - i ≡ 0 = omega arith in
    rw none refl
