-- The definition goes through the table and the events in step, so its word is that of one source after the other.
use Prim.Native.Nat.{ℕ}
use mathlib.Core.Path.{◌≡◌, refl}
use mathlib.Core.List.{[], ◌∷◌}
use mathlib.Core.Bool.{Bool}
use Rattle.model.specs.Interrupts.{positions, latch}
use Rattle.interrupts.specs.declared.Source.TheVariants.{Tac, P1Ec, P1Sc, P2Ec, P2Sc, Ts1Ne, Ts1Of, Ts2Ne, Ts2Of}
use Rattle.interrupts.specs.declared.Source.TheVariants.{Ts3Ne, Ts3Of}
use Rattle.interrupts.specs.Position.{latch_one, latch_two}

pub latch_in_turn : (TAC P1EC P1SC P2EC P2SC TS1NE TS1OF TS2NE TS2OF TS3NE TS3OF : Bool) (word : ℕ)
    → let p1 = latch_two P1Ec P1EC P1Sc P1SC (latch_one Tac TAC word) in
    let ts1 = latch_two Ts1Ne TS1NE Ts1Of TS1OF (latch_two P2Ec P2EC P2Sc P2SC p1) in
    latch positions
    (TAC ∷ P1EC ∷ P1SC ∷ P2EC ∷ P2SC ∷ TS1NE ∷ TS1OF ∷ TS2NE ∷ TS2OF ∷ TS3NE ∷ TS3OF ∷ [])
    word
    ≡ latch_two Ts3Ne TS3NE Ts3Of TS3OF (latch_two Ts2Ne TS2NE Ts2Of TS2OF ts1)
unfolding latch latch_one latch_two
latch_in_turn TAC P1EC P1SC P2EC P2SC TS1NE TS1OF TS2NE TS2OF TS3NE TS3OF word = refl
