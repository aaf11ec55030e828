-- What is left of a table at i is its entry at i and what is left at i + 1, so one turn of a loop over the table is
-- one step of the definition.
use mathlib.Core.Path.{◌≡◌}
use mathlib.Core.List.{List}
use mathlib.Core.Bool.{Bool, ◌&&◌, ◌||◌}
use Prim.Native.Nat.{ℕ, ◌+◌, ◌<◌}
use native.Mathlib.Numerals.{add-one}
use lib.ListN.{length, get_or, drop}
use lib.Seq.{drop-cons}
use Rattle.model.specs.Interrupts.{has_bit, any_both}

pub any_turn : (ks : List ℕ) (latched enabled i : ℕ) → i < length ks → (test : Bool)
    → (has_bit (get_or ks i 0) latched && has_bit (get_or ks i 0) enabled) ≡ test
    → any_both (drop i ks) latched enabled ≡ (test || any_both (drop (i + 1) ks) latched enabled)
unfolding any_both
any_turn ks latched enabled i l test h = rw (add-one, drop-cons ks i 0, h)
