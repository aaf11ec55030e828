-- The field lists: number 6. Document 01, "Command sheet"; op 9, document 02, A.1; op 10, A.5; ops 11 and 12, A.7.
-- Unlisted fields must be 0.
use Rattle.std.specs.Prelude.{ℕ, ◌^◌, List, [], ◌∷◌, Bool, ◌||◌, eqb, leb, ltb, get_or}
use Rattle.model.specs.declared.Command.{Command}
use Rattle.model.specs.Tests.{every}
use Rattle.model.specs.Interrupts.{only_bits, enabled_mask}
use Rattle.model.specs.Ranges.{seconds_ok, nanoseconds_ok, word_ok}

-- the fields from each one on are 0
abbrev pub zero_from_f : Command → List Bool
zero_from_f c = eqb c.f 0 ∷ eqb c.g 0 ∷ eqb c.h 0 ∷ []

abbrev pub zero_from_d : Command → List Bool
zero_from_d c = eqb c.d 0 ∷ eqb c.e 0 ∷ zero_from_f c

abbrev pub zero_from_b : Command → List Bool
zero_from_b c = eqb c.b 0 ∷ eqb c.c 0 ∷ zero_from_d c

abbrev pub is_generator : ℕ → Bool
is_generator n = eqb n 1 || eqb n 2

-- op 0, tick: the codes of inputs 1 to 3
abbrev pub tick_fields : Command → List Bool
tick_fields c = leb c.a 16 ∷ leb c.b 16 ∷ leb c.c 16 ∷ zero_from_d c

-- op 1, load words
abbrev pub load_fields : Command → List Bool
load_fields c = word_ok c.a ∷ word_ok c.b ∷ word_ok c.c ∷ word_ok c.d ∷ word_ok c.e ∷ zero_from_f c

-- op 2, command: write selector 0 to 2, or 16 none; read selector 0 to 3, or 8 none
abbrev pub command_fields : Command → List Bool
command_fields c =
    (leb c.a 2 || eqb c.a 16) ∷ (leb c.b 3 || eqb c.b 8) ∷ eqb c.c 0 ∷ zero_from_d c

-- op 3, arm: generator, seconds, ns, W, N, D, count, mark
abbrev pub arm_fields : Command → List Bool
arm_fields c =
    is_generator c.a
    ∷ seconds_ok c.b
    ∷ nanoseconds_ok c.c
    ∷ leb 256 c.d
    ∷ leb c.d 999999999
    ∷ ltb c.e (2 ^ 32)
    ∷ leb 1 c.f
    ∷ ltb c.f (2 ^ 32)
    ∷ leb 1 c.g
    ∷ ltb c.g (2 ^ 32)
    ∷ leb c.h 1
    ∷ []

-- op 4, stop
abbrev pub stop_fields : Command → List Bool
stop_fields c = is_generator c.a ∷ zero_from_b c

-- op 6, set the enable mask
abbrev pub mask_fields : Command → List Bool
mask_fields c = only_bits enabled_mask c.a ∷ zero_from_b c

-- ops 5, 7 and 8
abbrev pub no_fields : Command → List Bool
no_fields c = eqb c.a 0 ∷ zero_from_b c

-- a number of ticks, from 1 on
abbrev pub ticks_fields : ℕ → Command → List Bool
ticks_fields most c = leb 1 c.a ∷ leb c.a most ∷ zero_from_b c

-- op 9, run: 1 to 1,000,000
abbrev pub run_fields : Command → List Bool
run_fields = ticks_fields 1000000

-- op 10, preview: 1 to 1,000
abbrev pub preview_fields : Command → List Bool
preview_fields = ticks_fields 1000

-- op 11: a correctionField, 64 bits
abbrev pub depart_fields : Command → List Bool
depart_fields c = ltb c.a (2 ^ 64) ∷ zero_from_b c

-- op 12: software seconds, and a correctionField
abbrev pub recover_fields : Command → List Bool
recover_fields c = seconds_ok c.a ∷ ltb c.b (2 ^ 64) ∷ eqb c.c 0 ∷ zero_from_d c

-- the list of each op, by its number
abbrev pub field_lists : List (Command → List Bool)
field_lists =
    tick_fields ∷ load_fields ∷ command_fields ∷ arm_fields ∷ stop_fields ∷ no_fields
    ∷ mask_fields ∷ no_fields ∷ no_fields
    ∷ run_fields
    ∷ preview_fields
    ∷ depart_fields
    ∷ recover_fields
    ∷ []

unfoldable pub field_tests : Command → List Bool
field_tests c = get_or field_lists c.op no_fields c

unfoldable pub fields_ok : Command → Bool
fields_ok c = every (field_tests c)
