-- The field lists in plain arithmetic: each test of an op's list is one of order or equality, and a word has only bits
-- of the enable mask where none is above bit 13 and bit 7 is not set.
use Prim.Native.Nat.{ℕ, ◌/◌, ◌%◌, ◌^◌, ◌≤◌, ◌<◌}
use mathlib.Core.Path.{◌≡◌, refl, sym, ap, ◌∙◌}
use mathlib.Core.Logic.{◌⊎◌, inl, inr, ⊎_elim}
use mathlib.Core.Bool.{Bool, true, false, ◌||◌}
use native.Mathlib.Nat.{mod-eq_of_lt}
use native.Mathlib.Omega.{arith}
use lib.Dec.{eqb, leb}
use lib.ListN.{length, get_or, get_or-eq_default}
use borrow.Author.Tests as Test
use Rattle.model.specs.declared.Command.{Command}
use Rattle.model.specs.Units.{ns_per_second}
use Rattle.model.specs.Tests.{every, every_below}
use Rattle.model.specs.Interrupts.{bit, only_bits, enabled_mask}
use Rattle.model.specs.Ops.{ops}
use Rattle.model.specs.Fields
use Rattle.model.specs.Sentences.{ZeroFromF, ZeroFromD, ZeroFromB, Codes, IsGenerator, Arms, Listed}
use Rattle.model.proofs.Laws.Testing.{Every, facts, below_all, or_right}
use Rattle.model.proofs.Laws.Tables.{◌&◌, by_row}
use Rattle.model.proofs.Laws.Bits.{only_bits_lt, only_bits_le, only_bits_from}

-- every op of the table of ops has its list
pub every_op_listed : length Fields.field_lists ≡ length ops
every_op_listed = refl

-- an op's list is the row of its number, and past the last row nothing is listed
pub fields_of : (c : Command) (n : ℕ) → c.op ≡ n
    → every (get_or Fields.field_lists n Fields.no_fields c) ≡ Fields.fields_ok c
unfolding Fields.fields_ok Fields.field_tests
fields_of c n o = ap (λ (k : ℕ). every (get_or Fields.field_lists k Fields.no_fields c)) (sym o)

pub fields_past : (c : Command) → length Fields.field_lists ≤ c.op → every (Fields.no_fields c) ≡ Fields.fields_ok c
unfolding Fields.fields_ok Fields.field_tests
fields_past c past = rw (get_or-eq_default Fields.field_lists Fields.no_fields past)

-- one of two tests holds
pub one_holds : (a b : Bool) → (a || b) ≡ true → (a ≡ true) ⊎ (b ≡ true)
one_holds true b h = inl refl
one_holds false b h = inr h

-- the enable mask has every bit below 16 but 7, 14 and 15
mask_bit : ℕ → Bool
mask_bit j = eqb (bit j enabled_mask) 1 || (eqb j 7 || (eqb j 14 || eqb j 15))

mask_bits : every_below 16 mask_bit ≡ true
unfolding mask_bit
mask_bits = refl

module _ (x : ℕ) (low : x < 2 ^ 14) (clear : x / 2 ^ 7 % 2 ≡ 0) where
  bit_within : (j : ℕ) → j < 16 → bit j x ≤ bit j enabled_mask
  unfolding mask_bit
  bit_within j l =
      ⊎_elim
      (λ set. let one = Test.eqb-true (bit j enabled_mask) 1 set in omega arith)
      (λ other. ⊎_elim
      (λ seven. rw (Test.eqb-true j 7 seven) (omega arith))
      (λ high. ⊎_elim
      (λ h. rw (Test.eqb-true j 14 h) (omega arith))
      (λ h. rw (Test.eqb-true j 15 h) (omega arith))
      (one_holds (eqb j 14) (eqb j 15) high))
      (one_holds (eqb j 7) _ other))
      (one_holds (eqb (bit j enabled_mask) 1) _ (below_all 16 mask_bit mask_bits j l))

  pub mask_ok : only_bits enabled_mask x ≡ true
  mask_ok = only_bits_from enabled_mask x (omega arith) bit_within

mask_in : (x : ℕ) → only_bits enabled_mask x ≡ true → (x < 2 ^ 14) × (x / 2 ^ 7 % 2 ≡ 0)
mask_in x h =
    let low = only_bits_lt enabled_mask x h in
    let seven = only_bits_le enabled_mask x h 7 (omega arith) in
    let fourteen = only_bits_le enabled_mask x h 14 (omega arith) in
    let fifteen = only_bits_le enabled_mask x h 15 (omega arith) in
    let top : x / 2 ^ 15 % 2 ≡ x / 2 ^ 15 = mod-eq_of_lt (omega arith) in
    let half : x < 2 ^ 15 = omega arith in
    let next : x / 2 ^ 14 % 2 ≡ x / 2 ^ 14 = mod-eq_of_lt (omega arith) in
    (omega arith, omega arith)

-- what the tests say
generator_in : (n : ℕ) → Fields.is_generator n ≡ true → IsGenerator n
generator_in n h = ⊎_elim (λ a. inl (Test.eqb-true n 1 a)) (λ b. inr (Test.eqb-true n 2 b)) (one_holds _ _ h)

selector_in : (most none n : ℕ) → (leb n most || eqb n none) ≡ true → (n ≤ most) ⊎ (n ≡ none)
selector_in most none n h =
    ⊎_elim (λ a. inl (Test.leb-true n most a)) (λ b. inr (Test.eqb-true n none b)) (one_holds _ _ h)

pub listed_in : (c : Command) → Fields.fields_ok c ≡ true → Listed c
listed_in c ok = record {
  tick = λ o. let f = tests 0 o in omega (arith, Test.leb-true, Test.eqb-true);
  load = λ o. let f = tests 1 o in omega (arith, Test.ltb-true, Test.eqb-true);
  command = λ o.
      let f = tests 2 o in (
        selector_in 2 16 c.a f.0,
        selector_in 3 8 c.b f.1.0,
        omega (arith, Test.eqb-true),
        omega (arith, Test.eqb-true),
      );
  arm = λ o. let f = tests 3 o in (generator_in c.a f.0, omega (arith, Test.ltb-true, Test.leb-true));
  stop = λ o. let f = tests 4 o in (generator_in c.a f.0, omega (arith, Test.eqb-true));
  interrupts = λ o. let f = tests 5 o in omega (arith, Test.eqb-true);
  mask = λ o. let f = tests 6 o in let m = mask_in c.a f.0 in omega (arith, Test.eqb-true);
  status = λ o. let f = tests 7 o in omega (arith, Test.eqb-true);
  show = λ o. let f = tests 8 o in omega (arith, Test.eqb-true);
  run = λ o. let f = tests 9 o in omega (arith, Test.leb-true, Test.eqb-true);
  preview = λ o. let f = tests 10 o in omega (arith, Test.leb-true, Test.eqb-true);
  depart = λ o. let f = tests 11 o in omega (arith, Test.ltb-true, Test.eqb-true);
  recover = λ o. let f = tests 12 o in omega (arith, Test.ltb-true, Test.eqb-true);
}
  where
    tests : (n : ℕ) → c.op ≡ n → Every (get_or Fields.field_lists n Fields.no_fields c)
    tests n o = facts (get_or Fields.field_lists n Fields.no_fields c) (fields_of c n o ∙ ok)

-- and the other way round
generator_ok : (n : ℕ) → IsGenerator n → Fields.is_generator n ≡ true
generator_ok n (inl a) = rw a refl
generator_ok n (inr b) = rw b refl

selector_ok : (most none n : ℕ) → (n ≤ most) ⊎ (n ≡ none) → (leb n most || eqb n none) ≡ true
selector_ok most none n (inl a) = rw (Test.le-leb n most a) refl
selector_ok most none n (inr b) = or_right (leb n most) (eqb n none) (Test.eq-eqb n none b)

module _ (c : Command) where
  zero_from_f : ZeroFromF c → every (Fields.zero_from_f c) ≡ true
  zero_from_f z = rw (z.0, z.1, z.2) refl

  zero_from_d : ZeroFromD c → every (Fields.zero_from_d c) ≡ true
  zero_from_d z = rw (z.0, z.1, zero_from_f z.2) refl

  zero_from_b : ZeroFromB c → every (Fields.zero_from_b c) ≡ true
  zero_from_b z = rw (z.0, z.1, zero_from_d z.2) refl

  none_ok : (c.a ≡ 0) × ZeroFromB c → every (Fields.no_fields c) ≡ true
  none_ok h = rw (h.0, zero_from_b h.1) refl

  ticks_ok : (most : ℕ) → (1 ≤ c.a) × (c.a ≤ most) × ZeroFromB c → every (Fields.ticks_fields most c) ≡ true
  ticks_ok most h = rw (Test.le-leb 1 c.a h.0, Test.le-leb c.a most h.1, zero_from_b h.2) refl

  tick_ok : Codes c × ZeroFromD c → every (Fields.tick_fields c) ≡ true
  tick_ok h =
      rw (
        Test.le-leb c.a 16 h.0.input1,
        Test.le-leb c.b 16 h.0.input2,
        Test.le-leb c.c 16 h.0.input3,
        zero_from_d h.1,
      ) refl

  load_ok : (c.a < 2 ^ 16) × (c.b < 2 ^ 16) × (c.c < 2 ^ 16) × (c.d < 2 ^ 16) × (c.e < 2 ^ 16) × ZeroFromF c
      → every (Fields.load_fields c) ≡ true
  load_ok h =
      rw (
        Test.lt-ltb c.a (2 ^ 16) h.0,
        Test.lt-ltb c.b (2 ^ 16) h.1,
        Test.lt-ltb c.c (2 ^ 16) h.2,
        Test.lt-ltb c.d (2 ^ 16) h.3,
        Test.lt-ltb c.e (2 ^ 16) h.4,
        zero_from_f h.5,
      ) refl

  command_ok : ((c.a ≤ 2) ⊎ (c.a ≡ 16)) × ((c.b ≤ 3) ⊎ (c.b ≡ 8)) × (c.c ≡ 0) × ZeroFromD c
      → every (Fields.command_fields c) ≡ true
  command_ok h =
      rw (selector_ok 2 16 c.a h.0, selector_ok 3 8 c.b h.1, h.2, zero_from_d h.3) refl

  arm_ok : IsGenerator c.a × Arms c → every (Fields.arm_fields c) ≡ true
  arm_ok h =
      let n = h.1 in
      rw (
        generator_ok c.a h.0,
        Test.lt-ltb c.b (2 ^ 48) n.seconds,
        Test.lt-ltb c.c ns_per_second (omega arith),
        Test.le-leb 256 c.d n.whole.0,
        Test.le-leb c.d 999999999 n.whole.1,
        Test.lt-ltb c.e (2 ^ 32) n.numerator,
        Test.le-leb 1 c.f n.denominator.0,
        Test.lt-ltb c.f (2 ^ 32) n.denominator.1,
        Test.le-leb 1 c.g n.count.0,
        Test.lt-ltb c.g (2 ^ 32) n.count.1,
        Test.le-leb c.h 1 n.mark,
      ) refl

  stop_ok : IsGenerator c.a × ZeroFromB c → every (Fields.stop_fields c) ≡ true
  stop_ok h = rw (generator_ok c.a h.0, zero_from_b h.1) refl

  set_mask_ok : (c.a < 2 ^ 14) × (c.a / 2 ^ 7 % 2 ≡ 0) × ZeroFromB c → every (Fields.mask_fields c) ≡ true
  set_mask_ok h = rw (mask_ok c.a h.0 h.1, zero_from_b h.2) refl

  depart_ok : (c.a < 2 ^ 64) × ZeroFromB c → every (Fields.depart_fields c) ≡ true
  depart_ok h = rw (Test.lt-ltb c.a (2 ^ 64) h.0, zero_from_b h.1) refl

  recover_ok : (c.a < 2 ^ 48) × (c.b < 2 ^ 64) × (c.c ≡ 0) × ZeroFromD c → every (Fields.recover_fields c) ≡ true
  recover_ok h =
      rw (Test.lt-ltb c.a (2 ^ 48) h.0, Test.lt-ltb c.b (2 ^ 64) h.1, h.2, zero_from_d h.3) refl

  pub listed_ok : c.op ≤ 12 → Listed c → Fields.fields_ok c ≡ true
  unfolding Fields.fields_ok Fields.field_tests
  listed_ok few l =
      by_row (λ n list. c.op ≡ n → every (list c) ≡ true) Fields.field_lists c.op Fields.no_fields
      (
      (λ o. tick_ok (l.tick o))
      & (λ o. load_ok (l.load o))
      & (λ o. command_ok (l.command o))
      & (λ o. arm_ok (l.arm o))
      & (λ o. stop_ok (l.stop o))
      & (λ o. none_ok (l.interrupts o))
      & (λ o. set_mask_ok (l.mask o))
      & (λ o. none_ok (l.status o))
      & (λ o. none_ok (l.show o))
      & (λ o. ticks_ok 1000000 (l.run o))
      & (λ o. ticks_ok 1000 (l.preview o))
      & (λ o. depart_ok (l.depart o))
      & (λ o. recover_ok (l.recover o))
      & tt
      )
      (λ n past o. absurd (omega arith)) refl
