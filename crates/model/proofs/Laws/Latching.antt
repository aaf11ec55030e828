-- The interrupt bits at the numbers that document 01 gives them. The positions of the table are distinct, so that an
-- event sets its own bit and no other; and a latched bit is a bit of the table, so that bit 14 sees each one.
use Prim.Native.Nat.{ℕ, zero, suc, ◌+◌, ◌%◌, ◌/◌, ◌<◌, ◌≤◌, ◌^◌}
use mathlib.Core.Path.{◌≡◌, refl, sym, ap, ◌∙◌}
use mathlib.Core.List.{List, [], ◌∷◌}
use mathlib.Core.Bool.{Bool, true, false, ◌&&◌, ◌||◌, not, cond, or-false, or-true, true≢false}
use native.Mathlib.Omega.{arith}
use native.Mathlib.Nat.{mod-eq_of_lt}
use lib.ListN.{length, get_or}
use lib.Dec.{eqb, leb}
use borrow.Author.Tests.{eqb-true, eqb-false, eq-eqb, ne_eqb, not-true}
use Rattle.model.specs.declared.Engine.{Engine}
use Rattle.model.specs.declared.Command.{Command}
use Rattle.model.specs.declared.Generator.{Generator}
use Rattle.model.specs.Tests.{every_below}
use Rattle.model.specs.Clock.{last_cycle}
use Rattle.model.specs.Edges.{edge_code}
use Rattle.model.specs.Fifo.{captures_first, overflows}
use Rattle.model.specs.Generator.{is_due, eighth_of, placed, completes_event, completes_sequence}
use Rattle.model.specs.Interrupts
use Rattle.model.specs.Tick.{tick_events, tick_engine, tick_values}
use Rattle.model.specs.OtherOps.{interrupts_read, status_of}
use Rattle.model.specs.Ranges.{valid}
use Rattle.model.proofs.Laws.Testing.{split, both, or_right, below_all}
use Rattle.model.proofs.Laws.InRange.{valid_parts}
use Rattle.model.proofs.Laws.Bits.{bit_with_same, bit_with_other, with_bit_lt, only_bits_lt, only_bits_le}
use Rattle.model.proofs.Laws.Parts.{interrupts_in}

-- a position is in no place of a table; a table has no position twice
abbrev absent : ℕ → List ℕ → Bool
absent k [] = true
absent k (j ∷ js) = not (eqb k j) && absent k js

abbrev distinct : List ℕ → Bool
distinct [] = true
distinct (k ∷ ks) = absent k ks && distinct ks

module _ (k j x : ℕ) where
  kept : (event : Bool) → (k ≡ j → ⊥)
      → Interrupts.has_bit k (cond event (Interrupts.with_bit j x) x) ≡ Interrupts.has_bit k x
  kept true n = ap (λ (b : ℕ). eqb b 1) (bit_with_other k j x n)
  kept false n = refl

  set : (event : Bool)
      → Interrupts.has_bit k (cond event (Interrupts.with_bit k x) x) ≡ (Interrupts.has_bit k x || event)
  set true = ap (λ (b : ℕ). eqb b 1) (bit_with_same k x) ∙ sym (or-true (Interrupts.has_bit k x))
  set false = sym (or-false (Interrupts.has_bit k x))

-- latching leaves a bit of no position alone
latch_absent : (k : ℕ) (ks : List ℕ) (events : List Bool) (x : ℕ) → absent k ks ≡ true
    → Interrupts.has_bit k (Interrupts.latch ks events x) ≡ Interrupts.has_bit k x
unfolding Interrupts.latch
latch_absent k [] events x h = refl
latch_absent k (j ∷ js) [] x h = refl
latch_absent k (j ∷ js) (event ∷ events) x h =
    let p = both (not (eqb k j)) (absent k js) h in
    latch_absent k js events (cond event (Interrupts.with_bit j x) x) p.1
    ∙ kept k j x event (eqb-false k j (not-true (eqb k j) p.0))

absent_at : (k : ℕ) (ks : List ℕ) (i : ℕ) → absent k ks ≡ true → i < length ks → get_or ks i 0 ≡ k → ⊥
absent_at k [] i h l e = omega arith
absent_at k (j ∷ js) zero h l e = eqb-false k j (not-true (eqb k j) (both (not (eqb k j)) (absent k js) h).0) (sym e)
absent_at k (j ∷ js) (suc i) h l e = absent_at k js i (both (not (eqb k j)) (absent k js) h).1 (omega arith) e

-- and sets the bit of each position whose event came
latch_at : (ks : List ℕ) (events : List Bool) (x i : ℕ) → distinct ks ≡ true → i < length ks
    → Interrupts.has_bit (get_or ks i 0) (Interrupts.latch ks events x)
    ≡ (Interrupts.has_bit (get_or ks i 0) x || get_or events i false)
unfolding Interrupts.latch
latch_at [] events x i d l = absurd (omega arith)
latch_at (k ∷ ks) [] x i d l = sym (or-false (Interrupts.has_bit (get_or (k ∷ ks) i 0) x))
latch_at (k ∷ ks) (event ∷ events) x zero d l =
    latch_absent k ks events (cond event (Interrupts.with_bit k x) x) (both (absent k ks) (distinct ks) d).0
    ∙ set k k x event
latch_at (k ∷ ks) (event ∷ events) x (suc i) d l =
    let p = both (absent k ks) (distinct ks) d in
    latch_at ks events (cond event (Interrupts.with_bit k x) x) i p.1 (omega arith)
    ∙ ap (λ (b : Bool). b || get_or events i false)
    (kept (get_or ks i 0) k x event (absent_at k ks i p.0 (omega arith)))

-- bit k after a tick: it was set, or its event came
abbrev Sets : Engine → Command → ℕ → Bool → Type 0
Sets e c k event =
    Interrupts.has_bit k (tick_engine e c).interrupts.latched ≡ (Interrupts.has_bit k e.interrupts.latched || event)

-- an edge of generator 1 or 2, as its code is returned
abbrev edge1 : Engine → Bool
edge1 e = not (eqb (tick_values e).w1 0)

abbrev edge2 : Engine → Bool
edge2 e = not (eqb (tick_values e).w2 0)

-- what a tick latches, bit by bit
pub record TickLatches (e : Engine) (c : Command) : Type 0 where
  pub TAC : Sets e c 0 (eqb e.steering.adjustment.cycles 1)
  pub P1EC : Sets e c 1 (edge1 e && eqb e.generator1.mark 1)
  pub P1SC : Sets e c 2 (edge1 e && eqb e.generator1.left 1)
  pub P2EC : Sets e c 4 (edge2 e && eqb e.generator2.mark 1)
  pub P2SC : Sets e c 5 (edge2 e && eqb e.generator2.left 1)
  pub TS1NE : Sets e c 8 (not (eqb c.a 0) && eqb e.fifo1.count 0)
  pub TS1OF : Sets e c 9 (not (eqb c.a 0) && leb 8 e.fifo1.count)
  pub TS2NE : Sets e c 10 (not (eqb c.b 0) && eqb e.fifo2.count 0)
  pub TS2OF : Sets e c 11 (not (eqb c.b 0) && leb 8 e.fifo2.count)
  pub TS3NE : Sets e c 12 (not (eqb c.c 0) && eqb e.fifo3.count 0)
  pub TS3OF : Sets e c 13 (not (eqb c.c 0) && leb 8 e.fifo3.count)

-- a code is returned exactly where the generator is due
code_some : (direction p : ℕ) → eqb (edge_code direction p) 0 ≡ false
code_some direction p =
    split (λ (x : ℕ). eqb x 0 ≡ false) (eqb direction 0)
    (λ z. ne_eqb (p + 9) 0 (λ n. omega arith))
    (λ z. ne_eqb (p + 1) 0 (λ n. omega arith))

pub placed_due : (g : Generator) (a s : ℕ) → not (eqb (placed g a s) 0) ≡ is_due g a s
unfolding placed
placed_due g a s = by (is_due g a s)
  where
    by : (b : Bool) → not (eqb (cond b (edge_code g.direction (eighth_of g a s)) 0) 0) ≡ b
    by true = ap not (code_some g.direction (eighth_of g a s))
    by false = refl

pub tick_latches : (e : Engine) (c : Command) → TickLatches e c
unfolding tick_engine tick_events tick_values last_cycle captures_first overflows completes_event completes_sequence
tick_latches e c =
    let at : (i : ℕ) → i < 11
    → Interrupts.has_bit (get_or Interrupts.positions i 0) (tick_engine e c).interrupts.latched
    ≡ (Interrupts.has_bit (get_or Interrupts.positions i 0) e.interrupts.latched || get_or (tick_events e c) i false) =
    λ i l. latch_at Interrupts.positions (tick_events e c) e.interrupts.latched i refl l
    in
    record {
      TAC = at 0 (omega arith);
      P1EC = rw placed_due (at 1 (omega arith));
      P1SC = rw placed_due (at 2 (omega arith));
      P2EC = rw placed_due (at 3 (omega arith));
      P2SC = rw placed_due (at 4 (omega arith));
      TS1NE = at 5 (omega arith);
      TS1OF = at 6 (omega arith);
      TS2NE = at 7 (omega arith);
      TS2OF = at 8 (omega arith);
      TS3NE = at 9 (omega arith);
      TS3OF = at 10 (omega arith);
    }

-- op 5. The bits that can be latched are those of the table
abbrev in_table : ℕ → Bool
in_table k = not (Interrupts.has_bit k Interrupts.latched_mask) || not (absent k Interrupts.positions)

in_table_lem : every_below 16 in_table ≡ true
in_table_lem = refl

latched_low : (x : ℕ) → Interrupts.only_bits Interrupts.latched_mask x ≡ true → x < 2 ^ 14
latched_low x h =
    let w = only_bits_lt Interrupts.latched_mask x h in
    let c : x / 2 ^ 15 % 2 ≤ 0 = only_bits_le Interrupts.latched_mask x h 15 (omega arith) in
    let b : x / 2 ^ 14 % 2 ≤ 0 = only_bits_le Interrupts.latched_mask x h 14 (omega arith) in
    let c_few : x / 2 ^ 15 < 2 = omega arith in
    let c_none : x / 2 ^ 15 ≤ 0 = rw (mod-eq_of_lt c_few) at c in
    let b_few : x / 2 ^ 14 < 2 = omega arith in
    let b_none : x / 2 ^ 14 ≤ 0 = rw (mod-eq_of_lt b_few) at b in
    omega arith

not_both : (a b : Bool) → (not a || not b) ≡ true → a ≡ true → b ≡ false
not_both true b h e = not-true b h
not_both false b h e = cc

latched_present : (k x : ℕ) → Interrupts.only_bits Interrupts.latched_mask x ≡ true → k < 16
    → Interrupts.has_bit k x ≡ true → absent k Interrupts.positions ≡ false
latched_present k x h l b =
    let set = eqb-true (Interrupts.bit k x) 1 b in
    let most = only_bits_le Interrupts.latched_mask x h k l in
    let one : Interrupts.bit k Interrupts.latched_mask ≡ 1 = omega arith in
    not_both _ (absent k Interrupts.positions) (below_all 16 in_table in_table_lem k l) (eq-eqb _ _ one)

both_any : (k : ℕ) (ks : List ℕ) (x m : ℕ) → absent k ks ≡ false → Interrupts.has_bit k x ≡ true
    → Interrupts.has_bit k m ≡ true → Interrupts.any_both ks x m ≡ true
unfolding Interrupts.any_both
both_any k [] x m a hx hm = absurd (true≢false a)
both_any k (j ∷ js) x m a hx hm = by (eqb k j) refl a (λ n. both_any k js x m n hx hm)
  where
    by : (b : Bool) → eqb k j ≡ b → (not b && absent k js) ≡ false
        → (absent k js ≡ false → Interrupts.any_both js x m ≡ true)
        → (Interrupts.has_bit j x && Interrupts.has_bit j m || Interrupts.any_both js x m) ≡ true
    by true e a rest =
        let same = eqb-true k j e in
        simp (rw same at hx, rw same at hm)
    by false e a rest = or_right (Interrupts.has_bit j x && Interrupts.has_bit j m) _ (rest a)

none_any : (ks : List ℕ) (x m : ℕ)
    → ((k : ℕ) → Interrupts.has_bit k x ≡ true → Interrupts.has_bit k m ≡ true → ⊥) → Interrupts.any_both ks x m ≡ false
unfolding Interrupts.any_both
none_any [] x m n = refl
none_any (j ∷ js) x m n = by (Interrupts.has_bit j x) refl (Interrupts.has_bit j m) refl (none_any js x m n)
  where
    by : (b : Bool) → Interrupts.has_bit j x ≡ b → (d : Bool) → Interrupts.has_bit j m ≡ d
        → Interrupts.any_both js x m ≡ false
        → (b && d || Interrupts.any_both js x m) ≡ false
    by true hx true hm rest = absurd (n j hx hm)
    by true hx false hm rest = rest
    by false hx d hm rest = rest

-- bit k is latched, and enabled in the mask too
abbrev pub Raises : Engine → ℕ → Type 0
Raises e k =
    (Interrupts.has_bit k e.interrupts.latched ≡ true) × (Interrupts.has_bit k e.interrupts.enabled ≡ true)

-- what a read of the latched bits returns and leaves
pub record InterruptsRead (e : Engine) (word left : ℕ) : Type 0 where
  pub bits : (k : ℕ) → k < 14 → Interrupts.has_bit k word ≡ Interrupts.has_bit k e.interrupts.latched
  pub bit14 : (k : ℕ) → k < 16 → Raises e k → Interrupts.has_bit 14 word ≡ true
  pub not14 : ((k : ℕ) → Raises e k → ⊥) → Interrupts.has_bit 14 word ≡ false
  pub others : word < 2 ^ 15
  pub cleared : left ≡ 0

-- the returned word is the latched one, with bit 14 set where some bit is enabled
word_bits : (x m : ℕ) → x < 2 ^ 14
    → Interrupts.interrupt_word x m ≡ cond (Interrupts.any_both Interrupts.positions x m) (Interrupts.with_bit 14 x) x
unfolding Interrupts.interrupt_word Interrupts.with_bit
word_bits x m low = by (Interrupts.any_both Interrupts.positions x m)
  where
    by : (b : Bool) → x + cond b (2 ^ 14) 0 ≡ cond b (cond (Interrupts.has_bit 14 x) x (x + 2 ^ 14)) x
    by true = rw (ne_eqb (Interrupts.bit 14 x) 1 (λ z. omega arith))
    by false = omega arith

pub interrupts_read_lem : (e : Engine) → valid e ≡ true
    → InterruptsRead e (interrupts_read e).values.w1 (interrupts_read e).engine.interrupts.latched
unfolding interrupts_read
interrupts_read_lem e v =
    let x = e.interrupts.latched in
    let m = e.interrupts.enabled in
    let only = (interrupts_in e.interrupts (valid_parts e v).interrupts).0 in
    let low = latched_low x only in
    rw (word_bits x m low)
    (record {
      bits = λ k l. kept k 14 x (Interrupts.any_both Interrupts.positions x m) (λ z. omega arith);
      bit14 = λ k l h.
          rw (both_any k Interrupts.positions x m (latched_present k x only l h.0) h.0 h.1)
          (ap (λ (b : ℕ). eqb b 1) (bit_with_same 14 x));
      not14 = λ n.
          rw (none_any Interrupts.positions x m (λ k hx hm. n k (hx, hm)))
          (ne_eqb (Interrupts.bit 14 x) 1 (λ z. omega arith));
      others =
          split (λ (y : ℕ). y < 2 ^ 15) (Interrupts.any_both Interrupts.positions x m)
          (λ z. with_bit_lt 15 14 x (omega arith) (omega arith))
          (λ z. omega arith);
      cleared = refl;
    })

-- op 7: bits 9, 8 and 7 tell that FIFOs 3, 2 and 1 are not empty, and no other bit is set
pub record StatusBits (empty1 empty2 empty3 : Bool) (word : ℕ) : Type 0 where
  pub bit9 : Interrupts.has_bit 9 word ≡ not empty3
  pub bit8 : Interrupts.has_bit 8 word ≡ not empty2
  pub bit7 : Interrupts.has_bit 7 word ≡ not empty1
  pub below : word % 2 ^ 7 ≡ 0
  pub above : word < 2 ^ 10

status_bits : (a b c : Bool) → StatusBits a b c (Interrupts.status_word a b c)
unfolding Interrupts.status_word
status_bits true true true = search arith
status_bits true true false = search arith
status_bits true false true = search arith
status_bits true false false = search arith
status_bits false true true = search arith
status_bits false true false = search arith
status_bits false false true = search arith
status_bits false false false = search arith

pub status_read : (e : Engine)
    → StatusBits (eqb e.fifo1.count 0) (eqb e.fifo2.count 0) (eqb e.fifo3.count 0) (status_of e)
unfolding status_of
status_read e = status_bits (eqb e.fifo1.count 0) (eqb e.fifo2.count 0) (eqb e.fifo3.count 0)
