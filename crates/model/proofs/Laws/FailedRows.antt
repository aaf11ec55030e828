-- Why each number has its sentence. A row of the table fails where it applies and its test fails, and every test is one
-- of order or equality, so that it fails exactly when the numbers stand the other way.
use Prim.Native.Nat.{ℕ, ◌+◌, ◌*◌, ◌/◌, ◌%◌, ◌^◌, ◌≤◌, ◌<◌}
use mathlib.Core.Path.{◌≡◌, refl, sym, ◌∙◌}
use mathlib.Core.Logic.{◌⊎◌, inl, inr, ⊎_elim}
use mathlib.Core.Bool.{Bool, true, false, ◌&&◌, ◌||◌, not, true≢false, and-false}
use native.Mathlib.Decide.{ℕ_discrete}
use native.Mathlib.Omega.{arith}
use lib.Dec.{eqb, leb, ltb}
use borrow.Author.Tests as Test
use Rattle.model.specs.declared.Engine.{Engine}
use Rattle.model.specs.declared.Command.{Command}
use Rattle.model.specs.Units.{ns_per_second}
use Rattle.model.specs.Words.{nanoseconds_in, above_nanoseconds, whole_in, below_frac, count_in}
use Rattle.model.specs.Clock.{shown}
use Rattle.model.specs.Fifo.{is_empty}
use Rattle.model.specs.Generator.{is_running}
use Rattle.model.specs.Record.{fifo, generator}
use Rattle.model.specs.Fields.{fields_ok}
use Rattle.model.specs.Checks.{last_number, is_op, reads_fifo, writes, adjusts, writes_amount, checks, passes}
use Rattle.model.specs.Execute.{execute}
use Rattle.model.specs.Sentences.{Comes, IsWrite, IsAdjust, IsRead, Listed}
use Rattle.model.proofs.Laws.Testing.{both, both_true, neither, or_left, or_right}
use Rattle.model.proofs.Laws.Outcomes.{answer_cause, cause_answer, accepted_passes}
use Rattle.model.proofs.Laws.Waiting.{adjusts_as}
use Rattle.model.proofs.Laws.Listed.{listed_in, listed_ok}

-- a row that fails, and tests of which one fails or holds
pub row_fails : (applies test : Bool) → (not applies || test) ≡ false → (applies ≡ true) × (test ≡ false)
row_fails true test h = (refl, h)
row_fails false test h = absurd (true≢false h)

pub fails_row : (applies test : Bool) → applies ≡ true → test ≡ false → (not applies || test) ≡ false
fails_row applies test a t = rw (a, t) refl

pub one_fails : (a b : Bool) → (a && b) ≡ false → (a ≡ false) ⊎ (b ≡ false)
one_fails true b h = inr h
one_fails false b h = inl refl

one_holds : (a b : Bool) → (a || b) ≡ true → (a ≡ true) ⊎ (b ≡ true)
one_holds true b h = inl refl
one_holds false b h = inr h

-- which command a row applies to
writes_as : (n : ℕ) (c : Command) → writes n c ≡ true → IsWrite n c
writes_as n c h =
    let t = both (is_op 2 c) (eqb c.a n) h in
    (Test.eqb-true c.op 2 t.0, Test.eqb-true c.a n t.1)

writes_ok : (n : ℕ) (c : Command) → IsWrite n c → writes n c ≡ true
writes_ok n c w = both_true _ _ (Test.eq-eqb c.op 2 w.0) (Test.eq-eqb c.a n w.1)

pub adjusts_ok : (c : Command) → IsAdjust c → adjusts c ≡ true
adjusts_ok c (inl w) = rw (writes_ok 2 c w) refl
adjusts_ok c (inr o) = or_right (writes 2 c) (is_op 10 c) (Test.eq-eqb c.op 10 o)

module _ (e : Engine) (c : Command) where
  -- the checks above number n pass
  abbrev pub Above : ℕ → Type 0
  Above n = (m : ℕ) → 4 ≤ m → m < n → passes e c m ≡ true

  above : (n : ℕ) → n ≤ last_number → ((execute e c).answer ≡ 0) ⊎ (n ≤ (execute e c).answer) → Above n
  above n few (inl none) m low l = accepted_passes e c none m low (omega arith)
  above n few (inr h) m low l =
      (answer_cause e c (execute e c).answer (omega arith) refl).above m low (omega arith)

  -- so the number comes where its row fails
  pub comes : (n : ℕ) → 4 ≤ n → n ≤ last_number → (holds : Type 0)
      → (Above n → passes e c n ≡ false → holds)
      → (Above n → holds → passes e c n ≡ false)
      → Comes n e c holds
  comes n low few holds to from reached =
      let a = above n few reached in (
        (λ h. to a (answer_cause e c n low h).fails),
        (λ h. cause_answer e c n low (record { fails = from a h; above = a })),
      )

  pub number_5 : Comes 5 e c (12 < c.op)
  unfolding checks
  number_5 =
      comes 5 (omega arith) (omega arith) _
      (λ a h. omega (arith, Test.ltb-false c.op 13 h))
      (λ a h. Test.le-ltb c.op 13 (omega arith))

  -- number 6, where number 5 has not come
  known : {n : ℕ} → 5 < n → Above n → c.op ≤ 12
  unfolding checks
  known l a = omega (arith, Test.ltb-true c.op 13 (a 5 (omega arith) l))

  pub number_6 : Comes 6 e c (Listed c → ⊥)
  unfolding checks
  number_6 =
      comes 6 (omega arith) (omega arith) _
      (λ a h l. true≢false (sym (listed_ok c (known (omega arith) a) l) ∙ h))
      (λ a h. by (fields_ok c) refl h)
    where
      by : (b : Bool) → fields_ok c ≡ b → (Listed c → ⊥) → b ≡ false
      by true ok h = absurd (h (listed_in c ok))
      by false ok h = refl

  pub listed : {n : ℕ} → 6 < n → Above n → Listed c
  unfolding checks
  listed l a = listed_in c (a 6 (omega arith) l)

  -- number 7
  abbrev EmptyRead : Type 0
  EmptyRead =
      (IsRead 1 c × (e.fifo1.count ≡ 0)) ⊎ (IsRead 2 c × (e.fifo2.count ≡ 0)) ⊎ (IsRead 3 c × (e.fifo3.count ≡ 0))

  read_by : c.op ≡ 2 → 1 ≤ c.b → c.b ≤ 3 → is_empty (fifo e c.b) ≡ true → EmptyRead
  read_by o low high empty =
      elim (ℕ_discrete c.b 1) [
        | yes one ↦ inl ((o, one), Test.eqb-true e.fifo1.count 0 (rw one at empty))
        | no m ↦ elim (ℕ_discrete c.b 2) [
          | yes two ↦ inr (inl ((o, two), Test.eqb-true e.fifo2.count 0 (rw two at empty)))
          | no n ↦
              let three : c.b ≡ 3 = omega arith in
              inr (inr ((o, three), Test.eqb-true e.fifo3.count 0 (rw three at empty)))
        ]
      ]

  empty_fails : EmptyRead → passes e c 7 ≡ false
  unfolding checks
  empty_fails (inl h) = rw (h.0.0, h.0.1, Test.eq-eqb e.fifo1.count 0 h.1) refl
  empty_fails (inr (inl h)) = rw (h.0.0, h.0.1, Test.eq-eqb e.fifo2.count 0 h.1) refl
  empty_fails (inr (inr h)) = rw (h.0.0, h.0.1, Test.eq-eqb e.fifo3.count 0 h.1) refl

  pub number_7 : Comes 7 e c EmptyRead
  unfolding checks
  number_7 =
      comes 7 (omega arith) (omega arith) _
      (λ a h.
      let f = row_fails (reads_fifo c) (not (is_empty (fifo e c.b))) h in
      let t = both (is_op 2 c && leb 1 c.b) (leb c.b 3) f.0 in
      let s = both (is_op 2 c) (leb 1 c.b) t.0 in
      read_by (Test.eqb-true c.op 2 s.0) (Test.leb-true 1 c.b s.1) (Test.leb-true c.b 3 t.1)
      (Test.not-false _ f.1))
      (λ a h. empty_fails h)

  -- number 8
  abbrev BadTime : Type 0
  BadTime = (999999999 < e.words.w5 % 2 ^ 14 * 2 ^ 16 + e.words.w4) ⊎ (2 ^ 14 ≤ e.words.w5)

  time_fails : BadTime → (leb (nanoseconds_in e.words) 999999999 && eqb (above_nanoseconds e.words) 0) ≡ false
  unfolding nanoseconds_in above_nanoseconds
  time_fails (inl h) = rw (Test.lt-leb (e.words.w5 % 2 ^ 14 * 2 ^ 16 + e.words.w4) 999999999 h) refl
  time_fails (inr h) =
      rw (Test.ne_eqb (e.words.w5 / 2 ^ 14) 0 (λ z. omega arith))
      (and-false (leb (e.words.w5 % 2 ^ 14 * 2 ^ 16 + e.words.w4) 999999999))

  fails_time : (leb (nanoseconds_in e.words) 999999999 && eqb (above_nanoseconds e.words) 0) ≡ false → BadTime
  unfolding nanoseconds_in above_nanoseconds
  fails_time h =
      ⊎_elim
      (λ n. inl (Test.leb-false (e.words.w5 % 2 ^ 14 * 2 ^ 16 + e.words.w4) 999999999 n))
      (λ n. inr (omega (arith, Test.eqb-false (e.words.w5 / 2 ^ 14) 0 n)))
      (one_fails _ _ h)

  pub number_8 : Comes 8 e c (IsWrite 0 c × BadTime)
  unfolding checks
  number_8 =
      comes 8 (omega arith) (omega arith) _
      (λ a h. let f = row_fails (writes 0 c) _ h in (writes_as 0 c f.0, fails_time f.1))
      (λ a h. fails_row (writes 0 c) _ (writes_ok 0 c h.0) (time_fails h.1))

  -- number 9
  abbrev BadAmount : Type 0
  BadAmount = ((IsWrite 1 c ⊎ IsAdjust c) × (e.words.w5 < 2 ^ 8)) ⊎ (IsWrite 1 c × (0 < e.words.w3 % 2 ^ 8))

  amount_kind : writes_amount c ≡ true → IsWrite 1 c ⊎ IsAdjust c
  amount_kind h = ⊎_elim (λ w. inl (writes_as 1 c w)) (λ j. inr (adjusts_as c j)) (one_holds (writes 1 c) (adjusts c) h)

  kind_amount : IsWrite 1 c ⊎ IsAdjust c → writes_amount c ≡ true
  kind_amount (inl w) = rw (writes_ok 1 c w) refl
  kind_amount (inr j) = or_right (writes 1 c) (adjusts c) (adjusts_ok c j)

  fails_amount : writes_amount c ≡ true
      → (leb 1 (whole_in e.words) && (adjusts c || eqb (below_frac e.words) 0)) ≡ false
      → BadAmount
  unfolding whole_in below_frac
  fails_amount w h =
      ⊎_elim
      (λ n. inl (amount_kind w, omega (arith, Test.leb-false 1 (e.words.w5 / 2 ^ 8) n)))
      (λ n.
      let byte = neither (adjusts c) (eqb (e.words.w3 % 2 ^ 8) 0) n in
      inr (
        writes_as 1 c (or_left (writes 1 c) (adjusts c) w byte.0),
        omega (arith, Test.eqb-false (e.words.w3 % 2 ^ 8) 0 byte.1),
      ))
      (one_fails (leb 1 (e.words.w5 / 2 ^ 8)) (adjusts c || eqb (e.words.w3 % 2 ^ 8) 0) h)

  amount_fails : BadAmount → passes e c 9 ≡ false
  unfolding checks whole_in below_frac
  amount_fails (inl h) =
      fails_row (writes_amount c) _ (kind_amount h.0)
      (rw (Test.lt-leb 1 (e.words.w5 / 2 ^ 8) (omega arith)) refl)
  amount_fails (inr h) =
      rw (h.0.0, h.0.1, Test.ne_eqb (e.words.w3 % 2 ^ 8) 0 (λ z. omega arith))
      (and-false (leb 1 (e.words.w5 / 2 ^ 8)))

  pub number_9 : Comes 9 e c BadAmount
  unfolding checks
  number_9 =
      comes 9 (omega arith) (omega arith) _
      (λ a h. let f = row_fails (writes_amount c) _ h in fails_amount f.0 f.1)
      (λ a h. amount_fails h)

  -- numbers 10 and 11
  pub number_10 : Comes 10 e c (IsAdjust c × (e.words.w3 % 2 ^ 8 ≡ 0) × (e.words.w2 ≡ 0))
  unfolding checks count_in
  number_10 =
      comes 10 (omega arith) (omega arith) _
      (λ a h.
      let f = row_fails (adjusts c) _ h in
      let none = Test.leb-false 1 (e.words.w3 % 2 ^ 8 * 2 ^ 16 + e.words.w2) f.1 in
      (adjusts_as c f.0, omega arith, omega arith))
      (λ a h.
      fails_row (adjusts c) _ (adjusts_ok c h.0)
      (Test.lt-leb 1 (e.words.w3 % 2 ^ 8 * 2 ^ 16 + e.words.w2) (omega arith)))

  pub number_11 : Comes 11 e c (IsAdjust c × (0 < e.steering.waiting.cycles))
  unfolding checks
  number_11 =
      comes 11 (omega arith) (omega arith) _
      (λ a h.
      let f = row_fails (adjusts c) _ h in
      (adjusts_as c f.0, omega (arith, Test.eqb-false e.steering.waiting.cycles 0 f.1)))
      (λ a h.
      fails_row (adjusts c) _ (adjusts_ok c h.0) (Test.ne_eqb e.steering.waiting.cycles 0 (λ z. omega arith)))

  -- numbers 12 to 14
  pub number_12 : Comes 12 e c ((c.op ≡ 3) × (c.f ≤ c.e))
  unfolding checks
  number_12 =
      comes 12 (omega arith) (omega arith) _
      (λ a h.
      let f = row_fails (is_op 3 c) (ltb c.e c.f) h in
      (Test.eqb-true c.op 3 f.0, Test.ltb-false c.e c.f f.1))
      (λ a h. fails_row (is_op 3 c) _ (Test.eq-eqb c.op 3 h.0) (Test.le-ltb c.e c.f h.1))

  abbrev IsRunning : Type 0
  IsRunning = ((c.a ≡ 1) × (0 < e.generator1.left)) ⊎ ((c.a ≡ 2) × (0 < e.generator2.left))

  running_by : (c.a ≡ 1) ⊎ (c.a ≡ 2) → is_running (generator e c.a) ≡ true → IsRunning
  running_by (inl one) h =
      inl (one, omega (arith, Test.eqb-false e.generator1.left 0 (Test.not-true _ (rw one at h))))
  running_by (inr two) h =
      inr (two, omega (arith, Test.eqb-false e.generator2.left 0 (Test.not-true _ (rw two at h))))

  running_fails : c.op ≡ 3 → IsRunning → passes e c 13 ≡ false
  unfolding checks
  running_fails o (inl h) = rw (o, h.0, Test.ne_eqb e.generator1.left 0 (λ z. omega arith)) refl
  running_fails o (inr h) = rw (o, h.0, Test.ne_eqb e.generator2.left 0 (λ z. omega arith)) refl

  pub number_13 : Comes 13 e c ((c.op ≡ 3) × IsRunning)
  unfolding checks
  number_13 =
      comes 13 (omega arith) (omega arith) _
      (λ a h.
      let f = row_fails (is_op 3 c) (not (is_running (generator e c.a))) h in
      let o = Test.eqb-true c.op 3 f.0 in
      (o, running_by ((listed (omega arith) a).arm o).0 (Test.not-false _ f.1)))
      (λ a h. running_fails h.0 h.1)

  pub number_14 : Comes 14 e c ((c.op ≡ 3) × ((c.b * ns_per_second + c.c) * 256 < shown e.clock))
  unfolding checks
  number_14 =
      comes 14 (omega arith) (omega arith) _
      (λ a h.
      let f = row_fails (is_op 3 c) (leb (shown e.clock) ((c.b * ns_per_second + c.c) * 256)) h in
      (Test.eqb-true c.op 3 f.0, Test.leb-false (shown e.clock) ((c.b * ns_per_second + c.c) * 256) f.1))
      (λ a h.
      fails_row (is_op 3 c) _ (Test.eq-eqb c.op 3 h.0)
      (Test.lt-leb (shown e.clock) ((c.b * ns_per_second + c.c) * 256) h.1))
