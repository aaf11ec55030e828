-- Each number from 5 on by its sentence, in plain arithmetic on fields, words and totals: document 01, "Where each
-- command is checked", beside which this is to be read, and document 02, A.1, A.4, A.5 and A.7. No test of the table of
-- checks is in it; that the table says the same is a theorem, EveryNumber.antt of proofs/.
use Rattle.std.specs.Prelude.{ℕ, ◌+◌, ◌*◌, ◌-◌, ◌/◌, ◌%◌, ◌^◌, ◌≤◌, ◌<◌, min, ◌≡◌, ◌⊎◌, ◌↔◌}
use Rattle.model.specs.declared.Engine.{Engine}
use Rattle.model.specs.declared.Command.{Command}
use Rattle.model.specs.declared.Steering.{Steering}
use Rattle.model.specs.declared.Words.{Words}
use Rattle.model.specs.Units.{ns_per_second}
use Rattle.model.specs.Clock.{shown, exact}
use Rattle.model.specs.Execute.{execute}

-- where no check above number n fails, it comes exactly when this holds
abbrev pub Comes : ℕ → Engine → Command → Type 0 → Type 0
Comes n e c holds =
    (((execute e c).answer ≡ 0) ⊎ (n ≤ (execute e c).answer)) → (((execute e c).answer ≡ n) ↔ holds)

-- op 2 that writes 0 TIME, 1 PERIOD, 2 adjust; an adjust write, or a preview of one
abbrev pub IsWrite : ℕ → Command → Type 0
IsWrite n c = (c.op ≡ 2) × (c.a ≡ n)

abbrev pub IsAdjust : Command → Type 0
IsAdjust c = IsWrite 2 c ⊎ (c.op ≡ 10)

-- op 2 that reads this FIFO
abbrev pub IsRead : ℕ → Command → Type 0
IsRead n c = (c.op ≡ 2) × (c.b ≡ n)

-- the fields from each one on are 0
abbrev pub ZeroFromF : Command → Type 0
ZeroFromF c = (c.f ≡ 0) × (c.g ≡ 0) × (c.h ≡ 0)

abbrev pub ZeroFromD : Command → Type 0
ZeroFromD c = (c.d ≡ 0) × (c.e ≡ 0) × ZeroFromF c

abbrev pub ZeroFromB : Command → Type 0
ZeroFromB c = (c.b ≡ 0) × (c.c ≡ 0) × ZeroFromD c

-- op 0: the codes of inputs 1 to 3
pub record Codes (c : Command) : Type 0 where
  pub input1 : c.a ≤ 16
  pub input2 : c.b ≤ 16
  pub input3 : c.c ≤ 16

abbrev pub IsGenerator : ℕ → Type 0
IsGenerator n = (n ≡ 1) ⊎ (n ≡ 2)

-- op 3: start, interval W + N/D, count, mark
pub record Arms (c : Command) : Type 0 where
  pub seconds : c.b < 2 ^ 48
  pub nanoseconds : c.c ≤ 999999999
  pub whole : (256 ≤ c.d) × (c.d ≤ 999999999)
  pub numerator : c.e < 2 ^ 32
  pub denominator : (1 ≤ c.f) × (c.f < 2 ^ 32)
  pub count : (1 ≤ c.g) × (c.g < 2 ^ 32)
  pub mark : c.h ≤ 1

-- every field is in the list of its op. Document 01, "Command sheet"; op 9, document 02, A.1; op 10, A.5; ops 11 and
-- 12, A.7
pub record Listed (c : Command) : Type 0 where
  pub tick : c.op ≡ 0 → Codes c × ZeroFromD c
  pub load : c.op ≡ 1
      → (c.a < 2 ^ 16) × (c.b < 2 ^ 16) × (c.c < 2 ^ 16) × (c.d < 2 ^ 16) × (c.e < 2 ^ 16) × ZeroFromF c
  pub command : c.op ≡ 2 → ((c.a ≤ 2) ⊎ (c.a ≡ 16)) × ((c.b ≤ 3) ⊎ (c.b ≡ 8)) × (c.c ≡ 0) × ZeroFromD c
  pub arm : c.op ≡ 3 → IsGenerator c.a × Arms c
  pub stop : c.op ≡ 4 → IsGenerator c.a × ZeroFromB c
  pub interrupts : c.op ≡ 5 → (c.a ≡ 0) × ZeroFromB c
  -- no bit outside 0x3F7F: none above bit 13, and not bit 7
  pub mask : c.op ≡ 6 → (c.a < 2 ^ 14) × (c.a / 2 ^ 7 % 2 ≡ 0) × ZeroFromB c
  pub status : c.op ≡ 7 → (c.a ≡ 0) × ZeroFromB c
  pub show : c.op ≡ 8 → (c.a ≡ 0) × ZeroFromB c
  pub run : c.op ≡ 9 → (1 ≤ c.a) × (c.a ≤ 1000000) × ZeroFromB c
  pub preview : c.op ≡ 10 → (1 ≤ c.a) × (c.a ≤ 1000) × ZeroFromB c
  pub depart : c.op ≡ 11 → (c.a < 2 ^ 64) × ZeroFromB c
  pub recover : c.op ≡ 12 → (c.a < 2 ^ 48) × (c.b < 2 ^ 64) × (c.c ≡ 0) × ZeroFromD c

-- the end of the last second, in 2^-32 ns
abbrev pub end_exact : ℕ
end_exact = 2 ^ 48 * ns_per_second * 2 ^ 32

-- the next tick reaches it: with the amount of the running adjustment, or PERIOD where none runs
abbrev pub NextIsLate : Engine → Type 0
NextIsLate e =
    let s = e.steering in
    ((s.adjustment.cycles ≡ 0) × (end_exact ≤ exact e.clock + s.period))
    ⊎ ((0 < s.adjustment.cycles) × (end_exact ≤ exact e.clock + s.adjustment.amount))

-- what n cycles add behind an adjust write: the running adjustment's, then those of the words, then PERIOD
abbrev pub added_behind : Steering → Words → ℕ → ℕ
added_behind s w n =
    let cycles = s.adjustment.cycles in
    let count = w.w3 % 2 ^ 8 * 2 ^ 16 + w.w2 in
    let amount = w.w5 * 2 ^ 24 + w.w4 * 2 ^ 8 + w.w3 / 2 ^ 8 in
    min n cycles * s.adjustment.amount + (min (n - cycles) count * amount + (n - cycles - count) * s.period)

-- op 11: a field that is not negative reaches 2^63 with the departure time, in 2^-16 ns; a negative one cannot
abbrev pub LeavesSigned : Engine → ℕ → Type 0
LeavesSigned e field =
    (field < 2 ^ 63)
    × (2 ^ 63 ≤ field + (e.clock.seconds % 16 * ns_per_second + e.clock.nanoseconds) * 65536)

-- op 12: a with the field's seconds in the place of its low four bits, or with 16 more where these are below them
abbrev pub ReachesEnd : (a seconds : ℕ) → Type 0
ReachesEnd a seconds =
    ((a % 16 ≤ seconds) × (2 ^ 48 ≤ a / 16 * 16 + seconds))
    ⊎ ((seconds < a % 16) × (2 ^ 48 ≤ a / 16 * 16 + 16 + seconds))

pub record Sentences (e : Engine) (c : Command) : Type 0 where
  -- line: 5 op not 0 to 8 (0 to 12, with A.1, A.5 and A.7); 6 a field outside its list
  pub number5 : Comes 5 e c (12 < c.op)
  pub number6 : Comes 6 e c (Listed c → ⊥)
  -- op 2, read: 7 stamp store empty
  pub number7 : Comes 7 e c (
      (IsRead 1 c × (e.fifo1.count ≡ 0))
      ⊎ (IsRead 2 c × (e.fifo2.count ≡ 0))
      ⊎ (IsRead 3 c × (e.fifo3.count ≡ 0))
      )
  -- op 2, TIME: 8 NS above 999,999,999, or word 5 bits 15:14 set
  pub number8 : Comes 8 e c (
      IsWrite 0 c × ((999999999 < e.words.w5 % 2 ^ 14 * 2 ^ 16 + e.words.w4) ⊎ (2 ^ 14 ≤ e.words.w5))
      )
  -- op 2, PERIOD, adjust: 9 NS is 0, or PERIOD's 0x00 byte is not 0
  pub number9 : Comes 9 e c (
      ((IsWrite 1 c ⊎ IsAdjust c) × (e.words.w5 < 2 ^ 8)) ⊎ (IsWrite 1 c × (0 < e.words.w3 % 2 ^ 8))
      )
  -- op 2, adjust: 10 COUNT 0; 11 one running (A.4: the waiting place is taken)
  pub number10 : Comes 10 e c (IsAdjust c × (e.words.w3 % 2 ^ 8 ≡ 0) × (e.words.w2 ≡ 0))
  pub number11 : Comes 11 e c (IsAdjust c × (0 < e.steering.waiting.cycles))
  -- op 3: 12 N not below D; 13 generator running; 14 start before the time shown
  pub number12 : Comes 12 e c ((c.op ≡ 3) × (c.f ≤ c.e))
  pub number13 : Comes 13 e c (
      (c.op ≡ 3) × (((c.a ≡ 1) × (0 < e.generator1.left)) ⊎ ((c.a ≡ 2) × (0 < e.generator2.left)))
      )
  pub number14 : Comes 14 e c ((c.op ≡ 3) × ((c.b * ns_per_second + c.c) * 256 < shown e.clock))
  -- op 0: 15 time would pass the last second (A.1: in the first tick of a run; A.5: in one of a preview's)
  pub number15 : Comes 15 e c (
      (((c.op ≡ 0) ⊎ (c.op ≡ 9)) × NextIsLate e)
      ⊎ ((c.op ≡ 10) × (end_exact ≤ exact e.clock + added_behind e.steering e.words c.a))
      )
  -- A.7: 16 on op 11 if the sum leaves 64 signed bits; 17 on op 12 if the field is negative or the seconds reach 2^48
  pub number16 : Comes 16 e c ((c.op ≡ 11) × LeavesSigned e c.a)
  pub number17 : Comes 17 e c ((c.op ≡ 12) × ((2 ^ 63 ≤ c.b) ⊎ ReachesEnd c.a (c.b / 65536 / ns_per_second)))
