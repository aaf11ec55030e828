-- A valid record with one part replaced by another in range is valid: the other parts stay, and none but the
-- generators' tests look at a second part, the clock.
use Prim.Native.Nat.{ℕ}
use mathlib.Core.Path.{◌≡◌, refl}
use mathlib.Core.Bool.{true}
use lib.Dec.{eqb}
use Rattle.model.specs.declared.Engine.{Engine}
use Rattle.model.specs.declared.Fifo.{Fifo}
use Rattle.model.specs.declared.Generator.{Generator}
use Rattle.model.specs.declared.Interrupts.{Interrupts}
use Rattle.model.specs.declared.Words.{Words}
use Rattle.model.specs.declared.Steering.{Steering}
use Rattle.model.specs.Clock.{shown}
use Rattle.model.specs.Interrupts.{only_bits, latched_mask, enabled_mask}
use Rattle.model.specs.Record
use Rattle.model.specs.Ranges
use Rattle.model.proofs.Laws.Testing.{split, both, both_true}
use Rattle.model.proofs.Laws.InRange.{Valid}
use Rattle.model.specs.Bounds.{WordsRange}
use Rattle.model.proofs.Laws.InRange.{words_ok}

-- interrupts
pub interrupts_in : (i : Interrupts) → Ranges.interrupts_ok i ≡ true
    → (only_bits latched_mask i.latched ≡ true) × (only_bits enabled_mask i.enabled ≡ true)
unfolding Ranges.interrupts_ok
interrupts_in i h = both (only_bits latched_mask i.latched) (only_bits enabled_mask i.enabled) h

pub interrupts_ok : (i : Interrupts) → only_bits latched_mask i.latched ≡ true
    → only_bits enabled_mask i.enabled ≡ true
    → Ranges.interrupts_ok i ≡ true
unfolding Ranges.interrupts_ok
interrupts_ok i l m = both_true _ _ l m

pub none_latched : only_bits latched_mask 0 ≡ true
unfolding only_bits
none_latched = refl

-- one part replaced
pub words_valid : (e : Engine) (w : Words) → Valid e → WordsRange w → Valid (Record.with_words e w)
words_valid e w v h = let ok = words_ok w h in search

pub steering_valid : (e : Engine) (s : Steering) → Valid e → Ranges.steering_ok s ≡ true
    → Valid (Record.with_steering e s)
steering_valid e s v h = search

pub interrupts_valid : (e : Engine) (i : Interrupts) → Valid e → Ranges.interrupts_ok i ≡ true
    → Valid (Record.with_interrupts e i)
interrupts_valid e i v h = search

-- the FIFO, or the generator, of a number replaced
abbrev FifoOk : Fifo → Type 0
FifoOk f = Ranges.fifo_ok f ≡ true

pub fifo_valid : (e : Engine) (n : ℕ) (f : Fifo) → Valid e → Ranges.fifo_ok f ≡ true → Valid (Record.with_fifo e n f)
fifo_valid e n f v h =
    let f₁ = split FifoOk (eqb n 1) (λ y. h) (λ y. v.fifo1) in
    let f₂ = split FifoOk (eqb n 1) (λ y. v.fifo2) (λ y. split FifoOk (eqb n 2) (λ z. h) (λ z. v.fifo2)) in
    let f₃ = split FifoOk (eqb n 1) (λ y. v.fifo3) (λ y. split FifoOk (eqb n 2) (λ z. v.fifo3) (λ z. h)) in
    search

pub fifo_at_ok : (e : Engine) (n : ℕ) → Valid e → Ranges.fifo_ok (Record.fifo e n) ≡ true
fifo_at_ok e n v =
    split FifoOk (eqb n 1) (λ y. v.fifo1) (λ y. split FifoOk (eqb n 2) (λ z. v.fifo2) (λ z. v.fifo3))

abbrev pub GeneratorOk : ℕ → Generator → Type 0
GeneratorOk now g = Ranges.generator_ok g now ≡ true

pub generator_valid : (e : Engine) (n : ℕ) (g : Generator) → Valid e → GeneratorOk (shown e.clock) g
    → Valid (Record.with_generator e n g)
generator_valid e n g v h =
    let g₁ = split (GeneratorOk (shown e.clock)) (eqb n 1) (λ y. h) (λ y. v.generator1) in
    let g₂ = split (GeneratorOk (shown e.clock)) (eqb n 1) (λ y. v.generator2) (λ y. h) in
    search
