-- While an eighth starts after the instant, those below it give the whole answer; eighth 0 never does.
use Rattle.std.proofs.Common.{◌≡◌, refl, sym, ap, ◌∙◌, ℕ, zero, suc, ◌*◌, ◌-◌, ◌<◌, ◌≤◌, leb, arith}
use Rattle.std.proofs.lemmas.Bool.{le-leb, lt-leb}
use Rattle.model.proofs.Laws.Eighths.{down_from, taken, skipped}
use Rattle.generator.proofs.from_the_top.Goals as goal
use Rattle.generator.proofs.from_the_top.Invariants.{among}

pub loop-p-init : goal.loop-p-init
unfolding down_from
loop-p-init c = (omega arith, refl)

next : (ahead length p : ℕ) → 0 < p → ahead < p * length → among ahead length p ≡ among ahead length (p - 1)
next ahead length zero some h = absurd (omega arith)
next ahead length (suc n) some h =
    skipped (λ x. leb (x * length) ahead) n (lt-leb (suc n * length) ahead h)
    ∙ ap (among ahead length) (omega arith)

pub loop-p-preserved : goal.loop-p-preserved
loop-p-preserved c =
    (omega arith, sym (next _ _ _ (omega arith) c.if-p-length.false) ∙ c.loop-p.invariant.1)

found : (ahead length p : ℕ) → p * length ≤ ahead → p ≡ among ahead length p
found ahead length p h = sym (taken (λ x. leb (x * length) ahead) p (le-leb _ _ h))

pub returns-then-p-length : goal.returns-then-p-length
returns-then-p-length c = found _ _ _ c.if-p-length.true ∙ c.loop-p.invariant.1

pub returns : goal.returns
returns c =
    let last : c.loop-p.p - 1 ≡ 0 = omega arith in
    found _ _ 0 (omega arith) ∙ rw last at c.loop-p.invariant.1
