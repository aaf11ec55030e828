-- What a read consumed stands behind what had come; a reader that is at its end gave all that it had.
use Rattle.std.proofs.Common.{◌≡◌, ℕ, ◌+◌, List, ◌++◌, arith, ap, sym, ◌∙◌, subst, take, drop}
use Rattle.std.proofs.Math.Seq.{take-add}
use Rattle.std.proofs.KnownBytes.{Consumes-trans}
use Rattle.std.specs.Io.KnownBytes.{Consumes}
use Rattle.streams.proofs.read_until_full.Goals as goal

-- the bytes that came, and behind them those of the read
two_reads : (count more : ℕ) (old new : List ℕ) → take count new ≡ take count old
    → take count old ++ take more (drop count new) ≡ take (count + more) new
two_reads count more old new front =
    ap (λ bs. bs ++ take more (drop count new)) (sym front) ∙ sym (take-add count more new)

pub loop-count-preserved : goal.loop-count-preserved
loop-count-preserved g c = record {
  in_bounds = omega (arith, c.in_ok-more.ensures.in_bounds);
  bytes =
      subst (Consumes _ _) (two_reads _ _ _ _ c.read_from.ensures.before)
      (Consumes-trans _ _ _ _ _ c.loop-count.invariant.bytes c.in_ok-more.ensures.bytes.0);
}
