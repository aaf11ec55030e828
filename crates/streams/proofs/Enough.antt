-- The first 65,537 bytes of a sheet show its results: a longer one has number 1 alone.
use Rattle.std.proofs.Common.{◌≡◌, ℕ, ◌<◌, List, inl, inr, ap, length, take, take_all, length-take-le, arith}
use Rattle.std.proofs.lemmas.Bool.{cases_lt, lt-ltb}
use Rattle.text.specs.Forms.{head_verdict, verdict_of}
use Rattle.text.specs.Results.{results}

-- sheets of over 65,536 bytes have the same results
too_long : (s t : List ℕ) → 65536 < length s → 65536 < length t → results s ≡ results t
unfolding results verdict_of head_verdict
too_long s t long_s long_t = simp (lt-ltb 65536 (length s) long_s, lt-ltb 65536 (length t) long_t)

pub enough : (s : List ℕ) → results (take 65537 s) ≡ results s
enough s = elim (cases_lt 65536 (length s)) [
  | inl long ↦
      let cut : length (take 65537 s) ≡ 65537 = length-take-le 65537 s (omega (arith, long)) in
      too_long (take 65537 s) s (omega (arith, cut)) long
  | inr short ↦ ap results (take_all 65537 s (omega (arith, short)))
]
