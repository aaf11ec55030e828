-- The definition asks one position of the table after the other, as the code does.
use Rattle.std.proofs.Common.{◌≡◌, refl, ◌∙◌, ℕ, List, [], ◌∷◌, ◌&&◌, ◌||◌, ap, rules, tests}
use Rattle.std.specs.List.{list_any}
use Rattle.std.proofs.lemmas.Iterator.{YieldsList-from_slice}
use Rattle.std.proofs.lemmas.Iterator.Search.{any_from_yields_List}
use Rattle.model.specs.Interrupts.{has_bit, positions, any_both}
use Rattle.interrupts.proofs.any_both.Goals as goal

one_after_another : (latched enabled : ℕ) (ks : List ℕ)
    → list_any (λ k. has_bit k latched && has_bit k enabled) ks ≡ any_both ks latched enabled
unfolding any_both
one_after_another latched enabled [] = refl
one_after_another latched enabled (k ∷ ks) =
    ap (λ rest. has_bit k latched && has_bit k enabled || rest) (one_after_another latched enabled ks)

pub returns : goal.returns
returns c =
    let latched = c.args.latched in
    let enabled = c.args.enabled in
    any_from_yields_List (λ k. has_bit k latched && has_bit k enabled) _ _ c.any.result c.any.ensures.ran
    (YieldsList-from_slice positions cc) (λ x b q k. search (rules, tests))
    ∙ one_after_another latched enabled positions
