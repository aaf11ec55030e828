-- The table of ops: what an accepted command does, by the number of its op. Document 01, "Command sheet"; op 9,
-- document 02, A.1; op 10, A.5; ops 11 and 12, A.7.
use Rattle.std.specs.Prelude.{List, [], ◌∷◌, get_or}
use Rattle.model.specs.declared.Engine.{Engine}
use Rattle.model.specs.declared.Command.{Command}
use Rattle.model.specs.declared.Outcome.{Outcome}
use Rattle.model.specs.Words.{no_words}
use Rattle.model.specs.Generator.{idle_generator}
use Rattle.model.specs.Record.{with_words, with_generator}
use Rattle.model.specs.Outcome.{refused, accepted}
use Rattle.model.specs.Tick.{tick_values, tick_engine}
use Rattle.model.specs.RunLine.{ran}
use Rattle.model.specs.OtherOps.{loaded_words, commanded, armed_by, interrupts_read, mask_set, just_first, status_of}
use Rattle.model.specs.Preview.{previewed}
use Rattle.model.specs.Departure.{departed, recovered}

-- tick, load words, command, arm, stop, read interrupts, set the enable mask, read status, show the words; run,
-- preview; departure time into a correctionField, and out of it
abbrev pub ops : List (Engine → Command → Outcome)
ops =
    (λ e c. accepted (tick_values e) (tick_engine e c))
    ∷ (λ e c. accepted no_words (with_words e (loaded_words c)))
    ∷ (λ e c. commanded e c.a c.b)
    ∷ (λ e c. accepted no_words (with_generator e c.a (armed_by c)))
    ∷ (λ e c. accepted no_words (with_generator e c.a idle_generator))
    ∷ (λ e c. interrupts_read e)
    ∷ (λ e c. accepted no_words (mask_set e c.a))
    ∷ (λ e c. accepted (just_first (status_of e)) e)
    ∷ (λ e c. accepted e.words e)
    ∷ (λ e c. ran e c.a)
    ∷ (λ e c. previewed e c.a)
    ∷ (λ e c. departed e c.a)
    ∷ (λ e c. recovered e c.a c.b)
    ∷ []

-- an op of no row gets number 5, and is never performed
abbrev pub unknown : Engine → Command → Outcome
unknown e c = refused e 5

unfoldable pub performed : Engine → Command → Outcome
performed e c = get_or ops c.op unknown e c
