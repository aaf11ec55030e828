-- What a command gives. Document 01, "Where each command is checked".
use Rattle.std.specs.Prelude.{ℕ}
use Rattle.model.specs.declared.Engine.{Engine}
use Rattle.model.specs.declared.Outcome.{Outcome}
use Rattle.model.specs.declared.Words.{Words}
use Rattle.model.specs.Words.{no_words}

-- "A refusal returns five zeros; record, words and lent sheet are unchanged."
abbrev pub refused : Engine → ℕ → Outcome
refused e n = record { answer = n; values = no_words; engine = e }

abbrev pub accepted : Words → Engine → Outcome
accepted v e = record { answer = 0; values = v; engine = e }
