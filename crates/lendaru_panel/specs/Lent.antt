-- A command on a record that is lent: what the caller is told, and what it finds. Document 01, "Command sheet".
use Rattle.std.specs.Prelude.{◌≡◌, Result, Ok, Err}
use Rattle.model.specs.declared.Engine.{Engine}
use Rattle.model.specs.declared.Command.{Command}
use Rattle.model.specs.declared.Outcome.{Outcome}
use Rattle.model.specs.Words.{no_words}
use Rattle.model.specs.Execute.{execute}
use Rattle.change.specs.declared.Change.{Change}
use Rattle.change.specs.declared.refusal.Refusal.{Refusal}
use Rattle.change.specs.Refusals.{number_of}
use Rattle.lendaru_panel.specs.declared.Reply.{Reply}

-- all of an outcome but the record, which stays where it was lent
abbrev pub told : Outcome → Reply
told o = record { answer = o.answer; values = o.values }

-- what a change or a refusal tells
abbrev pub reply_of : Result Change Refusal → Reply
reply_of (Ok m) = record { answer = 0; values = m.values }
reply_of (Err r) = record { answer = number_of r; values = no_words }

-- the model's outcome of a command on the record before: its reply, and its record behind the reference
pub record Lent (before : Engine) (c : Command) (after : Engine) (r : Reply) : Type 0 where
  pub reply : r ≡ told (execute before c)
  pub engine : after ≡ (execute before c).engine
