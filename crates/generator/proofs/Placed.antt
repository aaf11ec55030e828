-- The edge that a tick places in the words of the model: code, generator, EC and SC are what the model works out one
-- by one.
use Rattle.std.proofs.Common.{ℕ, ◌≡◌, refl, Bool, true, false, ◌&&◌, cond, Some, None}
use Rattle.model.specs.declared.Generator.{Generator}
use Rattle.model.specs.Generator.{is_due}
use Rattle.model.specs.Generator.{placed, generated, completes_event, completes_sequence}
use Rattle.generator.specs.declared.Edge.{Edge}
use Rattle.generator.specs.Advance.{advance_of, code_of, after, event_of, sequence_of}

-- an edge or none
module _ (edge : Edge) where
  code_where : (due : Bool) → code_of (cond due (Some edge) None) ≡ cond due edge.code 0
  code_where true = refl
  code_where false = refl

  after_where : (g : Generator) (due : Bool) → after g (cond due (Some edge) None) ≡ cond due edge.generator g
  after_where g true = refl
  after_where g false = refl

  event_where : (due : Bool) → event_of (cond due (Some edge) None) ≡ (due && edge.event)
  event_where true = refl
  event_where false = refl

  sequence_where : (due : Bool) → sequence_of (cond due (Some edge) None) ≡ (due && edge.sequence)
  sequence_where true = refl
  sequence_where false = refl

module _ (g : Generator) (a s : ℕ) where
  pub code_placed : code_of (advance_of g a s) ≡ placed g a s
  unfolding advance_of placed
  code_placed = code_where _ (is_due g a s)

  pub after_generated : after g (advance_of g a s) ≡ generated g a s
  unfolding advance_of generated
  after_generated = after_where _ g (is_due g a s)

  pub event_completed : event_of (advance_of g a s) ≡ completes_event g a s
  unfolding advance_of completes_event
  event_completed = event_where _ (is_due g a s)

  pub sequence_completed : sequence_of (advance_of g a s) ≡ completes_sequence g a s
  unfolding advance_of completes_sequence
  sequence_completed = sequence_where _ (is_due g a s)
