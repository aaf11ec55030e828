-- The timestamps of one input along a list of commands. Document 02, A.2.
use Rattle.std.specs.Prelude.{ℕ, ◌+◌, ◌*◌, ◌≤◌, List, [], ◌∷◌, ◌++◌, Bool, true, ◌&&◌, not, cond, get_or, eqb}
use Rattle.model.specs.declared.Engine.{Engine}
use Rattle.model.specs.declared.Command.{Command}
use Rattle.model.specs.declared.Fifo.{Fifo}
use Rattle.model.specs.Clock.{shown}
use Rattle.model.specs.Edges.{code_eighth}
use Rattle.model.specs.Fifo.{empty_fifo, timestamp_ns}
use Rattle.model.specs.Tick.{tick_step}
use Rattle.model.specs.Checks.{writes}
use Rattle.model.specs.Execute.{execute}

-- the code on input i + 1 in a tick
abbrev pub code_on : ℕ → Command → ℕ
code_on i c = get_or (c.a ∷ c.b ∷ c.c ∷ []) i 0

-- the FIFO of that input
abbrev pub fifo_on : ℕ → Engine → Fifo
fifo_on i e = get_or (e.fifo1 ∷ e.fifo2 ∷ e.fifo3 ∷ []) i empty_fifo

-- a command brings an edge on this input: an accepted tick with a code there
abbrev pub brings_edge : ℕ → Engine → Command → Bool
brings_edge i e c = eqb c.op 0 && eqb (execute e c).answer 0 && not (eqb (code_on i c) 0)

-- the instant of that edge, A + p × S / 8, in 1/2048 ns
abbrev pub edge_instant : ℕ → Engine → Command → ℕ
edge_instant i e c = 8 * shown e.clock + code_eighth (code_on i c) * tick_step e

-- its timestamp, in ns
abbrev pub edge_ns : ℕ → Engine → Command → ℕ
edge_ns i e c = timestamp_ns (shown e.clock) (tick_step e) (code_eighth (code_on i c))

-- the timestamps of its edges in their order, those included that a full FIFO drops
unfoldable pub timestamps_on : ℕ → Engine → List Command → List ℕ
timestamps_on i e [] = []
timestamps_on i e (c ∷ cs) =
    cond (brings_edge i e c) (edge_ns i e c ∷ []) [] ++ timestamps_on i (execute e c).engine cs

-- no command of the list writes TIME, but for refused ones
unfoldable pub keeps_time : Engine → List Command → Bool
keeps_time e [] = true
keeps_time e (c ∷ cs) =
    not (writes 0 c && eqb (execute e c).answer 0) && keeps_time (execute e c).engine cs

-- each is not below the one before it
unfoldable pub Ascending : List ℕ → Type 0
Ascending [] = Unit {0}
Ascending (t ∷ []) = Unit {0}
Ascending (t ∷ u ∷ ts) = (t ≤ u) × Ascending (u ∷ ts)
