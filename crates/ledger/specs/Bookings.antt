-- How the ledger is told a command: its fields, its answer and its five values, and nothing else. Document 01, "The
-- ledger of demand 3"; of op 9, document 02, A.1; ops 10 to 12 change nothing, A.5 and A.7.
use Rattle.std.specs.Prelude.{ℕ, ◌-◌, List, [], ◌∷◌, cond, eqb, get_or}
use Rattle.model.specs.declared.Command.{Command}
use Rattle.model.specs.declared.Words.{Words}
use Rattle.model.specs.Words.{five}
use Rattle.model.specs.Edges.{code_rising, code_eighth}
use Rattle.model.specs.RunLine.{ticks_told}
use Rattle.model.specs.Run.{Entry, history}
use Rattle.ledger.specs.Ledger.{Edge, Ledger, none, open_ledger, next_amount, order_of, ledger_ticks, ledger_edges}
use Rattle.ledger.specs.Ledger.{ledger_words, ledger_commanded, ledger_order}

-- how many ticks a command of this op stands for: op 0 is one, and op 9 as many as it tells
abbrev pub ticks_of : ℕ → Words → ℕ
ticks_of op v = cond (eqb op 0) 1 (cond (eqb op 9) (ticks_told v) 0)

-- how many ticks an entry of the history stands for
abbrev pub ticks_in : Entry → ℕ
ticks_in x = cond (eqb x.answer 0) (ticks_of x.command.op x.values) 0

-- the ledger before the last of them
abbrev pub before_last : Ledger → Entry → Ledger
before_last l x = ledger_ticks (ticks_in x - 1) l

-- the code that an entry has for generator n
abbrev pub code_for : ℕ → Entry → ℕ
code_for n x = cond (eqb n 1) x.values.w1 x.values.w2

-- generator n's edge in an entry, and the edges that the entry has: it or none. l is the ledger before the tick that
-- returned it
abbrev pub edge_of : ℕ → Ledger → Entry → Edge
edge_of n l x = record {
  rising = code_rising (code_for n x);
  eighth = code_eighth (code_for n x);
  time = l.time;
  amount = next_amount l.steering;
}

abbrev pub edges_in : ℕ → Ledger → Entry → List Edge
edges_in n l x = cond (eqb (code_for n x) 0) [] (edge_of n l x ∷ [])

-- the ticks of an entry; its edges are the last one's
abbrev pub ticks_booked : Ledger → Entry → Ledger
ticks_booked l x =
    ledger_edges (ledger_ticks (ticks_in x) l) (edges_in 1 (before_last l x) x) (edges_in 2 (before_last l x) x)

-- op 1: a to e
abbrev pub words_loaded : Command → Words
words_loaded c = five c.a c.b c.c c.d c.e

abbrev pub unbooked : Ledger → Entry → Ledger
unbooked l x = l

-- an accepted command, by the number of its op; any other op changes nothing
abbrev pub bookings : List (Ledger → Entry → Ledger)
bookings =
    ticks_booked
    ∷ (λ l x. ledger_words l (words_loaded x.command))
    ∷ (λ l x. ledger_commanded l x.command.a x.command.b x.values)
    ∷ (λ l x. ledger_order l x.command.a (order_of x.command))
    ∷ (λ l x. ledger_order l x.command.a none)
    ∷ unbooked
    ∷ unbooked
    ∷ unbooked
    ∷ unbooked
    ∷ ticks_booked
    ∷ unbooked
    ∷ unbooked
    ∷ unbooked
    ∷ []

unfoldable pub booked : Ledger → Entry → Ledger
booked l x = get_or bookings x.command.op unbooked l x

-- refused, whatever the op: nothing changes
unfoldable pub told : Ledger → Entry → Ledger
told l x = cond (eqb x.answer 0) (booked l x) l

unfoldable pub ledger_from : Ledger → List Entry → Ledger
ledger_from l [] = l
ledger_from l (x ∷ xs) = ledger_from (told l x) xs

-- the ledger of a list of commands from power-on
abbrev pub ledger_after : List Command → Ledger
ledger_after cs = ledger_from open_ledger (history cs)
