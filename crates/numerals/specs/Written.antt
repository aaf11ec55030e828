-- What a writer leaves in a buffer that it was lent: a text at an index, and every other byte as it was.
use Rattle.std.specs.Prelude.{ℕ, ◌+◌, ◌≤◌, ◌≡◌, List, ◌++◌, length, take, drop}
use Rattle.numerals.specs.declared.TextWriter.{TextWriter}

-- the buffer with a text at an index
abbrev pub put : List ℕ → ℕ → List ℕ → List ℕ
put out at text = take at out ++ (text ++ drop (at + length text) out)

-- a buffer before and after the text was written at an index, and the index behind it
pub record Written (before after : List ℕ) (at : ℕ) (text : List ℕ) (next : ℕ) : Type 0 where
  pub end : next ≡ at + length text
  pub holds : after ≡ put before at text

-- the buffer has room for a text behind what is written
abbrev pub HasRoom : TextWriter → List ℕ → Type 0
HasRoom w text = w.end + length text ≤ length w.out.now

-- a writer before and after it wrote a text there, into the same buffer
pub record AppendsText (before after : TextWriter) (text : List ℕ) : Type 0 where
  pub same_buffer : after.out.ghost_name ≡ before.out.ghost_name
  pub written : Written before.out.now after.out.now before.end text after.end
