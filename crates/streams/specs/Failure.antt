-- Which of the two failed, the sheet's reader or the results' writer.
use Rattle.std.specs.Prelude.{⊤}
use Rattle.streams.specs.declared.Failure.{Failure}
use Rattle.streams.specs.declared.Failure.TheVariants.{NotRead, NotWritten}

-- the sheet could not be read
abbrev pub IsNotRead : Failure → Type 0
IsNotRead (NotRead e) = ⊤
IsNotRead (NotWritten e) = ⊥
