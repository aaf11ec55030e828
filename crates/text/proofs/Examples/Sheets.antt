-- The starred examples of document 01 that are sheets; and the whole example, which is not starred.
use Prim.Native.Nat.{ℕ}
use mathlib.Core.List.{List, [], ◌∷◌}
use Rattle.std.specs.Prelude.{Ok, Err}
use Rattle.model.proofs.Examples.Runs.{Example}
use Rattle.text.specs.Text.{bytes}
use Rattle.text.specs.Forms.{Verdict, refusal_number, refusal_line}
use Rattle.text.specs.Sheet.{sheet_version, sheet_verdict}
use Rattle.text.specs.Results.{results}

-- the line and the number of a sheet's refusal, or zeros
abbrev line_and_number : Verdict → List ℕ
line_and_number (Ok u) = 0 ∷ 0 ∷ []
line_and_number (Err e) = refusal_line e ∷ refusal_number e ∷ []

unfoldable pub verdict : List ℕ → List ℕ
verdict s = line_and_number (sheet_verdict s)

unfoldable pub sheets : List Example
sheets =
    -- Empty sheet: 2. First line alone: accepted.
    record { found = verdict []; stated = 1 ∷ 2 ∷ [] }
    ∷ record { found = verdict (bytes "op,a,b,c,d,e,f,g,h\n"); stated = 0 ∷ 0 ∷ [] }
    -- Not starred: the version of the sheet format (run lines, previews, base 16 and departure times counted it on).
    ∷ record { found = sheet_version ∷ []; stated = 5 ∷ [] }
    -- Not starred: the whole example, byte for byte; lines behind a refused one; a sheet refused at its third line.
    ∷ record {
      found = results (bytes
          "op,a,b,c,d,e,f,g,h\n3,1,0,3,256,1,3,4,0\n0,16,0,0,0,0,0,0,0\n2,16,1,0,0,0,0,0,0\n5,0,0,0,0,0,0,0,0\n");
      stated = bytes
          "line,answer,v1,v2,v3,v4,v5\n2,0,0,0,0,0,0\n3,0,12,0,0,0,0\n4,0,0,0,0,7,32768\n5,0,256,0,0,0,0\n";
    }
    ∷ record {
      found = results (bytes
          "op,a,b,c,d,e,f,g,h\n1,7,7,7,7,7,0,0,0\n2,1,0,0,0,0,0,0,0\n0,0,0,0,0,0,0,0,0\n2,16,0,0,0,0,0,0,0\n");
      stated = bytes
          "line,answer,v1,v2,v3,v4,v5\n2,0,0,0,0,0,0\n3,9,0,0,0,0,0\n4,0,0,0,0,0,0\n5,0,0,0,0,8,0\n";
    }
    ∷ record {
      found = results (bytes "op,a,b,c,d,e,f,g,h\n0,0,0,0,0,0,0,0,0\n0,01,0,0,0,0,0,0,0\n");
      stated = bytes "line,answer,v1,v2,v3,v4,v5\n3,3,0,0,0,0,0\n";
    }
    ∷ []
