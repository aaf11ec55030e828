-- A value line has at least 17 bytes and no line end among them. So where the text up to its first line end is one,
-- the first 17 bytes hold none, and it is also the part up to the first line end behind them; and the other way round.
use Prim.Native.Nat.{ℕ, suc, zero, ◌+◌, ◌≤◌, ◌<◌}
use mathlib.Core.Path.{◌≡◌, refl, sym, ap, ◌∙◌}
use mathlib.Core.Bool.{Bool, true, false, cond}
use mathlib.Core.List.{List, [], ◌∷◌, ◌++◌, append-nil}
use native.Mathlib.Omega.{arith}
use lib.ListN.{length, take, drop, drop_of_length-le}
use lib.Seq.{take_all, take-add, take-take}
use lib.Dec.{eqb, ltb}
use borrow.Author.Tests.{eqb-false, ne_eqb, lt-ltb, le-ltb}
use Rattle.std.specs.Prelude.{Option, Some, None}
use Rattle.model.specs.declared.Command.{Command}
use Rattle.text.specs.Text.{line_end, Lacks, parts, first_part}
use Rattle.text.specs.Sheet.{is_line, command_in, line_of}
use Rattle.text.proofs.Laws.Lines.{line_is_long}
use Rattle.lines.specs.Reading.{line_part}
use Rattle.text.proofs.Laws.FirstPart.{first_into, first_take}

-- the first bytes of a text lack what the text lacks
lacks_take : (sep n : ℕ) (bs : List ℕ) → Lacks sep bs → Lacks sep (take n bs)
lacks_take sep zero bs h = tt
lacks_take sep (suc n) [] h = tt
lacks_take sep (suc n) (b ∷ bs) h = (h.0, lacks_take sep n bs h.1)

lacks_front : (sep : ℕ) (bs cs : List ℕ) → Lacks sep (bs ++ cs) → Lacks sep bs
lacks_front sep [] cs h = tt
lacks_front sep (b ∷ bs) cs h = (h.0, lacks_front sep bs cs h.1)

-- the text before the first separator has none
lacks_into : (sep b : ℕ) (p : List ℕ) (t : Bool) → eqb b sep ≡ t → Lacks sep p → Lacks sep (cond t [] (b ∷ p))
lacks_into sep b p true h rest = tt
lacks_into sep b p false h rest = (eqb-false b sep h, rest)

first_lacks : (sep : ℕ) (bs : List ℕ) → Lacks sep (first_part sep bs)
first_lacks sep [] = tt
first_lacks sep (b ∷ bs) =
    rw (first_into (eqb b sep) b (parts sep bs)) (lacks_into sep b _ (eqb b sep) refl (first_lacks sep bs))

-- a separator that does not stand in the first n bytes may be looked for behind them
first_behind : (sep n : ℕ) (bs : List ℕ) → Lacks sep (take n bs)
    → take n bs ++ first_part sep (drop n bs) ≡ first_part sep bs
first_behind sep zero bs h = refl
first_behind sep (suc n) [] h = refl
first_behind sep (suc n) (b ∷ bs) h =
    rw (first_into (eqb b sep) b (parts sep bs), ne_eqb b sep h.0) (ap (◌∷◌ b) (first_behind sep n bs h.1))

module _ (t : List ℕ) where
  abbrev here : List ℕ
  here = first_part line_end t

  pub part_is_line : is_line (line_part t) ≡ true → line_part t ≡ here
  part_is_line h = first_behind line_end 17 t (lacks_front line_end (take 17 t) _ (line_is_long (line_part t) h).1)

  pub line_is_part : is_line here ≡ true → line_part t ≡ here
  line_is_part h =
      let short : take 17 here ≡ take 17 t =
      ap (take 17) (first_take line_end t) ∙ take-take 17 (length here) t (line_is_long here h).0 in
      first_behind line_end 17 t (rw (← short) (lacks_take line_end 17 here (first_lacks line_end t)))

  -- both are lines, or neither is
  pub part_line : line_of (line_part t) ≡ line_of here
  unfolding line_of
  part_line = go (is_line (line_part t)) (is_line here) refl refl
    where
      go : (p q : Bool) → is_line (line_part t) ≡ p → is_line here ≡ q → line_of (line_part t) ≡ line_of here
      go true q h i = ap line_of (part_is_line h)
      go false true h i = ap line_of (line_is_part i)
      go false false h i = rw (h, i)

-- what a line reads as tells whether it is one
module _ (l : List ℕ) where
  pub line_some : {c : Command} → line_of l ≡ Some c → is_line l ≡ true
  unfolding line_of
  line_some {c} h = by (is_line l) refl h
    where
      by : (t : Bool) → is_line l ≡ t → cond t (Some (command_in l)) None ≡ Some c → is_line l ≡ true
      by true e h = e
      by false e h = cc

  pub line_none : line_of l ≡ None → is_line l ≡ false
  unfolding line_of
  line_none h = by (is_line l) refl h
    where
      by : (t : Bool) → is_line l ≡ t → cond t (Some (command_in l)) None ≡ None → is_line l ≡ false
      by true e h = cc
      by false e h = e

cond_same : (t : Bool) (x : Option Command) → cond t x x ≡ x
cond_same true x = refl
cond_same false x = refl

-- where a text up to its first line end is no line, so is the part; where it is, it ends where the part does
module _ (s : List ℕ) where
  abbrev line : List ℕ
  line = first_part line_end s

  abbrev part : List ℕ
  part = line_part s

  pub part_cut : length s ≤ length part → None ≡ cond (ltb (length line) (length s)) (line_of line) None
  unfolding line_of
  part_cut cut = go (is_line line) refl
    where
      go : (q : Bool) → is_line line ≡ q → None ≡ cond (ltb (length line) (length s)) (line_of line) None
      go true h = rw (le-ltb (length line) (length s) (omega (arith, ap length (line_is_part s h))))
      go false h = rw (h, cond_same)

  pub part_whole : length part < length s → line_of part ≡ cond (ltb (length line) (length s)) (line_of line) None
  unfolding line_of
  part_whole more = part_line s ∙ go (is_line line) refl
    where
      go : (q : Bool) → is_line line ≡ q → line_of line ≡ cond (ltb (length line) (length s)) (line_of line) None
      go true h = rw (lt-ltb (length line) (length s) (omega (arith, ap length (line_is_part s h))))
      go false h = rw (h, cond_same)

  pub part_end : is_line line ≡ true → length part ≡ length line
  part_end h = ap length (line_is_part s h)

  -- how the part is cut out of the text: fewer than 17 bytes as they stand, else with the run behind them
  pub part_rest : length s < 17 → s ≡ part
  part_rest few =
      let short : length s ≤ 17 = omega arith in
      rw (take_all 17 s short, drop_of_length-le s short, append-nil)

  pub part_run : (n : ℕ) → n ≡ length (first_part line_end (drop 17 s)) → take (17 + n) s ≡ part
  part_run n is = rw (take-add 17 n s, is) (ap (◌++◌ (take 17 s)) (sym (first_take line_end (drop 17 s))))
