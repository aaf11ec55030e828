-- A text stands between the first bytes of a buffer and the last, and a text that is put behind it stands among the
-- last. So two texts, one behind the other, are one text, and a text may be written part by part.
use Prim.Native.Nat.{ℕ, ◌+◌, ◌≤◌, ◌<◌}
use mathlib.Core.Path.{◌≡◌, refl, sym, ap, ◌∙◌}
use mathlib.Core.List.{List, [], ◌∷◌, ◌++◌, append_assoc}
use native.Mathlib.Numerals.{add-one}
use native.Mathlib.Nat.{add-zero, add_assoc, le_refl}
use native.Mathlib.Omega.{arith}
use lib.ListN.{length, set, length-set, length-append, take-append-drop}
use lib.Seq.{take-length, drop-drop, set_split, paste, length-paste, take-paste, drop-paste}
use Rattle.numerals.specs.declared.TextWriter.{TextWriter}
use Rattle.numerals.specs.Written.{put, Written, HasRoom, AppendsText}

pub put_nil : (out : List ℕ) (at : ℕ) → put out at [] ≡ out
put_nil out at = rw (add-zero, take-append-drop)

pub put_one : (out : List ℕ) (at b : ℕ) → at < length out → set out at b ≡ put out at (b ∷ [])
put_one out at b h = rw add-one (set_split out at b h)

put_paste : (out text : List ℕ) (at : ℕ) → put out at text ≡ paste out at text (length text)
put_paste out text at = rw (take-length, append_assoc)

pub put_length : (out text : List ℕ) (at : ℕ) → at + length text ≤ length out
    → length (put out at text) ≡ length out
put_length out text at fits =
    ap length (put_paste out text at) ∙ length-paste out at text (length text) fits (le_refl (length text))

-- a text behind a text
pub put_put : (out a b : List ℕ) (at : ℕ) → at + length a ≤ length out
    → put (put out at a) (at + length a) b ≡ put out at (a ++ b)
put_put out a b at fits =
    let n = length a in
    let start : at ≤ length out = omega arith in
    let last = drop-paste out at a n start (le_refl n) in
    rw (put_paste out a at, take-paste out at a n start (le_refl n), ← drop-drop (length b) (at + n), last)
    (rw (drop-drop, take-length, length-append, add_assoc) (simp append_assoc))

pub written_byte : (out : List ℕ) (at b : ℕ) → at < length out → Written out (set out at b) at (b ∷ []) (at + 1)
written_byte out at b h = record { end = refl; holds = put_one out at b h }

pub written_then : {before middle after a b : List ℕ} {at next end : ℕ} → Written before middle at a next
    → Written middle after next b end
    → at + length a ≤ length before
    → Written before after at (a ++ b) end
written_then {before} {a} {b} {at} first second fits = record {
  end = rw length-append (omega arith);
  holds = second.holds ∙ rw (first.holds, first.end) (put_put before a b at fits);
}

pub written_bytes : (out : List ℕ) (at a b : ℕ) → at + 2 ≤ length out
    → Written out (set (set out at a) (at + 1) b) at (a ∷ b ∷ []) (at + 2)
written_bytes out at a b room =
    let first = written_byte out at a (omega arith) in
    let second = written_byte (set out at a) (at + 1) b (rw length-set (omega arith)) in
    record { end = refl; holds = (written_then first second (omega arith)).holds }

pub appends_then : {before middle after : TextWriter} {a b : List ℕ} → AppendsText before middle a
    → AppendsText middle after b
    → HasRoom before a
    → AppendsText before after (a ++ b)
appends_then first second fits = record {
  same_buffer = second.same_buffer ∙ first.same_buffer;
  written = written_then first.written second.written fits;
}

-- where there is room for both texts, there is room for the first, and behind it for the second
pub room_front : (w : TextWriter) (a b : List ℕ) → HasRoom w (a ++ b) → HasRoom w a
room_front w a b fits = omega (arith, length-append a b)

pub room_behind : {before middle : TextWriter} {a : List ℕ} (b : List ℕ) → AppendsText before middle a
    → HasRoom before (a ++ b)
    → HasRoom middle b
room_behind {before} {a = a} b first fits =
    let inside = room_front before a b fits in
    let kept = ap length first.written.holds ∙ put_length before.out.now a before.end inside in
    omega (arith, first.written.end, length-append a b)

-- a rest of a text is to be written: with it, the whole text is
pub record Rest (before after : TextWriter) (text rest : List ℕ) : Type 0 where
  pub room : HasRoom after rest
  pub whole : {last : TextWriter} → AppendsText after last rest → AppendsText before last text

pub rest_whole : {w : TextWriter} {text : List ℕ} → HasRoom w text → Rest w w text text
rest_whole room = record { room = room; whole = λ all. all }

-- the first part of the rest, written
pub rest_less : {before middle after : TextWriter} {text rest a b : List ℕ} → Rest before middle text rest
    → rest ≡ a ++ b
    → AppendsText middle after a
    → Rest before after text b
rest_less {middle} {a} {b} here split part =
    let room : HasRoom middle (a ++ b) = rw split at here.room in record {
      room = room_behind b part room;
      whole = λ last. here.whole (rw split (appends_then part last (room_front middle a b room)));
    }

pub rest_none : {before after : TextWriter} {text : List ℕ} → Rest before after text [] → AppendsText before after text
rest_none {after} here = here.whole (record {
  same_buffer = refl;
  written = record { end = rw add-zero refl; holds = sym (put_nil after.out.now after.end) };
})
