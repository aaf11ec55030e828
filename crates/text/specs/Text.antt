-- Text as a list of bytes: digits, values, the parts between separators, and numbers written in decimal and in base 16.
-- Document 01, "Command sheet"; document 02, A.6.
use Prim.Native.Char.{code}
use Prim.Native.String.{String}
use Rattle.std.specs.Prelude.{ℕ, zero, suc, ◌+◌, ◌*◌, ◌-◌, ◌/◌, ◌%◌, ◌^◌, ◌≡◌, List, [], ◌∷◌, ◌++◌, Bool, true, false}
use Rattle.std.specs.Prelude.{◌&&◌, ◌||◌, not, cond, eqb, leb, ltb, get_or, drop, Option, Some, None}

-- a quoted text as its bytes
abbrev pub bytes : String → List ℕ
bytes String.[] = []
bytes (String.◌∷◌ c s) = code c ∷ bytes s

-- 0x2C stands between values, 0x0A ends a line
abbrev pub comma : ℕ
comma = 44

abbrev pub line_end : ℕ
line_end = 10

-- the digit that a byte writes: 0x30 to 0x39 write 0 to 9, and 0x61 to 0x66, in base 16, ten to fifteen; 16 for any
-- other, which is no digit of either base
abbrev pub digit_of : ℕ → ℕ
digit_of b = cond (leb 48 b && leb b 57) (b - 48) (cond (leb 97 b && leb b 102) (b - 87) 16)

abbrev pub all_digits : (base : ℕ) → List ℕ → Bool
all_digits base [] = true
all_digits base (b ∷ bs) = ltb (digit_of b) base && all_digits base bs

-- the number that v becomes when digits are written after it
abbrev pub number_after : (base v : ℕ) → List ℕ → ℕ
number_after base v [] = v
number_after base v (b ∷ bs) = number_after base (v * base + digit_of b) bs

-- not empty, and a 0 in front only where it stands alone
abbrev pub leads_well : List ℕ → Bool
leads_well [] = false
leads_well (b ∷ []) = true
leads_well (b ∷ c ∷ bs) = not (eqb b 48)

-- "A value is 0 or has no leading zero, and is below 2^64", of the digits of a base
unfoldable pub is_number : (base : ℕ) → List ℕ → Bool
is_number base bs = leads_well bs && (all_digits base bs && ltb (number_after base 0 bs) (2 ^ 64))

-- a text begins with another
abbrev pub starts_with : List ℕ → List ℕ → Bool
starts_with [] s = true
starts_with (h ∷ hs) [] = false
starts_with (h ∷ hs) (b ∷ bs) = eqb b h && starts_with hs bs

-- "A value may now be 0x and lower-case digits, without leading zeros except 0x0, below 2^64." Document 02, A.6
abbrev pub base_prefix : List ℕ
base_prefix = bytes "0x"

-- a value, and its number
unfoldable pub is_value : List ℕ → Bool
is_value bs = is_number 10 bs || (starts_with base_prefix bs && is_number 16 (drop 2 bs))

unfoldable pub number_of : List ℕ → ℕ
number_of bs = cond (starts_with base_prefix bs) (number_after 16 0 (drop 2 bs)) (number_after 10 0 bs)

-- the number of a value, or none
unfoldable pub value_of : List ℕ → Option ℕ
value_of bs = cond (is_value bs) (Some (number_of bs)) None

-- no byte of a text is this one
abbrev pub Lacks : ℕ → List ℕ → Type 0
Lacks b [] = Unit {0}
Lacks b (c ∷ cs) = (c ≡ b → ⊥) × Lacks b cs

-- a separator begins a new part, and any other byte goes in front of the first
abbrev pub into_parts : Bool → ℕ → List (List ℕ) → List (List ℕ)
into_parts true b ps = [] ∷ ps
into_parts false b [] = (b ∷ []) ∷ []
into_parts false b (p ∷ ps) = (b ∷ p) ∷ ps

-- the parts of a text between separators, one more than it has separators
abbrev pub parts : ℕ → List ℕ → List (List ℕ)
parts separator [] = [] ∷ []
parts separator (b ∷ bs) = into_parts (eqb b separator) b (parts separator bs)

-- the text before the first separator
abbrev pub first_part : ℕ → List ℕ → List ℕ
first_part separator bs = get_or (parts separator bs) 0 []

-- a digit as a byte
abbrev pub byte_of : ℕ → ℕ
byte_of d = cond (ltb d 10) (48 + d) (87 + d)

-- the digits in a base of a number that has at most so many of them
abbrev pub digits_in : (base room n : ℕ) → List ℕ
digits_in base zero n = []
digits_in base (suc room) n =
    cond (ltb n base) (byte_of n ∷ []) (digits_in base room (n / base) ++ (byte_of (n % base) ∷ []))

-- a number in decimal; below 2^64 it has at most 20 digits
unfoldable pub decimal : ℕ → List ℕ
decimal n = digits_in 10 20 n

-- and in base 16, where it has at most 16; document 02, A.6
unfoldable pub base16 : ℕ → List ℕ
base16 n = base_prefix ++ digits_in 16 16 n

-- numbers in decimal, each with a comma before it
abbrev pub further_numbers : List ℕ → List ℕ
further_numbers [] = []
further_numbers (n ∷ ns) = comma ∷ (decimal n ++ further_numbers ns)

-- numbers in decimal, with commas between them
abbrev pub numbers : List ℕ → List ℕ
numbers [] = []
numbers (n ∷ ns) = decimal n ++ further_numbers ns

-- a line of numbers, its line end included
abbrev pub row : List ℕ → List ℕ
row ns = numbers ns ++ (line_end ∷ [])
