-- Lines, as bytes (ASCII): words with one space between, a newline at the end. A word is a number in decimal or a pattern of 64 bits in hex. Definitions only. Assumes nothing.
use Rattle.std.specs.Prelude.{ℕ, zero, suc, ◌+◌, ◌/◌, ◌%◌, ◌^◌, Bool, false, cond, ◌||◌, List, [], ◌∷◌, ◌++◌, map, eqb, ltb, length, get_or, take, drop}
use Prim.Native.Char.{code}
use Prim.Native.String.{String, [] as none, ◌∷◌ as ◌then◌}
use Rattle.floats.specs.Tables.{table}
use Rattle.lines.specs.declared.words.Kind.{Kind}
use Rattle.lines.specs.declared.words.Kind.TheVariants.{Decimal, Hex}

-- the bytes of a text
unfoldable pub text : String → List ℕ
text none = []
text (c then s) = code c ∷ text s

-- the character of a digit: 0 to 9, then a to f
abbrev pub digit_of : ℕ → ℕ
digit_of d = cond (ltb d 10) (48 + d) (87 + d)

-- the last k digits of n to the base b, the highest first
unfoldable pub digits : ℕ → ℕ → ℕ → List ℕ
digits b zero n = []
digits b (suc k) n = digit_of (n / b ^ k % b) ∷ digits b k n

-- how many decimal digits n has, if no more than `most`: one below ten, else one more than its tenth part
unfoldable pub width_to : ℕ → ℕ → ℕ
width_to zero n = 1
width_to (suc most) n = cond (ltb n 10) 1 (suc (width_to most (n / 10)))

-- a number of 64 bits has at most 20
abbrev pub width_of : ℕ → ℕ
width_of n = width_to 19 n

-- a number without leading zeros, and a pattern of 64 bits in 16 hex digits
abbrev pub decimal_of : ℕ → List ℕ
decimal_of n = digits 10 (width_of n) n

abbrev pub hex_of : ℕ → List ℕ
hex_of n = digits 16 16 n

-- a word: what is printed, and how; a number
pub record Word : Type 0 where
  pub kind : Kind
  pub value : ℕ

abbrev pub number : ℕ → Word
number n = record { kind = Decimal; value = n }

-- its text, and how many bytes it takes at most, with the one behind it
abbrev pub text_of : Kind → ℕ → List ℕ
text_of Decimal n = decimal_of n
text_of Hex n = hex_of n

abbrev pub widest_of : Kind → ℕ
widest_of Decimal = 21
widest_of Hex = 17

-- the byte behind a word that `left` words follow: a space, and a newline behind the last
abbrev pub behind : ℕ → ℕ
behind left = cond (eqb left 0) 10 32

-- the line of some words
unfoldable pub line_of : List Word → List ℕ
line_of [] = []
line_of (w ∷ ws) = text_of w.kind w.value ++ (behind (length ws) ∷ line_of ws)

-- how long a line of words of these kinds can be
abbrev pub longest_of : List Kind → ℕ
longest_of [] = 0
longest_of (k ∷ ks) = widest_of k + longest_of ks

abbrev pub kinds_of : List Word → List Kind
kinds_of ws = map (λ w. w.kind) ws

-- whether t is among some places
unfoldable pub among : List ℕ → ℕ → Bool
among [] t = false
among (p ∷ ps) t = eqb p t || among ps t

-- the words of some values, of which those at the places `patterns` are patterns
abbrev pub kind_at : List ℕ → ℕ → Kind
kind_at patterns t = cond (among patterns t) Hex Decimal

abbrev pub word_at : List ℕ → List ℕ → ℕ → Word
word_at values patterns t = record { kind = kind_at patterns t; value = get_or values t 0 }

abbrev pub words_at : List ℕ → List ℕ → List Word
words_at values patterns = table (word_at values patterns) (length values)

-- l with the bytes ys put at place p, the rest as it was
unfoldable pub put_at : ℕ → List ℕ → List ℕ → List ℕ
put_at p ys l = take p l ++ (ys ++ drop (p + length ys) l)

-- a line at the front of a buffer, and its length, where the buffer has the room that is asked for; else the buffer stays, and the length is 0
abbrev pub fronted : ℕ → List ℕ → List ℕ → List ℕ
fronted room line l = cond (ltb (length l) room) l (line ++ drop (length line) l)

abbrev pub front_length : ℕ → List ℕ → List ℕ → ℕ
front_length room line l = cond (ltb (length l) room) 0 (length line)

-- the same for the line of some words, where the buffer has room for the longest such line
abbrev pub words_fronted : List Word → List ℕ → List ℕ
words_fronted ws l = fronted (longest_of (kinds_of ws)) (line_of ws) l

abbrev pub words_length : List Word → List ℕ → ℕ
words_length ws l = front_length (longest_of (kinds_of ws)) (line_of ws) l
