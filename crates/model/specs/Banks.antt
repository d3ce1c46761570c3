-- Filter banks: their class, their filters in order, and the numbers that the filters have in their FIFO.
-- Document 01: "Order, filters, storage". A bank's number and a filter's number in its FIFO are two types.
use Rattle.std.specs.Prelude.{Bool, true, false, not, List, [], ◌∷◌, ℕ, zero, suc, ◌+◌, ◌-◌, ◌*◌, ◌/◌, ◌%◌, ◌^◌, eqb, ltb, length, get_or}
use Rattle.std.specs.Int.Bits.{bit_and}
use Rattle.std.specs.Int.Count.{ones}
use Rattle.base.specs.Base.{pick, bit, bits, sum}
use Rattle.model.specs.declared.Filters.{Filters}
use Rattle.model.specs.declared.Bank.{Bank}
use Rattle.model.specs.declared.FilterNumber.{FilterNumber}
use Rattle.model.specs.declared.FilterClass.{FilterClass}
use Rattle.model.specs.declared.FilterClass.TheVariants.{List32, Mask32, List16, Mask16}
use Rattle.model.specs.declared.Fifo.{Fifo}
use Rattle.model.specs.declared.Fifo.TheVariants.{F0, F1}

abbrev pub bank : ℕ → Bank
bank i = record { 0 = i }

abbrev pub filter_number : ℕ → FilterNumber
filter_number x = record { 0 = x }

-- R1 and R2 of a bank; v has the words of all banks, R1 and R2 of each in turn
abbrev pub first_word : List ℕ → Bank → ℕ
first_word v b = get_or v (2 * b.0) 0

abbrev pub second_word : List ℕ → Bank → ℕ
second_word v b = get_or v (2 * b.0 + 1) 0

-- the bank's bit in FA1R
abbrev pub is_active : Filters → Bank → Bool
is_active g b = bit b.0 g.activation

-- ---- the class of a bank: its bits in FS1R (1: 32-bit) and FM1R (1: list)

abbrev pub class_by : Bool → Bool → FilterClass
class_by true true = List32
class_by true false = Mask32
class_by false true = List16
class_by false false = Mask16

unfoldable pub class_of : Filters → Bank → FilterClass
class_of g b = class_by (bit b.0 g.scale) (bit b.0 g.mode)

-- 32-bit wins over 16, list over mask
abbrev pub rank : FilterClass → ℕ
rank List32 = 0
rank Mask32 = 1
rank List16 = 2
rank Mask16 = 3

-- ---- its filters

-- a list filter takes the one word; a mask filter takes each word that agrees with its own wherever the mask has a 1
pub data Filter : Type 0 where
  exactly : ℕ → Filter
  under : ℕ → ℕ → Filter

abbrev pub low_half : ℕ → ℕ
low_half r = r % 65536

abbrev pub high_half : ℕ → ℕ
high_half r = r / 65536

-- the filters of a bank with the words a (R1) and b (R2): R1 before R2, low half before high;
-- a 16-bit mask is the high half over its low half's identifier
abbrev pub filters : FilterClass → ℕ → ℕ → List Filter
filters List32 a b = exactly a ∷ exactly b ∷ []
filters Mask32 a b = under a b ∷ []
filters List16 a b = exactly (low_half a) ∷ exactly (high_half a) ∷ exactly (low_half b) ∷ exactly (high_half b) ∷ []
filters Mask16 a b = under (low_half a) (high_half a) ∷ under (low_half b) (high_half b) ∷ []

-- how many filters a bank gives: 2, 1, 4, 2
abbrev pub width : FilterClass → ℕ
width k = length (filters k 0 0)

-- a frame's 16-bit word, from the top: the top 11 bits, RTR, IDE, EXID 17 to 15, which a standard frame has as 0 (`malformed`,
-- `sent_identifier`)
abbrev pub short_word : ℕ → ℕ
short_word w = w / 2 ^ 21 * 32 + bits 1 1 w * 16 + bits 2 1 w * 8 + bits 18 3 w

-- the word that filters of a class look at; a frame's 32-bit word is its identifier word as in RI
abbrev pub word_for : FilterClass → ℕ → ℕ
word_for List32 w = w
word_for Mask32 w = w
word_for List16 w = short_word w
word_for Mask16 w = short_word w

abbrev pub takes : Filter → ℕ → Bool
takes (exactly x) w = eqb w x
takes (under x m) w = eqb (bit_and w m) (bit_and x m)

abbrev pub taken_at : List Filter → ℕ → ℕ → Bool
taken_at [] j w = false
taken_at (x ∷ l) zero w = takes x w
taken_at (x ∷ l) (suc j) w = taken_at l j w

-- filter j of a bank of class k with the words a and b takes a frame with the identifier word w
unfoldable pub matches : FilterClass → ℕ → ℕ → ℕ → ℕ → Bool
matches k a b j w = taken_at (filters k a b) j (word_for k w)

-- ---- its numbers

-- the bank's bit in FFA1R
abbrev pub belongs : Fifo → Filters → Bank → Bool
belongs F0 g b = not (bit b.0 g.assignment)
belongs F1 g b = bit b.0 g.assignment

-- how many numbers of the FIFO a bank takes, active or not
abbrev pub share : Fifo → Filters → Bank → ℕ
share f g b = pick (belongs f g b) (width (class_of g b)) 0

-- how many the i lowest banks take
abbrev pub numbers_below : Fifo → Filters → ℕ → ℕ
numbers_below f g i = sum (λ (j : ℕ). share f g (bank j)) i

-- how many of n banks come before a bank
abbrev pub banks_below : ℕ → Bank → ℕ
banks_below n b = pick (ltb b.0 n) b.0 n

-- the number of a bank's first filter, of n banks: each FIFO numbers its own banks' filters upward from 0. (For a bank of the
-- other FIFO or past the last one it is the next free number.)
unfoldable pub first_number : ℕ → Filters → Fifo → Bank → FilterNumber
first_number n g f b = filter_number (numbers_below f g (banks_below n b))

-- the number of a bank's filter j
abbrev pub number_of : ℕ → Filters → Fifo → Bank → ℕ → FilterNumber
number_of n g f b j = filter_number ((first_number n g f b).0 + j)

-- ---- the same from counts of ones in the mode, scale and assignment words

-- the word with a 1 for each bank of the FIFO; for FIFO 0 the bits past the last bank are 1 too
abbrev pub own : Fifo → Filters → ℕ
own F0 g = (2 ^ 32 - 1) - g.assignment
own F1 g = g.assignment

-- how many of the i lowest bits of w are 1
abbrev pub ones_below : ℕ → ℕ → ℕ
ones_below i w = ones (bit_and w (2 ^ i - 1))

-- of the i lowest banks: those of the FIFO, those of them in list mode, those with 16 bits, those with both
abbrev pub four_counts : ℕ → Filters → Fifo → ℕ
four_counts i g f =
    ones_below i (own f g) + ones_below i (bit_and (own f g) g.mode) + ones_below i (bit_and (own f g) ((2 ^ 32 - 1) - g.scale))
    + ones_below i (bit_and (bit_and (own f g) g.mode) ((2 ^ 32 - 1) - g.scale))
