-- What document 01, "Order, filters, storage", says of the filters: the bits that they look at, the words that they take, their order and
-- numbers, which filter a frame passes, and what the registers show of them. "Register map": the banks' words read back.
-- n is the number of banks, v their words R1 and R2 in turn, w a frame's identifier word.
use Rattle.std.specs.Prelude.{Bool, true, false, List, [], ◌∷◌, ◌⊎◌, ◌↔◌, ◌≡◌, ℕ, ◌+◌, ◌*◌, ◌^◌, ◌≤◌, ◌<◌, Option, Some, None}
use Rattle.base.specs.Base.{bit, bits}
use Rattle.model.specs.Banks.{bank, first_word, second_word, is_active, class_of, rank, width, short_word, matches, belongs, first_number, number_of, banks_below, four_counts}
use Rattle.model.specs.Search.{first_hit, acceptance}
use Rattle.model.specs.Reception.{malformed, sent_frame}
use Rattle.model.specs.Registers.{bank_count}
use Rattle.model.specs.Shown.{fm1r, fs1r, ffa1r, fact, fifo_number}
use Rattle.model.specs.Codes.{reads}
use Rattle.model.specs.ReadBack.{Accepts, after_write, sets, Stays}
use Rattle.model.specs.declared.Filters.{Filters}
use Rattle.model.specs.declared.Bank.{Bank}
use Rattle.model.specs.declared.FilterNumber.{FilterNumber}
use Rattle.model.specs.declared.FilterClass.{FilterClass}
use Rattle.model.specs.declared.FilterClass.TheVariants.{List32, Mask32, List16, Mask16}
use Rattle.model.specs.declared.Fifo.{Fifo}
use Rattle.model.specs.declared.Frame.{Frame}
use Rattle.model.specs.declared.MailboxState.{MailboxState}
use Rattle.model.specs.declared.Register.{Register}
use Rattle.model.specs.declared.Register.TheVariants.{R1, R2}
use Rattle.model.specs.declared.Controller.{Controller}
use Rattle.model.specs.declared.Step as steps

-- ---- the numbers of the enums

-- a class: its bits in FS1R (1: 32-bit) and FM1R (1: list)
abbrev pub scale_bit : FilterClass → Bool
scale_bit List32 = true
scale_bit Mask32 = true
scale_bit List16 = false
scale_bit Mask16 = false

abbrev pub mode_bit : FilterClass → Bool
mode_bit List32 = true
mode_bit Mask32 = false
mode_bit List16 = true
mode_bit Mask16 = false

-- the first match: its filter number, if there is one
abbrev pub hit_numbers : Option FilterNumber → List ℕ
hit_numbers (Some x) = x.0 ∷ []
hit_numbers None = []

-- where a frame goes: the numbers of the FIFO and of the filter, if it goes anywhere
abbrev pub acceptance_numbers : Option (Fifo × FilterNumber) → List ℕ
acceptance_numbers (Some (f, x)) = fifo_number f ∷ x.0 ∷ []
acceptance_numbers None = []

-- ---- classes

-- 1 (32-bit mask), 2 (32-bit list, 16-bit mask) or 4 filters (16-bit list); 32-bit wins over 16, list over mask
pub record Classes : Type 0 where
  pub mask32 : width Mask32 ≡ 1
  pub list32 : width List32 ≡ 2
  pub mask16 : width Mask16 ≡ 2
  pub list16 : width List16 ≡ 4
  pub scale : (k l : FilterClass) → scale_bit k ≡ true → scale_bit l ≡ false → rank k < rank l
  pub mode : (k l : FilterClass) → scale_bit k ≡ scale_bit l → mode_bit k ≡ true → mode_bit l ≡ false → rank k < rank l

-- ---- the words that a filter takes

-- the 16-bit word, from the top: the top 11 bits, RTR, IDE, EXID 17 to 15
pub record ShortWord (w : ℕ) : Type 0 where
  pub top : (i : ℕ) → i < 11 → bit (5 + i) (short_word w) ≡ bit (21 + i) w
  pub rtr : bit 4 (short_word w) ≡ bit 1 w
  pub ide : bit 3 (short_word w) ≡ bit 2 w
  pub exid : (i : ℕ) → i < 3 → bit i (short_word w) ≡ bit (18 + i) w
  pub fits : w < 2 ^ 32 → short_word w < 2 ^ 16

-- w agrees with x wherever the mask m has a 1
abbrev pub Agrees : ℕ → ℕ → ℕ → Type 0
Agrees m x w = (i : ℕ) → bit i m ≡ true → bit i w ≡ bit i x

-- 32-bit filters of a bank with the words a (R1) and b (R2): R1 before R2; the mask is R2 over R1's identifier
pub record Filters32 (a b w : ℕ) : Type 0 where
  pub list0 : (matches List32 a b 0 w ≡ true) ↔ (w ≡ a)
  pub list1 : (matches List32 a b 1 w ≡ true) ↔ (w ≡ b)
  pub mask0 : (matches Mask32 a b 0 w ≡ true) ↔ Agrees b a w

-- a word with the given low and high half
abbrev pub halves : ℕ → ℕ → ℕ
halves l h = l + h * 65536

-- 16-bit filters of a bank whose words have the halves l and h (R1), p and q (R2): R1 before R2, low half before high;
-- a 16-bit mask is the high half over its low half's identifier
pub record Filters16 (l h p q w : ℕ) : Type 0 where
  pub list0 : (matches List16 (halves l h) (halves p q) 0 w ≡ true) ↔ (short_word w ≡ l)
  pub list1 : (matches List16 (halves l h) (halves p q) 1 w ≡ true) ↔ (short_word w ≡ h)
  pub list2 : (matches List16 (halves l h) (halves p q) 2 w ≡ true) ↔ (short_word w ≡ p)
  pub list3 : (matches List16 (halves l h) (halves p q) 3 w ≡ true) ↔ (short_word w ≡ q)
  pub mask0 : (matches Mask16 (halves l h) (halves p q) 0 w ≡ true) ↔ Agrees h l (short_word w)
  pub mask1 : (matches Mask16 (halves l h) (halves p q) 1 w ≡ true) ↔ Agrees q p (short_word w)

-- all that filters take: nothing past a bank's last filter, and before it as above
pub record Takes : Type 0 where
  pub short : (w : ℕ) → ShortWord w
  -- EXID 17 to 15 are 0 if standard: of a frame that is received, and of one that a mailbox sends
  pub received : (x : Frame) → malformed x ≡ false → bit 2 x.identifier ≡ false → bits 0 3 (short_word x.identifier) ≡ 0
  pub sent : (x : MailboxState) → bit 2 x.ti ≡ false → bits 0 3 (short_word (sent_frame x).identifier) ≡ 0
  pub filters32 : (a b w : ℕ) → Filters32 a b w
  pub filters16 : (l h p q w : ℕ) → l < 2 ^ 16 → p < 2 ^ 16 → Filters16 l h p q w
  pub only : (k : FilterClass) (a b j w : ℕ) → matches k a b j w ≡ true → j < width k

-- ---- the numbers

abbrev pub with_active : Filters → ℕ → Filters
with_active g a = record { mode = g.mode; scale = g.scale; assignment = g.assignment; activation = a; finit = g.finit }

-- each FIFO numbers its own banks' filters upward from 0, inactive banks included
pub record Numbers (n : ℕ) (g : Filters) (f : Fifo) : Type 0 where
  pub from_zero : (first_number n g f (bank 0)).0 ≡ 0
  pub own : (b : Bank) → b.0 < n → belongs f g b ≡ true
      → (first_number n g f (bank (b.0 + 1))).0 ≡ (first_number n g f b).0 + width (class_of g b)
  pub other : (b : Bank) → b.0 < n → belongs f g b ≡ false → first_number n g f (bank (b.0 + 1)) ≡ first_number n g f b
  pub past : (b : Bank) → n ≤ b.0 → first_number n g f b ≡ first_number n g f (bank n)
  pub inactive : (a : ℕ) (b : Bank) → first_number n (with_active g a) f b ≡ first_number n g f b
  pub in_bank : (b : Bank) (j : ℕ) → (number_of n g f b j).0 ≡ (first_number n g f b).0 + j
  -- so a number names one filter of the FIFO
  pub distinct : (a b : Bank) (i j : ℕ) → a.0 < n → b.0 < n → belongs f g a ≡ true → belongs f g b ≡ true
      → i < width (class_of g a) → j < width (class_of g b) → number_of n g f a i ≡ number_of n g f b j → (a ≡ b) × (i ≡ j)
  -- from counts of ones in the mode, scale and assignment words
  pub counts : g.assignment < 2 ^ 32 → g.scale < 2 ^ 32 → n ≤ 32 → (b : Bank) → (first_number n g f b).0 ≡ four_counts (banks_below n b) g f

-- ---- the filter that a frame passes

-- the bank, one of n, is active, in FIFO f and of class k, and its filter j takes a frame with the identifier word w
pub record ActiveMatch (n : ℕ) (g : Filters) (v : List ℕ) (w : ℕ) (k : FilterClass) (f : Fifo) (b : Bank) (j : ℕ) : Type 0 where
  pub within : b.0 < n
  pub active : is_active g b ≡ true
  pub assigned : belongs f g b ≡ true
  pub class : class_of g b ≡ k
  pub takes : matches k (first_word v b) (second_word v b) j w ≡ true

-- of one class in one FIFO: x is the lowest number of an active filter that takes the word
pub record Lowest (n : ℕ) (g : Filters) (v : List ℕ) (w : ℕ) (k : FilterClass) (f : Fifo) (x : FilterNumber) : Type 0 where
  pub bank : Bank
  pub filter : ℕ
  pub active : ActiveMatch n g v w k f bank filter
  pub number : x ≡ number_of n g f bank filter
  pub least : (b : Bank) (j : ℕ) → ActiveMatch n g v w k f b j → x.0 ≤ (number_of n g f b j).0

-- number x in FIFO f comes no later than y in e: the lower number first, and FIFO 0 first where they are equal
abbrev pub NumberNoLater : FilterNumber → Fifo → FilterNumber → Fifo → Type 0
NumberNoLater x f y e = (x.0 < y.0) ⊎ ((x.0 ≡ y.0) × (fifo_number f ≤ fifo_number e))

-- the same with classes, the r-th and the s-th in preference: the class goes before the number
abbrev pub NoLater : ℕ → FilterNumber → Fifo → ℕ → FilterNumber → Fifo → Type 0
NoLater r x f s y e = (r < s) ⊎ ((r ≡ s) × NumberNoLater x f y e)

-- x in FIFO f is the number of an active filter that takes the word, and of all such filters none comes before it
pub record Accepted (n : ℕ) (g : Filters) (v : List ℕ) (w : ℕ) (f : Fifo) (x : FilterNumber) : Type 0 where
  pub class : FilterClass
  pub bank : Bank
  pub filter : ℕ
  pub active : ActiveMatch n g v w class f bank filter
  pub number : x ≡ number_of n g f bank filter
  pub no_later : (k : FilterClass) (e : Fifo) (b : Bank) (j : ℕ) → ActiveMatch n g v w k e b j
      → NoLater (rank class) x f (rank k) (number_of n g e b j) e

-- no active filter takes the word
abbrev pub NoneTakes : ℕ → Filters → List ℕ → ℕ → Type 0
NoneTakes n g v w = (k : FilterClass) (f : Fifo) (b : Bank) (j : ℕ) → ActiveMatch n g v w k f b j → ⊥

-- of the filters that match: 32-bit wins over 16, list over mask, lower filter number, FIFO 0
pub record Filtering (n : ℕ) (g : Filters) (v : List ℕ) (w : ℕ) : Type 0 where
  -- the first match of a class in a FIFO is its lowest number, and there is none exactly when no active filter takes the word
  pub hit : (k : FilterClass) (f : Fifo) (x : FilterNumber) → (hit_numbers (first_hit n g v w k f) ≡ x.0 ∷ []) ↔ Lowest n g v w k f x
  pub no_hit : (k : FilterClass) (f : Fifo) → (hit_numbers (first_hit n g v w k f) ≡ []) ↔ ((b : Bank) (j : ℕ) → ActiveMatch n g v w k f b j → ⊥)
  -- a frame goes into FIFO f with the filter number x exactly when that filter comes first, and nowhere exactly when none takes it
  pub accepted : (f : Fifo) (x : FilterNumber)
      → (acceptance_numbers (acceptance n g v w) ≡ fifo_number f ∷ x.0 ∷ []) ↔ Accepted n g v w f x
  pub rejected : (acceptance_numbers (acceptance n g v w) ≡ []) ↔ NoneTakes n g v w

-- ---- what the registers show

-- what makes a filter of a bank match stands in FA1R, FFA1R, FS1R, FM1R, and in the bank's R1 and R2
pub record BankShown (z : Controller) (b : Bank) : Type 0 where
  pub active : is_active z.core.filters b ≡ fact b z
  pub fifo : (f : Fifo) → (belongs f z.core.filters b ≡ true) ↔ (bits b.0 1 (ffa1r z) ≡ fifo_number f)
  pub scale : scale_bit (class_of z.core.filters b) ≡ bit b.0 (fs1r z)
  pub mode : mode_bit (class_of z.core.filters b) ≡ bit b.0 (fm1r z)
  pub r1 : b.0 < bank_count → first_word z.banks b ≡ reads z (R1 b)
  pub r2 : b.0 < bank_count → second_word z.banks b ≡ reads z (R2 b)

-- ---- the banks' words

-- R1 or R2 of a bank that this board has
pub data BankWord : Register → Type 0 where
  word_r1 : (b : Bank) → b.0 < bank_count → BankWord (R1 b)
  word_r2 : (b : Bank) → b.0 < bank_count → BankWord (R2 b)

-- what was written to R1 or R2 of a bank reads back, all 32 bits of it; only that write and a reset change the word
pub record BankWords (z : Controller) : Type 0 where
  pub written : (r : Register) (w : ℕ) → BankWord r → Accepts z r w → reads (after_write z r w) r ≡ w
  pub kept : (r : Register) (s : steps.Step) → BankWord r → sets s r ≡ false → Stays z s r
