-- The definitions over all words of a line, one word on and at their end: what the loops need to carry them.
use Rattle.std.proofs.Common.{◌≡◌, refl, ap, ◌∙◌, true, false, List, ℕ, zero, suc, ◌+◌, ◌-◌, ◌<◌, ◌≤◌, length, arith, le-leb, Ok, Err}
use Rattle.std.proofs.lemmas.Bool.{lt-leb}
use Rattle.names.specs.Scan.{run_end, word_at}
use Rattle.names.specs.declared.scan.Word.{Word}
use Rattle.names.specs.declared.scan.Class.TheVariants.{HexDigit}
use Rattle.lines.specs.Parts.{words_on, field}
use Rattle.lines.specs.Lines.{bytes_on, is_unpaired, bytes_line}
use Rattle.lines.specs.Meanings.{bad}
use Rattle.lines.specs.declared.Meaning.TheVariants.{Bytes}
use Rattle.lines.specs.declared.Rule.TheVariants.{WantsPairs}
use Rattle.lines.specs.declared.Fault.{Fault}
use Rattle.lines.specs.declared.parts.Kind.{Kind}
use Rattle.lines.specs.declared.parts.Part.{Part}

module _ (i j : ℕ) where
  left : i < j → j - i ≡ suc (j - (i + 1))
  left h = omega arith

  none_left : j ≤ i → j - i ≡ 0
  none_left h = omega arith

module _ (s : List ℕ) (k : Kind) where
  words-broken : (f : Fault) (n : ℕ) → words_on s k (Err f) n ≡ Err f
  unfolding words_on
  words-broken f zero = refl
  words-broken f (suc n) = refl

  module _ (x : Part) (i j : ℕ) where
    pub words-done : i < j → (word_at s x.place).to ≤ (word_at s x.place).from → words_on s k (Ok x) (j - i) ≡ Ok x
    unfolding words_on
    words-done h e = ap (words_on s k (Ok x)) (left i j h) ∙ rw (le-leb _ _ e)

    pub words_on_lem : i < j → (word_at s x.place).from < (word_at s x.place).to
        → words_on s k (Ok x) (j - i) ≡ words_on s k (field s k x (word_at s x.place)) (j - (i + 1))
    unfolding words_on
    words_on_lem h e = ap (words_on s k (Ok x)) (left i j h) ∙ rw (lt-leb _ _ e)

    pub words-fault : (f : Fault) → i < j → (word_at s x.place).from < (word_at s x.place).to → field s k x (word_at s x.place) ≡ Err f
        → words_on s k (Ok x) (j - i) ≡ Err f
    words-fault f h e g = words_on_lem h e ∙ rw g (words-broken f (j - (i + 1)))

    pub words-ended : j ≤ i → words_on s k (Ok x) (j - i) ≡ Ok x
    unfolding words_on
    words-ended h = ap (words_on s k (Ok x)) (none_left i j h)

module _ (s : List ℕ) (p : ℕ) (w : Word) (i j : ℕ) where
  pub bytes-done : i < j → w.to ≤ w.from → bytes_on s p w (j - i) ≡ Ok (Bytes p)
  unfolding bytes_on
  bytes-done h l = ap (bytes_on s p w) (left i j h) ∙ rw (le-leb w.to w.from l)

  pub bytes-bad : i < j → w.from < w.to → is_unpaired w (run_end s w.from HexDigit) ≡ true → bytes_on s p w (j - i) ≡ bad w.from WantsPairs
  unfolding bytes_on
  bytes-bad h l f = ap (bytes_on s p w) (left i j h) ∙ rw (lt-leb w.to w.from l, f)

  pub bytes_on_lem : i < j → w.from < w.to → is_unpaired w (run_end s w.from HexDigit) ≡ false
      → bytes_on s p w (j - i) ≡ bytes_on s p (word_at s w.to) (j - (i + 1))
  unfolding bytes_on
  bytes_on_lem h l f = ap (bytes_on s p w) (left i j h) ∙ rw (lt-leb w.to w.from l, f)

  pub bytes-ended : j ≤ i → bytes_on s p w (j - i) ≡ Ok (Bytes p)
  unfolding bytes_on
  bytes-ended h = ap (bytes_on s p w) (none_left i j h)

pub bytes-begun : (s : List ℕ) (p : ℕ) (w : Word) → w ≡ word_at s p → w.from < w.to → bytes_on s w.from w (length s) ≡ bytes_line s p
unfolding bytes_line
bytes-begun s p w e h = rw (← e, lt-leb w.to w.from h)
