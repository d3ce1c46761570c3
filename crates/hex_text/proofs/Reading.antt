-- What holds while a text is read and its bytes are written over its start, and how one character more carries it on.
use Rattle.std.proofs.Common.{◌≡◌, ℕ, suc, ◌+◌, ◌-◌, ◌<◌, ◌≤◌, List, ◌∷◌, ◌++◌, length, get_or, take, drop, sym, refl, ap, ◌∙◌, append-nil, add-zero, add-one, arith, length-set, take-append-drop, drop_of_length-le, length-take-le, get_or-drop, drop-cons, drop-drop, take-suc-set, drop-set-lt}
use Rattle.model.specs.Script.{overwritten}
use Rattle.hex_text.specs.Text.{taken, bytes_of, stored, advanced, read_on, unhexed, piece_of}
use Rattle.hex_text.specs.declared.Reader.{Reader}
use Rattle.std.specs.Prelude.{Option, Some, None}
use Rattle.hex_text.specs.declared.Advance.{Advance}
use Rattle.hex_text.specs.declared.Piece.{Piece}

-- ---- the text while it is read: the bytes so far over its start, the rest as it was

module _ (r : Reader) (text : List ℕ) where
  pub record Going (now : List ℕ) (reader : Reader) (n i : ℕ) : Type 0 where
    pub read : read_on (record { reader = reader; bytes = take n now }) (drop i text) ≡ unhexed r text
    pub rest : drop n now ≡ drop n text
    pub same : length now ≡ length text
    pub behind : n ≤ i
    pub inside : i ≤ length text

  pub going-begun : Going text r 0 0
  unfolding unhexed
  going-begun = record { read = refl; rest = refl; same = refl; behind = omega arith; inside = omega arith }

  module _ (now : List ℕ) (reader : Reader) (n i : ℕ) (g : Going now reader n i) where
    -- the characters that are still to come are the text's
    at_i : get_or now i 0 ≡ get_or text i 0
    at_i =
        let e : n + (i - n) ≡ i = omega (arith, g.behind) in
        ap (λ (k : ℕ). get_or now k 0) (sym e) ∙ sym (get_or-drop n now (i - n) 0) ∙ ap (λ (l : List ℕ). get_or l (i - n) 0) g.rest ∙ get_or-drop n text (i - n) 0 ∙ ap (λ (k : ℕ). get_or text k 0) e

    module _ (h : i < length text) where
      one_more : (q : Option ℕ) (next : Reader) → taken reader (get_or now i 0) ≡ record { reader = next; given = q }
          → read_on (record { reader = next; bytes = take n now ++ bytes_of q }) (drop (suc i) text) ≡ unhexed r text
      unfolding read_on
      one_more q next e =
          let a : drop i text ≡ get_or now i 0 ∷ drop (suc i) text = drop-cons text i 0 h ∙ ap (λ (c : ℕ). c ∷ drop (suc i) text) (sym at_i) in
          sym (ap (λ (t : Advance). read_on (advanced (record { reader = reader; bytes = take n now }) t) (drop (suc i) text)) e) ∙ sym (ap (read_on (record { reader = reader; bytes = take n now })) a) ∙ g.read

      pub going_on : (q : Option ℕ) (next : Reader) → taken reader (get_or now i 0) ≡ record { reader = next; given = q }
          → Going (stored q n now) next (n + length (bytes_of q)) (i + 1)
      going_on (Some b) next e = record {
        read = rw (add-one n, add-one i, take-suc-set now n b (omega (arith, g.same, g.behind))) (one_more (Some b) next e);
        rest = drop-set-lt (n + 1) now n b (omega arith) ∙ sym (drop-drop 1 n now) ∙ ap (drop 1) g.rest ∙ drop-drop 1 n text;
        same = length-set now n b ∙ g.same;
        behind = omega (arith, g.behind);
        inside = omega arith;
      }
      going_on None next e = record {
        read = rw (add-zero n, add-one i) (rw append-nil at (one_more None next e));
        rest = rw add-zero g.rest;
        same = g.same;
        behind = omega (arith, g.behind);
        inside = omega arith;
      }

    -- at the end of the text
    module _ (h : length text ≤ i) where
      all : unhexed r text ≡ record { reader = reader; bytes = take n now }
      unfolding read_on
      all = sym g.read ∙ ap (read_on (record { reader = reader; bytes = take n now })) (drop_of_length-le text h)

      counted : length (take n now) ≡ n
      counted = length-take-le n now (omega (arith, g.behind, g.inside, g.same))

      pub piece : ◌≡◌ {A = Piece} (record { reader = reader; count = n }) (piece_of (unhexed r text))
      piece = rw (all, counted)

      pub left : now ≡ overwritten (unhexed r text).bytes text
      left = rw (all, counted, ← g.rest) (sym (take-append-drop n now))
