-- A text may be read in pieces, and a reader at a fault gives nothing more.
use Rattle.std.proofs.Common.{◌≡◌, ℕ, List, [], ◌∷◌, ◌++◌, sym, refl, ap, ◌∙◌, append_assoc, append-nil}
use Rattle.hex_text.specs.Text.{taken, reader_after, given_by, bytes_of, Progress, advanced, read_on, unhexed, at}
use Rattle.hex_text.specs.declared.Reader.{Reader}
use Rattle.hex_text.specs.declared.Fault.{Fault}
use Rattle.hex_text.specs.declared.Place.TheVariants.{Stopped}

abbrev from : Reader → List ℕ → Progress
from r b = record { reader = r; bytes = b }

-- the bytes before are kept in front
before : (b : List ℕ) (r : Reader) (done s : List ℕ)
    → read_on (from r (b ++ done)) s ≡ from (read_on (from r done) s).reader (b ++ (read_on (from r done) s).bytes)
unfolding read_on
before b r done [] = refl
before b r done (c ∷ s) =
    ap (λ (l : List ℕ). read_on (from (taken r c).reader l) s) (append_assoc b done (bytes_of (taken r c).given))
    ∙ before b (taken r c).reader (done ++ bytes_of (taken r c).given) s

on : (x : Progress) (s t : List ℕ) → read_on x (s ++ t) ≡ read_on (read_on x s) t
unfolding read_on
on x [] t = refl
on x (c ∷ s) t = on (advanced x (taken x.reader c)) s t

-- what two pieces give is what the whole gives
pub in_pieces_lem : (r : Reader) (s t : List ℕ)
    → unhexed r (s ++ t) ≡ from (unhexed (unhexed r s).reader t).reader ((unhexed r s).bytes ++ (unhexed (unhexed r s).reader t).bytes)
unfolding unhexed
in_pieces_lem r s t =
    on (from r []) s t
    ∙ ap (λ (l : List ℕ). read_on (from (read_on (from r []) s).reader l) t) (sym (append-nil (read_on (from r []) s).bytes))
    ∙ before (read_on (from r []) s).bytes (read_on (from r []) s).reader [] t

-- at a fault
pub stays : (f : Fault) (r : Reader) (s : List ℕ) → unhexed (at r (Stopped f)) s ≡ from (at r (Stopped f)) []
unfolding unhexed read_on taken reader_after given_by
stays f r [] = refl
stays f r (c ∷ s) = stays f r s
