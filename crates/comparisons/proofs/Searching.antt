-- Which steps search the filters. Assumes nothing.
use Rattle.std.proofs.Common.{◌≡◌, ℕ, Bool, true, false, not, ◌&&◌, eqb, [], refl, ne_eqb, Option, Some, None}
use Rattle.model.specs.Control.{lbkm}
use Rattle.model.specs.declared.Core.{Core}
use Rattle.comparisons.specs.Searches.{searched_numbers, looped_word, accepted_word, searched_word, Searching}
use Rattle.model.specs.declared.Mailbox.{Mailbox}

module _ (c : Core) where
  -- one of the three conditions fails
  fails : (s : Option Mailbox) (r : ℕ) → (eqb r 0 && lbkm c.control && not c.filters.finit) ≡ false → searched_numbers (looped_word s c r) ≡ []
  unfolding looped_word
  fails None r e = refl
  fails (Some m) r e = rw e

  without-second : (a b : Bool) → (a && false && b) ≡ false
  without-second true b = refl
  without-second false b = refl

  without-third : (a b : Bool) → (a && b && false) ≡ false
  without-third true true = refl
  without-third true false = refl
  without-third false b = refl

  pub searching : Searching c
  unfolding searched_word accepted_word looped_word
  searching = record {
    frame = λ x. refl;
    loopback = λ m s l f. rw (s, l, f);
    off_the_wire = λ r s. rw s;
    not_good = λ r h. fails c.transmit.queue.transmitting r (rw (ne_eqb r 0 h));
    no_loopback = λ r l. fails c.transmit.queue.transmitting r (rw l (without-second (eqb r 0) (not c.filters.finit)));
    initializing = λ r f. fails c.transmit.queue.transmitting r (rw f (without-third (eqb r 0) (lbkm c.control)));
    refused = λ e code h. rw (ne_eqb code 0 h);
  }
