-- A turn over a lent reply space: of a piece that is replayed, and of one whose opening is refused.
use mathlib.Core.Bool.{Bool, true, false, ◌||◌}
use mathlib.Core.Path.{◌≡◌, refl, sym}
use mathlib.Core.List.{List}
use Prim.Native.Nat.{ℕ}
use native.Mathlib.Omega.{arith}
use lib.Dec.{eqb}
use lib.ListN.{length, drop}
use lib.Seq.{take-append-le, take_all}
use Rattle.base.specs.Base.{pick}
use Rattle.model.specs.Lesson.{opens}
use Rattle.model.specs.Script.{reply_of, overwritten}
use Rattle.model.specs.declared.Replayed.{Replayed}
use Rattle.bench.proofs.Rounds.{reply_bytes_lem}
use Rattle.pieces.specs.Turns as scripts
use Rattle.pieces.specs.declared.Position.{Position}
use Rattle.pieces.specs.declared.Turn as pieces
use Rattle.lesson.specs.Turns.{admits, refusal, refused_turn, lesson_piece, sent_by, Taken, RefusedPiece}

neither : (a b : Bool) → (a || b) ≡ false → a ≡ false
neither true b h = h
neither false b h = refl

module _ (k : Position) (o : Bool) (s : List ℕ) (last : Bool) (before after : List ℕ) where
  pub admitted : (t : pieces.Turn) → admits o s last ≡ true → scripts.Taken k s last before t after → Taken k o s last before (record { turn = t; opened = o || opens s }) after
  unfolding lesson_piece sent_by scripts.sent_by
  admitted t h p = record { result = rw (h, p.result); sent = rw h p.sent; space = rw h p.space }

  -- its reply has so many bytes
  abbrev answer : List ℕ
  answer = reply_of (refusal k (length before))

  bytes : pick (eqb (refusal k (length before)).code 9) 0 9 ≡ length answer
  bytes = sym (reply_bytes_lem (refusal k (length before)))

  pub refused : (r : Replayed) → admits o s last ≡ false → r ≡ refusal k (length before) → after ≡ overwritten (reply_of r) before
      → Taken k o s last before (record { turn = refused_turn k r.code; opened = false }) after
  unfolding lesson_piece sent_by
  refused r h e f = record {
    result = rw (h, neither (o || opens s) _ h, e);
    sent = rw (h, f, e, bytes) (take-append-le (length answer) answer (drop (length answer) before) (omega arith));
    space = rw (h, f, e);
  }

pub refused_piece : (k : Position) (o : Bool) (s : List ℕ) (last : Bool) (space : ℕ) → RefusedPiece k o s last space
unfolding lesson_piece sent_by
refused_piece k o s last space = record {
  position = λ h. rw h;
  place = λ h. rw h;
  code = λ h. rw h;
  going = λ h. rw h;
  ended = λ h. rw h;
  opened = λ h. neither (o || opens s) _ h;
  sent = λ h. rw (h, sym (reply_bytes_lem (refusal k space))) (take_all (length (reply_of (refusal k space))) (reply_of (refusal k space)) (omega arith));
}
