-- Turn after turn: what is sent, and what all turns come to.
use Rattle.std.proofs.Common.{◌≡◌, ℕ, ◌+◌, ◌-◌, ◌*◌, ◌%◌, ◌^◌, ◌≤◌, Bool, true, false, List, [], ◌∷◌, ◌++◌, length, take, drop, sym, refl, ap, ◌∙◌, append-nil, add_assoc, arith, length-append, length-take, length-take-le, take_all}
use native.Mathlib.Nat.{mod-add-mod}
use lib.Seq.{take-append-le}
use Rattle.base.specs.Base.{pick}
use Rattle.model.specs.Script.{overwritten, Progress, replay}
use Rattle.model.specs.Scripts.{goes_on, followed, left_by, after_piece, in_pieces}
use Rattle.model.specs.declared.Controller.{Controller}
use Rattle.model.specs.declared.Replay.{Replay}
use Rattle.base.proofs.Choices.{pick_cases}
use Rattle.model.proofs.Replays.{replays}
use Rattle.model.proofs.Pieces.{resumes, in_pieces_lem}
use Rattle.pieces.specs.declared.Position.{Position}
use Rattle.pieces.specs.declared.Turn.{Turn}
use Rattle.pieces.specs.Turns.{begun, behind, goes, turned, replay_piece, sent_by, Taken, Run, sent_before, after_turn, run, run_of, Turns}

-- ---- the replies of one piece

module _ (z : Controller) (s : List ℕ) (space : ℕ) where
  abbrev x : Progress
  x = replay z s space

  -- nine bytes for each record that was answered
  pub nine_bytes_lem : 9 * x.result.records ≤ x.result.written
  unfolding followed
  nine_bytes_lem =
      let few : 9 * x.result.records ≤ space = rw ((replays z s space).folds.records, length-take) (omega arith) in
      let e : replay z s space ≡ followed x (replay x.result.controller (left_by x s ++ []) (space - 9 * x.result.records)) = rw (append-nil s) at ((resumes z s space).more [] space few) in
      omega (arith, ap (λ (y : Progress). y.result.written) e)

  -- so many bytes of replies are sent
  sent-fits : (going : Bool) → pick going (9 * x.result.records) x.result.written ≤ length x.replies
  sent-fits true = omega (arith, nine_bytes_lem, (replays z s space).folds.written)
  sent-fits false = omega (arith, (replays z s space).folds.written)

  all-sent : take x.result.written x.replies ≡ x.replies
  all-sent = take_all x.result.written x.replies (omega (arith, (replays z s space).folds.written))

-- a turn, from what the replay of its piece gives
pub taken : (k : Position) (s : List ℕ) (last : Bool) (before after : List ℕ) (x : Replay) (r : Turn) → x ≡ (replay k.controller s (length before)).result
    → after ≡ overwritten (replay k.controller s (length before)).replies before → r ≡ turned k last x → Taken k s last before r after
unfolding replay_piece sent_by
taken k s last before after x r e f g =
    let y : Progress = replay k.controller s (length before) in record {
      result = g ∙ ap (turned k last) e;
      sent = rw (g, e, f) (take-append-le (pick (goes last y.result.ended y.result.code) (9 * y.result.records) y.result.written) y.replies (drop (length y.replies) before) (sent-fits k.controller s (length before) (goes last y.result.ended y.result.code)));
      space = f;
    }

-- ---- turn after turn

-- a count goes on modulo 2^64
counts-on : (a b c : ℕ) → ((a + b) % 2 ^ 64 + c) % 2 ^ 64 ≡ (a + (b + c)) % 2 ^ 64
counts-on a b c = mod-add-mod (a + b) (2 ^ 64) c ∙ ap (λ (n : ℕ). n % 2 ^ 64) (add_assoc a b c)

-- a piece with the replay x, and then what gives y
piece_run : (g : Bool) (k : Position) (x y : Progress) (r : Run) → take x.result.written x.replies ≡ x.replies → r ≡ run_of (behind k x.result) y
    → (sent : List ℕ) → sent ≡ take (pick g (9 * x.result.records) x.result.written) x.replies
    → pick g (sent_before sent r) (record { position = behind k x.result; ended = x.result.ended; code = x.result.code; sent = sent }) ≡ run_of k (pick g (followed x y) x)
unfolding followed
piece_run true k x y r h e sent f =
    rw (e, f, counts-on k.records x.result.records y.result.records, counts-on k.bytes x.result.place y.result.place)
piece_run false k x y r h e sent f = rw (f, h)

-- from any position, with any bytes left
runs : (space : ℕ) (l : List (List ℕ)) (k : Position) (left : List ℕ) → run space l k left ≡ run_of k (in_pieces space l k.controller left)
unfolding run in_pieces replay_piece sent_by after_turn after_piece
runs space [] k left = rw (all-sent k.controller left space)
runs space (b ∷ l) k left =
    let x : Progress = replay k.controller (left ++ b) space in
    piece_run (goes_on x.result.ended x.result.code) k x (in_pieces space l x.result.controller (left_by x (left ++ b))) _
    (all-sent k.controller (left ++ b) space) (runs space l (behind k x.result) (left_by x (left ++ b))) _ refl

-- ---- the whole script

-- as many bytes are written as there are in the replies
written_all : (space : ℕ) (l : List (List ℕ)) (z : Controller) (left : List ℕ) → (in_pieces space l z left).result.written ≡ length (in_pieces space l z left).replies
unfolding in_pieces after_piece followed
written_all space [] z left = (replays z left space).folds.written
written_all space (b ∷ l) z left =
    let x : Progress = replay z (left ++ b) space in
    let y : Progress = in_pieces space l x.result.controller (left_by x (left ++ b)) in
    pick_cases (λ (y : Progress). y.result.written ≡ length y.replies) (goes_on x.result.ended x.result.code) _ _
    (λ _. rw (length-append, length-take-le (9 * x.result.records) x.replies (sent-fits z (left ++ b) space true)) (ap (λ (n : ℕ). 9 * x.result.records + n) (written_all space l x.result.controller (left_by x (left ++ b)))))
    (λ _. (replays z (left ++ b) space).folds.written)

pub turns : (space : ℕ) (l : List (List ℕ)) (z : Controller) → Turns space l z
turns space l z = record {
  pieces = runs space l (begun z) [];
  whole = λ n all h f w.
      let sent : (run space l (begun z) []).sent ≡ (in_pieces space l z []).replies = ap (λ (r : Run). r.sent) (runs space l (begun z) []) in
      let fits : (in_pieces space l z []).result.written ≤ all = rw (written_all space l z [], ← sent) w in
      runs space l (begun z) [] ∙ ap (run_of (begun z)) (sym ((in_pieces_lem space l z).whole all ((in_pieces_lem space l z).enough n h f) fits));
}
