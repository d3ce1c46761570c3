-- The rounds of a replay: what holds after as many rounds as records, how one more carries it on, and where the replay stops.
use mathlib.Core.Bool.{Bool, true, false, not, ◌&&◌, ◌||◌, true≢false}
use mathlib.Core.Path.{◌≡◌, refl, sym, ap, ◌∙◌}
use mathlib.Core.List.{List, [], ◌++◌}
use Prim.Native.Nat.{ℕ, suc, ◌+◌, ◌-◌, ◌*◌, ◌≤◌}
use native.Mathlib.Nat.{add-zero}
use native.Mathlib.Numerals.{add-one}
use native.Mathlib.Omega.{arith}
use lib.Dec.{eqb, ltb}
use lib.ListN.{length, take, drop, length-append, length-drop}
use lib.Seq.{length-take-le}
use borrow.Author.Tests.{ltb-false, ne_eqb}
use Rattle.base.specs.Base.{pick}
use Rattle.model.specs.Script.{reply, record_at, reply_of, overwritten, stops, Progress, begun, after_record, advanced, times, replay}
use Rattle.model.specs.Scripts.{is_end}
use Rattle.model.specs.declared.Controller.{Controller}
use Rattle.model.specs.declared.Replayed.{Replayed}
use Rattle.model.specs.declared.Replay.{Replay}
use Rattle.model.proofs.Readings.{record-codes, record-within, record_advances}
use Rattle.model.proofs.Replays.{times_more}
use Rattle.model.proofs.Spaces.{put-behind}

-- ---- the length of a reply

pub reply_bytes_lem : (r : Replayed) → length (reply_of r) ≡ pick (r.ended || eqb r.code 9) 0 9
unfolding reply_of reply
reply_bytes_lem r = go (r.ended || eqb r.code 9)
  where
    go : (b : Bool) → length (pick b [] (reply r.code r.lines r.word)) ≡ pick b 0 9
    go true = refl
    go false = refl

-- a record that does not stop the replay has a reply
pub goes_on_lem : (e : Bool) (k : ℕ) → stops e k ≡ false → (e || eqb k 9) ≡ false
goes_on_lem true k h = h
goes_on_lem false k h = ne_eqb k 9 (λ q. true≢false (rw q at h))

pub answered-bytes : (r : Replayed) → stops r.ended r.code ≡ false → length (reply_of r) ≡ 9
answered-bytes r h = reply_bytes_lem r ∙ rw (goes_on_lem r.ended r.code h)

-- a reply fits the space that is left for it
pub reply-fits : (z : Controller) (s : List ℕ) (p space : ℕ) → length (reply_of (record_at z s p space)) ≤ space
reply-fits z s p space =
    rw (reply_bytes_lem (record_at z s p space), (record-codes z s p space).ends, (record-codes z s p space).code9) (go (is_end s p) (ltb space 9) refl)
  where
    go : (e a : Bool) → ltb space 9 ≡ a → pick (e || (not e && a)) 0 9 ≤ space
    go true a h = omega arith
    go false true h = omega arith
    go false false h = ltb-false space 9 h

-- ---- rounds

module _ (z : Controller) (s : List ℕ) (space : List ℕ) where
  -- how far the replay is after k rounds
  abbrev pub after : ℕ → Progress
  after k = times k (advanced s (length space)) (begun z)

  -- a replay that goes on, after as many rounds as records
  pub record Going (now : List ℕ) (state : Controller) (p k w : ℕ) : Type 0 where
    pub controller : (after k).result.controller ≡ state
    pub place : (after k).result.place ≡ p
    pub records : (after k).result.records ≡ k
    pub written : (after k).result.written ≡ w
    pub goes : stops (after k).result.ended (after k).result.code ≡ false
    pub bytes : w ≡ length (after k).replies
    pub replies : now ≡ overwritten (after k).replies space
    pub fits : w ≤ length space
    pub same : length now ≡ length space
    pub within : p ≤ length s
    pub enough : 3 * k ≤ p

  pub going-begun : Going space z 0 0 0
  unfolding times
  going-begun = record {
    controller = refl;
    place = refl;
    records = refl;
    written = refl;
    goes = refl;
    bytes = refl;
    replies = refl;
    fits = omega arith;
    same = refl;
    within = omega arith;
    enough = omega arith;
  }

  module _ (now : List ℕ) (state : Controller) (p k w : ℕ) (g : Going now state p k w) (r : Replayed) (lent : r ≡ record_at state s p (length (take (length now - w) (drop w now)))) where
    room : length (take (length now - w) (drop w now)) ≡ length space - w
    room = length-take-le (length now - w) (drop w now) (omega (arith, length-drop w now)) ∙ ap (λ (n : ℕ). n - w) g.same

    e : r ≡ record_at state s p (length space - w)
    e = lent ∙ ap (record_at state s p) room

    given : record_at (after k).result.controller s (after k).result.place (length space - (after k).result.written) ≡ r
    given = rw (g.controller, g.place, g.written) (sym e)

    -- one round more
    round : after (suc k) ≡ after_record (after k) r
    unfolding times advanced
    round = rw g.goes (ap (after_record (after k)) given)

    -- the replies with that of the record
    pub more : (part : List ℕ) → part ≡ overwritten (reply_of r) (take (length now - w) (drop w now))
        → take w now ++ (part ++ drop (length now - w) (drop w now)) ≡ overwritten (after (suc k)).replies space
    unfolding after_record
    more part h = rw round (put-behind (after k).replies (reply_of r) space now part w g.bytes g.fits g.replies h)

    pub bytes_fit : w + length (reply_of r) ≤ length space
    bytes_fit = rw e (omega (arith, g.fits, reply-fits state s p (length space - w)))

    -- a record that was answered: the replay goes on behind it
    module _ (h : stops r.ended r.code ≡ false) where
      nine-fit : w + 9 ≤ length space
      nine-fit = omega (arith, answered-bytes r h, bytes_fit)

      pub further : p + 3 ≤ r.place
      further = rw e (record_advances state s p (length space - w) (rw e at h))

      pub place-within : r.place ≤ length s
      place-within = rw e (record-within state s p (length space - w) g.within)

      going-suc : (now' : List ℕ) → now' ≡ overwritten (after (suc k)).replies space → length now' ≡ length space
          → Going now' r.controller r.place (suc k) (w + 9)
      unfolding after_record
      going-suc now' f l = record {
        controller = rw round;
        place = rw round;
        records = rw (round, h) (omega (arith, g.records));
        written = rw (round, answered-bytes r h) (omega (arith, g.written));
        goes = rw round h;
        bytes = rw (round, length-append, answered-bytes r h) (omega (arith, g.bytes));
        replies = f;
        fits = nine-fit;
        same = l;
        within = place-within;
        enough = omega (arith, g.enough, further);
      }

      pub going_on : (now' : List ℕ) → now' ≡ overwritten (after (suc k)).replies space → length now' ≡ length space
          → Going now' r.controller r.place (k + 1) (w + 9)
      going_on now' f l = rw add-one (going-suc now' f l)

    -- a record that was not: the replay is over
    module _ (h : stops r.ended r.code ≡ true) where
      rounds : suc (length s) ≡ suc k + (length s - k)
      rounds = omega (arith, g.within, g.enough)

      fixed : advanced s (length space) (after (suc k)) ≡ after (suc k)
      unfolding advanced after_record
      fixed = rw (round, h)

      pub last_round : replay z s (length space) ≡ after (suc k)
      unfolding replay
      last_round = rw rounds (times_more (suc k) (length s - k) (advanced s (length space)) (begun z) fixed)

      -- what the replay gives, from the last record
      pub result : (n : ℕ) → n ≡ pick (r.ended || eqb r.code 9) 0 9
          → ◌≡◌ {A = Replay} (record { controller = r.controller; place = r.place; records = k; written = w + n; ended = r.ended; code = r.code; lines = r.lines; word = r.word }) (replay z s (length space)).result
      unfolding after_record
      result n b = rw (last_round, round, h, g.records, g.written, reply_bytes_lem r, b, add-zero)
