-- A reply is read as its answer wherever it stands, what is read stands there as its reply, and the replies of steps and scripts
-- read back as their answers.
use Rattle.std.proofs.Common.{Ok, Err}
use mathlib.Core.Bool.{Bool, true, false, not, ◌||◌}
use mathlib.Core.Path.{◌≡◌, refl, sym, ap, ◌∙◌}
use mathlib.Core.List.{List, [], ◌∷◌, ◌++◌, append_assoc, append-nil}
use Prim.Native.Nat.{ℕ, zero, suc, ◌+◌, ◌-◌, ◌*◌, ◌/◌, ◌%◌, ◌^◌, ◌<◌, ◌≤◌}
use native.Mathlib.Nat.{add-zero, add_assoc}
use native.Mathlib.Numerals.{towards_suc}
use native.Mathlib.Omega.{arith}
use lib.Dec.{eqb}
use lib.ListN.{length, take, drop, length-append}
use lib.Seq.{drop-append_seam, get_or-drop, drop-cons}
use borrow.Author.Tests.{ltb-false, lt-ltb, le-ltb, eqb-true}
use Rattle.base.specs.Base.{pick}
use Rattle.model.specs.Step.{step}
use Rattle.model.specs.Requests.{after}
use Rattle.model.specs.Reachable.{InRange, StepsRange}
use Rattle.model.specs.Script.{byte_at, number16, number32, part, reply, record_at, reply_of, replay, replies_to}
use Rattle.model.specs.Scripts.{header_short, answered_steps, last_answer, place_after, RecordCodes}
use Rattle.model.specs.Records.{Bytes}
use Rattle.model.specs.Replies.{reply_reading, reply_numbers, answers_by, answers_from, answers_in, is_reply_tag, is_reply_length, reply_short, ReplyCodes, RepliesApart, reply_of_answer, ReplyReads, ReplyStands, answers_to, stop_answer, RepliesRead}
use Rattle.model.specs.declared.Answer.{Answer}
use Rattle.model.specs.declared.Controller.{Controller}
use Rattle.model.specs.declared.Replay as declared
use Rattle.model.specs.declared.Replayed.{Replayed}
use Rattle.model.specs.declared.Step as steps
use Rattle.model.proofs.Parts.{left_shift, byte_shift, number_shift}
use Rattle.model.proofs.Readings.{record-codes}
use Rattle.model.proofs.Recorded.{elements, word_read, word_bytes, reply_parts, reply-says}
use Rattle.model.proofs.Replays.{replays}
use Rattle.model.proofs.Reached.{step-in_range}
use Rattle.model.proofs.FromAnywhere.{answered-range}
use Rattle.model.proofs.WordRange.{word_small}
use Rattle.model.specs.Replies.{ReplyReading}
use Rattle.model.specs.declared.Refusal.TheVariants.{Short, UnknownTag, WrongLength}
use Rattle.std.specs.Result.{result_unwrap_or}
use Rattle.model.specs.declared.Refusal.{Refusal}
use Rattle.model.proofs.RefusalNumbers.{refusal_of, refusal_back}

-- ---- the codes of a reading

pub reply-codes : (s : List ℕ) (p : ℕ) → ReplyCodes s p
unfolding reply_reading
reply-codes s p = record {
  said = λ b t n. rw (le-ltb (length s - p) 3 (omega (arith, ltb-false (length s - p) 9 b)), t, n, b);
  header = λ h. rw h;
  tag = λ h t. rw (h, t);
  size = λ h t n. rw (h, t, n);
  body = λ h t n b. rw (h, t, n, b);
  empty = λ l. rw (lt-ltb (length s - p) 3 (omega arith));
}

abbrev numbered : List ℕ → ReplyReading
numbered l = pick (eqb (byte_at l 0) 1) (Err (refusal_of (byte_at l 1))) (Ok ((record { code = byte_at l 2; lines = byte_at l 3; word = byte_at l 4 }), (byte_at l 1)))

numbered-back : (x : ReplyReading) → numbered (reply_numbers x) ≡ x
numbered-back (Err r) = ap (λ (q : Refusal). Err q) (refusal_back r)
numbered-back (Ok (a, q)) = refl

pub replies-apart : RepliesApart
replies-apart = record { readings = λ x y h. sym (numbered-back x) ∙ ap numbered h ∙ numbered-back y }

-- ---- a reply read from a place before it on

abbrev answer_at : List ℕ → ℕ → Answer
answer_at s p = record { code = byte_at s (p + 3); lines = byte_at s (p + 4); word = number32 s (p + 5) }

-- what is read, from the tests in their order
abbrev read : (h t n b : Bool) → Answer → ℕ → ReplyReading
read h t n b a q = pick h (Err Short) (pick (not t) (Err UnknownTag) (pick (not n) (Err WrongLength) (pick b (Err Short) (Ok (a, q)))))

abbrev shifted : ℕ → ReplyReading → ReplyReading
shifted p (Err k) = Err k
shifted p (Ok (a, q)) = Ok (a, (p + q))

read_shifted : (h t n b : Bool) (a : Answer) (p q : ℕ) → read h t n b a (p + q) ≡ shifted p (read h t n b a q)
read_shifted true t n b a p q = refl
read_shifted false false n b a p q = refl
read_shifted false true false b a p q = refl
read_shifted false true true true a p q = refl
read_shifted false true true false a p q = refl

module _ (s : List ℕ) (p q : ℕ) where
  answer_shift : answer_at s (p + q) ≡ answer_at (drop p s) q
  answer_shift = simp (get_or-drop, add_assoc)

  reply_shift : reply_reading s (p + q) ≡ shifted p (reply_reading (drop p s) q)
  unfolding reply_reading
  reply_shift =
      rw (left_shift s p q, byte_shift s p q, number_shift s p q, answer_shift, add_assoc p q 9)
      (read_shifted (header_short (drop p s) q) (is_reply_tag (drop p s) q) (is_reply_length (drop p s) q) (reply_short (drop p s) q) (answer_at (drop p s) q) p (q + 9))

-- ---- a reply is read

reply-number : (n : ℕ) → n < 2 ^ 32 → n % 256 + n / 2 ^ 8 % 256 * 256 + (n / 2 ^ 16 % 256 + n / 2 ^ 24 % 256 * 256) * 65536 ≡ n
reply-number n h =
    let a : n / 65536 ≡ n / 256 / 256 = omega arith in
    let b : n / 16777216 ≡ n / 256 / 256 / 256 = omega arith in
    rw (a, b) (word_read n h)

-- at the front
read-front : (a : Answer) → a.word < 2 ^ 32 → (b : List ℕ) → reply_reading (reply_of_answer a ++ b) 0 ≡ Ok (a, 9)
unfolding reply_reading reply
read-front a h b =
    let n : ℕ = length (reply_of_answer a ++ b) in
    rw (le-ltb (n - 0) 3 (omega arith), le-ltb (n - 0) 9 (omega arith), reply-number a.word h)

pub reply-reads : (a : Answer) → ReplyReads a
reply-reads a = record { read = anywhere }
  where
    anywhere : a.word < 2 ^ 32 → (front behind : List ℕ) → reply_reading (front ++ (reply_of_answer a ++ behind)) (length front) ≡ Ok (a, (length front + 9))
    anywhere h f b =
        let s : List ℕ = f ++ (reply_of_answer a ++ b) in
        ap (reply_reading s) (sym (add-zero (length f)))
        ∙ reply_shift s (length f) 0
        ∙ rw (drop-append_seam f (reply_of_answer a ++ b), read-front a h b)

-- ---- what is read stands there

-- a reading that said an answer passed all the tests
record Said-as (t n b : Bool) (d : Answer) (m : ℕ) (a : Answer) (q : ℕ) : Type 0 where
  tag : t ≡ true
  size : n ≡ true
  body : b ≡ false
  answer : d ≡ a
  place : m ≡ q

only-said : (h t n b : Bool) (d : Answer) (m : ℕ) (a : Answer) (q : ℕ) → read h t n b d m ≡ Ok (a, q) → Said-as t n b d m a q
only-said true t n b d m a q k = let z : ◌≡◌ {A = ℕ} 0 1 = cc in absurd (omega arith)
only-said false false n b d m a q k = let z : ◌≡◌ {A = ℕ} 0 1 = cc in absurd (omega arith)
only-said false true false b d m a q k = let z : ◌≡◌ {A = ℕ} 0 1 = cc in absurd (omega arith)
only-said false true true true d m a q k = let z : ◌≡◌ {A = ℕ} 0 1 = cc in absurd (omega arith)
only-said false true true false d m a q k = record { tag = refl; size = refl; body = refl; answer = ap (λ (x : ReplyReading). (result_unwrap_or x (d, m)).0) k; place = ap (λ (x : ReplyReading). (result_unwrap_or x (d, m)).1) k }

-- nine bytes that begin as a reply are the reply of what they say
nine_bytes_lem : (t l h code lines x y z u : ℕ) → t ≡ 0x81 → l + h * 256 ≡ 6 → l < 256 → x < 256 → y < 256 → z < 256 → u < 256
    → t ∷ l ∷ h ∷ code ∷ lines ∷ x ∷ y ∷ z ∷ u ∷ [] ≡ reply code lines (x + y * 256 + (z + u * 256) * 65536)
nine_bytes_lem t l h code lines x y z u e f kl kx ky kz ku =
    let m : l ≡ 6 = omega arith in
    let n : h ≡ 0 = omega arith in
    rw (e, m, n, reply_parts code lines (x + y * 256 + (z + u * 256) * 65536), word_bytes x y z u kx ky kz ku)

elements_part : (n : ℕ) (s : List ℕ) (p : ℕ) → p + n ≤ length s → take n (drop p s) ≡ elements n s p
unfolding elements
elements_part zero s p l = refl
elements_part (suc n) s p l = rw (drop-cons s p 0 (omega arith)) (ap (λ (t : List ℕ). byte_at s p ∷ t) (elements_part n s (suc p) (omega arith)))

module _ (s : List ℕ) (p : ℕ) where
  abbrev Passed : Answer → ℕ → Type 0
  Passed a q = Said-as (is_reply_tag s p) (is_reply_length s p) (reply_short s p) (answer_at s p) (p + 9) a q

  passed : (a : Answer) (q : ℕ) → reply_reading s p ≡ Ok (a, q) → Passed a q
  unfolding reply_reading
  passed a q k = only-said (header_short s p) (is_reply_tag s p) (is_reply_length s p) (reply_short s p) (answer_at s p) (p + 9) a q k

  place : (a : Answer) (q : ℕ) → reply_reading s p ≡ Ok (a, q) → (q ≡ p + 9) × (q ≤ length s)
  place a q k =
      let f : Passed a q = passed a q k in
      (sym f.place, omega (arith, f.place, ltb-false (length s - p) 9 f.body))

  stands : Bytes s → is_reply_tag s p ≡ true → is_reply_length s p ≡ true → p + 9 ≤ length s → part s p (p + 9) ≡ reply_of_answer (answer_at s p)
  unfolding elements
  stands h t n l =
      let e : p + 9 - p ≡ 9 = omega arith in
      rw (e, elements_part 9 s p l)
      (simp towards_suc (nine_bytes_lem (byte_at s p) _ _ _ _ _ _ _ _ (eqb-true (byte_at s p) 0x81 t) (simp towards_suc at (eqb-true (number16 s (p + 1)) 6 n)) (h _) (h _) (h _) (h _) (h _)))

  pub reply_stands : ReplyStands s p
  reply_stands = record {
    place = place;
    bytes = λ h a q k. let f : Passed a q = passed a q k in
        rw (← f.answer, ← f.place) (stands h f.tag f.size (omega (arith, ltb-false (length s - p) 9 f.body)));
  }

-- ---- the replies of a list of answers

unfoldable replies_of : List Answer → List ℕ
replies_of [] = []
replies_of (a ∷ l) = reply_of_answer a ++ replies_of l

abbrev WordsFit : List Answer → Type 0
WordsFit [] = Unit {0}
WordsFit (a ∷ l) = (a.word < 2 ^ 32) × WordsFit l

replies-both : (l k : List Answer) → replies_of (l ++ k) ≡ replies_of l ++ replies_of k
unfolding replies_of
replies-both [] k = refl
replies-both (a ∷ l) k = rw (append_assoc, replies-both l k)

fit-both : (l k : List Answer) → WordsFit l → WordsFit k → WordsFit (l ++ k)
fit-both [] k f g = g
fit-both (a ∷ l) k f g = (f.0, fit-both l k f.1 g)

more_bytes : (l : List Answer) → length l ≤ length (replies_of l)
unfolding replies_of reply
more_bytes [] = omega arith
more_bytes (a ∷ l) = omega (arith, more_bytes l)

nothing_there : (front : List ℕ) → reply_reading (front ++ []) (length front) ≡ Err Short
nothing_there front =
    replies-apart.readings (reply_reading (front ++ []) (length front)) (Err Short)
    ((reply-codes (front ++ []) (length front)).empty (omega (arith, length-append front [])))

-- they read back, from behind any bytes on
answers_on : (n : ℕ) (l : List Answer) (front : List ℕ) → WordsFit l → length l ≤ n → answers_from n (front ++ replies_of l) (length front) ≡ l
unfolding answers_from answers_by replies_of
answers_on zero [] front f h = refl
answers_on zero (a ∷ l) front f h = absurd (omega arith)
answers_on (suc n) [] front f h = rw (nothing_there front)
answers_on (suc n) (a ∷ l) front f h =
    rw ((reply-reads a).read f.0 front (replies_of l))
    (ap (λ (k : List Answer). a ∷ k)
    (rw (append_assoc front (reply_of_answer a) (replies_of l), length-append front (reply_of_answer a), (reply-says a.code a.lines a.word).nine) at (answers_on n l (front ++ reply_of_answer a) f.1 (omega arith))))

answers_back : (l : List Answer) → WordsFit l → answers_in (replies_of l) ≡ l
unfolding answers_in
answers_back l f = answers_on (length (replies_of l)) l [] f (more_bytes l)

-- ---- the replies of steps and of a replay

replies_of_lem : (z : Controller) (l : List steps.Step) → replies_to z l ≡ replies_of (answers_to z l)
unfolding replies_to answers_to replies_of
replies_of_lem z [] = refl
replies_of_lem z (e ∷ l) = rw (replies_of_lem (step z e).controller l)

answers_fit : (z : Controller) (l : List steps.Step) → InRange z → StepsRange l → WordsFit (answers_to z l)
unfolding answers_to
answers_fit z [] r h = tt
answers_fit z (e ∷ l) r h = (word_small z e r, answers_fit (step z e).controller l (step-in_range z e r h.0) h.1)

one-reply : (b : Bool) (a : Answer) → replies_of (pick b [] (a ∷ [])) ≡ pick b [] (reply_of_answer a)
unfolding replies_of
one-reply true a = refl
one-reply false a = append-nil (reply_of_answer a)

one-fits : (b : Bool) (a : Answer) → a.word < 2 ^ 32 → WordsFit (pick b [] (a ∷ []))
one-fits true a h = tt
one-fits false a h = (h, tt)

stop-reply : (x : declared.Replay) → reply_of (last_answer x) ≡ replies_of (stop_answer x)
unfolding reply_of
stop-reply x = sym (one-reply (x.ended || eqb x.code 9) (record { code = x.code; lines = x.lines; word = x.word }))

-- where a replay stops, the word is 0
stop-word : (z : Controller) (s : List ℕ) (space : ℕ) → (replay z s space).result.word ≡ 0
stop-word z s space = go x.ended refl
  where
    x : declared.Replay
    x = (replay z s space).result

    l : List steps.Step
    l = answered_steps s space

    r : Replayed
    r = record_at (after z l) s (place_after (length l) s 0) (space - 9 * length l)

    c : RecordCodes (after z l) s (place_after (length l) s 0) (space - 9 * length l) r
    c = record-codes (after z l) s (place_after (length l) s 0) (space - 9 * length l)

    last : last_answer x ≡ r
    last = (replays z s space).stop.last

    go : (b : Bool) → x.ended ≡ b → x.word ≡ 0
    go true e = ap (λ (y : Replayed). y.word) last ∙ (c.at_end (sym (ap (λ (y : Replayed). y.ended) last) ∙ e)).1.word
    go false e =
        ap (λ (y : Replayed). y.word) last
        ∙ (c.stays (sym (ap (λ (y : Replayed). y.ended) last) ∙ e) (omega (arith, (replays z s space).stop.codes e, ap (λ (y : Replayed). y.code) last))).word

module _ (z : Controller) (s : List ℕ) (space : ℕ) where
  -- the answers of a replay
  abbrev all : List Answer
  all = answers_to z (answered_steps s space) ++ stop_answer (replay z s space).result

  all-replies : (replay z s space).replies ≡ replies_of all
  all-replies =
      (replays z s space).folds.replies
      ∙ (λ i. replies_of_lem z (answered_steps s space) i ++ stop-reply (replay z s space).result i)
      ∙ sym (replies-both (answers_to z (answered_steps s space)) (stop_answer (replay z s space).result))

  all_fit : InRange z → Bytes s → WordsFit all
  all_fit r b =
      fit-both (answers_to z (answered_steps s space)) (stop_answer (replay z s space).result) (answers_fit z (answered_steps s space) r (answered-range s space b))
      (one-fits ((replay z s space).result.ended || eqb (replay z s space).result.code 9) _ (omega (arith, stop-word z s space)))

pub replies-read : (z : Controller) → RepliesRead z
replies-read z = record {
  steps = λ r l h. rw (replies_of_lem z l) (answers_back (answers_to z l) (answers_fit z l r h));
  script = λ r s space b. rw (all-replies z s space) (answers_back (all z s space) (all_fit z s space r b));
}
