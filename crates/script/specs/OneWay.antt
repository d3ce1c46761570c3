-- A record that can't be read or answered goes through `step` too, as a step that every state refuses: so the state has one way through
-- the code.
use Rattle.std.specs.Prelude.{Bool, true, false, ◌≡◌, refl, List, ℕ, ltb, length, Some, None, Ok, Err}
use Rattle.std.proofs.Common.{ap, sym, ◌∙◌}
use Rattle.base.specs.Base.{pick}
use Rattle.model.specs.Refusals as refusals
use Rattle.model.specs.Script.{Reading, reading, replayed, record_at}
use Rattle.model.specs.Step.{step, answered, refusal, core_after, banks_after, lines_of}
use Rattle.model.specs.declared.Controller.{Controller}
use Rattle.model.specs.declared.Replayed.{Replayed}
use Rattle.model.specs.declared.Stepped.{Stepped}
use Rattle.model.specs.declared.Step as steps
use Rattle.model.specs.declared.Step.TheVariants.{BitTimes}
use Rattle.writes.specs.Places.{changed}
use Rattle.controller.specs.After.{core_step, whole-step}
use Rattle.controller.specs.declared.CoreStepped.{CoreStepped}
use Rattle.script.specs.declared.CoreReplayed.{CoreReplayed}
use Rattle.model.specs.declared.Refusal.TheVariants.{NoSpace}

-- without space for a reply, what was read can't be answered
unfoldable pub answerable : Reading → ℕ → Reading
answerable (Ok None) space = Ok None
answerable (Err k) space = pick (ltb space 9) (Err NoSpace) (Err k)
answerable (Ok (Some (e, q))) space = pick (ltb space 9) (Err NoSpace) (Ok (Some (e, q)))

-- the step that is done: no bit times at all is refused in every state
abbrev pub step_of : Reading → steps.Step
step_of (Ok None) = BitTimes 0
step_of (Err k) = BitTimes 0
step_of (Ok (Some (e, q))) = e

abbrev pub code_of : Reading → ℕ → ℕ
code_of (Ok None) code = 0
code_of (Err r) code = refusals.code r
code_of (Ok (Some (e, q))) code = code

-- the place afterwards, from place p in a script of n bytes
abbrev pub place_of : Reading → ℕ → ℕ → ℕ
place_of (Ok None) n p = n
place_of (Err k) n p = p
place_of (Ok (Some (e, q))) n p = q

abbrev pub is_end : Reading → Bool
is_end (Ok None) = true
is_end (Err k) = false
is_end (Ok (Some (e, q))) = false

-- what a record gives, from what its step gave
abbrev pub after : Reading → ℕ → ℕ → Stepped → Replayed
after x n p a = record {
  controller = a.controller;
  place = place_of x n p;
  ended = is_end x;
  code = code_of x a.code;
  lines = a.lines;
  word = a.word;
}

-- nothing is changed by the step that every state refuses
refused : (z : Controller) → step z (BitTimes 0) ≡ record { controller = z; code = 5; lines = lines_of z.core; word = 0 }
unfolding step answered refusal core_after banks_after
refused z = refl

pub one_way : (x : Reading) (z : Controller) (n p space : ℕ)
    → replayed x z n p space ≡ after (answerable x space) n p (step z (step_of (answerable x space)))
unfolding replayed answerable
one_way (Ok None) z n p space = rw (refused z)
one_way (Err k) z n p space = go (ltb space 9)
  where
    go : (b : Bool)
        → record { controller = z; place = p; ended = false; code = pick b 9 (refusals.code k); lines = lines_of z.core; word = 0 }
        ≡ after (pick b (Err NoSpace) (Err k)) n p (step z (step_of (pick b (Err NoSpace) (Err k))))
    go true = rw (refused z)
    go false = rw (refused z)
one_way (Ok (Some (e, q))) z n p space = go (ltb space 9)
  where
    go : (b : Bool)
        → pick b (record { controller = z; place = p; ended = false; code = 9; lines = lines_of z.core; word = 0 }) (record {
          controller = (step z e).controller;
          place = q;
          ended = false;
          code = (step z e).code;
          lines = (step z e).lines;
          word = (step z e).word;
        })
        ≡ after (pick b (Err NoSpace) (Ok (Some (e, q)))) n p (step z (step_of (pick b (Err NoSpace) (Ok (Some (e, q))))))
    go true = rw (refused z)
    go false = refl

-- ---- without the banks' words

abbrev pub after_core : Reading → ℕ → ℕ → CoreStepped → CoreReplayed
after_core x n p a = record {
  core = a.core;
  banks = a.banks;
  recorded = record {
    place = place_of x n p;
    ended = is_end x;
    answer = record { code = code_of x a.answer.code; lines = a.answer.lines; word = a.answer.word };
  };
}

-- what the record at place p gives, with so much space for its reply
unfoldable pub core_replayed : Controller → List ℕ → ℕ → ℕ → CoreReplayed
core_replayed z s p space =
    after_core (answerable (reading s p) space) (length s) p (core_step z.core z.banks (step_of (answerable (reading s p) space)))

-- with the banks' words of the controller before
abbrev pub whole : Controller → CoreReplayed → Replayed
whole z r = record {
  controller = record { core = r.core; banks = changed z.banks r.banks };
  place = r.recorded.place;
  ended = r.recorded.ended;
  code = r.recorded.answer.code;
  lines = r.recorded.answer.lines;
  word = r.recorded.answer.word;
}

pub whole-record : (z : Controller) (s : List ℕ) (p space : ℕ) → whole z (core_replayed z s p space) ≡ record_at z s p space
unfolding core_replayed record_at
whole-record z s p space =
    ap (after (answerable (reading s p) space) (length s) p) (whole-step z (step_of (answerable (reading s p) space)))
    ∙ sym (one_way (reading s p) z (length s) p space)
