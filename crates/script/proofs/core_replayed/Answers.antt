-- The state has one way through the code: `one_way`.
use lib.ListN.{length}
use Rattle.model.specs.Script.{reading, reply_of}
use Rattle.script.specs.OneWay.{core_replayed}
use Rattle.script.proofs.Replies.{room}
use Rattle.script.proofs.core_replayed.Goals as goal

pub write_answer-requires : goal.write_answer-requires
write_answer-requires c =
    λ e. room (length c.args.reply.now) c.core_step-s.result.answer.code (reading c.args.script.now c.args.place)
    (rw (c.is_end-ended.ensures, c.code_of.ensures, c.readable-x.ensures) at e)

pub returns-clause-value : goal.returns-clause-value
unfolding core_replayed
returns-clause-value c =
    simp (c.place_of.ensures, c.is_end-ended.ensures, c.code_of.ensures, c.core_step-s.ensures, c.step_of.ensures, c.readable-x.ensures)

pub returns-clause-reply_after : goal.returns-clause-reply_after
unfolding reply_of
returns-clause-reply_after c = c.write_answer.ensures
