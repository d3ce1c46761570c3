-- Bundles of definitions: `unfolding everything` opens all that a step on a given state computes with.
use Rattle.base.specs.Base.{sum}
use Rattle.model.specs.Queue.{aborted, aborted_all, off_wire}
use Rattle.model.specs.Mailboxes as mailboxes
use Rattle.model.specs.Banks.{class_of, matches, first_number}
use Rattle.model.specs.Search as search
use Rattle.model.specs.Reception as reception
use Rattle.model.specs.Control as control
use Rattle.model.specs.Registers as registers
use Rattle.model.specs.Step as stepping
use Rattle.model.specs.Requests as requests
use Rattle.model.specs.Fairness as fairness
use Rattle.model.specs.Script as script

unfoldable pub transmission : Unit {0}
unfolding aborted aborted_all off_wire mailboxes.ti_written mailboxes.tdt_written mailboxes.tdl_written mailboxes.tdh_written mailboxes.requested_by mailboxes.cleared mailboxes.completed mailboxes.tsr_written mailboxes.sent_identifier mailboxes.wire_key mailboxes.key mailboxes.before mailboxes.sooner mailboxes.later mailboxes.first_in_wire_order mailboxes.last_in_wire_order mailboxes.first mailboxes.last mailboxes.low mailboxes.code mailboxes.tsr_byte mailboxes.tsr mailboxes.ti_word mailboxes.started mailboxes.over mailboxes.outcome_flags mailboxes.ended
transmission = tt

unfoldable pub receiving : Unit {0}
unfolding sum class_of matches first_number search.first search.searched search.tried search.hit_at search.hit_in search.first_hit search.chosen search.acceptance reception.malformed reception.data_bytes reception.bytes_kept reception.stored_frame reception.sent_frame reception.pushed reception.received reception.released reception.cleared reception.rfr_written reception.rfr_word reception.output reception.fifo_line
receiving = tt

unfoldable pub controlling : Unit {0}
unfolding control.mode_next control.entered control.settled control.control_reset control.master_reset control.mcr_written control.msr_written control.ier_written control.btr_written control.esr_written control.msr_word control.esr_word control.status_line control.idle_counts control.recovers control.counted control.idle_mode control.idled control.idle_errors control.ticked control.woken control.outcome_errors control.received_errors control.rec_plus control.receive_error_counters control.errors_changed
controlling = tt

unfoldable pub mapping : Unit {0}
unfolding registers.bank_word registers.with_bank_word registers.control_register registers.mailbox_register registers.output_register registers.block_register registers.bank_register registers.filter_register registers.register_at registers.reset registers.core_reset registers.written registers.banks_written registers.write_refusal registers.read_word
mapping = tt

unfoldable pub everything : Unit {0}
unfolding transmission receiving controlling mapping stepping.may_start stepping.may_end stepping.may_receive stepping.receive_error_in_range stepping.refusal stepping.word_of stepping.stored_by stepping.started_by stepping.looped_back stepping.ended_by stepping.applied stepping.banks_applied stepping.settled stepping.any_rqcp stepping.lines_of stepping.core_after stepping.banks_after stepping.answered stepping.step
everything = tt

-- what the observer makes of a list
unfoldable pub observed : Unit {0}
unfolding requests.next requests.after requests.entries requests.requests_after fairness.meanwhile fairness.has_ended fairness.every fairness.count
observed = tt

-- what a replay computes with
unfoldable pub replaying : Unit {0}
unfolding everything script.body_length script.decoded script.reading script.reply script.replayed script.record_at script.reply_of script.after_record script.advanced script.times script.replay script.steps_by script.steps_from script.steps_of script.replies_to
replaying = tt
