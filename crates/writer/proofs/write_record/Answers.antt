-- Each arm puts the record of its step.
use Rattle.std.proofs.Common.{rules, refl, ◌∙◌}
use Rattle.model.specs.Records.{bytes_of, field_bytes}
use Rattle.model.specs.Writer.{frame_said}
use Rattle.model.specs.declared.Step.TheVariants.{Reset, Idle, Activity, Start}
use Rattle.writer.proofs.Records.{plain, read, write, bits, outcome, receive, error}
use Rattle.writer.proofs.write_record.Goals as goal

pub returns-in-Reset : goal.returns-in-Reset
unfolding bytes_of field_bytes
returns-in-Reset c =
    let k = plain c.args.space.now Reset 1 refl refl in
    rw c.in-Reset.is (record { value = c.put.ensures.value ∙ k.value; space_after = c.put.ensures.space_after ∙ k.after })

pub returns-in-Read : goal.returns-in-Read
returns-in-Read c =
    let k = read c.args.space.now c.in-Read.offset _ c.to_le_bytes.ensures in
    rw c.in-Read.is (record { value = c.put-in-Read.ensures.value ∙ k.value; space_after = c.put-in-Read.ensures.space_after ∙ k.after })

pub returns-in-Write : goal.returns-in-Write
returns-in-Write c =
    let k = write c.args.space.now c.in-Write.offset c.in-Write.word _ _ (search rules) c.to_le_bytes-in-Write.ensures c.to_le_bytes-in-Write-2.ensures in
    rw c.in-Write.is (record { value = c.put-in-Write.ensures.value ∙ k.value; space_after = c.put-in-Write.ensures.space_after ∙ k.after })

pub returns-in-Idle : goal.returns-in-Idle
unfolding bytes_of field_bytes
returns-in-Idle c =
    let k = plain c.args.space.now Idle 4 refl refl in
    rw c.in-Idle.is (record { value = c.put-in-Idle.ensures.value ∙ k.value; space_after = c.put-in-Idle.ensures.space_after ∙ k.after })

pub returns-in-BitTimes : goal.returns-in-BitTimes
returns-in-BitTimes c =
    let k = bits c.args.space.now c.in-BitTimes.n _ c.to_le_bytes-in-BitTimes.ensures in
    rw c.in-BitTimes.is (record { value = c.put-in-BitTimes.ensures.value ∙ k.value; space_after = c.put-in-BitTimes.ensures.space_after ∙ k.after })

pub returns-in-Activity : goal.returns-in-Activity
unfolding bytes_of field_bytes
returns-in-Activity c =
    let k = plain c.args.space.now Activity 6 refl refl in
    rw c.in-Activity.is (record { value = c.put-in-Activity.ensures.value ∙ k.value; space_after = c.put-in-Activity.ensures.space_after ∙ k.after })

pub returns-in-Start : goal.returns-in-Start
unfolding bytes_of field_bytes
returns-in-Start c =
    let k = plain c.args.space.now Start 7 refl refl in
    rw c.in-Start.is (record { value = c.put-in-Start.ensures.value ∙ k.value; space_after = c.put-in-Start.ensures.space_after ∙ k.after })

pub returns-in-Outcome : goal.returns-in-Outcome
returns-in-Outcome c =
    let k = outcome c.args.space.now c.in-Outcome.res _ c.to_le_bytes-in-Outcome.ensures in
    rw c.in-Outcome.is (record { value = c.put-in-Outcome.ensures.value ∙ k.value; space_after = c.put-in-Outcome.ensures.space_after ∙ k.after })

pub returns-in-Receive : goal.returns-in-Receive
returns-in-Receive c =
    let k = receive c.args.space.now (frame_said c.in-Receive.x) _ _ _ _ (search rules) (search rules) (search rules) c.to_le_bytes-in-Receive.ensures c.to_le_bytes-in-Receive-2.ensures c.to_le_bytes-in-Receive-3.ensures c.to_le_bytes-in-Receive-4.ensures in
    rw c.in-Receive.is (record { value = c.put-in-Receive.ensures.value ∙ k.value; space_after = c.put-in-Receive.ensures.space_after ∙ k.after })

pub returns-in-ReceiveError : goal.returns-in-ReceiveError
returns-in-ReceiveError c =
    let k = error c.args.space.now c.in-ReceiveError.code c.in-ReceiveError.by _ _ c.to_le_bytes-in-ReceiveError.ensures c.to_le_bytes-in-ReceiveError-2.ensures in
    rw c.in-ReceiveError.is (record { value = c.put-in-ReceiveError.ensures.value ∙ k.value; space_after = c.put-in-ReceiveError.ensures.space_after ∙ k.after })
