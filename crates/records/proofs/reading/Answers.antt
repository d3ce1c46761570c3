-- The end and a short header by their tests; each tag by why its body can't be read.
use Rattle.std.proofs.Common.{refl, rules}
use Rattle.std.proofs.lemmas.Result.{err_from_is_err_and}
use Rattle.model.specs.Script.{byte_at, body_length, reading}
use Rattle.records.proofs.Headers.{by_refusal, no_tag}
use borrow.Author.Tests.{lt-ltb, le-ltb, le-leb, lt-leb}
use Rattle.records.proofs.reading.Goals as goal

pub returns-then-script-place : goal.returns-then-script-place
unfolding reading
returns-then-script-place c = simp (le-leb _ _ c.if-script-place.true)

pub returns-then-script-place-lt3 : goal.returns-then-script-place-lt3
unfolding reading
returns-then-script-place-lt3 c = simp (lt-ltb _ _ c.if-script-place-lt3.true, lt-leb _ _ c.if-script-place.false)

pub returns-in_err-behind-in-1 : goal.returns-in_err-behind-in-1
unfolding body_length
returns-in_err-behind-in-1 c = let p = err_from_is_err_and c.from_residual.result c.from_residual.ensures.1 in rw (p.1, p.2) (by_refusal _ _ 1 _ c.if-script-place-lt3.false c.in-1.is refl c.in_err-behind-in-1.ensures.err)

pub returns-in_err-b-in-2 : goal.returns-in_err-b-in-2
unfolding body_length
returns-in_err-b-in-2 c = let p = err_from_is_err_and c.from_residual-in_err-b-in-2.result c.from_residual-in_err-b-in-2.ensures.1 in rw (p.1, p.2) (by_refusal _ _ 2 _ c.if-script-place-lt3.false c.in-2.is refl c.in_err-b-in-2.ensures.err)

pub returns-in_err-b-in-3 : goal.returns-in_err-b-in-3
unfolding body_length
returns-in_err-b-in-3 c = let p = err_from_is_err_and c.from_residual-in_err-b-in-3.result c.from_residual-in_err-b-in-3.ensures.1 in rw (p.1, p.2) (by_refusal _ _ 3 _ c.if-script-place-lt3.false c.in-3.is refl c.in_err-b-in-3.ensures.err)

pub returns-in_err-behind-in-4 : goal.returns-in_err-behind-in-4
unfolding body_length
returns-in_err-behind-in-4 c = let p = err_from_is_err_and c.from_residual-in_err-behind-in-4.result c.from_residual-in_err-behind-in-4.ensures.1 in rw (p.1, p.2) (by_refusal _ _ 4 _ c.if-script-place-lt3.false c.in-4.is refl c.in_err-behind-in-4.ensures.err)

pub returns-in_err-b-in-5 : goal.returns-in_err-b-in-5
unfolding body_length
returns-in_err-b-in-5 c = let p = err_from_is_err_and c.from_residual-in_err-b-in-5.result c.from_residual-in_err-b-in-5.ensures.1 in rw (p.1, p.2) (by_refusal _ _ 5 _ c.if-script-place-lt3.false c.in-5.is refl c.in_err-b-in-5.ensures.err)

pub returns-in_err-behind-in-6 : goal.returns-in_err-behind-in-6
unfolding body_length
returns-in_err-behind-in-6 c = let p = err_from_is_err_and c.from_residual-in_err-behind-in-6.result c.from_residual-in_err-behind-in-6.ensures.1 in rw (p.1, p.2) (by_refusal _ _ 6 _ c.if-script-place-lt3.false c.in-6.is refl c.in_err-behind-in-6.ensures.err)

pub returns-in_err-behind-in-7 : goal.returns-in_err-behind-in-7
unfolding body_length
returns-in_err-behind-in-7 c = let p = err_from_is_err_and c.from_residual-in_err-behind-in-7.result c.from_residual-in_err-behind-in-7.ensures.1 in rw (p.1, p.2) (by_refusal _ _ 7 _ c.if-script-place-lt3.false c.in-7.is refl c.in_err-behind-in-7.ensures.err)

pub returns-in_err-b-in-8 : goal.returns-in_err-b-in-8
unfolding body_length
returns-in_err-b-in-8 c = let p = err_from_is_err_and c.from_residual-in_err-b-in-8.result c.from_residual-in_err-b-in-8.ensures.1 in rw (p.1, p.2) (by_refusal _ _ 8 _ c.if-script-place-lt3.false c.in-8.is refl c.in_err-b-in-8.ensures.err)

pub returns-in_err-b-in-9 : goal.returns-in_err-b-in-9
unfolding body_length
returns-in_err-b-in-9 c = let p = err_from_is_err_and c.from_residual-in_err-b-in-9.result c.from_residual-in_err-b-in-9.ensures.1 in rw (p.1, p.2) (by_refusal _ _ 9 _ c.if-script-place-lt3.false c.in-9.is refl c.in_err-b-in-9.ensures.err)

pub returns-in_err-b-in-10 : goal.returns-in_err-b-in-10
unfolding body_length
returns-in_err-b-in-10 c = let p = err_from_is_err_and c.from_residual-in_err-b-in-10.result c.from_residual-in_err-b-in-10.ensures.1 in rw (p.1, p.2) (by_refusal _ _ 10 _ c.if-script-place-lt3.false c.in-10.is refl c.in_err-b-in-10.ensures.err)

pub returns-in_default : goal.returns-in_default
unfolding reading
returns-in_default c = simp (le-ltb _ _ c.if-script-place-lt3.false, lt-leb _ _ c.if-script-place.false, no_tag (byte_at c.args.script.now c.args.place) (search rules))
