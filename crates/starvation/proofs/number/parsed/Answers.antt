use Rattle.std.proofs.Common.{◌≢◌, length, drop, ◌+◌, sym, ◌∙◌, arith, rules, Some, None}
use Rattle.starvation.proofs.Digits.{stays-none, one_more, at_end, parsed-some}
use Rattle.starvation.proofs.number.parsed.Goals as goal

pub loop-c-preserved : goal.loop-c-preserved
loop-c-preserved c =
    let l = c.loop-c in
    one_more l.n (Some c.in_ok-n.n) c.args.text.now l.c-index (omega arith) c.in_ok-n.ensures ∙ l.invariant

pub returns-in_err-n : goal.returns-in_err-n
returns-in_err-n c =
    let t = c.args.text.now in
    let l = c.loop-c in
    let some : length t ≢ 0 = search rules in
    rw (c.from_residual.ensures, parsed-some t some)
    (sym (stays-none (drop (l.c-index + 1) t)) ∙ one_more l.n None t l.c-index (omega arith) c.in_err-n.ensures ∙ l.invariant)

pub returns : goal.returns
returns c =
    let t = c.args.text.now in
    let l = c.loop-c in
    let some : length t ≢ 0 = search rules in
    rw (parsed-some t some) (sym (at_end (Some l.n) t l.c-index (omega arith)) ∙ l.invariant)
