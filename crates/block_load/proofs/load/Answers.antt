-- The core, and the words of the banks with it.
use Rattle.std.proofs.lemmas.Result.{err_from_is_err_and}
use Rattle.block_load.proofs.Loads.{whole_none, whole-loaded, whole_or_reset}
use Rattle.block_load.proofs.load.Goals as goal

pub returns-in_err-core-clause-value : goal.returns-in_err-core-clause-value
returns-in_err-core-clause-value c =
    let p = err_from_is_err_and c.from_residual.result c.from_residual.ensures.1 in
    rw (p.1, p.2) (whole_none _ _ c.in_err-core.ensures.value)

pub returns-in_err-core-clause-or_reset : goal.returns-in_err-core-clause-or_reset
returns-in_err-core-clause-or_reset c = whole_or_reset _ _ (returns-in_err-core-clause-value c)

pub returns : goal.returns
returns c =
    let e = whole-loaded _ _ _ c.in_ok-core.ensures.value c.load_banks-banks.ensures in
    record { value = e; or_reset = whole_or_reset _ _ e }
