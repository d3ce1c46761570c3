-- Each number of a filter is a place in the list of its class; past the last there is none.
use Rattle.std.proofs.Common.{sym, arith}
use Rattle.model.specs.Banks.{matches}
use Rattle.model.specs.declared.FilterClass.TheVariants.{List32, Mask32, List16, Mask16}
use Rattle.model.proofs.FirstHit.{no_filter}
use Rattle.filter.proofs.takes.Goals as goal

pub returns-in-0 : goal.returns-in-0
unfolding matches
returns-in-0 c = simp (c.in-List32.is, c.in-0.is)

pub returns-in-1 : goal.returns-in-1
unfolding matches
returns-in-1 c = simp (c.in-List32.is, c.in-1.is)

pub returns-in_default : goal.returns-in_default
returns-in_default c = simp c.in-List32.is (sym (no_filter List32 _ _ _ _ (omega arith)))

pub returns-in-0-j : goal.returns-in-0-j
unfolding matches
returns-in-0-j c = simp (c.takes_under.ensures, c.in-Mask32.is, c.in-0-j.is)

pub returns-in_default-j : goal.returns-in_default-j
returns-in_default-j c = simp c.in-Mask32.is (sym (no_filter Mask32 _ _ _ _ (omega arith)))

pub returns-in-0-j-2 : goal.returns-in-0-j-2
unfolding matches
returns-in-0-j-2 c = simp (c.in-List16.is, c.in-0-j-2.is, c.requires)

pub returns-in-1-j : goal.returns-in-1-j
unfolding matches
returns-in-1-j c = simp (c.in-List16.is, c.in-1-j.is, c.requires)

pub returns-in-2 : goal.returns-in-2
unfolding matches
returns-in-2 c = simp (c.in-List16.is, c.in-2.is, c.requires)

pub returns-in-3 : goal.returns-in-3
unfolding matches
returns-in-3 c = simp (c.in-List16.is, c.in-3.is, c.requires)

pub returns-in_default-j-2 : goal.returns-in_default-j-2
returns-in_default-j-2 c = simp c.in-List16.is (sym (no_filter List16 _ _ _ _ (omega arith)))

pub returns-in-0-j-3 : goal.returns-in-0-j-3
unfolding matches
returns-in-0-j-3 c = simp (c.takes_under-in-0-j-3.ensures, c.in-Mask16.is, c.in-0-j-3.is, c.requires)

pub returns-in-1-j-2 : goal.returns-in-1-j-2
unfolding matches
returns-in-1-j-2 c = simp (c.takes_under-in-1-j-2.ensures, c.in-Mask16.is, c.in-1-j-2.is, c.requires)

pub returns-in_default-j-3 : goal.returns-in_default-j-3
returns-in_default-j-3 c = simp c.in-Mask16.is (sym (no_filter Mask16 _ _ _ _ (omega arith)))
