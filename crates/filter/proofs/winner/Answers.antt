-- The count is dropped.
use Rattle.std.proofs.Common.{ap}
use Rattle.filter.specs.Places.{result_of}
use Rattle.filter.specs.declared.SearchResult.{SearchResult}
use Rattle.filter.proofs.winner.Goals as goal

pub returns : goal.returns
unfolding result_of
returns c = ap (λ (r : SearchResult). r.winner) c.search.ensures
