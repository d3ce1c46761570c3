-- A search does not look at FINIT, and counts what the definition lists.
use Rattle.std.proofs.Common.{◌≡◌, ℕ, List, refl}
use Rattle.model.specs.Banks.{class_of, first_number}
use Rattle.model.specs.Search.{first, searched, tried, hit_at, hit_in, first_hit}
use Rattle.model.specs.declared.Filters.{Filters}
use Rattle.filter.specs.Compared.{of_banks, up_to_match, tried_after, compared_in, up_to_class, compared_filters, compared}
use Rattle.filter.specs.Places.{filters_of, result_of}
use Rattle.comparisons.specs.Searches.{compared_of}
use Rattle.comparisons.proofs.searches.compared_of.Goals as goal

without-finit : (g : Filters) (v : List ℕ) (w : ℕ) → compared 14 (filters_of g.mode g.scale g.assignment g.activation) v w ≡ compared 14 g v w
unfolding compared compared_filters up_to_class compared_in of_banks up_to_match tried_after first_hit hit_in hit_at tried searched class_of first_number first
without-finit g v w = refl

pub returns : goal.returns
unfolding compared_of result_of
returns c = rw c.search-s.ensures (without-finit c.args.z.core.filters _ _)
