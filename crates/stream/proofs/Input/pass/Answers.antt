use Rattle.std.proofs.Common.{List, ℕ, ap}
use Rattle.stream.proofs.Between.{between-later}
use Rattle.stream.proofs.Input.pass.Goals as goal

pub returns : goal.returns
returns g c =
    let i = c.args.self.now in
    rw c.min.ensures
    (ap (λ (b : List ℕ). record { bytes = b; source = i.source }) (between-later i.place i.filled c.args.n i.bytes i.ordered))
