use Rattle.std.proofs.Common.{◌≡◌, ℕ, ◌-◌, ◌≤◌, List, length, take, ap₂, sym, arith, rules}
use Rattle.std.proofs.lemmas.Result.{IfOk-at_ok, MatchResult-at_ok}
use Rattle.std.specs.List.{copy_within}
use Rattle.stream.specs.Unread.{source_after}
use Rattle.stream.specs.declared.Source.TheVariants.{Open}
use Rattle.stream.proofs.Between.{read-behind, length-between}
use Rattle.stream.proofs.Input.read_on.Goals as goal

pub returns-in-Ok : goal.returns-in-Ok
returns-in-Ok g c =
    let i = c.args.self.now in
    let n = c.in-Ok.n in
    let ys = c.read-read.new.buf in
    let prefix : (n ≤ length ys) × (n ≡ length (take n ys)) = IfOk-at_ok (λ k. (k ≤ length ys) × (k ≡ length (take k ys))) c.in-Ok.is c.read-read.ensures.bound in
    let consumed = MatchResult-at_ok _ _ n c.in-Ok.is c.read-read.ensures.bytes in
    let within : i.filled ≤ length i.bytes = search rules in
    let more_left : source_after n ≡ Open = search rules in
    let held = length-between i.place i.filled i.bytes i.ordered within in
    let left : length i.bytes ≡ g.row.N = search rules in
    rw c.in-Ok.is (
      take n ys,
      rw c.copy_within.ensures.after
          (ap₂ (λ (b : List ℕ) s. record { bytes = b; source = s }) (read-behind i.place i.filled n (length (copy_within i.bytes i.place i.filled 0) - (i.filled - i.place)) i.bytes ys i.ordered within prefix.0) (sym more_left)),
      sym prefix.1,
      consumed.0,
      λ none room. consumed.1 none (omega (arith, held, left, room)),
    )
