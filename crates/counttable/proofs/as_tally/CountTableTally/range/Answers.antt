use Rattle.std.proofs.Common.{◌≤◌, min, arith}
use Rattle.tally.specs.Owed.{most_arrivals}
use Rattle.counttable.proofs.as_tally.CountTableTally.range.Goals as goal

pub returns-clause-truth : goal.returns-clause-truth
returns-clause-truth g c = λ xs v.
    let n = c.args.self.now.run in
    let few = v.few in
    let all : n ≤ min n most_arrivals = omega arith in
    c.range_in.ensures.truth (min n most_arrivals) n xs all v
