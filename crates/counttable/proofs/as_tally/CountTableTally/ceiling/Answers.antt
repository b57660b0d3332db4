use Rattle.std.proofs.Common.{◌≤◌, min, arith}
use Rattle.cells.proofs.Bounds.{contains, missed}
use Rattle.tally.specs.Owed.{most_arrivals}
use Rattle.counttable.proofs.as_tally.CountTableTally.ceiling.Goals as goal

pub returns-clause-missed : goal.returns-clause-missed
returns-clause-missed g c = λ xs v k out.
    let t = c.args.self.now in
    let n = t.run in
    let few = v.few in
    let all : n ≤ min n most_arrivals = omega arith in
    let alone = missed g.K.PartialEq.eq g.K.Key.reads k t.level t.cells.now out in
    let h = rw alone at (contains g.K.PartialEq.eq g.K.Key.reads t.cells.now t.level n xs v k (min n most_arrivals) all) in
    rw (alone, c.width.ensures.value) (omega arith, h.upto)
