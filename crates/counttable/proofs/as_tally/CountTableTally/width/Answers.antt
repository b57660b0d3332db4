use Rattle.cells.proofs.Bounds.{narrow}
use Rattle.keys.specs.OfKey.{of_key}
use Rattle.counttable.proofs.as_tally.CountTableTally.width.Goals as goal

pub returns-clause-narrow : goal.returns-clause-narrow
returns-clause-narrow g c = λ xs v k.
    let t = c.args.self.now in
    narrow g.K.PartialEq.eq g.K.Key.reads (of_key g.K.PartialEq.eq g.K.Key.reads k) t.level t.run t.cells.now v.sound
