use Rattle.layers.proofs.Watching.{watched_contains}
use Rattle.layers.proofs.watch.WatchTally.ceiling.Goals as goal

pub returns-clause-ranges : goal.returns-clause-ranges
returns-clause-ranges g c = λ xs v k. watched_contains g.T.Key.PartialEq.eq g.T.Key.Key.reads g.met.T.Key.Eq.laws k _ _ _ _ _ _ xs v.long v.exact (c.ceiling.ensures.ranges xs v.below k)
