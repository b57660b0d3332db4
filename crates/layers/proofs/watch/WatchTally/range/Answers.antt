use Rattle.layers.proofs.Watching.{watched_contains}
use Rattle.layers.proofs.watch.WatchTally.range.Goals as goal

pub returns-clause-truth : goal.returns-clause-truth
returns-clause-truth g c = λ xs v.
    rw (c.pick.ensures, c.same_key-watched.ensures, c.is_whole.ensures)
    (watched_contains g.T.Key.PartialEq.eq g.T.Key.Key.reads g.met.T.Key.Eq.laws c.args.key _ _ _ _ _ _ xs v.long v.exact (c.range-below.ensures.truth xs v.below))
