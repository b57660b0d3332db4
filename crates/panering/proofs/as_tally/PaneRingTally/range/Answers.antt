use Rattle.panering.proofs.Reached.{ring_contains}
use Rattle.panering.proofs.as_tally.PaneRingTally.range.Goals as goal

pub returns-clause-truth : goal.returns-clause-truth
returns-clause-truth g c = λ xs v. rw (c.low_end.ensures, c.high_end.ensures) (ring_contains _ _ _ _ _ _ xs v c.args.key)
