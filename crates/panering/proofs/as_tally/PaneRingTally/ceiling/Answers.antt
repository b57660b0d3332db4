use Rattle.panering.proofs.Reached.{ring_contains, ring_missed, ring_top_bounded}
use Rattle.panering.proofs.as_tally.PaneRingTally.ceiling.Goals as goal

pub returns : goal.returns
returns g c =
    let e = c.top.ensures in
    record {
      value = e;
      ranges = λ xs v k. ring_contains _ _ _ _ _ _ xs v k;
      missed = λ xs v k out. rw e (ring_missed _ _ _ _ _ _ xs v k out);
      bounded = λ xs v. rw e (ring_top_bounded _ _ _ _ _ _ xs v);
    }
