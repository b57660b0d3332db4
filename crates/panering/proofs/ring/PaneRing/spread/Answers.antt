use Rattle.std.proofs.Common.{◌≡◌, rules}
use Rattle.panering.proofs.Reached.{ring_narrow, ring_width_bounded, ring_width_share}
use Rattle.panering.specs.PaneRing.{width_of}
use Rattle.panering.proofs.ring.PaneRing.spread.Goals as goal

pub returns : goal.returns
returns g c =
    let e : c.saturating_add.result ≡ width_of c.args.self.now = search rules in
    record {
      value = e;
      narrow = λ xs v k. rw e (ring_narrow _ _ _ _ _ _ xs v k);
      bounded = λ xs v. rw e (ring_width_bounded _ _ _ _ _ _ xs v);
      share = λ xs v. rw e (ring_width_share _ _ _ _ _ _ xs v);
    }
