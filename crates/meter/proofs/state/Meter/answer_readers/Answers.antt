use Rattle.std.proofs.Common.{ap}
use Rattle.keys.specs.Refusals.{told}
use Rattle.meter.proofs.KeyKinds.{kind_of}
use Rattle.meter.proofs.Promises.{readers_given}
use Rattle.meter.proofs.Replies.{given_as}
use Rattle.meter.proofs.state.Meter.answer_readers.Goals as goal
use Rattle.meter.specs.Runs.{Reply}

pub returns-in-Ok-clause-right : goal.returns-in-Ok-clause-right
returns-in-Ok-clause-right g c =
    let share = c.args.share in
    let m = c.args.self.now in
    let listed = rw c.in-Ok.is at c.in_ok-rows.ensures in
    λ b v. given_as Reply.readers (λ x y e. cc) _ _ (readers_given (kind_of g.A.PartialEq.eq g.A.Key) g.T.Tally m.tally b.readers (c.ask_all.ensures b.readers v) g.met.A.Eq.laws g.met.A.Key.restored share.p share.q c.args.room) _ (ap (told Reply.readers) listed)
