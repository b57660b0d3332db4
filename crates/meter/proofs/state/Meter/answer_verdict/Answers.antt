use Rattle.std.proofs.Common.{ap}
use Rattle.keys.specs.Refusals.{told}
use Rattle.meter.proofs.KeyKinds.{kind_of}
use Rattle.meter.proofs.Promises.{verdict_given}
use Rattle.meter.proofs.Replies.{given_as}
use Rattle.meter.proofs.state.Meter.answer_verdict.Goals as goal
use Rattle.meter.specs.Runs.{Reply}

pub returns-clause-right : goal.returns-clause-right
returns-clause-right g c =
    let share = c.args.share in
    let m = c.args.self.now in
    λ b v. given_as Reply.judged (λ x y e. cc) _ _ (verdict_given (kind_of g.A.PartialEq.eq g.A.Key) g.T.Tally m.tally b.readers (c.ask_all.ensures b.readers v) share.p share.q c.args.reader) _ (ap (told Reply.judged) c.in_ok-judge.ensures)
