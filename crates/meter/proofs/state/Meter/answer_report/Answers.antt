use Rattle.std.proofs.Common.{◌≡◌, rules}
use Rattle.keys.specs.Refusals.{told}
use Rattle.meter.proofs.KeyKinds.{kind_of}
use Rattle.meter.proofs.Replies.{given_as}
use Rattle.meter.proofs.Reports.{report_given}
use Rattle.meter.proofs.Books.{right_of}
use Rattle.meter.proofs.state.Meter.answer_report.Goals as goal
use Rattle.meter.specs.Runs.{Reply, reply_to, report_rule}
use Rattle.meter.specs.declared.call.Call.TheVariants.{Report}

pub returns-clause-right : goal.returns-clause-right
returns-clause-right g c =
    let ka = kind_of g.A.PartialEq.eq g.A.Key in
    let kb = kind_of g.B.PartialEq.eq g.B.Key in
    let m = c.args.self.now in
    let reported : reply_to c.join.result ≡ told Reply.reported (report_rule ka kb g.T.Tally c.args.rooms m c.args.readers c.args.badges) = search rules in
    right_of ka kb g.T.Tally m (Report c.args.readers c.args.badges) _
    (λ b v. given_as Reply.reported (λ x y e. cc) _ _ (report_given ka kb g.T.Tally g.met.A.Eq.laws g.met.B.Eq.laws g.met.A.Key.restored m c.args.rooms c.args.readers c.args.badges b (c.ask_all.ensures b.readers v.0) v) _ reported)
