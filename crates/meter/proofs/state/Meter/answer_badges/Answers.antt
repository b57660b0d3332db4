use Rattle.std.proofs.Common.{◌≡◌, rules}
use Rattle.keys.specs.Refusals.{told}
use Rattle.listings.proofs.BadgeLaws.{badges_given}
use Rattle.listings.specs.Listings.{badges_at}
use Rattle.meter.proofs.KeyKinds.{kind_of}
use Rattle.meter.proofs.Replies.{given_as}
use Rattle.meter.proofs.state.Meter.answer_badges.Goals as goal
use Rattle.meter.specs.Runs.{Reply, reply_to}

pub returns-clause-right : goal.returns-clause-right
returns-clause-right g c =
    let ka = kind_of g.A.PartialEq.eq g.A.Key in
    let kb = kind_of g.B.PartialEq.eq g.B.Key in
    let r = c.args.readers in
    let b = c.args.badges in
    let m = c.args.self.now in
    let listed : reply_to c.map.result ≡ told Reply.badges (badges_at m.table r b c.args.room) = search rules in
    λ k v. given_as Reply.badges (λ x y e. cc) _ _ (badges_given ka kb g.met.A.Eq.laws g.met.B.Eq.laws m.table k.shown v r.p r.q b.p b.q c.args.room) _ listed
