use Rattle.std.proofs.Common.{◌<◌, rules, arith}
use Rattle.keys.specs.Kinds.{KeyKind}
use Rattle.panering.proofs.Turns.{vouches_noted}
use Rattle.panering.specs.PaneRing.{Noted}
use Rattle.panering.proofs.ring.PaneRing.count.Goals as goal

pub returns-clause-ringed : goal.returns-clause-ringed
returns-clause-ringed g c =
    let kind : KeyKind _ _ = record { eq = g.K.PartialEq.eq; parts = g.K.Key.parts; lies = g.K.Key.lies; reads = g.K.Key.reads } in
    let few : c.args.self.now.run < 100_000_000 = grind (arith, c.in_ok-add.ensures.answer) in
    let noted : Noted kind c.args.key c.args.self.now c.advance.new.self = search rules in
    λ xs v. vouches_noted kind g.met.K.Eq.laws g.met.K.Key.restored c.args.key c.args.self.now c.advance.new.self xs few noted v
