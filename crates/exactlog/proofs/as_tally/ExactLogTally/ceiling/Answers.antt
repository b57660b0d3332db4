use Rattle.std.proofs.Common.{arith}
use Rattle.exactlog.proofs.Exact.{exact_contains, missed_none}
use Rattle.keys.specs.Kinds.{KeyKind}
use Rattle.exactlog.proofs.as_tally.ExactLogTally.ceiling.Goals as goal

pub returns-clause-ranges : goal.returns-clause-ranges
returns-clause-ranges g c =
    let kind : KeyKind _ _ = record { eq = g.K.PartialEq.eq; parts = g.K.Key.parts; lies = g.K.Key.lies; reads = g.K.Key.reads } in
    exact_contains kind g.met.K.Eq.laws g.met.K.Key.restored c.args.self.now

pub returns-clause-missed : goal.returns-clause-missed
returns-clause-missed g c = λ xs v k out.
    let kind : KeyKind _ _ = record { eq = g.K.PartialEq.eq; parts = g.K.Key.parts; lies = g.K.Key.lies; reads = g.K.Key.reads } in
    let none = missed_none kind g.met.K.Eq.laws g.met.K.Key.restored c.args.self.now k out in
    let h = exact_contains kind g.met.K.Eq.laws g.met.K.Key.restored c.args.self.now xs v k in
    (omega arith, omega (arith, h.upto))
