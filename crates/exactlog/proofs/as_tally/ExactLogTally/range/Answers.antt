use Rattle.std.proofs.Common.{◌≡◌, count_by, ap, ◌∙◌, arith}
use Rattle.exactlog.proofs.Exact.{exact_contains}
use Rattle.exactlog.specs.ExactLog.{count_in}
use Rattle.keys.specs.Kinds.{KeyKind}
use Rattle.keys.specs.OfKey.{of_key}
use Rattle.exactlog.proofs.as_tally.ExactLogTally.range.Goals as goal

pub returns-clause-truth : goal.returns-clause-truth
returns-clause-truth g c = λ xs v.
    let kind : KeyKind _ _ = record { eq = g.K.PartialEq.eq; parts = g.K.Key.parts; lies = g.K.Key.lies; reads = g.K.Key.reads } in
    let t = c.args.self.now in
    let key = c.args.key in
    let n : c.count_of-n.result ≡ count_in kind t key = c.count_of-n.ensures ∙ ap (count_by (of_key kind.eq kind.reads key)) c.records.ensures in
    let h = exact_contains kind g.met.K.Eq.laws g.met.K.Key.restored t xs v key in
    record { from = omega (arith, h.from, n); upto = omega (arith, h.upto, n); bounded = omega (arith, h.bounded, n) }
