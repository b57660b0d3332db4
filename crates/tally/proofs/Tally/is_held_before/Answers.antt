use Rattle.std.proofs.Common.{rules, tests, refl, ◌∙◌, arith}
use Rattle.std.proofs.lemmas.Iterator.{YieldsList-from_range}
use Rattle.std.proofs.lemmas.Iterator.Search.{any_from_yields_List}
use Rattle.tally.proofs.HeldBefore.{held_any}
use Rattle.tally.proofs.Tally.is_held_before.Goals as goal
use Rattle.tally.specs.Owed.{holds}

pub returns : goal.returns
returns g c =
    let same = g.Self.Key.PartialEq.eq in
    let held = g.Self.Tally.held c.args.self.now in
    any_from_yields_List (λ i. holds same c.args.key (held i)) _ _ _ c.any.ensures.ran
    (YieldsList-from_range 0 c.args.place c.args.place refl (omega arith)) (λ x b q k. search (rules, tests))
    ∙ held_any same held c.args.key c.args.place
