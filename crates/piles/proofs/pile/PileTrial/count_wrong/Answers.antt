use Rattle.std.proofs.Common.{rules, tests, false, refl}
use Rattle.std.proofs.lemmas.Iterator.{YieldsList-from_range}
use Rattle.std.proofs.lemmas.Iterator.Consumers.{YieldsList-from_filter, count_from_yields_List}
use Rattle.piles.proofs.pile.PileTrial.count_wrong.Goals as goal

pub returns : goal.returns
returns g c = λ v.
    count_from_yields_List c.filter.result _ c.count.ensures.ran
    (YieldsList-from_filter _ (λ n. false) (YieldsList-from_range 1 8 7 c.filter.ensures.source refl) c.filter.ensures.closure (λ x b q k. search (rules, tests, v)))
