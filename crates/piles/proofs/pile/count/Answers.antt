use Rattle.std.proofs.Common.{if◌then◌else◌, rules, tests, arith}
use Rattle.std.proofs.lemmas.Iterator.{YieldsList-from_map, YieldsList-from_slice}
use Rattle.std.proofs.lemmas.Iterator.Consumers.{fits_by_from_yields_list, sum_by_from_yields_List}
use Rattle.std.proofs.lemmas.List.Sums.{count_by-le-length}
use Rattle.piles.proofs.pile.count.Goals as goal

pub sum-requires-clause-fits : goal.sum-requires-clause-fits
sum-requires-clause-fits g c =
    let is = g.K.PartialEq.eq c.args.key in
    let few = count_by-le-length is c.args.history.now in
    let bound = c.iter.ensures.bound in
    let long = c.iter.ensures.len in
    fits_by_from_yields_list _ _ c.map.result _
    (YieldsList-from_map _ (λ held. if is held then 1 else 0) (YieldsList-from_slice c.args.history.now cc) c.map.ensures.closure (λ x r q k. search (rules, tests)))
    (omega (arith, few, bound, long))

pub returns : goal.returns
returns g c =
    sum_by_from_yields_List _ _ c.map.result _ c.sum.ensures.ran
    (YieldsList-from_map _ (λ held. if g.K.PartialEq.eq c.args.key held then 1 else 0) (YieldsList-from_slice c.args.history.now cc) c.map.ensures.closure (λ x r q k. search (rules, tests)))
