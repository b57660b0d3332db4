use Rattle.std.proofs.Common.{rules, tests, None, slice_index_or, refl, ◌∙◌, arith}
use Rattle.std.proofs.lemmas.Iterator.{YieldsList-from_range}
use Rattle.std.proofs.lemmas.Iterator.Search.{any_from_yields_List}
use Rattle.badgetable.specs.Tables.{arrivals_in, row_count}
use Rattle.listings.proofs.Elements.{any_index}
use Rattle.listings.proofs.badges.ChosenBadges.is_some_row_fine.Goals as goal
use Rattle.listings.specs.Listings.{is_fine}

pub returns : goal.returns
returns g c =
    let s = c.args.self.now in
    let t = s.table.now in
    let fine = is_fine s.readers.p s.readers.q s.badges.p s.badges.q (arrivals_in t) in
    any_from_yields_List (λ i. fine (slice_index_or t.rows.now i None)) _ _ _ c.any.ensures.ran
    (YieldsList-from_range 0 c.rows.result (row_count t) refl (omega (arith, c.rows.ensures))) (λ x b q k. search (rules, tests))
    ∙ any_index fine None t.rows.now
