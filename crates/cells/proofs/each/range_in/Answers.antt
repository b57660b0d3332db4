use Rattle.std.proofs.Common.{◌∙◌}
use Rattle.cells.proofs.Bounds.{contains_pair}
use Rattle.cells.proofs.Ends.{ends_next, ends_here, ends_end}
use Rattle.cells.proofs.each.range_in.Goals as goal

pub returns-in-Some : goal.returns-in-Some
returns-in-Some g c =
    let e = ends_here _ c.args.level c.args.cells.now c.loop-cell.cell-index _ _ c.loop-cell-test.true c.cell-item.is c.in-Some.ensures ∙ c.loop-cell.invariant in
    record { value = e; truth = contains_pair g.K.PartialEq.eq g.K.Key.reads c.args.cells.now c.args.level c.args.key _ e }

pub loop-cell-preserved : goal.loop-cell-preserved
loop-cell-preserved g c = ends_next _ c.args.level c.args.cells.now c.loop-cell.cell-index _ c.loop-cell-test.true c.cell-item.is c.in_default.ensures ∙ c.loop-cell.invariant

pub returns : goal.returns
returns g c =
    let e = ends_end _ c.args.level c.args.cells.now c.loop-cell.cell-index c.loop-cell-test.false ∙ c.loop-cell.invariant in
    record { value = e; truth = contains_pair g.K.PartialEq.eq g.K.Key.reads c.args.cells.now c.args.level c.args.key _ e }
