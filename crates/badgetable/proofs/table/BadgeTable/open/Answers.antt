use Rattle.std.proofs.Common.{length, ◌∙◌, sym}
use Rattle.badgetable.proofs.Rooms.{plan_holds}
use Rattle.badgetable.proofs.table.BadgeTable.open.Goals as goal

pub returns-clause-plan : goal.returns-clause-plan
returns-clause-plan g c =
    let t = c.args.self.now in
    let areas = c.clear.ensures.after.areas in
    let plan = plan_holds c.args.k c.args.j (length t.rows.now) (length t.cells.now) (sym c.is_plan.ensures ∙ c.if-not-is_plan.false) in
    rw (areas.many_rows, areas.many_cells) plan
