use Rattle.std.proofs.Common.{ap, ◌∙◌, refl, rules}
use Rattle.badgetable.proofs.Swept.{sweep_next}
use Rattle.badgetable.proofs.table.BadgeTable.sweep.Goals as goal
use Rattle.badgetable.proofs.table.BadgeTable.sweep.Goals.{then-is_none, else-is_none}

pub loop-i-preserved : goal.loop-i-preserved
loop-i-preserved g c =
    let inv = c.loop-i.invariant in
    let next = sweep_next c.cells_a_row-j.result c.loop-i.i c.args.self.now.rows.now c.loop-i.self.rows.now _ c.is_none.result c.loop-i.self.cells.now in
    let same = ap (λ x. x.now) inv.1 in
    elim c.if-is_none.branch [
      | then-is_none w ↦ rw w.self-is (next _ same c.loop-i-test.true c.is_none.ensures (rw w.if-is_none.true w.empty_part.ensures) ∙ inv.0, inv.1, refl, search rules)
      | else-is_none w ↦ rw w.self-is (next _ same c.loop-i-test.true c.is_none.ensures (rw w.if-is_none.false refl) ∙ inv.0, inv.1, refl, search rules)
    ]
