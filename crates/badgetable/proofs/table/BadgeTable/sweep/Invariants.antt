use Rattle.std.proofs.Common.{◌≡◌, length, drop}
use Rattle.badgetable.proofs.table.BadgeTable.sweep.Given as goal
use Rattle.badgetable.specs.Rows.{swept}
use Rattle.badgetable.specs.Tables.{Kept}

abbrev pub invariant-loop-i : goal.invariant-loop-i
invariant-loop-i g l =
    (swept l.j l.i (drop l.i l.initial.self.rows.now) l.self.cells.now ≡ swept l.j 0 l.initial.self.rows.now l.initial.self.cells.now)
    × (l.self.rows ≡ l.initial.self.rows)
    × (l.i-end ≡ length l.initial.self.rows.now)
    × Kept l.initial.self l.self
