use Rattle.badgetable.proofs.Started.{shown_empty}
use Rattle.badgetable.proofs.table.BadgeTable.clear.Goals as goal

pub returns-clause-accounts : goal.returns-clause-accounts
returns-clause-accounts g c =
    let rows = c.empty_cells.ensures in
    let ran = shown_empty _ _ c.args.self.now.rows.now _ _ rows.cells rows.ran in
    rw c.new-self.ensures ran
