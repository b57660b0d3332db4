use Rattle.std.proofs.Common.{rules, None}
use Rattle.badgetable.proofs.Entered.{cells_entered, rows_entered}
use Rattle.badgetable.proofs.table.BadgeTable.show.Goals as goal
use Rattle.badgetable.specs.Tables.{cell_count}
use Rattle.keys.specs.OfKey.{of_key}
use Rattle.std.proofs.lemmas.List.{get_or_default}

pub returns : goal.returns
returns g c =
    let t = c.args.self.now in
    let is = of_key g.B.PartialEq.eq g.B.Key.reads c.args.badge in
    let s = g.B.Key.lies c.args.badge in
    let per = c.cells_a_row-j.ensures.value in
    let read = get_or_default t.rows.now c.args.i c.index-self-i.result None c.requires in
    let was = c.badge_level.ensures in
    let noted = c.note_part-level.ensures in
    record {
      rows = rows_entered is s (cell_count t) c.args.i t.rows.now t.cells.now _ per _ read _ was _ _ noted.level c.with_badge_level.ensures;
      cells = cells_entered is s (cell_count t) c.args.i t.rows.now t.cells.now _ per _ read _ was _ noted.cells;
      kept = search rules;
    }
