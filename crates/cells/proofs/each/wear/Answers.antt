use Rattle.std.proofs.Common.{rules}
use Rattle.std.proofs.lemmas.List.{take_all, drop_all, append-nil}
use Rattle.std.proofs.lemmas.List.Edits.{map_over_more}
use Rattle.cells.specs.Cells.{worn}
use Rattle.cells.proofs.each.wear.Goals as goal

pub loop-cell-preserved : goal.loop-cell-preserved
loop-cell-preserved g c = search (rules, map_over_more (worn {R = g.row.R.Denot} {X = g.row.X.Denot} c.args.level))

pub returns : goal.returns
returns g c = search (rules, take_all, drop_all, append-nil)
