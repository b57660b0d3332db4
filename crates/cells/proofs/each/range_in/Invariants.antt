use Rattle.std.proofs.Common.{◌≡◌, drop}
use Rattle.cells.specs.Cells.{ends}
use Rattle.keys.specs.OfKey.{of_key}
use Rattle.cells.proofs.each.range_in.Given as goal

abbrev pub invariant-loop-cell : goal.invariant-loop-cell
invariant-loop-cell g l = ends (of_key g.K.PartialEq.eq g.K.Key.reads l.key) l.level (drop l.cell-index l.cells) ≡ ends (of_key g.K.PartialEq.eq g.K.Key.reads l.key) l.level l.cells
