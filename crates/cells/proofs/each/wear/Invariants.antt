use Rattle.std.proofs.Common.{◌≡◌, ◌++◌, map, take, drop}
use Rattle.cells.specs.Cells.{worn}
use Rattle.cells.proofs.each.wear.Given as goal

abbrev pub invariant-loop-cell : goal.invariant-loop-cell
invariant-loop-cell g l = l.cells ≡ map (worn l.level) (take l.cell-index l.initial.cells) ++ drop l.cell-index l.initial.cells
