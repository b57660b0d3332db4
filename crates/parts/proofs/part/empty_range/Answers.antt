use Rattle.cells.specs.Cells.{emptied}
use Rattle.parts.proofs.Areas.{amid_is}
use Rattle.parts.proofs.part.empty_range.Goals as goal

pub returns : goal.returns
returns g c = amid_is emptied c.args.from c.args.k c.args.cells.now _ c.empty_cells.ensures.cells
