use Rattle.std.proofs.Common.{length, rules}
use Rattle.cells.proofs.Cleared.{cleared_ran}
use Rattle.cells.proofs.each.empty_cells.Goals as goal

pub returns-clause-ran : goal.returns-clause-ran
returns-clause-ran g c = cleared_ran g.row.X.Denot g.K.PartialEq.eq g.K.Key.reads (length c.args.cells.now) _ (search rules)
