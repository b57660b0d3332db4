use Rattle.std.proofs.Common.{length}
use Rattle.panering.proofs.Turns.{ring_empty}
use Rattle.panering.proofs.ring.PaneRing.begin.Goals as goal

pub returns-clause-ringed : goal.returns-clause-ringed
returns-clause-ringed g c =
    rw c.new-self.ensures (ring_empty g.K.PartialEq.eq g.K.Key.reads c.args.shape (length c.args.self.now.cells.now) c.empty_cells.new.cells c.empty_cells.ensures.cells c.requires.sized c.requires.no_arrivals c.requires.no_panes)
