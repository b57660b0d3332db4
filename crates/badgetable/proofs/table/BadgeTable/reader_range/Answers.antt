use Rattle.badgetable.proofs.Covered.{covers_pair, reader_covers}
use Rattle.badgetable.proofs.table.BadgeTable.reader_range.Goals as goal

pub returns-clause-truth : goal.returns-clause-truth
returns-clause-truth g c =
    λ ps v. covers_pair _ _ _ _ c.range_in.ensures.value (reader_covers _ g.met.A.Eq.laws _ g.met.B.Eq.laws c.args.self.now ps v c.args.reader)
