use Rattle.std.proofs.Common.{◌∙◌}
use Rattle.badgetable.proofs.Covered.{badge_covers, covers_pair}
use Rattle.badgetable.proofs.table.BadgeTable.badge_range.Goals as goal

pub returns-clause-truth : goal.returns-clause-truth
returns-clause-truth g c = λ ps v.
    covers_pair _ _ _ _ (c.unwrap_or.ensures ∙ c.badge_ends.ensures) (badge_covers _ g.met.A.Eq.laws _ g.met.B.Eq.laws c.args.self.now ps v c.args.reader c.args.badge)
