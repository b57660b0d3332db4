use Rattle.std.proofs.Common.{◌≡◌}
use Rattle.badgetable.specs.Tables.{accounts_for}
use Rattle.badgeruns.proofs.tried.TriedTrial.count_wrong.Given as goal

-- no answer so far is false of arrivals that the table accounts for
abbrev pub invariant-loop-number : goal.invariant-loop-number
invariant-loop-number g l = accounts_for (record { eq = g.A.PartialEq.eq; parts = g.A.Key.parts; lies = g.A.Key.lies; reads = g.A.Key.reads }) (record { eq = g.B.PartialEq.eq; parts = g.B.Key.parts; lies = g.B.Key.lies; reads = g.B.Key.reads }) l.self.table l.history → l.wrong ≡ 0
