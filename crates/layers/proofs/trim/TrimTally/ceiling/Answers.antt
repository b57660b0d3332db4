use Rattle.std.proofs.Common.{arith}
use Rattle.tally.proofs.Counts.{true_count_below}
use Rattle.layers.proofs.Lowered.{lowered}
use Rattle.layers.proofs.trim.TrimTally.ceiling.Goals as goal

pub returns-clause-ranges : goal.returns-clause-ranges
returns-clause-ranges g c = λ xs v k. lowered g.T.Key.PartialEq.eq _ k xs _ _ (c.ceiling.ensures.ranges xs v k)

pub returns-clause-missed : goal.returns-clause-missed
returns-clause-missed g c = λ xs v k out. grind (arith, c.ceiling.ensures.missed xs v k out, true_count_below)
