-- a range whose high end is lowered to T still contains the true count
use Rattle.std.proofs.Common.{ℕ, min, Bool, List, arith}
use Rattle.tally.proofs.Counts.{true_count_below}
use Rattle.tally.specs.Owed.{Contains}

pub lowered : {K : Type 0} (alike : K → K → Bool) (t : ℕ) (k : K) (xs : List K) (low high : ℕ) → Contains alike t k xs low high → Contains alike t k xs low (min high t)
lowered alike t k xs low high h = grind (arith, h.from, h.upto, h.bounded, true_count_below alike t k xs)
