use Rattle.std.specs.Prelude.{ℕ, min}
use Rattle.tally.specs.declared.Tally.{Ghosts as TallyKind}

-- T: how many of the latest arrivals count, at a tally as it stands
abbrev pub within : {S A R : Type 0} → TallyKind S A R → S → ℕ
within t s = min (t.noted s) (t.reaches s)
