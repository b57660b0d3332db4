use Rattle.std.specs.Prelude.{ℕ, ◌<◌}
use Rattle.cells.specs.declared.rule.Rule.{Rule}
use Rattle.cells.specs.declared.rule.Rule.TheVariants.{Count, Enter, Raise}

-- a rule speaks of one of k cells
abbrev pub Within : ℕ → Rule → Type 0
Within k (Count i) = i < k
Within k (Enter i) = i < k
Within k Raise = Unit {0}
