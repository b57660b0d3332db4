-- no rule changes how many cells there are
use Rattle.std.proofs.Common.{◌≡◌, ℕ, ◌+◌, List, length, None}
use Rattle.cells.specs.Cells.{capped, cells_after, emptied, worn}
use Rattle.cells.specs.Cells.{Cell}
use Rattle.cells.specs.declared.rule.Rule.{Rule}
use Rattle.cells.specs.declared.rule.Rule.TheVariants.{Count, Enter, Raise}
use Rattle.std.proofs.lemmas.List.{length-map, length-replicate, length-set}

pub length_after : {R X : Type 0} (level : ℕ) (r : R) (x : X) (cs : List (Cell R X)) (rule : Rule) → length (cells_after level r x cs rule) ≡ length cs
length_after level r x cs (Count i) = length-set cs i _
length_after level r x cs (Enter i) = length-set cs i _
length_after level r x cs Raise = length-map cs (worn (capped (level + 1)))

pub length_emptied : {R X : Type 0} (cs : List (Cell R X)) → length (emptied cs) ≡ length cs
length_emptied cs = length-replicate (length cs) None
