use Rattle.std.proofs.Common.{◌≡◌, ℕ, ◌<◌}
use Rattle.cells.specs.Cells.{capped}
use Rattle.panering.specs.Panes.{sum_below}
use Rattle.panering.proofs.sum.sum.Given as goal

abbrev pub invariant-loop-j : goal.invariant-loop-j
invariant-loop-j g l =
    (f : ℕ → ℕ) → ((i r : ℕ) → i < l.panes → goal.F-post g l.part i r → r ≡ f i) → l.total ≡ capped (sum_below f l.j)
