use Rattle.std.specs.Prelude.{ℕ, ◌*◌, ◌/◌, Bool, if◌then◌else◌, ◌&&◌, ◌==◌}
use Rattle.tally.specs.Plans.{plannable}

-- whether a plan fits two areas: K rows and J cells a row, each number 1 to 64, in areas of K rows and of K × J cells
abbrev pub plan_fits : ℕ → ℕ → ℕ → ℕ → Bool
plan_fits k j rows cells = plannable 64 k && (plannable 64 j && (rows == k && cells == k * j))

-- J: how many cells each of K rows has in an area of cells
abbrev pub cells_a_row : ℕ → ℕ → ℕ
cells_a_row k area = if k == 0 then 0 else area / k
