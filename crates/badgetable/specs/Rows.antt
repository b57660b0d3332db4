use Rattle.std.specs.Prelude.{ℕ, ◌+◌, Bool, if◌then◌else◌, List, [], ◌∷◌, length, Some, None, Option, slice_index_or, slice_set, is_none}
use Rattle.std.specs.List.{position_from}
use Rattle.cells.specs.Cells.{Cell, capped, cells_after, emptied, ends, level_after, rule_for, taken_by, with_beside}
use Rattle.cells.specs.declared.rule.Rule.{Rule}
use Rattle.cells.specs.declared.rule.Rule.TheVariants.{Count, Enter, Raise}
use Rattle.parts.specs.Parts.{part, with_part}
use Rattle.badgetable.specs.Plans.{cells_a_row}

-- A row is a cell for a reader, with seen for its count, and beside it the level E of the row's badge table, whose cells are
-- the part of the cell area with the row's number.

module _ {R : Type 0} where
  -- the level E of a row; 0 of a free one
  abbrev pub badge_level : Cell R ℕ → ℕ
  badge_level None = 0
  badge_level (Some s) = s.beside

module _ {R S : Type 0} (j : ℕ) where
  -- the badge cells of a free row are free
  abbrev pub swept_row : ℕ → Cell R ℕ → List (Cell S (Unit {0})) → List (Cell S (Unit {0}))
  swept_row i row cs = if is_none row then with_part j i emptied cs else cs

  -- and so for the rows from row i on
  abbrev pub swept : ℕ → List (Cell R ℕ) → List (Cell S (Unit {0})) → List (Cell S (Unit {0}))
  swept i [] cs = cs
  swept i (row ∷ rows) cs = swept (i + 1) rows (swept_row i row cs)

module _ {R S : Type 0} (is : S → Bool) (s : S) (j : ℕ) where
  -- a badge enters the badge table of row i: its cells, and its level
  abbrev pub cells_shown : List (Cell R ℕ) → List (Cell S (Unit {0})) → ℕ → List (Cell S (Unit {0}))
  cells_shown rows cs i =
      with_part j i (λ p. cells_after (badge_level (slice_index_or rows i None)) s tt p (rule_for is p)) cs

  abbrev pub rows_shown : List (Cell R ℕ) → List (Cell S (Unit {0})) → ℕ → List (Cell R ℕ)
  rows_shown rows cs i =
      slice_set rows i (with_beside (level_after (badge_level (slice_index_or rows i None)) (rule_for is (part j i cs))) (slice_index_or rows i None))

  -- the badge of an arrival that met a rule: a row that counts the arrival counts the badge, a new row from an empty badge
  -- table on; where no row does, no badge is stored, and rows that were freed have their badge cells freed
  abbrev pub cells_by : List (Cell R ℕ) → List (Cell S (Unit {0})) → Rule → List (Cell S (Unit {0}))
  cells_by rows cs (Count i) = cells_shown rows cs i
  cells_by rows cs (Enter i) = cells_shown rows (with_part j i emptied cs) i
  cells_by rows cs Raise = swept j 0 rows cs

  abbrev pub rows_by : List (Cell R ℕ) → List (Cell S (Unit {0})) → Rule → List (Cell R ℕ)
  rows_by rows cs (Count i) = rows_shown rows cs i
  rows_by rows cs (Enter i) = rows_shown rows (with_part j i emptied cs) i
  rows_by rows cs Raise = rows

module _ {R S : Type 0} (of : R → Bool) (is : S → Bool) (r : R) (s : S) (level : ℕ) (rows : List (Cell R ℕ)) (cs : List (Cell S (Unit {0}))) where
  abbrev pub per_row : ℕ
  per_row = cells_a_row (length rows) (length cs)

  -- an arrival of a reader with a badge: the rows follow the count table's three rules, with level D
  abbrev pub rows_counted : List (Cell R ℕ)
  rows_counted = cells_after level r 0 rows (rule_for of rows)

  abbrev pub rows_after : List (Cell R ℕ)
  rows_after = rows_by is s per_row rows_counted cs (rule_for of rows)

  abbrev pub badges_after : List (Cell S (Unit {0}))
  badges_after = cells_by is s per_row rows_counted cs (rule_for of rows)

module _ {R S : Type 0} (is : S → Bool) (level : ℕ) where
  -- a badge's range in a row: what its badge table says, and the row's mark on top; without a row 0 to D
  abbrev pub row_ends : Cell R ℕ → List (Cell S (Unit {0})) → ℕ × ℕ
  row_ends None p = (0, level)
  row_ends (Some s) p = ((ends is s.beside p).0, capped ((ends is s.beside p).1 + s.mark))

  abbrev pub ends_at : ℕ → List (Cell R ℕ) → List (Cell S (Unit {0})) → Option ℕ → ℕ × ℕ
  ends_at j rows cs None = (0, level)
  ends_at j rows cs (Some i) = row_ends (slice_index_or rows i None) (part j i cs)

-- the range of a badge at a reader
abbrev pub badge_ends : {R S : Type 0} → (R → Bool) → (S → Bool) → ℕ → List (Cell R ℕ) → List (Cell S (Unit {0})) → ℕ × ℕ
badge_ends of is level rows cs =
    ends_at is level (cells_a_row (length rows) (length cs)) rows cs (position_from (taken_by of) 0 rows)
