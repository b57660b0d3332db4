use Rattle.std.specs.Prelude.{ℕ, ◌+◌, Bool, false, if◌then◌else◌, List, [], ◌∷◌, map, length, replicate, Some, None, is_none, Option, ◌==◌, slice_index_or, slice_set, unwrap_or}
use Rattle.std.specs.List.{position_from}
pub use Rattle.cells.specs.Capped.{capped}
use Rattle.cells.specs.declared.cell.Slot.{Slot}
use Rattle.cells.specs.declared.rule.Rule.{Rule}
use Rattle.cells.specs.declared.rule.Rule.TheVariants.{Count, Enter, Raise}

-- a place for one key: free, or taken by a key
abbrev pub Cell : Type 0 → Type 0 → Type 0
Cell R X = Option (Slot R X)

module _ {R X : Type 0} where
  -- whether a cell is taken, by a record that passes a test
  abbrev pub taken_by : (R → Bool) → Cell R X → Bool
  taken_by is None = false
  taken_by is (Some s) = is s.key

-- the rule that an arrival meets: its key is held, or else a cell is free, or else none is
abbrev pub rule_at : Option ℕ → Option ℕ → Rule
rule_at (Some i) free = Count i
rule_at None (Some i) = Enter i
rule_at None None = Raise

module _ {R X : Type 0} where
  abbrev pub rule_for : (R → Bool) → List (Cell R X) → Rule
  rule_for is cs = rule_at (position_from (taken_by is) 0 cs) (position_from is_none 0 cs)

  -- a count more by one
  abbrev pub counted : Cell R X → Cell R X
  counted None = None
  counted (Some s) = Some (record s { count = capped (s.count + 1) })

  -- a key that enters at a level
  abbrev pub entered : ℕ → R → X → Cell R X
  entered level r x = Some (record { key = r; count = 1; mark = level; beside = x })

  -- a cell that a level reaches is freed
  abbrev pub worn : ℕ → Cell R X → Cell R X
  worn level None = None
  worn level (Some s) = if s.count + s.mark == level then None else Some s

  -- the cells after an arrival that met a rule, at the level before it
  abbrev pub cells_after : ℕ → R → X → List (Cell R X) → Rule → List (Cell R X)
  cells_after level r x cs (Count i) = slice_set cs i (counted (slice_index_or cs i None))
  cells_after level r x cs (Enter i) = slice_set cs i (entered level r x)
  cells_after level r x cs Raise = map (worn (capped (level + 1))) cs

  -- a cell with something else beside
  abbrev pub with_beside : X → Cell R X → Cell R X
  with_beside x None = None
  with_beside x (Some s) = Some (record s { beside = x })

  -- as many free cells
  abbrev pub emptied : List (Cell R X) → List (Cell R X)
  emptied cs = replicate (length cs) None

  -- the two ends of a key's range in the cell that holds it
  abbrev pub cell_ends : (R → Bool) → Cell R X → Option (ℕ × ℕ)
  cell_ends is None = None
  cell_ends is (Some s) = if is s.key then Some (s.count, capped (s.count + s.mark)) else None

  -- and in a table: from 0 up to the level where no cell holds it
  abbrev pub ends : (R → Bool) → ℕ → List (Cell R X) → ℕ × ℕ
  ends is level [] = (0, level)
  ends is level (c ∷ cs) = unwrap_or (cell_ends is c) (ends is level cs)

  -- the key in a cell
  abbrev pub key_in : {K : Type 0} → (R → Option K) → Cell R X → Option K
  key_in reads None = None
  key_in reads (Some s) = reads s.key

  -- and at a place, counting from 0; none past the last
  abbrev pub key_at : {K : Type 0} → (R → Option K) → List (Cell R X) → ℕ → Option K
  key_at reads cs i = key_in reads (slice_index_or cs i None)

-- the level after an arrival that met a rule
abbrev pub level_after : ℕ → Rule → ℕ
level_after level (Count i) = level
level_after level (Enter i) = level
level_after level Raise = capped (level + 1)
