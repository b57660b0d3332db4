use Rattle.std.specs.Prelude.{◌≡◌, ℕ, ◌+◌, List, length}
use Rattle.badgetable.specs.Plans.{cells_a_row}
use Rattle.badgetable.specs.Rows.{badge_ends, badges_after, cells_by, rows_after, rows_by}
use Rattle.badgetable.specs.Shown.{Shown}
use Rattle.badgetable.specs.declared.table.BadgeTable.{BadgeTable}
use Rattle.cells.specs.Cells.{Cell, emptied, ends, level_after, rule_for}
use Rattle.cells.specs.declared.rule.Rule.{Rule}
use Rattle.keys.specs.Kinds.{KeyKind}
use Rattle.keys.specs.OfKey.{of_key}
use Rattle.parts.specs.Parts.{part}

module _ {A B R S : Type 0} where
  -- K and J of a table
  abbrev pub row_count : BadgeTable A B R S → ℕ
  row_count t = length t.rows.now

  abbrev pub cell_count : BadgeTable A B R S → ℕ
  cell_count t = cells_a_row (length t.rows.now) (length t.cells.now)

  -- the badge cells of row i
  abbrev pub cells_of : BadgeTable A B R S → ℕ → List (Cell S (Unit {0}))
  cells_of t i = part (cell_count t) i t.cells.now

  -- n: the arrivals noted since the latest clear
  abbrev pub arrivals_in : BadgeTable A B R S → ℕ
  arrivals_in t = t.run

  -- a table lies in the areas that it was lent, which are as long as they were
  pub record SameAreas (was t : BadgeTable A B R S) : Type 0 where
    pub rows : t.rows.ghost_name ≡ was.rows.ghost_name
    pub cells : t.cells.ghost_name ≡ was.cells.ghost_name
    pub many_rows : length t.rows.now ≡ length was.rows.now
    pub many_cells : length t.cells.now ≡ length was.cells.now

  -- a table is empty: all rows and cells are free, as many as before, in the areas that were lent
  pub record Emptied (was t : BadgeTable A B R S) : Type 0 where
    pub rows : t.rows.now ≡ emptied was.rows.now
    pub cells : t.cells.now ≡ emptied was.cells.now
    pub level : t.level ≡ 0
    pub noted : arrivals_in t ≡ 0
    pub areas : SameAreas was t

  -- what a badge's way into a table leaves: D, n and the areas
  pub record Kept (was t : BadgeTable A B R S) : Type 0 where
    pub level : t.level ≡ was.level
    pub run : t.run ≡ was.run
    pub areas : SameAreas was t

module _ {A B R S : Type 0} (kb : KeyKind B S) where
  -- a table after a badge went the way of a rule that its reader's arrival met
  pub record Entered (b : B) (rule : Rule) (was t : BadgeTable A B R S) : Type 0 where
    pub rows : t.rows.now ≡ rows_by (of_key kb.eq kb.reads b) (kb.lies b) (cell_count was) was.rows.now was.cells.now rule
    pub cells : t.cells.now ≡ cells_by (of_key kb.eq kb.reads b) (kb.lies b) (cell_count was) was.rows.now was.cells.now rule
    pub kept : Kept was t

-- the range of a reader, as a table stands
abbrev pub reader_ends_of : {A B R S : Type 0} → KeyKind A R → BadgeTable A B R S → A → ℕ × ℕ
reader_ends_of ka t a = ends (of_key ka.eq ka.reads a) t.level t.rows.now

module _ {A B R S : Type 0} (ka : KeyKind A R) (kb : KeyKind B S) where
  -- the range of a badge at a reader, as a table stands
  abbrev pub badge_ends_of : BadgeTable A B R S → A → B → ℕ × ℕ
  badge_ends_of t a b = badge_ends (of_key ka.eq ka.reads a) (of_key kb.eq kb.reads b) t.level t.rows.now t.cells.now

  -- a table after an arrival of a reader with a badge
  pub record Noted (a : A) (b : B) (was t : BadgeTable A B R S) : Type 0 where
    pub rows : t.rows.now ≡ rows_after (of_key ka.eq ka.reads a) (of_key kb.eq kb.reads b) (ka.lies a) (kb.lies b) was.level was.rows.now was.cells.now
    pub cells : t.cells.now ≡ badges_after (of_key ka.eq ka.reads a) (of_key kb.eq kb.reads b) (ka.lies a) (kb.lies b) was.level was.rows.now was.cells.now
    pub level : t.level ≡ level_after was.level (rule_for (of_key ka.eq ka.reads a) was.rows.now)
    pub noted : arrivals_in t ≡ arrivals_in was + 1
    pub areas : SameAreas was t

  -- which lists of arrivals a table accounts for
  abbrev pub accounts_for : BadgeTable A B R S → List (A × B) → Type 0
  accounts_for t ps = Shown ka kb t.rows.now t.cells.now t.level (arrivals_in t) ps
