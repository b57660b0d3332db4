-- a badge in the badge table of a row, step by step
use Rattle.std.proofs.Common.{◌≡◌, ℕ, Bool, List, get_or, set, refl, None}
use Rattle.badgetable.specs.Rows.{badge_level, cells_shown, rows_shown}
use Rattle.cells.specs.Cells.{cells_after, level_after, rule_for, with_beside}
use Rattle.cells.specs.Cells.{Cell}
use Rattle.parts.specs.Parts.{part, with_part}

module _ {R S : Type 0} (is : S → Bool) (s : S) (j i : ℕ) (rows : List (Cell R ℕ)) (cs : List (Cell S (Unit {0}))) (per : ℕ) (parted : per ≡ j) (row : Cell R ℕ) (read : row ≡ get_or rows i None) (level : ℕ) (was : level ≡ badge_level row) where
  pub rows_entered : (then : ℕ) (new : Cell R ℕ) → then ≡ level_after level (rule_for is (part per i cs)) → new ≡ with_beside then row → set rows i new ≡ rows_shown is s j rows cs i
  rows_entered then new e f = rw (f, e, was, read, parted) refl

  pub cells_entered : (ds : List (Cell S (Unit {0}))) → ds ≡ with_part per i (λ p. cells_after level s tt p (rule_for is p)) cs → ds ≡ cells_shown is s j rows cs i
  cells_entered ds e = rw (e, was, read, parted) refl
