-- what is left of a sweep, row by row
use Rattle.std.proofs.Common.{◌≡◌, ℕ, ◌+◌, ◌<◌, Bool, true, false, not, if◌then◌else◌, List, length, get_or, drop, refl, arith, is_some, Some, None}
use Rattle.std.proofs.lemmas.List.{drop_more}
use Rattle.badgetable.specs.Rows.{swept, swept_row}
use Rattle.cells.specs.Cells.{Cell, emptied}
use Rattle.parts.specs.Parts.{with_part}

module _ {R S : Type 0} (j i : ℕ) where
  row_swept : (row : Cell R ℕ) (free : Bool) (cs ds : List (Cell S (Unit {0}))) → is_some row ≡ not free → ds ≡ (if free then with_part j i emptied cs else cs) → ds ≡ swept_row j i row cs
  row_swept None true cs ds e f = f
  row_swept None false cs ds e f = let z : ◌≡◌ {A = ℕ} 0 1 = cc in absurd (omega arith)
  row_swept (Some s) true cs ds e f = let z : ◌≡◌ {A = ℕ} 0 1 = cc in absurd (omega arith)
  row_swept (Some s) false cs ds e f = f

  pub sweep_next : (rows read : List (Cell R ℕ)) (d : Cell R ℕ) (free : Bool) (cs ds : List (Cell S (Unit {0}))) → read ≡ rows → i < length rows → is_some (get_or read i d) ≡ not free → ds ≡ (if free then with_part j i emptied cs else cs) → swept j (i + 1) (drop (i + 1) rows) ds ≡ swept j i (drop i rows) cs
  sweep_next rows read d free cs ds e l test f =
      rw (drop_more rows i d l, row_swept (get_or read i d) free cs ds test f, e) refl
