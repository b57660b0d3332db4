-- a table of free rows and cells accounts for no arrivals
use Rattle.std.proofs.Common.{◌≡◌, ℕ, zero, suc, List, [], get_or, length, replicate, sym, refl, ap, ◌∙◌, arith, None, Some}
use Rattle.badgetable.specs.Shown.{Shown}
use Rattle.cells.specs.Cells.{Cell, emptied}
use Rattle.cells.specs.Vouched.{Ran}
use Rattle.keys.specs.Kinds.{KeyKind}

free_at : {R X : Type 0} (m i : ℕ) → get_or {A = Cell R X} (replicate m None) i None ≡ None
free_at zero i = refl
free_at (suc m) zero = refl
free_at (suc m) (suc i) = free_at m i

pub shown_empty : {A B R S : Type 0} (ka : KeyKind A R) (kb : KeyKind B S) (was rows : List (Cell R ℕ)) (cs : List (Cell S (Unit {0}))) → rows ≡ emptied was → Ran ka.eq ka.reads rows 0 0 [] → Shown ka kb rows cs 0 0 []
shown_empty {A} {B} {R} ka kb was rows cs e ran = record {
  readers = ran;
  each = λ i s a h g.
      let none : ◌≡◌ {A = Cell R ℕ} None (Some s) = sym (free_at (length was) i) ∙ sym (ap (λ (l : List (Cell R ℕ)). get_or l i None) e) ∙ h in
      let z : ◌≡◌ {A = ℕ} 0 1 = cc in
      absurd (omega arith);
}
