use Rattle.std.proofs.Common.{◌≡◌, ℕ, ◌+◌, ◌<◌, ◌≤◌, Bool, List, length, get_or, drop, Some, None, sym, refl, ap, ◌∙◌}
use Rattle.std.proofs.lemmas.List.{drop_more, drop_all}
use Rattle.cells.specs.Cells.{Cell}
use Rattle.cells.specs.Cells.{ends, cell_ends}

module _ {R X : Type 0} (is : R → Bool) (level : ℕ) (xs : List (Cell R X)) (i : ℕ) where
  pub ends_next : (x : Cell R X) → i < length xs → x ≡ get_or xs i x → None ≡ cell_ends is x → ends is level (drop (i + 1) xs) ≡ ends is level (drop i xs)
  ends_next x l e t = let b : cell_ends is (get_or xs i x) ≡ None = sym (ap (cell_ends is) e) ∙ sym t in rw (drop_more xs i x l, b) refl

  pub ends_here : (x : Cell R X) (v : ℕ × ℕ) → i < length xs → x ≡ get_or xs i x → Some v ≡ cell_ends is x → v ≡ ends is level (drop i xs)
  ends_here x v l e t = let b : cell_ends is (get_or xs i x) ≡ Some v = sym (ap (cell_ends is) e) ∙ sym t in rw (drop_more xs i x l, b) refl

  pub ends_end : length xs ≤ i → (0, level) ≡ ends is level (drop i xs)
  ends_end l = rw (drop_all i xs l) refl
