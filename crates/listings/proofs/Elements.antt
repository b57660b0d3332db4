-- a test of a list's elements, by their indices
use Rattle.std.proofs.Common.{◌≡◌, ℕ, ◌+◌, ◌<◌, Bool, true, false, List, [], ◌∷◌, length, get_or, refl, ⊎_elim, add-one, arith}
use Rattle.std.proofs.lemmas.Bool.{both_ways, cases_Bool}
use Rattle.std.proofs.lemmas.List.Folds.{list_any_at}
use Rattle.std.specs.List.{list_any, range_with_len}

module _ {X : Type 0} (f : X → Bool) (d : X) where
  any_from : (g : ℕ → X) (xs : List X) (a : ℕ) → ((k : ℕ) → k < length xs → g (a + k) ≡ get_or xs k d) → list_any (λ i. f (g i)) (range_with_len a (length xs)) ≡ list_any f xs
  any_from g [] a h = refl
  any_from g (x ∷ xs) a h =
      let here : g a ≡ x = let z : a + 0 ≡ a = omega arith in rw z at (h 0 (omega arith)) in
      rw (here, any_from g xs (a + 1) (λ k l. let z : a + 1 + k ≡ a + (k + 1) = omega arith in rw (z, h (k + 1) (omega arith), add-one) refl)) refl

  pub any_index : (xs : List X) → list_any (λ i. f (get_or xs i d)) (range_with_len 0 (length xs)) ≡ list_any f xs
  any_index xs = any_from (λ i. get_or xs i d) xs 0 (λ k l. let z : 0 + k ≡ k = omega arith in rw z refl)

  -- where none passes, the one at a place does not
  pub none_at : (xs : List X) (i : ℕ) → list_any f xs ≡ false → i < length xs → f (get_or xs i d) ≡ false
  none_at xs i e l =
      ⊎_elim
      (λ (t : f (get_or xs i d) ≡ true). absurd (both_ways (list_any f xs) e (list_any_at f xs i d l t)))
      (λ (t : f (get_or xs i d) ≡ false). t)
      (cases_Bool (f (get_or xs i d)))
