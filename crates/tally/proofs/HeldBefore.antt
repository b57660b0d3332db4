-- whether one of the places before one holds a key, by a test of each
use Rattle.keys.proofs.Ranges.{range_next}
use Rattle.std.proofs.Common.{◌≡◌, ℕ, zero, suc, ◌<◌, ◌≤◌, Bool, true, false, [], ◌∷◌, Option, refl, ap, ◌∙◌, ⊎_elim, arith}
use Rattle.std.proofs.Math.Bool.{or_comm, or-false}
use Rattle.std.proofs.lemmas.Bool.{both_ways, cases_Bool, cases_lt, or_left, or_right}
use Rattle.std.proofs.lemmas.List.Folds.{list_any-append}
use Rattle.std.specs.List.{list_any, range_with_len}
use Rattle.tally.specs.Owed.{held_below, holds}

module _ {A : Type 0} (same : A → A → Bool) (held : ℕ → Option A) (k : A) where
  abbrev test : ℕ → Bool
  test i = holds same k (held i)

  pub held_any : (n : ℕ) → list_any test (range_with_len 0 n) ≡ held_below same held k n
  held_any zero = refl
  held_any (suc n) =
      ap (list_any test) (range_next n)
      ∙ list_any-append test (range_with_len 0 n) (n ∷ [])
      ∙ rw (held_any n, or-false) (or_comm (held_below same held k n) (test n))

  -- a key that a place before one holds
  pub held_at : (n i : ℕ) → i < n → holds same k (held i) ≡ true → held_below same held k n ≡ true
  held_at zero i l e = absurd (omega arith)
  held_at (suc n) i l e =
      ⊎_elim
      (λ (h : i < n). or_right (test n) (held_below same held k n) (held_at n i h e))
      (λ (h : n ≤ i). let z : n ≡ i = omega arith in or_left (test n) (held_below same held k n) (rw z e))
      (cases_lt i n)

  -- the first place that holds it
  pub held_first : (n : ℕ) → held_below same held k n ≡ true → (i : ℕ) × (i < n) × (held_below same held k i ≡ false) × (holds same k (held i) ≡ true)
  held_first zero e = absurd (both_ways false refl e)
  held_first (suc n) e =
      ⊎_elim
      (λ (h : held_below same held k n ≡ true). let w = held_first n h in (w.0, omega (arith, w.1), w.2, w.3))
      (λ (h : held_below same held k n ≡ false). (n, omega arith, h, rw (h, or-false) at e))
      (cases_Bool (held_below same held k n))
