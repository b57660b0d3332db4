-- a watched key's own count
use Rattle.std.proofs.Common.{◌≡◌, ℕ, ◌<◌, ◌≤◌, min, Bool, true, nat_le, List, [], ◌∷◌, ◌++◌, length, Some, None, Option, ⊎_elim, arith}
use Rattle.std.proofs.lemmas.Grind.{common_steps}
use Rattle.std.proofs.lemmas.List.Sums.{count_by-le-length}
use Rattle.std.specs.Cmp.{IsEquivalence}
use Rattle.keys.specs.OfKey.{of_key}
use Rattle.tally.proofs.Counts.{occurs_alike, true_count_all, true_count_part}
use Rattle.tally.proofs.OfKey.{of_key_at}
use Rattle.tally.proofs.Options.{cases_option}
use Rattle.tally.specs.Arrivals.{occurs, true_count}
use Rattle.tally.specs.Owed.{Contains}
use Rattle.layers.specs.Watched.{grown, high_of, low_of}

module _ {K R : Type 0} (alike : K → K → Bool) (reads : R → Option K) (law : IsEquivalence alike) where
  -- what w is of a list
  abbrev pub Exact : R → ℕ → List K → Type 0
  Exact at w xs = (k : K) → reads at ≡ Some k → w ≡ occurs alike k xs

  -- an arrival more
  pub exact_grown : (key : K) (at : R) (w n : ℕ) (xs : List K) → n < 100_000_000 → length xs ≡ n → Exact at w xs → Exact at (grown (of_key alike reads key at) w) (xs ++ key ∷ [])
  exact_grown key at w n xs few long exact = λ k r. grind (arith, common_steps, exact k r, count_by-le-length, of_key_at alike reads law key k at r, law.symm key k)

  -- a key that is the watched one comes w times
  watched_count : (key : K) (at : R) (w : ℕ) (xs : List K) → of_key alike reads key at ≡ true → Exact at w xs → w ≡ occurs alike key xs
  watched_count key at w xs is exact =
      ⊎_elim
      (λ (none : reads at ≡ None). grind (arith, common_steps))
      (λ (some : (j : K) × (reads at ≡ Some j)). grind (arith, common_steps, exact some.0 some.1, of_key_at alike reads law key some.0 at some.1, occurs_alike alike law key some.0))
      (cases_option (reads at))

  -- its range
  pub watched_contains : (key : K) (at : R) (w n reach low high : ℕ) (xs : List K) → length xs ≡ n → Exact at w xs → Contains alike (min n reach) key xs low high
      → Contains alike (min n reach) key xs (low_of (of_key alike reads key at) (nat_le n reach) w low) (high_of (of_key alike reads key at) (nat_le n reach) w high)
  watched_contains key at w n reach low high xs long exact h = grind (arith, common_steps, h.from, h.upto, h.bounded, watched_count key at w xs, count_by-le-length, true_count_part, true_count_all)

  -- a watched key that is held nowhere
  pub watched_missed : (key : K) (at : R) (w n reach high top : ℕ) (xs : List K) → length xs ≡ n → Exact at w xs → high ≤ top → true_count alike (min n reach) key xs ≤ top → high_of (of_key alike reads key at) (nat_le n reach) w high ≤ top
  watched_missed key at w n reach high top xs long exact h t = grind (arith, common_steps, watched_count key at w xs, true_count_all)
