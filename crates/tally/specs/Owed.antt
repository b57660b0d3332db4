use Rattle.std.specs.Prelude.{ℕ, zero, suc, ◌≤◌, Bool, false, ◌||◌, List, Some, None, Option}
use Rattle.tally.specs.Arrivals.{true_count}

-- the most arrivals that a tally counts between clears, and the bound of every end, width and ceiling
abbrev pub most_arrivals : ℕ
most_arrivals = 100_000_000

abbrev pub most_end : ℕ
most_end = 200_000_000

-- what a range owes of a list of arrivals: the true count lies in it
pub record Contains {K : Type 0} (alike : K → K → Bool) (t : ℕ) (k : K) (xs : List K) (low high : ℕ) : Type 0 where
  pub from : low ≤ true_count alike t k xs
  pub upto : true_count alike t k xs ≤ high
  pub bounded : high ≤ most_end

-- whether a place holds a key
abbrev pub holds : {K : Type 0} → (K → K → Bool) → K → Option K → Bool
holds alike k None = false
holds alike k (Some j) = alike k j

-- whether one of the places below i holds a key
abbrev pub held_below : {K : Type 0} → (K → K → Bool) → (ℕ → Option K) → K → ℕ → Bool
held_below alike held k zero = false
held_below alike held k (suc i) = holds alike k (held i) || held_below alike held k i
