-- The method of Misra and Gries for finding frequent items: at most k keys have a counter.
use Rattle.std.specs.Prelude.{ℕ, ◌+◌, ◌-◌, Bool, false, if◌then◌else◌, ◌||◌, List, [], ◌∷◌, map, length, fold, filter, nat_lt}

-- the keys that have a counter, each with its counter, and how often all counters were decremented
pub record Summary (K : Type 0) : Type 0 where
  pub entries : List (K × ℕ)
  pub decrements : ℕ

module _ {K : Type 0} where
  -- every counter less by one, and those that are zero dropped
  abbrev pub less_one : K × ℕ → K × ℕ
  less_one e = (e.0, e.1 - 1)

  abbrev pub not_zero : K × ℕ → Bool
  not_zero e = nat_lt 0 e.1

  abbrev pub decremented : List (K × ℕ) → List (K × ℕ)
  decremented es = filter not_zero (map less_one es)

module _ {K : Type 0} (alike : K → K → Bool) where
  -- whether a key has a counter
  abbrev pub has_counter : K → List (K × ℕ) → Bool
  has_counter x [] = false
  has_counter x (e ∷ es) = alike x e.0 || has_counter x es

  -- a counter more by one, where it is the key's
  abbrev pub incremented : K → K × ℕ → K × ℕ
  incremented x e = if alike x e.0 then (e.0, e.1 + 1) else e

  -- one arrival: the key's counter grows; a key without one gets a counter of 1 while fewer than k have one; otherwise all
  -- counters are decremented
  abbrev pub with_arrival : ℕ → Summary K → K → Summary K
  with_arrival k s x =
      if has_counter x s.entries then record s { entries = map (incremented x) s.entries }
      else if nat_lt (length s.entries) k then record s { entries = (x, 1) ∷ s.entries }
      else record { entries = decremented s.entries; decrements = s.decrements + 1 }

  -- the summary after a list of arrivals
  abbrev pub misra_gries : ℕ → List K → Summary K
  misra_gries k xs = fold (with_arrival k) (record { entries = []; decrements = 0 }) xs
