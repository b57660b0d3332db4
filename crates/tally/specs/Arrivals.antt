use Rattle.std.specs.Prelude.{ℕ, ◌-◌, Bool, List, length, drop, count_by}
use Rattle.keys.specs.Shares.{passes}

-- how often a key stands in a list of arrivals, by the sameness of its kind
abbrev pub occurs : {K : Type 0} → (K → K → Bool) → K → List K → ℕ
occurs alike k xs = count_by (alike k) xs

-- the latest t arrivals of a list, or all where there are fewer
abbrev pub latest : {K : Type 0} → ℕ → List K → List K
latest t xs = drop (length xs - t) xs

-- a key's true count: how often it stands in the latest t arrivals
abbrev pub true_count : {K : Type 0} → (K → K → Bool) → ℕ → K → List K → ℕ
true_count alike t k xs = occurs alike k (latest t xs)

-- a heavy hitter: a key that is above the share p/q, whose true count is strictly more than p/q of the latest t arrivals
abbrev pub heavy_hitter : {K : Type 0} → (K → K → Bool) → ℕ → ℕ → ℕ → K → List K → Bool
heavy_hitter alike p q t k xs = passes p q (true_count alike t k xs) t
