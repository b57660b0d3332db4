use Rattle.std.specs.Prelude.{◌≡◌, ℕ, ◌+◌, ◌-◌, ◌*◌, ◌/◌, ◌<◌, ◌≤◌, Bool, false, List, [], ◌∷◌, length, Some, None, sum_by, Option}
use mathlib.Core.List.{Permᴰ}
use Rattle.tally.specs.Arrivals.{occurs}
use Rattle.tally.specs.Owed.{most_arrivals}
use Rattle.cells.specs.Cells.{ends, taken_by}
use Rattle.keys.specs.OfKey.{of_key}
use Rattle.cells.specs.MisraGries.{misra_gries}
use Rattle.cells.specs.Cells.{Cell}
use Rattle.cells.specs.declared.cell.Slot.{Slot}

module _ {R X : Type 0} where
  -- no cell is taken by a record that passes a test
  abbrev pub Absent : (R → Bool) → List (Cell R X) → Type 0
  Absent is [] = Unit {0}
  Absent is (c ∷ cs) = (taken_by is c ≡ false) × Absent is cs

  -- a taken cell after n arrivals: what it may count lies above the level, and its mark not
  pub record Live (level n : ℕ) (s : Slot R X) : Type 0 where
    pub ahead : level < s.count + s.mark
    pub marked : s.mark ≤ level
    pub some : 1 ≤ s.count
    pub within : s.count ≤ n

  -- the counter of a cell: what it counts beyond the level
  abbrev pub counter : ℕ → Cell R X → ℕ
  counter level None = 0
  counter level (Some s) = s.count + s.mark - level

  -- the counters of all cells, added
  abbrev pub counters : ℕ → List (Cell R X) → ℕ
  counters level cs = sum_by (counter level) cs

-- a key with its counter in front of others
abbrev pub with_key : {K : Type 0} → ℕ → Option K → List (K × ℕ) → List (K × ℕ)
with_key c None rest = rest
with_key c (Some k) rest = (k, c) ∷ rest

module _ {K R X : Type 0} (alike : K → K → Bool) (reads : R → Option K) where
  -- each taken cell holds a key and is live, and no two hold the same key
  abbrev pub Sound : ℕ → ℕ → List (Cell R X) → Type 0
  Sound level n [] = Unit {0}
  Sound level n (None ∷ cs) = Sound level n cs
  Sound level n (Some s ∷ cs) = ((k : K) × (reads s.key ≡ Some k) × Absent (of_key alike reads k) cs) × Live level n s × Sound level n cs

  -- cells at a level vouch for a list of n arrivals: every key's count lies in its range, the cells are sound, and the level and
  -- the counters account for no more than n
  pub record Vouched (cs : List (Cell R X)) (level n : ℕ) (xs : List K) : Type 0 where
    pub long : length xs ≡ n
    pub few : n ≤ most_arrivals
    pub ranged : (k : K) → ((ends (of_key alike reads k) level cs).0 ≤ occurs alike k xs) × (occurs alike k xs ≤ (ends (of_key alike reads k) level cs).1)
    pub sound : Sound level n cs
    pub covered : (length cs + 1) * level + counters level cs ≤ n

  -- the keys in cells, each with its counter
  abbrev pub counted_keys : ℕ → List (Cell R X) → List (K × ℕ)
  counted_keys level [] = []
  counted_keys level (None ∷ cs) = counted_keys level cs
  counted_keys level (Some s ∷ cs) = with_key (s.count + s.mark - level) (reads s.key) (counted_keys level cs)

  -- k cells at a level are where a whole run of n arrivals leads: they vouch for it; n is (k + 1) × level and the counters, so
  -- that the level is at most n/(k + 1); and keys and counters are those of Misra and Gries, in whatever order, with the level
  -- for the number of decrements
  pub record Ran (cs : List (Cell R X)) (level n : ℕ) (xs : List K) : Type 0 where
    pub vouched : Vouched cs level n xs
    pub total : n ≡ (length cs + 1) * level + counters level cs
    pub share : level ≤ n / (length cs + 1)
    pub same_counters : Permᴰ (counted_keys level cs) (misra_gries alike (length cs) xs).entries
    pub same_decrements : level ≡ (misra_gries alike (length cs) xs).decrements
