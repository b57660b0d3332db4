use Rattle.std.specs.Prelude.{◌≡◌, ℕ, ◌+◌, ◌-◌, ◌<◌, ◌≤◌, min, if◌then◌else◌, List, ◌++◌, map, reverse, length, take, drop, Some, None, Option, nat_lt, slice_get, slice_set}
use Rattle.tally.specs.Arrivals.{latest}
use Rattle.tally.specs.Owed.{most_arrivals}

-- how many arrivals a log can keep, at most
abbrev pub most_kept : ℕ
most_kept = 65536

-- the record of a key, read again
abbrev pub read_with : {K R : Type 0} → (R → Option K) → Option R → Option K
read_with reads None = None
read_with reads (Some r) = reads r

module _ {R : Type 0} where
  -- how many arrivals an area keeps: one for each record, up to 65,536
  abbrev pub size : List R → ℕ
  size area = min (length area) most_kept

  -- the records of the arrivals that are kept after n arrivals, as they lie in the area
  abbrev pub kept : ℕ → List R → List R
  kept n area = take (min n (size area)) area

  -- the same from the oldest to the newest, where the next one goes to a place
  abbrev pub in_order : ℕ → List R → List R
  in_order next records = drop next records ++ take next records

  -- an arrival goes to the next place, and the place after the last is the first
  abbrev pub area_after : ℕ → R → List R → List R
  area_after next r area = if nat_lt next (size area) then slice_set area next r else area

  abbrev pub next_after : ℕ → List R → ℕ
  next_after next area = if nat_lt (next + 1) (size area) then next + 1 else 0

  -- places go from the newest arrival back
  abbrev pub record_at : ℕ → ℕ → List R → ℕ → Option R
  record_at n next area i = slice_get (reverse (in_order next (kept n area))) i

-- the place in the area of the record at a place from the newest back, among so many that are kept
abbrev pub back_of : ℕ → ℕ → ℕ → ℕ
back_of next held place =
    let first = min next held in
    if nat_lt (held - 1 - place) (held - first) then first + (held - 1 - place) else held - 1 - place - (held - first)

-- a log vouches for the lists of n arrivals whose latest it keeps, in order
pub record Logged {K R : Type 0} (lies : K → R) (n next : ℕ) (area : List R) (xs : List K) : Type 0 where
  pub long : length xs ≡ n
  pub few : n ≤ most_arrivals
  pub filling : n < size area → next ≡ n
  pub wrapped : size area ≤ n → 0 < size area → next < size area
  pub same : map lies (latest (min n (size area)) xs) ≡ in_order next (kept n area)
