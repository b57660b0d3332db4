use Rattle.std.specs.Prelude.{◌≡◌, ℕ, zero, suc, ◌+◌, ◌*◌, ◌<◌, ◌≤◌, Bool, List, [], ◌++◌, length, Option}
use Rattle.cells.specs.Vouched.{Vouched}
use Rattle.cells.specs.Cells.{Cell}
use Rattle.tally.specs.Owed.{most_arrivals}
use Rattle.panering.specs.Panes.{level_back, pane_back}
use Rattle.panering.specs.declared.shape.Shape.{Shape}

-- a shape that an area and its levels have room for
pub record Sized (s : Shape) (area : ℕ) : Type 0 where
  pub some_panes : 1 ≤ s.panes
  pub few_panes : s.panes ≤ 64
  pub some_length : 1 ≤ s.length
  pub short : s.length ≤ 65535
  pub room : (s.panes + 1) * s.k ≤ area
  pub turned : s.slot ≤ s.panes
  pub unfilled : s.filled < s.length
  pub counted : s.complete ≤ s.panes

-- and that has turned nowhere
pub record Fresh (s : Shape) (area : ℕ) : Type 0 where
  pub sized : Sized s area
  pub no_arrivals : s.filled ≡ 0
  pub no_panes : s.complete ≡ 0

-- how many arrivals each pane has, from the current one back
abbrev pub size_back : Shape → ℕ → ℕ
size_back s zero = s.filled
size_back s (suc j) = s.length

-- the arrivals of the first m panes, oldest first, where each pane's are given from the current one back
abbrev pub stretch : {K : Type 0} → (ℕ → List K) → ℕ → List K
stretch seg zero = []
stretch seg (suc m) = seg m ++ stretch seg m

-- a ring vouches for the lists that end in a stretch for each kept pane which that pane vouches for, with nothing before them
-- until P panes are complete
pub record Ringed {K R X : Type 0} (alike : K → K → Bool) (reads : R → Option K) (s : Shape) (levels : List ℕ) (cs : List (Cell R X)) (n : ℕ) (xs : List K) : Type 0 where
  pub long : length xs ≡ n
  pub few : n ≤ most_arrivals
  pub sized : Sized s (length cs)
  pub levelled : length levels ≡ 65
  pub older : List K
  pub segments : ℕ → List K
  pub joined : xs ≡ older ++ stretch segments (s.complete + 1)
  pub whole : s.complete < s.panes → older ≡ []
  pub each : (j : ℕ) → j ≤ s.complete → Vouched alike reads (pane_back s cs j) (level_back s levels j) (size_back s j) (segments j)
