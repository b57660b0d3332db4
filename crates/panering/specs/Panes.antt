use Rattle.std.specs.Prelude.{ℕ, zero, suc, ◌+◌, ◌-◌, ◌*◌, ◌/◌, ◌%◌, min, Bool, if◌then◌else◌, ◌&&◌, List, replicate, None, Option, ◌==◌, nat_le, nat_lt, slice_index, slice_set}
use Rattle.cells.specs.Cells.{Cell, capped, cells_after, emptied, ends, key_at, level_after, rule_for}
use Rattle.parts.specs.Parts.{part, with_part}
use Rattle.tally.specs.Plans.{plannable}
use Rattle.panering.specs.declared.shape.Shape.{Shape}

-- whether a plan fits an area: pane length b 1 to 65,535, P panes 1 to 64, k cells a pane 1 to 64, and an area of (P + 1) × k
-- cells
abbrev pub plan_fits : ℕ → ℕ → ℕ → ℕ → Bool
plan_fits b p k area = plannable 65535 b && (plannable 64 p && (plannable 64 k && area == (p + 1) * k))

-- the slot of the pane that came j panes before the current one
abbrev pub slot_back : Shape → ℕ → ℕ
slot_back s j = if nat_le j s.slot then s.slot - j else s.slot + (s.panes + 1) - j

-- the slot of the next pane: the one after the last is the first
abbrev pub next_slot : Shape → ℕ
next_slot s = if nat_lt s.slot s.panes then s.slot + 1 else 0

-- the cells of that pane: the part of the area with its slot's number
abbrev pub pane_back : {X : Type 0} → Shape → List X → ℕ → List X
pane_back s cs j = part s.k (slot_back s j) cs

abbrev pub level_back : Shape → List ℕ → ℕ → ℕ
level_back s levels j = slice_index levels (slot_back s j)

-- how many panes are kept: the current one and the complete ones
abbrev pub kept : Shape → ℕ
kept s = s.complete + 1

-- how many of them lie wholly within reach: all but the tail, which is the oldest of P complete ones
abbrev pub inside : Shape → ℕ
inside s = min (kept s) s.panes

-- a sum over the first panes, from the current one back
abbrev pub sum_below : (ℕ → ℕ) → ℕ → ℕ
sum_below f zero = 0
sum_below f (suc j) = sum_below f j + f j

module _ {R X : Type 0} (is : R → Bool) (s : Shape) (levels : List ℕ) (cs : List (Cell R X)) where
  -- a key's range in the pane that came j panes before the current one
  abbrev pub ends_back : ℕ → ℕ × ℕ
  ends_back j = ends is (level_back s levels j) (pane_back s cs j)

  abbrev pub low_back : ℕ → ℕ
  low_back j = (ends_back j).0

  abbrev pub high_back : ℕ → ℕ
  high_back j = (ends_back j).1

  -- the low end leaves out the tail, the high end takes all panes
  abbrev pub ring_low : ℕ
  ring_low = capped (sum_below low_back (inside s))

  abbrev pub ring_high : ℕ
  ring_high = capped (sum_below high_back (kept s))

-- what a tail adds to the width: a pane length, where there is a tail
abbrev pub tail : Shape → ℕ
tail s = if s.complete == s.panes then s.length else 0

-- the levels without the tail's, and the pane length for a tail
abbrev pub ring_width : Shape → List ℕ → ℕ
ring_width s levels = capped (sum_below (level_back s levels) (inside s) + tail s)

-- all levels
abbrev pub ring_top : Shape → List ℕ → ℕ
ring_top s levels = capped (sum_below (level_back s levels) (kept s))

-- how many arrivals are within reach
abbrev pub ring_reach : Shape → ℕ
ring_reach s = s.panes * s.length

-- places go from the current pane back to the oldest, cell by cell
abbrev pub ring_spots : Shape → ℕ
ring_spots s = (s.panes + 1) * s.k

abbrev pub ring_key : {K R X : Type 0} → (R → Option K) → Shape → List (Cell R X) → ℕ → Option K
ring_key reads s cs i =
    if nat_lt i (ring_spots s) && nat_le (i / s.k) s.complete then key_at reads (pane_back s cs (i / s.k)) (i % s.k) else None

-- whether an area and the levels have room for a plan
abbrev pub has_room : Shape → ℕ → Bool
has_room s area = nat_le 1 s.panes && (nat_le s.panes 64 && (nat_le 1 s.length && nat_le ((s.panes + 1) * s.k) area))

-- whether a shape has the plan of an opened ring
abbrev pub has_plan : Shape → ℕ → Bool
has_plan s area = plan_fits s.length s.panes s.k area

-- the shape of a ring that has noted nothing; a plan that there is no room for gives way to one of no cells
abbrev pub at_start : ℕ → ℕ → ℕ → Shape
at_start k p b = record { k = k; panes = p; length = b; slot = 0; filled = 0; complete = 0 }

abbrev pub restarted : Shape → ℕ → Shape
restarted s area = if has_room s area then at_start s.k s.panes s.length else at_start 0 1 1

-- and its levels, one for each slot that there can be
abbrev pub no_levels : List ℕ
no_levels = replicate 65 0

-- one arrival more in the current pane
abbrev pub one_more : Shape → Shape
one_more s = record s { filled = s.filled + 1 }

-- the next pane begins, and one complete pane more is kept, up to P
abbrev pub turned : Shape → Shape
turned s = record s { slot = next_slot s; filled = 0; complete = min (s.complete + 1) s.panes }

-- the current pane is full with one arrival more
abbrev pub fills : Shape → Bool
fills s = nat_le s.length (s.filled + 1)

abbrev pub shape_after : Shape → Shape
shape_after s = if fills s then turned s else one_more s

module _ {R : Type 0} (is : R → Bool) (r : R) (s : Shape) (levels : List ℕ) (cs : List (Cell R (Unit {0}))) where
  -- an arrival is noted in the current pane
  abbrev pub noted_cells : List (Cell R (Unit {0}))
  noted_cells =
      with_part s.k s.slot (λ p. cells_after (slice_index levels s.slot) r tt p (rule_for is p)) cs

  abbrev pub noted_levels : List ℕ
  noted_levels =
      slice_set levels s.slot (level_after (slice_index levels s.slot) (rule_for is (part s.k s.slot cs)))

-- and where that fills it, the next pane begins as an empty table
abbrev pub turned_cells : {R : Type 0} → Shape → List (Cell R (Unit {0})) → List (Cell R (Unit {0}))
turned_cells s cs = if fills s then with_part s.k (next_slot s) emptied cs else cs

abbrev pub turned_levels : Shape → List ℕ → List ℕ
turned_levels s levels = if fills s then slice_set levels (next_slot s) 0 else levels

module _ {R : Type 0} (is : R → Bool) (r : R) (s : Shape) (levels : List ℕ) (cs : List (Cell R (Unit {0}))) where
  abbrev pub ring_cells_after : List (Cell R (Unit {0}))
  ring_cells_after = turned_cells s (noted_cells is r s levels cs)

  abbrev pub ring_levels_after : List ℕ
  ring_levels_after = turned_levels s (noted_levels is r s levels cs)
