use Rattle.std.specs.Prelude.{◌≡◌, ℕ, ◌+◌, List, length, Option}
use Rattle.cells.specs.Cells.{emptied}
use Rattle.keys.specs.Kinds.{KeyKind}
use Rattle.keys.specs.OfKey.{of_key}
use Rattle.panering.specs.Panes.{no_levels, noted_cells, noted_levels, ring_cells_after, ring_high, ring_key, ring_levels_after, ring_low, ring_reach, ring_spots, ring_top, ring_width, shape_after, turned_cells, turned_levels}
use Rattle.panering.specs.Ringed.{Ringed}
use Rattle.panering.specs.declared.ring.PaneRing.{PaneRing}
use Rattle.panering.specs.declared.shape.Shape.{Shape}

-- a ring as it stands, by its area, its levels, its shape and its run

module _ {K R : Type 0} where
  abbrev pub reach_of : PaneRing K R → ℕ
  reach_of t = ring_reach t.shape

  abbrev pub width_of : PaneRing K R → ℕ
  width_of t = ring_width t.shape t.levels

  abbrev pub top_of : PaneRing K R → ℕ
  top_of t = ring_top t.shape t.levels

  abbrev pub spots_of : PaneRing K R → ℕ
  spots_of t = ring_spots t.shape

  -- a ring has no arrivals, in a shape
  pub record IsEmpty (s : Shape) (t : PaneRing K R) : Type 0 where
    pub levels : t.levels ≡ no_levels
    pub shape : t.shape ≡ s
    pub run : t.run ≡ 0

  -- and all its cells are free, as many as before
  pub record Emptied (s : Shape) (was t : PaneRing K R) : Type 0 where
    pub cells : t.cells.now ≡ emptied was.cells.now
    pub start : IsEmpty s t

  -- the next pane has begun, where one arrival more fills the current one
  pub record Advanced (was t : PaneRing K R) : Type 0 where
    pub cells : t.cells.now ≡ turned_cells was.shape was.cells.now
    pub levels : t.levels ≡ turned_levels was.shape was.levels
    pub shape : t.shape ≡ shape_after was.shape
    pub run : t.run ≡ was.run

  -- an area lies where it lay, and is as long as it was
  pub record SameArea (was t : PaneRing K R) : Type 0 where
    pub length_kept : length t.cells.now ≡ length was.cells.now
    pub lender : t.cells.ghost_name ≡ was.cells.ghost_name

module _ {K R : Type 0} (kind : KeyKind K R) where
  -- which lists of arrivals a ring vouches for
  abbrev pub vouches : PaneRing K R → List K → Type 0
  vouches t xs = Ringed kind.eq kind.reads t.shape t.levels t.cells.now t.run xs

  -- the ends of a key's range
  abbrev pub low_of : PaneRing K R → K → ℕ
  low_of t k = ring_low (of_key kind.eq kind.reads k) t.shape t.levels t.cells.now

  abbrev pub high_of : PaneRing K R → K → ℕ
  high_of t k = ring_high (of_key kind.eq kind.reads k) t.shape t.levels t.cells.now

  -- the key at a place
  abbrev pub key_of : PaneRing K R → ℕ → Option K
  key_of t i = ring_key kind.reads t.shape t.cells.now i

  -- the current pane has noted an arrival of a key
  pub record InPane (k : K) (was t : PaneRing K R) : Type 0 where
    pub cells : t.cells.now ≡ noted_cells (of_key kind.eq kind.reads k) (kind.lies k) was.shape was.levels was.cells.now
    pub levels : t.levels ≡ noted_levels (of_key kind.eq kind.reads k) (kind.lies k) was.shape was.levels was.cells.now
    pub shape : t.shape ≡ was.shape
    pub run : t.run ≡ was.run

  -- a ring after an arrival of a key
  pub record Noted (k : K) (was t : PaneRing K R) : Type 0 where
    pub cells : t.cells.now ≡ ring_cells_after (of_key kind.eq kind.reads k) (kind.lies k) was.shape was.levels was.cells.now
    pub levels : t.levels ≡ ring_levels_after (of_key kind.eq kind.reads k) (kind.lies k) was.shape was.levels was.cells.now
    pub shape : t.shape ≡ shape_after was.shape
    pub run : t.run ≡ was.run + 1
