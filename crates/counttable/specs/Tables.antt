use Rattle.std.specs.Prelude.{◌≡◌, ℕ, ◌+◌, List, length, Option}
use Rattle.cells.specs.Cells.{cells_after, emptied, ends, key_at, level_after, rule_for}
use Rattle.cells.specs.Vouched.{Ran, Vouched}
use Rattle.counttable.specs.declared.table.CountTable.{CountTable}
use Rattle.keys.specs.Kinds.{KeyKind}
use Rattle.keys.specs.OfKey.{of_key}

-- the most cells that a table can be opened with
abbrev pub most_cells : ℕ
most_cells = 64

module _ {K R : Type 0} where
  -- a table is empty: all cells are free, as many as before, in the area that was lent
  pub record Emptied (was t : CountTable K R) : Type 0 where
    pub cells : t.cells.now ≡ emptied was.cells.now
    pub size : length t.cells.now ≡ length was.cells.now
    pub level : t.level ≡ 0
    pub run : t.run ≡ 0
    pub lender : t.cells.ghost_name ≡ was.cells.ghost_name

module _ {K R : Type 0} (kind : KeyKind K R) where
  -- a table after an arrival of a key, by the rule that it met
  pub record Noted (key : K) (was t : CountTable K R) : Type 0 where
    pub cells : t.cells.now ≡ cells_after was.level (kind.lies key) tt was.cells.now (rule_for (of_key kind.eq kind.reads key) was.cells.now)
    pub size : length t.cells.now ≡ length was.cells.now
    pub level : t.level ≡ level_after was.level (rule_for (of_key kind.eq kind.reads key) was.cells.now)
    pub run : t.run ≡ was.run + 1
    pub lender : t.cells.ghost_name ≡ was.cells.ghost_name

  -- which lists of arrivals a table vouches for
  abbrev pub vouches : CountTable K R → List K → Type 0
  vouches t xs = Vouched kind.eq kind.reads t.cells.now t.level t.run xs

  -- and whether it is where a whole run of them leads
  abbrev pub has_run : CountTable K R → List K → Type 0
  has_run t xs = Ran kind.eq kind.reads t.cells.now t.level t.run xs

  -- the range of a key: from its count to its count and mark, or from 0 to the level
  abbrev pub range_of : CountTable K R → K → ℕ × ℕ
  range_of t key = ends (of_key kind.eq kind.reads key) t.level t.cells.now

  -- the key held at a place
  abbrev pub key_in : CountTable K R → ℕ → Option K
  key_in t i = key_at kind.reads t.cells.now i
