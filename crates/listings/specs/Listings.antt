use Rattle.std.specs.Prelude.{ℕ, ◌+◌, ◌*◌, ◌/◌, ◌%◌, Bool, false, if◌then◌else◌, not, ◌&&◌, ◌||◌, List, Some, None, Ok, Err, Option, Result, ◌==◌, slice_index_or}
use Rattle.std.specs.List.{list_any}
use Rattle.badgetable.specs.Tables.{arrivals_in, cell_count, cells_of, row_count}
use Rattle.badgetable.specs.declared.table.BadgeTable.{BadgeTable}
use Rattle.cells.specs.Cells.{Cell, capped}
use Rattle.keys.specs.Kinds.{KeyKind}
use Rattle.keys.specs.Shares.{is_share, passes}
use Rattle.keys.specs.declared.refusal.Refusal.{Refusal}
use Rattle.keys.specs.declared.share.Fraction.{Fraction}
use Rattle.keys.specs.declared.refusal.Refusal.TheVariants.{ImpossibleShare, TooFine}
use Rattle.pages.specs.Listed.{fitted, listed, over}
use Rattle.tally.specs.Owed.{held_below}
use Rattle.tally.specs.Within.{within}
use Rattle.tally.specs.declared.Tally.{Ghosts as TallyKind}
use Rattle.listings.specs.declared.row.BadgeRow.{BadgeRow}
use Rattle.listings.specs.declared.row.ReaderRow.{ReaderRow}

-- what stands behind a gate: refused as the gate refuses
abbrev pub passed : {X : Type 0} → Result (Unit {0}) Refusal → Result X Refusal → Result X Refusal
passed (Ok u) x = x
passed (Err e) x = Err e

-- rows that a gate let through where so many have room, or the refusal
abbrev pub roomed : {X : Type 0} → Result (List X) Refusal → ℕ → Result (List X) Refusal
roomed (Ok rows) room = fitted rows room
roomed (Err e) room = Err e

module _ {S A R : Type 0} (kind : KeyKind A R) (t : TallyKind S A R) (s : S) where
  -- a key with its range, as a page has it
  abbrev pub reader_row : A → ReaderRow R
  reader_row k = record { key = kind.lies k; low = t.low s k; high = t.high s k }

  -- a place's row at a share p/q: that of the key held there, where its high end passes the share and no earlier place holds it
  abbrev pub row_held : ℕ → ℕ → ℕ → Option A → Option (ReaderRow R)
  row_held p q i None = None
  row_held p q i (Some k) =
      if passes p q (t.high s k) (within t s) && not (held_below kind.eq (t.held s) k i) then Some (reader_row k) else None

  -- the rows of the reader listing, in the order of places
  abbrev pub reader_rows : ℕ → ℕ → List (ReaderRow R)
  reader_rows p q = listed (λ i. row_held p q i (t.held s i)) (t.spots s)

  -- whether a share is one at which no key held nowhere could be above: an impossible share is refused, then one that the
  -- ceiling passes
  abbrev pub reader_gate : ℕ → ℕ → Result (Unit {0}) Refusal
  reader_gate p q =
      if is_share p q
      then (if passes p q (t.top s) (within t s) then Err TooFine else Ok tt)
      else Err ImpossibleShare

  -- the reader listing where so many rows have room, or its refusal
  abbrev pub reader_listing : ℕ → ℕ → ℕ → Result (List (ReaderRow R)) Refusal
  reader_listing p q room = passed (reader_gate p q) (fitted (reader_rows p q) room)

-- a page after a listing was to be written on it: as it was, where that is refused
abbrev pub written : {X : Type 0} → Result (List X) Refusal → List X → List X
written (Ok rows) page = over rows page
written (Err e) page = page

-- A badge listing is asked at a reader share p/q and a badge share u/v, with n of the badge table.

-- whether a row's reader is listed: (seen + mark) × q > p × n
abbrev pub is_listed : {R : Type 0} → ℕ → ℕ → ℕ → Cell R ℕ → Bool
is_listed p q n None = false
is_listed p q n (Some r) = passes p q (capped (r.count + r.mark)) n

module _ {R : Type 0} (p q u v n : ℕ) where
  -- whether a badge that a listed row does not hold could be above the badge share there: (E + mark) × v > u × seen
  abbrev pub is_fine : Cell R ℕ → Bool
  is_fine None = false
  is_fine (Some r) = is_listed p q n (Some r) && passes u v (capped (r.beside + r.mark)) r.count

-- the high end of a badge with count c and mark m in a row: it has the row's mark on top
abbrev pub badge_high : ℕ → ℕ → ℕ → ℕ
badge_high c m mark = capped (capped (c + m) + mark)

-- the row of a badge cell of a row, where the reader is listed and the badge's high end passes u/v of seen
abbrev pub badge_row : {R Q : Type 0} → ℕ → ℕ → ℕ → ℕ → ℕ → Cell R ℕ → Cell Q (Unit {0}) → Option (BadgeRow R Q)
badge_row p q u v n None c = None
badge_row p q u v n (Some r) None = None
badge_row p q u v n (Some r) (Some c) =
    if is_listed p q n (Some r) && passes u v (badge_high c.count c.mark r.mark) r.count
    then Some (record { reader = r.key; badge = c.key; low = c.count; high = badge_high c.count c.mark r.mark })
    else None

module _ {A B R Q : Type 0} (t : BadgeTable A B R Q) (p q u v : ℕ) where
  -- places go through the rows, cell by cell
  abbrev pub badge_place : ℕ → ℕ → Option (BadgeRow R Q)
  badge_place n m =
      if cell_count t == 0
      then None
      else badge_row p q u v n (slice_index_or t.rows.now (m / cell_count t) None) (slice_index_or (cells_of t (m / cell_count t)) (m % cell_count t) None)

  -- the rows of the badge listing, in row and cell order
  abbrev pub badge_rows : List (BadgeRow R Q)
  badge_rows = listed (badge_place (arrivals_in t)) (row_count t * cell_count t)

  -- whether shares are such that nothing held nowhere could be above: an impossible share is refused, then one that D passes,
  -- or that a badge held nowhere at a listed reader could pass
  abbrev pub badge_gate : Result (Unit {0}) Refusal
  badge_gate =
      if is_share p q && is_share u v
      then (if passes p q t.level (arrivals_in t) || list_any (is_fine p q u v (arrivals_in t)) t.rows.now then Err TooFine else Ok tt)
      else Err ImpossibleShare

  -- the badge listing where so many rows have room, or its refusal
  abbrev pub badge_listing : ℕ → Result (List (BadgeRow R Q)) Refusal
  badge_listing room = passed badge_gate (fitted badge_rows room)

-- both listings at shares as they came
abbrev pub readers_at : {S A R : Type 0} → KeyKind A R → TallyKind S A R → S → Fraction → ℕ → Result (List (ReaderRow R)) Refusal
readers_at kind t s f room = reader_listing kind t s f.p f.q room

abbrev pub badges_at : {A B R Q : Type 0} → BadgeTable A B R Q → Fraction → Fraction → ℕ → Result (List (BadgeRow R Q)) Refusal
badges_at t f g room = badge_listing t f.p f.q g.p g.q room
