use Rattle.std.specs.Prelude.{◌≡◌, ℕ, ◌+◌, ◌≤◌, Bool, ◌&&◌, List, map, length, Some, slice_index_or, None}
use Rattle.cells.specs.Vouched.{Ran, Vouched}
use Rattle.cells.specs.Cells.{Cell}
use Rattle.cells.specs.declared.cell.Slot.{Slot}
use Rattle.keys.specs.Kinds.{KeyKind}
use Rattle.keys.specs.Shares.{passes}
use Rattle.parts.specs.Parts.{part}
use Rattle.tally.specs.Arrivals.{occurs}
use Rattle.badgetable.specs.Plans.{cells_a_row}

-- Arrivals here are pairs: a reader, and the badge that was shown to it.

-- two arrivals are the same when their readers and their badges are
abbrev pub both_alike : {A B : Type 0} → (A → A → Bool) → (B → B → Bool) → A × B → A × B → Bool
both_alike x y p q = x p.0 q.0 && y p.1 q.1

-- the readers of a list of arrivals
abbrev pub readers_of : {A B : Type 0} → List (A × B) → List A
readers_of ps = map (λ p. p.0) ps

-- a reader's true count, f: how often it stands in the list
abbrev pub reader_count : {A B : Type 0} → (A → A → Bool) → A → List (A × B) → ℕ
reader_count x a ps = occurs x a (readers_of ps)

-- a badge's true count at a reader: how often the two stand there together
abbrev pub badge_count : {A B : Type 0} → (A → A → Bool) → (B → B → Bool) → A → B → List (A × B) → ℕ
badge_count x y a b ps = occurs (both_alike x y) (a, b) ps

-- a correlated heavy hitter: a badge that is above the share u/v of a reader's arrivals, at a reader that is above the share p/q
-- of all; both strictly
abbrev pub correlated_heavy_hitter : {A B : Type 0} → (A → A → Bool) → (B → B → Bool) → ℕ → ℕ → ℕ → ℕ → A → B → List (A × B) → Bool
correlated_heavy_hitter x y p q u v a b ps =
    passes p q (reader_count x a ps) (length ps) && passes u v (badge_count x y a b ps) (reader_count x a ps)

-- what a range owes: the true count lies in it, and it is no wider than a width
pub record Covers (count width low high : ℕ) : Type 0 where
  pub from : low ≤ count
  pub upto : count ≤ high
  pub narrow : high ≤ low + width

module _ {A B R S : Type 0} (ka : KeyKind A R) (kb : KeyKind B S) where
  -- a row's badge table vouches for badges that were shown to its reader, one for each arrival seen; what came before the row
  -- was taken is at most its mark
  pub record Follows (s : Slot R ℕ) (p : List (Cell S (Unit {0}))) (a : A) (ps : List (A × B)) : Type 0 where
    pub badges : List B
    pub vouched : Vouched kb.eq kb.reads p s.beside s.count badges
    pub from : (b : B) → occurs kb.eq b badges ≤ badge_count ka.eq kb.eq a b ps
    pub upto : (b : B) → badge_count ka.eq kb.eq a b ps ≤ occurs kb.eq b badges + s.mark

  -- rows and cells at a level D account for a list of n arrivals: the rows are where a count table's run of its readers leads,
  -- and the badge table of each taken row follows the badges at its reader
  pub record Shown (rows : List (Cell R ℕ)) (cs : List (Cell S (Unit {0}))) (level n : ℕ) (ps : List (A × B)) : Type 0 where
    pub readers : Ran ka.eq ka.reads rows level n (readers_of ps)
    pub each : (i : ℕ) (s : Slot R ℕ) (a : A) → slice_index_or rows i None ≡ Some s → ka.reads s.key ≡ Some a → Follows s (part (cells_a_row (length rows) (length cs)) i cs) a ps
