use Rattle.std.specs.Prelude.{◌≡◌, ℕ, ◌+◌, ◌-◌, ◌/◌, ◌≤◌, Bool, true, false, ◌&&◌, List, length, Some, Ok, Err, Result}
use Rattle.std.specs.List.{All, AllPairs, list_any}
use Rattle.badgetable.specs.Shown.{Covers, badge_count, correlated_heavy_hitter, reader_count}
use Rattle.badgetable.specs.Tables.{cell_count, row_count}
use Rattle.badgetable.specs.declared.table.BadgeTable.{BadgeTable}
use Rattle.cells.specs.Cells.{ends}
use Rattle.keys.specs.Kinds.{KeyKind}
use Rattle.keys.specs.OfKey.{of_key}
use Rattle.keys.specs.Shares.{passes}
use Rattle.keys.specs.declared.share.Fraction.{Fraction}
use Rattle.keys.specs.declared.refusal.Refusal.{Refusal}
use Rattle.tally.specs.Arrivals.{heavy_hitter, true_count}
use Rattle.tally.specs.Owed.{Contains, held_below}
use Rattle.tally.specs.Within.{within}
use Rattle.tally.specs.declared.Tally.{Ghosts as TallyKind}
use Rattle.listings.specs.declared.row.BadgeRow.{BadgeRow}
use Rattle.listings.specs.declared.row.ReaderRow.{ReaderRow}

-- a promise of what was given; nothing is promised of a refusal
abbrev pub Given : {X : Type 0} → Result X Refusal → (X → Type 0) → Type 0
Given (Ok x) promise = promise x
Given (Err e) promise = Unit {0}

module _ {A R : Type 0} (kind : KeyKind A R) where
  -- whether a listing names a reader
  abbrev pub names : A → List (ReaderRow R) → Bool
  names k rows = list_any (λ r. of_key kind.eq kind.reads k r.key) rows

  -- a range is right of a list of arrivals: the true count in the latest t lies in it, and it is no wider than a width
  pub record RightRange (t width : ℕ) (xs : List A) (k : A) (low high : ℕ) : Type 0 where
    pub contains : Contains kind.eq t k xs low high
    pub narrow : high ≤ low + width

  -- a row names a key with a right range, and the key would pass the share with the width allowed to it
  pub record RightRow (p q t width : ℕ) (xs : List A) (r : ReaderRow R) : Type 0 where
    pub key : A
    pub of : kind.reads r.key ≡ Some key
    pub range : RightRange t width xs key r.low r.high
    pub near : passes p q (true_count kind.eq t key xs + width) t ≡ true

  abbrev pub RightRows : ℕ → ℕ → ℕ → ℕ → List A → List (ReaderRow R) → Type 0
  RightRows p q t width xs rows = All (RightRow p q t width xs) rows

  -- no reader is named twice
  abbrev pub Once : List (ReaderRow R) → Type 0
  Once rows = AllPairs (λ r s. (k : A) → kind.reads r.key ≡ Some k → of_key kind.eq kind.reads k s.key ≡ false) rows

  -- a reader listing is right of a list of arrivals: it names every heavy hitter, each row is right, and none stands twice
  pub record RightReaders (p q t width : ℕ) (xs : List A) (rows : List (ReaderRow R)) : Type 0 where
    pub complete : (k : A) → heavy_hitter kind.eq p q t k xs ≡ true → names k rows ≡ true
    pub sound : RightRows p q t width xs rows
    pub once : Once rows

-- what a tally is bound to of a list that it vouches for: its length, every range, and the ceiling for keys held nowhere
pub record Promise {S A R : Type 0} (kind : KeyKind A R) (t : TallyKind S A R) (s : S) (xs : List A) : Type 0 where
  pub long : length xs ≡ t.noted s
  pub truth : (k : A) → Contains kind.eq (within t s) k xs (t.low s k) (t.high s k)
  pub narrow : (k : A) → t.high s k ≤ t.low s k + t.wide s
  pub missed : (k : A) → held_below kind.eq (t.held s) k (t.spots s) ≡ false → true_count kind.eq (within t s) k xs ≤ t.top s

-- what badge listings are asked and measured by: the shares p/q and u/v, K and J, and how wide a reader's range in the badge table
-- is
pub record Measure (A : Type 0) : Type 0 where
  pub p : ℕ
  pub q : ℕ
  pub u : ℕ
  pub v : ℕ
  pub k : ℕ
  pub j : ℕ
  pub spread : A → ℕ

module _ {A B R Q : Type 0} (ka : KeyKind A R) (kb : KeyKind B Q) where
  -- whether a row is of a badge at a reader, and whether a listing names it
  abbrev pub is_of : A → B → BadgeRow R Q → Bool
  is_of a b r = of_key ka.eq ka.reads a r.reader && of_key kb.eq kb.reads b r.badge

  abbrev pub names_badge : A → B → List (BadgeRow R Q) → Bool
  names_badge a b rows = list_any (is_of a b) rows

  -- a row names a badge at a reader with a right range, the reader would pass its share with its range's width allowed to it,
  -- and the badge with both widths
  pub record RightBadgeRow (m : Measure A) (ps : List (A × B)) (r : BadgeRow R Q) : Type 0 where
    pub reader : A
    pub badge : B
    pub of_reader : ka.reads r.reader ≡ Some reader
    pub of_badge : kb.reads r.badge ≡ Some badge
    pub range : Covers (badge_count ka.eq kb.eq reader badge ps) (length ps / (m.k + 1) + reader_count ka.eq reader ps / (m.j + 1)) r.low r.high
    pub reader_near : passes m.p m.q (reader_count ka.eq reader ps + m.spread reader) (length ps) ≡ true
    pub badge_near : passes m.u m.v (badge_count ka.eq kb.eq reader badge ps + (r.high - r.low) + m.spread reader) (reader_count ka.eq reader ps) ≡ true

  abbrev pub RightBadgeRows : Measure A → List (A × B) → List (BadgeRow R Q) → Type 0
  RightBadgeRows m ps rows = All (RightBadgeRow m ps) rows

  -- no badge at a reader is named twice
  abbrev pub OnceBadges : List (BadgeRow R Q) → Type 0
  OnceBadges rows = AllPairs (λ r s. (a : A) (b : B) → is_of a b r ≡ true → is_of a b s ≡ false) rows

  -- a badge listing is right of a list of arrivals: it names every correlated heavy hitter, each row is right, and none stands
  -- twice
  pub record RightBadges (m : Measure A) (ps : List (A × B)) (rows : List (BadgeRow R Q)) : Type 0 where
    pub complete : (a : A) (b : B) → correlated_heavy_hitter ka.eq kb.eq m.p m.q m.u m.v a b ps ≡ true → names_badge a b rows ≡ true
    pub sound : RightBadgeRows m ps rows
    pub once : OnceBadges rows

  -- the measure of a badge table at two shares
  abbrev pub measure_of : BadgeTable A B R Q → ℕ → ℕ → ℕ → ℕ → Measure A
  measure_of t p q u v = record {
    p = p;
    q = q;
    u = u;
    v = v;
    k = row_count t;
    j = cell_count t;
    spread = λ a. (ends (of_key ka.eq ka.reads a) t.level t.rows.now).1 - (ends (of_key ka.eq ka.reads a) t.level t.rows.now).0;
  }

  -- at shares as they came
  abbrev pub measure_at : BadgeTable A B R Q → Fraction → Fraction → Measure A
  measure_at t f g = measure_of t f.p f.q g.p g.q
