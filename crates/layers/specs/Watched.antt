use Rattle.std.specs.Prelude.{◌≡◌, ℕ, ◌+◌, ◌-◌, ◌^◌, min, Bool, true, List, [], ◌∷◌, ◌++◌, length, if◌then◌else◌, Some, nat_le}
use Rattle.keys.specs.Kinds.{KeyKind}
use Rattle.keys.specs.OfKey.{of_key}
use Rattle.tally.specs.Arrivals.{occurs}
use Rattle.tally.specs.declared.Tally.{Ghosts as TallyKind}
use Rattle.layers.specs.declared.watch.Watch.{Watch}

-- whether the whole run is within reach
abbrev pub is_whole : {S A R : Type 0} → TallyKind S A R → S → Bool
is_whole t s = nat_le (t.noted s) (t.reaches s)

-- the ends of a range over those below: the watched key has its own count w for both while the whole run is within reach, and
-- later the end from below, and the smaller of w and the high end below; other keys have the ends from below
abbrev pub low_of : Bool → Bool → ℕ → ℕ → ℕ
low_of watched whole w low = if watched then (if whole then w else low) else low

abbrev pub high_of : Bool → Bool → ℕ → ℕ → ℕ
high_of watched whole w high = if watched then (if whole then w else min w high) else high

-- a count after an arrival, as far as 32 bits go
abbrev pub grown : Bool → ℕ → ℕ
grown one_more w = if one_more then min (w + 1) (2 ^ 32 - 1) else w

module _ {S A R : Type 0} (kind : KeyKind A R) (t : TallyKind S A R) (w : Watch S A R) where
  -- whether a key is the watched one
  abbrev pub is_watched : A → Bool
  is_watched k = of_key kind.eq kind.reads k w.key

  -- the ends of a key's range
  abbrev pub watch_low : A → ℕ
  watch_low k = low_of (is_watched k) (is_whole t w.below) w.seen (t.low w.below k)

  abbrev pub watch_high : A → ℕ
  watch_high k = high_of (is_watched k) (is_whole t w.below) w.seen (t.high w.below k)

  -- a watch vouches for the lists below in which its key stands exactly as often as was seen, and for none while it was opened
  -- over arrivals and not cleared since
  pub record Watches (xs : List A) : Type 0 where
    pub started : w.fresh ≡ true
    pub below : t.vouches w.below xs
    pub long : length xs ≡ t.noted w.below
    pub exact : (k : A) → kind.reads w.key ≡ Some k → w.seen ≡ occurs kind.eq k xs

-- a watch after an arrival that was taken: the tally below has noted it, and it is seen where it is the watched key's; all else
-- stays, and every list vouched for has the key at its end
pub record Noted {S A R : Type 0} (kind : KeyKind A R) (t : TallyKind S A R) (old : Watch S A R) (k : A) (new : Watch S A R) : Type 0 where
  pub arrived : t.noted new.below ≡ t.noted old.below + 1
  pub seen : new ≡ record old { below = new.below; seen = grown (is_watched kind t old k) old.seen }
  pub vouched : (xs : List A) → Watches kind t old xs → Watches kind t new (xs ++ k ∷ [])
