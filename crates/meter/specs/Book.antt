use Rattle.std.specs.Prelude.{Bool, if◌then◌else◌, ◌||◌, List, [], ◌∷◌, ◌++◌, length, Some, None, Option, ◌==◌}
use Rattle.badgetable.specs.Tables.{accounts_for}
use Rattle.keys.specs.Kinds.{KeyKind}
use Rattle.meter.specs.declared.call.Call.{Call}
use Rattle.meter.specs.declared.call.Call.TheVariants.{BadgeRange, Clear, Event, Judge, ListBadges, ListReaders, ReaderRange, Report}
use Rattle.meter.specs.declared.state.Meter.{Meter}
use Rattle.tally.specs.Owed.{most_arrivals}
use Rattle.tally.specs.declared.Tally.{Ghosts as TallyKind}

-- the book in which true counts are read: the readers that came, and the readers with their badges, oldest first
pub record Book (A B : Type 0) : Type 0 where
  pub readers : List A
  pub shown : List (A × B)

module _ {A B : Type 0} where
  -- whether an event is turned away, by the lists' own lengths
  abbrev pub is_full : Book A B → Bool
  is_full b = length b.readers == most_arrivals || length b.shown == most_arrivals

  -- an event in the book: its reader is put last in the first list, and with its badge last in the second
  abbrev pub with_event : A → B → Book A B → Book A B
  with_event x y b =
      if is_full b then b else record { readers = b.readers ++ (x ∷ []); shown = b.shown ++ ((x, y) ∷ []) }

  -- a book that has not begun yet stays so
  abbrev pub entered : A → B → Option (Book A B) → Option (Book A B)
  entered x y None = None
  entered x y (Some b) = Some (with_event x y b)

  -- what a call does to the book, by its arguments alone: an event enters, a clear begins it anew, and no query changes it
  abbrev pub after : Option (Book A B) → Call A B → Option (Book A B)
  after b (Event x y) = entered x y b
  after b Clear = Some (record { readers = []; shown = [] })
  after b (ReaderRange x) = b
  after b (BadgeRange x y) = b
  after b (Judge x s) = b
  after b (ListReaders s) = b
  after b (ListBadges s v) = b
  after b (Report s v) = b

  -- and a list of calls
  abbrev pub booked : Option (Book A B) → List (Call A B) → Option (Book A B)
  booked b [] = b
  booked b (c ∷ cs) = booked (after b c) cs

-- a book agrees with a meter: its tally vouches for the first list, and its badge table accounts for the second. Nothing is asked
-- of a book that has not begun
abbrev pub Agrees : {A B R Q S : Type 0} → KeyKind A R → KeyKind B Q → TallyKind S A R → Meter A B S R Q → Option (Book A B) → Type 0
Agrees ka kb t m None = Unit {0}
Agrees ka kb t m (Some b) =
    t.vouches m.tally b.readers × accounts_for ka kb m.table b.shown
