use Rattle.std.specs.Prelude.{◌≡◌, ℕ, ◌+◌, ◌/◌, min, Bool, true, false, if◌then◌else◌, ◌||◌, List, [], ◌∷◌, ◌++◌, length, take, Some, None, Ok, Err, vec_items, Option, Result, ◌==◌, nat_le}
use Rattle.badgetable.specs.Shown.{Covers, badge_count, reader_count}
use Rattle.badgetable.specs.Tables.{Emptied, Noted, accounts_for, arrivals_in, badge_ends_of, cell_count, row_count}
use Rattle.keys.specs.Kinds.{KeyKind}
use Rattle.keys.specs.Refusals.{number_of, told}
use Rattle.keys.specs.Shares.{is_share}
use Rattle.keys.specs.declared.refusal.Refusal.{Refusal}
use Rattle.keys.specs.declared.refusal.Refusal.TheVariants.{ImpossibleShare, RunFull}
use Rattle.keys.specs.declared.share.Fraction.{Fraction}
use Rattle.meter.specs.Book.{Agrees, Book, after, booked, is_full}
use Rattle.listings.specs.Listings.{badges_at, readers_at}
use Rattle.listings.specs.Right.{RightBadges, RightRange, RightReaders, measure_at}
use Rattle.meter.specs.Verdicts.{verdict_of}
use Rattle.meter.specs.declared.call.Answer.{Answer}
use Rattle.meter.specs.declared.call.Answer.TheVariants.{Badges, Done, Judged, Range, Readers, Reported}
use Rattle.meter.specs.declared.call.Call.{Call}
use Rattle.meter.specs.declared.call.Call.TheVariants.{BadgeRange, Clear, Event, Judge, ListBadges, ListReaders, ReaderRange, Report}
use Rattle.meter.specs.declared.call.Rooms.{Rooms}
use Rattle.listings.specs.declared.row.BadgeRow.{BadgeRow}
use Rattle.listings.specs.declared.row.ReaderRow.{ReaderRow}
use Rattle.meter.specs.declared.state.Meter.{Meter}
use Rattle.meter.specs.declared.verdict.Verdict.{Verdict}
use Rattle.meter.specs.declared.verdict.Verdict.TheVariants.{Over, Within, Unsure}
use Rattle.tally.specs.Arrivals.{heavy_hitter}
use Rattle.tally.specs.Owed.{most_arrivals}
use Rattle.tally.specs.Within.{within}
use Rattle.tally.specs.declared.Tally.{Ghosts as TallyKind}

-- what a report tells: the tally's n and T, and both listings
pub record Listed (R Q : Type 0) : Type 0 where
  pub arrivals : ℕ
  pub latest : ℕ
  pub readers : List (ReaderRow R)
  pub badges : List (BadgeRow R Q)

-- what an answer gives, with its rows as lists
pub data Reply (R Q : Type 0) : Type 0 where
  done : Reply R Q
  range : ℕ × ℕ → Reply R Q
  judged : Verdict → Reply R Q
  readers : List (ReaderRow R) → Reply R Q
  badges : List (BadgeRow R Q) → Reply R Q
  reported : Listed R Q → Reply R Q

abbrev pub reply : {R Q : Type 0} → Answer R Q → Reply R Q
reply Done = done
reply (Range ends) = range ends
reply (Judged v) = judged v
reply (Readers rows) = readers (vec_items rows)
reply (Badges rows) = badges (vec_items rows)
reply (Reported r) = reported (record { arrivals = r.arrivals; latest = r.latest; readers = vec_items r.readers; badges = vec_items r.badges })

-- what a call was told, likewise
abbrev pub reply_to : {R Q : Type 0} → Result (Answer R Q) Refusal → Result (Reply R Q) Refusal
reply_to a = told reply a

-- a verdict is right of whether the reader is above the share
abbrev pub RightVerdict : Verdict → Bool → Type 0
RightVerdict Over above = above ≡ true
RightVerdict Within above = above ≡ false
RightVerdict Unsure above = Unit {0}

-- where both of two listings are refused, the refusal with the smaller number is told, which is the first in the order 5, 8, 9
abbrev pub first_refusal : Refusal → Refusal → Refusal
first_refusal e f = if nat_le (number_of e) (number_of f) then e else f

-- two answers at once, or the first of their refusals
abbrev pub joined : {X Y : Type 0} → Result X Refusal → Result Y Refusal → Result (X × Y) Refusal
joined (Ok x) (Ok y) = Ok (x, y)
joined (Ok x) (Err f) = Err f
joined (Err e) (Ok y) = Err e
joined (Err e) (Err f) = Err (first_refusal e f)

-- both listings with the tally's n and T
abbrev pub with_counts : {R Q : Type 0} → ℕ → ℕ → Result (List (ReaderRow R) × List (BadgeRow R Q)) Refusal → Result (Listed R Q) Refusal
with_counts n t both = told (λ rows. record { arrivals = n; latest = t; readers = rows.0; badges = rows.1 }) both

-- a verdict at a share of T, or its refusal
abbrev pub verdict_rule : {A R S : Type 0} → TallyKind S A R → ℕ → ℕ → S → A → Result Verdict Refusal
verdict_rule t p q s x =
    if is_share p q then Ok (verdict_of p q (within t s) (t.low s x, t.high s x)) else Err ImpossibleShare

-- whether a meter's tally or its badge table can count no further arrival
abbrev pub are_full : {A B R Q S : Type 0} → TallyKind S A R → Meter A B S R Q → Bool
are_full t m = t.noted m.tally == most_arrivals || arrivals_in m.table == most_arrivals

module _ {A B R Q S : Type 0} (ka : KeyKind A R) (kb : KeyKind B Q) (t : TallyKind S A R) where
  -- an event is turned away exactly when the tally or the badge table can count no further arrival
  abbrev pub event_rule : Meter A B S R Q → Result (Unit {0}) Refusal
  event_rule m = if are_full t m then Err RunFull else Ok tt

  -- an event that is taken is told to both; one that is not, to neither
  abbrev pub Taken : Result (Unit {0}) Refusal → A → B → Meter A B S R Q → Meter A B S R Q → Type 0
  Taken (Ok u) x y m m' =
      (t.noted m'.tally ≡ t.noted m.tally + 1)
      × ((xs : List A) → t.vouches m.tally xs → t.vouches m'.tally (xs ++ (x ∷ [])))
      × (t.planned m.tally → t.planned m'.tally)
      × Noted ka kb x y m.table m'.table
  Taken (Err e) x y m m' = m' ≡ m

  -- everything is forgotten, by the tally and by the badge table
  abbrev pub Cleared : Meter A B S R Q → Meter A B S R Q → Type 0
  Cleared m m' =
      (t.noted m'.tally ≡ 0) × t.vouches m'.tally [] × (t.planned m.tally → t.planned m'.tally) × Emptied m.table m'.table

  -- a report, or its refusal
  abbrev pub report_rule : Rooms → Meter A B S R Q → Fraction → Fraction → Result (Listed R Q) Refusal
  report_rule rooms m f g =
      with_counts (t.noted m.tally) (within t m.tally)
      (joined (readers_at ka t m.tally f rooms.readers) (badges_at m.table f g rooms.badges))

  -- what a call is answered of a meter as it stands, m, and how it stands after it, m'; rooms are those of the pages
  abbrev pub Answered : Rooms → Meter A B S R Q → Call A B → Result (Answer R Q) Refusal → Meter A B S R Q → Type 0
  Answered rooms m (Event x y) a m' = (reply_to a ≡ told (λ _. done) (event_rule m)) × Taken (event_rule m) x y m m'
  Answered rooms m Clear a m' = (reply_to a ≡ Ok done) × Cleared m m'
  Answered rooms m (ReaderRange x) a m' = (reply_to a ≡ Ok (range (t.low m.tally x, t.high m.tally x))) × (m' ≡ m)
  Answered rooms m (BadgeRange x y) a m' = (reply_to a ≡ Ok (range (badge_ends_of ka kb m.table x y))) × (m' ≡ m)
  Answered rooms m (Judge x f) a m' = (reply_to a ≡ told judged (verdict_rule t f.p f.q m.tally x)) × (m' ≡ m)
  Answered rooms m (ListReaders f) a m' =
      (reply_to a ≡ told readers (readers_at ka t m.tally f rooms.readers)) × (m' ≡ m)
  Answered rooms m (ListBadges f g) a m' =
      (reply_to a ≡ told badges (badges_at m.table f g rooms.badges)) × (m' ≡ m)
  Answered rooms m (Report f g) a m' = (reply_to a ≡ told reported (report_rule rooms m f g)) × (m' ≡ m)

  -- T of the book: the smaller of its first list's length and the reach that the tally tells
  abbrev pub latest_of : Book A B → S → ℕ
  latest_of b s = min (length b.readers) (t.reaches s)

  -- a report is right of the book: n is its first list's length, T as the book has it, and both listings are right
  pub record RightReport (b : Book A B) (m : Meter A B S R Q) (f g : Fraction) (r : Listed R Q) : Type 0 where
    pub arrivals : r.arrivals ≡ length b.readers
    pub latest : r.latest ≡ latest_of b m.tally
    pub readers : RightReaders ka f.p f.q (latest_of b m.tally) (t.wide m.tally) b.readers r.readers
    pub badges : RightBadges ka kb (measure_at ka kb m.table f g) b.shown r.badges

  -- when an answer is right of the book, with the reach and the width that the tally tells, and K, J and readers' widths of the
  -- badge table
  abbrev pub RightOf : Book A B → Meter A B S R Q → Call A B → Result (Answer R Q) Refusal → Type 0
  RightOf b m (Event x y) a = reply_to a ≡ (if is_full b then Err RunFull else Ok done)
  RightOf b m Clear a = reply_to a ≡ Ok done
  RightOf b m (ReaderRange x) a =
      (r : ℕ × ℕ) → reply_to a ≡ Ok (range r) → RightRange ka (latest_of b m.tally) (t.wide m.tally) b.readers x r.0 r.1
  RightOf b m (BadgeRange x y) a =
      (r : ℕ × ℕ) → reply_to a ≡ Ok (range r) → Covers (badge_count ka.eq kb.eq x y b.shown) (length b.shown / (row_count m.table + 1) + reader_count ka.eq x b.shown / (cell_count m.table + 1)) r.0 r.1
  RightOf b m (Judge x f) a =
      (v : Verdict) → reply_to a ≡ Ok (judged v) → RightVerdict v (heavy_hitter ka.eq f.p f.q (latest_of b m.tally) x b.readers)
  RightOf b m (ListReaders f) a =
      (rows : List (ReaderRow R)) → reply_to a ≡ Ok (readers rows) → RightReaders ka f.p f.q (latest_of b m.tally) (t.wide m.tally) b.readers rows
  RightOf b m (ListBadges f g) a =
      (rows : List (BadgeRow R Q)) → reply_to a ≡ Ok (badges rows) → RightBadges ka kb (measure_at ka kb m.table f g) b.shown rows
  RightOf b m (Report f g) a =
      (r : Listed R Q) → reply_to a ≡ Ok (reported r) → RightReport b m f g r

  -- an answer of the tally alone is right of every book whose first list the tally vouches for
  abbrev pub RightByTally : Meter A B S R Q → Call A B → Result (Answer R Q) Refusal → Type 0
  RightByTally m c a = (b : Book A B) → t.vouches m.tally b.readers → RightOf b m c a

  -- and one of the badge table alone is right of every book whose second list the table accounts for
  abbrev pub RightByTable : Meter A B S R Q → Call A B → Result (Answer R Q) Refusal → Type 0
  RightByTable m c a = (b : Book A B) → accounts_for ka kb m.table b.shown → RightOf b m c a

  -- nothing is owed until the book begins
  abbrev pub Right : Option (Book A B) → Meter A B S R Q → Call A B → Result (Answer R Q) Refusal → Type 0
  Right None m c a = Unit {0}
  Right (Some b) m c a = RightOf b m c a

  -- an answer is right of every book that agrees with the meter before the call
  abbrev pub IsRight : Meter A B S R Q → Call A B → Result (Answer R Q) Refusal → Type 0
  IsRight m c a = (b : Option (Book A B)) → Agrees ka kb t m b → Right b m c a

  -- and every such book agrees after the call, as the call leaves the book
  abbrev pub KeepsBooks : Meter A B S R Q → Call A B → Meter A B S R Q → Type 0
  KeepsBooks m c m' = (b : Option (Book A B)) → Agrees ka kb t m b → Agrees ka kb t m' (after b c)

  -- a run of calls: one answer for each. Between the calls there are meters, of which each answer is told; and for every book
  -- that agrees with one before a call, the answer is right of it, and the book as the call leaves it agrees after the call
  abbrev pub Run : Rooms → Meter A B S R Q → List (Call A B) → List (Result (Answer R Q) Refusal) → Meter A B S R Q → Type 0
  Run rooms m [] [] m' = m' ≡ m
  Run rooms m [] (a ∷ rest) m' = ⊥
  Run rooms m (c ∷ cs) [] m' = ⊥
  Run rooms m (c ∷ cs) (a ∷ rest) m' =
      (w : Meter A B S R Q) × Answered rooms m c a w × IsRight m c a × KeepsBooks m c w × Run rooms w cs rest m'

  -- a batch of calls: the answers that it adds, in order, are those of a run of its first calls, as many as there are answers;
  -- every book that agreed before it agrees after it as those calls leave it
  pub record Batch (rooms : Rooms) (m : Meter A B S R Q) (calls : List (Call A B)) (before now : List (Result (Answer R Q) Refusal)) (m' : Meter A B S R Q) : Type 0 where
    pub answers : List (Result (Answer R Q) Refusal)
    pub added : now ≡ before ++ answers
    pub run : Run rooms m (take (length answers) calls) answers m'
    pub kept : (b : Option (Book A B)) → Agrees ka kb t m b → Agrees ka kb t m' (booked b (take (length answers) calls))
