-- both listings as one report
use Rattle.std.proofs.Common.{◌≡◌, ℕ, min, List, Some, Ok, Err, Result, sym, ap}
use Rattle.keys.specs.Kinds.{KeyKind}
use Rattle.keys.specs.declared.refusal.Refusal.{Refusal}
use Rattle.keys.specs.declared.share.Fraction.{Fraction}
use Rattle.listings.proofs.BadgeLaws.{badges_given}
use Rattle.listings.specs.Listings.{badges_at, readers_at}
use Rattle.tally.specs.Within.{within}
use Rattle.listings.specs.Right.{Given, Promise}
use Rattle.listings.specs.declared.row.BadgeRow.{BadgeRow}
use Rattle.listings.specs.declared.row.ReaderRow.{ReaderRow}
use Rattle.meter.proofs.Promises.{readers_given}
use Rattle.meter.specs.Book.{Agrees, Book}
use Rattle.meter.specs.Runs.{Listed, RightReport, joined, report_rule, with_counts}
use Rattle.meter.specs.declared.call.Rooms.{Rooms}
use Rattle.meter.specs.declared.state.Meter.{Meter}
use Rattle.std.specs.Cmp.{IsEquivalence}
use Rattle.tally.specs.declared.Tally.{Ghosts as TallyKind}

joined_given : {R Q : Type 0} (P : List (ReaderRow R) → Type 0) (W : List (BadgeRow R Q) → Type 0) (V : Listed R Q → Type 0) (n t : ℕ) → ((rs : List (ReaderRow R)) (bs : List (BadgeRow R Q)) → P rs → W bs → V (record { arrivals = n; latest = t; readers = rs; badges = bs })) → (x : Result (List (ReaderRow R)) Refusal) (y : Result (List (BadgeRow R Q)) Refusal) → Given x P → Given y W → Given (with_counts n t (joined x y)) V
joined_given P W V n t f (Ok rs) (Ok bs) h g = f rs bs h g
joined_given P W V n t f (Ok rs) (Err m) h g = tt
joined_given P W V n t f (Err m) (Ok bs) h g = tt
joined_given P W V n t f (Err m) (Err k) h g = tt

module _ {A B R Q S : Type 0} (ka : KeyKind A R) (kb : KeyKind B Q) (t : TallyKind S A R) (la : IsEquivalence ka.eq) (lb : IsEquivalence kb.eq) (restored : (a : A) → ka.reads (ka.lies a) ≡ Some a) (m : Meter A B S R Q) (rooms : Rooms) (f g : Fraction) (b : Book A B) where
  pub report_given : Promise ka t m.tally b.readers → Agrees ka kb t m (Some b) → Given (report_rule ka kb t rooms m f g) (λ r. RightReport ka kb t b m f g r)
  report_given v agree =
      joined_given _ _ _ (t.noted m.tally) (within t m.tally)
      (λ rs bs h k. record {
        arrivals = sym v.long;
        latest = ap (λ (n : ℕ). min n (t.reaches m.tally)) (sym v.long);
        readers = h;
        badges = k;
      })
      (readers_at ka t m.tally f rooms.readers) (badges_at m.table f g rooms.badges)
      (readers_given ka t m.tally b.readers v la restored f.p f.q rooms.readers)
      (badges_given ka kb la lb m.table b.shown agree.1 f.p f.q g.p g.q rooms.badges)
