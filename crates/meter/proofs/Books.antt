-- an answer that is right of every book that has begun is right of every book
use Rattle.std.proofs.Common.{◌≡◌, Some, None, Result}
use Rattle.keys.specs.Kinds.{KeyKind}
use Rattle.keys.specs.declared.refusal.Refusal.{Refusal}
use Rattle.meter.specs.Book.{Agrees, Book}
use Rattle.meter.specs.Runs.{IsRight, RightByTable, RightByTally, RightOf}
use Rattle.meter.specs.declared.call.Answer.{Answer}
use Rattle.meter.specs.declared.call.Call.{Call}
use Rattle.meter.specs.declared.state.Meter.{Meter}
use Rattle.tally.specs.declared.Tally.{Ghosts as TallyKind}

module _ {A B R Q S : Type 0} (ka : KeyKind A R) (kb : KeyKind B Q) (t : TallyKind S A R) (m : Meter A B S R Q) (call : Call A B) (a : Result (Answer R Q) Refusal) where
  pub right_of : ((b : Book A B) → Agrees ka kb t m (Some b) → RightOf ka kb t b m call a) → IsRight ka kb t m call a
  right_of right None v = tt
  right_of right (Some b) v = right b v

  module _ (was : Call A B) (is : call ≡ was) where
    -- such a book agrees with the tally, and with the badge table
    pub of_tally : RightByTally ka kb t m was a → IsRight ka kb t m call a
    of_tally right = right_of (λ b v. rw is (right b v.0))

    pub of_table : RightByTable ka kb t m was a → IsRight ka kb t m call a
    of_table right = right_of (λ b v. rw is (right b v.1))
