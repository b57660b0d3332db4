-- a run with one call more at its end, and a batch with one
use Rattle.std.proofs.Common.{◌≡◌, ℕ, ◌+◌, ◌<◌, List, [], ◌∷◌, ◌++◌, length, get_or, take, Option, Result, sym, refl, ap, ◌∙◌}
use Rattle.keys.specs.Kinds.{KeyKind}
use Rattle.keys.specs.declared.refusal.Refusal.{Refusal}
use Rattle.meter.specs.Book.{Book, after, booked}
use Rattle.meter.specs.Runs.{Answered, Batch, IsRight, KeepsBooks, Run}
use Rattle.meter.specs.declared.call.Answer.{Answer}
use Rattle.meter.specs.declared.call.Call.{Call}
use Rattle.meter.specs.declared.call.Rooms.{Rooms}
use Rattle.meter.specs.declared.state.Meter.{Meter}
use Rattle.std.proofs.lemmas.List.{append_assoc, append-nil, length_push, take_more}
use Rattle.tally.specs.declared.Tally.{Ghosts as TallyKind}

booked_more : {A B : Type 0} (b : Option (Book A B)) (cs : List (Call A B)) (c : Call A B) → booked b (cs ++ c ∷ []) ≡ after (booked b cs) c
booked_more b [] c = refl
booked_more b (x ∷ cs) c = booked_more (after b x) cs c

module _ {A B R Q S : Type 0} (ka : KeyKind A R) (kb : KeyKind B Q) (t : TallyKind S A R) (rooms : Rooms) where
  run_more : (m : Meter A B S R Q) (cs : List (Call A B)) (rs : List (Result (Answer R Q) Refusal)) (w : Meter A B S R Q) (c : Call A B) (r : Result (Answer R Q) Refusal) (e : Meter A B S R Q)
      → Run ka kb t rooms m cs rs w → Answered ka kb t rooms w c r e → IsRight ka kb t w c r → KeepsBooks ka kb t w c e → Run ka kb t rooms m (cs ++ c ∷ []) (rs ++ r ∷ []) e
  run_more m [] [] w c r e h a f k = rw (← h) (e, a, f, k, refl)
  run_more m [] (y ∷ rs) w c r e h a f k = absurd h
  run_more m (y ∷ cs) [] w c r e h a f k = absurd h
  run_more m (y ∷ cs) (z ∷ rs) w c r e h a f k = (h.0, h.1, h.2, h.3, run_more h.0 cs rs w c r e h.4 a f k)

  -- a batch of the first i calls
  pub record Made (m : Meter A B S R Q) (cs : List (Call A B)) (before : List (Result (Answer R Q) Refusal)) (i : ℕ) (now : List (Result (Answer R Q) Refusal)) (w : Meter A B S R Q) : Type 0 where
    pub batch : Batch ka kb t rooms m cs before now w
    pub many : length batch.answers ≡ i

  module _ (m : Meter A B S R Q) (cs : List (Call A B)) (before : List (Result (Answer R Q) Refusal)) where
    -- none is made yet
    pub made_none : Made m cs before 0 before m
    made_none = record {
      batch = record { answers = []; added = sym (append-nil before); run = refl; kept = λ b v. v };
      many = refl;
    }

    -- and one more
    pub made_more : (w e : Meter A B S R Q) (now then : List (Result (Answer R Q) Refusal)) (i : ℕ) (c : Call A B) (r : Result (Answer R Q) Refusal)
        → Made m cs before i now w → i < length cs → c ≡ get_or cs i c → then ≡ now ++ r ∷ []
        → Answered ka kb t rooms w c r e → IsRight ka kb t w c r → KeepsBooks ka kb t w c e → Made m cs before (i + 1) then e
    made_more w e now then i c r made inside read pushed a f k =
        let v = made.batch in
        let was : take (length v.answers) cs ≡ take i cs = ap (λ n. take n cs) made.many in
        let many : length (v.answers ++ r ∷ []) ≡ i + 1 = length_push v.answers r ∙ ap (λ n. n + 1) made.many in
        let next : take (length (v.answers ++ r ∷ [])) cs ≡ take i cs ++ c ∷ [] =
        ap (λ n. take n cs) many ∙ take_more cs i c inside ∙ ap (λ (z : Call A B). take i cs ++ z ∷ []) (sym read) in
        record {
          batch = record {
            answers = v.answers ++ r ∷ [];
            added = pushed ∙ ap (λ (l : List (Result (Answer R Q) Refusal)). l ++ r ∷ []) v.added ∙ append_assoc before v.answers (r ∷ []);
            run = rw next (run_more m (take i cs) v.answers w c r e (rw was at v.run) a f k);
            kept = λ b h. rw (next, booked_more b (take i cs) c) (k _ (rw was at (v.kept b h)));
          };
          many = many;
        }
