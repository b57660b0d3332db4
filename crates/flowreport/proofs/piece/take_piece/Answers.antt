use Rattle.std.proofs.Common.{◌≡◌, ℕ, Bool, List, [], ◌++◌, drop, Err, Option, Result, ap, ◌∙◌, refl, append_assoc, rules}
use Rattle.std.proofs.lemmas.List.{take_rest, append-nil}
use Rattle.flowreport.specs.Pieces.{Taken, waits, stops, takes}
use Rattle.flowreport.specs.Steps.{events_after, step_of}
use Rattle.flowreport.specs.Texts.{line_of}
use Rattle.flowreport.specs.declared.flow.Counts.{Counts}
use Rattle.flowreport.specs.declared.step.Step.TheVariants.{Took}
use Rattle.keys.specs.declared.refusal.Refusal.{Refusal}
use Rattle.flowreport.proofs.piece.take_piece.Goals as goal

-- what the rest comes to after one record more
followed : (ended : Bool) (start n e k : ℕ) (whole bytes rest so_far : List ℕ) (answer : Result (Option Counts) Refusal) → Took k answer ≡ step_of n bytes ended → e ≡ events_after n bytes → rest ≡ drop k bytes → ((more : List ℕ) (m : ℕ) (o : Option ℕ) → Taken ended n bytes more m o → Taken ended start whole (so_far ++ more) m o) → (more : List ℕ) (m : ℕ) (o : Option ℕ) → Taken ended e rest more m o → Taken ended start whole ((so_far ++ line_of answer) ++ more) m o
followed ended start n e k whole bytes rest so_far answer p q r h more m o t =
    let u : Taken ended (events_after n bytes) (drop k bytes) more m o = rw (← q, ← r) t in
    rw (append_assoc so_far (line_of answer) more) (h (line_of answer ++ more) m o (takes n k bytes more answer m o p u))

pub returns-in-Wait-clause-value : goal.returns-in-Wait-clause-value
returns-in-Wait-clause-value c =
    let s = c.loop-length.invariant.so_far in
    (s.0 ++ [], s.1 ∙ rw (append-nil s.0) refl, s.2 _ _ _ (waits _ _ _ c.in-Wait.ensures.value c.in-Wait.ensures.after))

pub loop-length-preserved : goal.loop-length-preserved
loop-length-preserved c =
    let s = c.loop-length.invariant.so_far in
    let b = c.in_ok-write-in-Took.ensures.bytes in
    record {
      within = search rules;
      so_far = (
        s.0 ++ line_of c.in-Took.answer,
        b ∙ ap (λ t. t ++ line_of c.in-Took.answer) s.1 ∙ append_assoc _ s.0 (line_of c.in-Took.answer),
        followed _ _ _ _ _ _ _ _ s.0 c.in-Took.answer c.in-Took.ensures.value c.in-Took.ensures.after (take_rest c.loop-length.rest.now c.in-Took.length) s.2,
      );
    }

pub returns-in-Stop-clause-value : goal.returns-in-Stop-clause-value
returns-in-Stop-clause-value c =
    let s = c.loop-length.invariant.so_far in
    let b = c.in_ok-write-in-Stop.ensures.bytes in
    let l = line_of (Err c.in-Stop.refusal) in
    (s.0 ++ l, b ∙ ap (λ t. t ++ l) s.1 ∙ append_assoc _ s.0 l, s.2 _ _ _ (stops _ _ _ _ c.in-Stop.ensures.value c.in-Stop.ensures.after))
