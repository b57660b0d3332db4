use Rattle.std.specs.Prelude.{ℕ, ◌<◌, ◌≤◌, Bool, if◌then◌else◌, List, [], ◌∷◌, Ok, Err, Option, Result}
use Rattle.flowreport.specs.Flows.{answered, counted}
use Rattle.flowreport.specs.declared.flow.Counts.{Counts}
use Rattle.flowreport.specs.declared.step.Step.{Step}
use Rattle.flowreport.specs.declared.step.Step.TheVariants.{Wait, Took, Stop}
use Rattle.keys.specs.declared.refusal.Refusal.{Refusal}
use Rattle.keys.specs.declared.refusal.Refusal.TheVariants.{CutShort}
use Rattle.records.specs.Marks.{length_of}
use Rattle.records.specs.Records.{content_of, mark_at_front}
use Rattle.records.specs.declared.mark.Mark.{Mark}
use Rattle.records.specs.declared.record.Record.{Record}

-- how far a step can go among the bytes at hand: a record lies within them, and what waits is shorter than a report
abbrev pub Within : ℕ → Step → Type 0
Within have Wait = have < 10
Within have (Took n answer) = (0 < n) × (n ≤ have)
Within have (Stop refusal) = Unit {0}

-- a record whose bytes are there is answered, or turned away by what it holds
abbrev pub answer_to : ℕ → Result Record Refusal → Result (Option Counts) Refusal
answer_to n (Ok heard) = answered n heard
answer_to n (Err refusal) = Err refusal

-- a record that is cut short waits for more input, unless the input has ended; a strange mark stops
abbrev pub marked_step : ℕ → List ℕ → Bool → Result Mark Refusal → Step
marked_step n bytes ended (Ok m) = Took (length_of m) (answer_to n (content_of m bytes))
marked_step n bytes ended (Err CutShort) = if ended then Stop CutShort else Wait
marked_step n bytes ended (Err refusal) = Stop refusal

abbrev pub step_of : ℕ → List ℕ → Bool → Step
step_of n [] ended = Wait
step_of n (b ∷ bytes) ended = marked_step n (b ∷ bytes) ended (mark_at_front (b ∷ bytes))

-- the events since the latest clear, after the record at the front of the bytes
abbrev pub events_with : ℕ → Result Record Refusal → ℕ
events_with n (Ok heard) = counted n heard
events_with n (Err refusal) = n

abbrev pub events_marked : ℕ → List ℕ → Result Mark Refusal → ℕ
events_marked n bytes (Ok m) = events_with n (content_of m bytes)
events_marked n bytes (Err refusal) = n

abbrev pub events_after : ℕ → List ℕ → ℕ
events_after n bytes = events_marked n bytes (mark_at_front bytes)
