use Rattle.std.specs.Prelude.{◌≡◌, ℕ, Bool, List, [], ◌++◌, length, drop, Some, None, Err, Option, Result}
use Rattle.flowreport.specs.Steps.{events_after, step_of}
use Rattle.flowreport.specs.Texts.{line_of}
use Rattle.flowreport.specs.declared.flow.Counts.{Counts}
use Rattle.flowreport.specs.declared.step.Step.TheVariants.{Wait, Took, Stop}
use Rattle.keys.specs.declared.refusal.Refusal.{Refusal}

-- how a piece is taken, record after record: the events before, the bytes, what is printed, the events after, and how many bytes are
-- left over, or none where the program stops
pub data Taken (ended : Bool) : ℕ → List ℕ → List ℕ → ℕ → Option ℕ → Type 0 where
  waits : (n m : ℕ) (bytes : List ℕ) → Wait ≡ step_of n bytes ended → m ≡ events_after n bytes → Taken ended n bytes [] m (Some (length bytes))
  stops : (n m : ℕ) (bytes : List ℕ) (refusal : Refusal) → Stop refusal ≡ step_of n bytes ended → m ≡ events_after n bytes → Taken ended n bytes (line_of (Err refusal)) m None
  takes : (n k : ℕ) (bytes lines : List ℕ) (answer : Result (Option Counts) Refusal) (m : ℕ) (left : Option ℕ) → Took k answer ≡ step_of n bytes ended → Taken ended (events_after n bytes) (drop k bytes) lines m left → Taken ended n bytes (line_of answer ++ lines) m left
