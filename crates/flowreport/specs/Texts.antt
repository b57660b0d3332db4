use Rattle.std.specs.Prelude.{ℕ, List, [], ◌++◌, Some, None, Ok, Err, codes, decimal, Option, Result}
use Rattle.flowreport.specs.declared.flow.Counts.{Counts}
use Rattle.keys.specs.Refusals.{number_of}
use Rattle.keys.specs.declared.refusal.Refusal.{Refusal}

-- the lines of an answer: nothing for an event or a clear, the counts and the end of a report, or the number of a refusal
abbrev pub line_of : Result (Option Counts) Refusal → List ℕ
line_of (Ok None) = []
line_of (Ok (Some c)) = codes "report " ++ (decimal c.n ++ (codes " " ++ (decimal c.t ++ codes "\nend\n")))
line_of (Err refusal) = codes "refused " ++ (decimal (number_of refusal) ++ codes "\n")
