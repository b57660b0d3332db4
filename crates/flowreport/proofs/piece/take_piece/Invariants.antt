use Rattle.std.proofs.Common.{◌≡◌, ◌≤◌, ℕ, List, ◌++◌, length, Option, string_bytes}
use Rattle.flowreport.specs.Pieces.{Taken}
use Rattle.flowreport.proofs.piece.take_piece.Given as goal

-- what the rest comes to, the whole comes to after the lines so far
abbrev pub invariant-loop-length : goal.invariant-loop-length
invariant-loop-length l = record {
  within : length l.rest ≤ length l.bytes;
  so_far : (lines : List ℕ) × (string_bytes l.text ≡ string_bytes l.initial.text ++ lines) × ((more : List ℕ) (m : ℕ) (o : Option ℕ) → Taken l.ended l.flow.run l.rest more m o → Taken l.ended l.initial.flow.run l.bytes (lines ++ more) m o);
}

abbrev pub decreases-loop-length : goal.decreases-loop-length
decreases-loop-length l = length l.rest
