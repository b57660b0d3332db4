use Rattle.std.proofs.Common.{◌≡◌, ◌+◌, ◌≤◌, length, vec_items, vec_len, vec_capacity}
use Rattle.meter.proofs.Batches.{Made}
use Rattle.meter.proofs.KeyKinds.{kind_of}
use Rattle.meter.proofs.state.Meter.run.Given as goal

abbrev pub invariant-loop-call : goal.invariant-loop-call
invariant-loop-call g l = record {
  long : vec_len l.answers ≡ vec_len l.fn.answers + l.call-index;
  room : vec_len l.fn.answers + length l.calls ≤ vec_capacity l.answers;
  made : Made (kind_of g.A.PartialEq.eq g.A.Key) (kind_of g.B.PartialEq.eq g.B.Key) g.T.Tally l.rooms l.fn.self l.calls (vec_items l.fn.answers) l.call-index (vec_items l.answers) l.self;
}
