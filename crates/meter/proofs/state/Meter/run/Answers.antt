use Rattle.std.proofs.Common.{arith, rules}
use Rattle.meter.proofs.Batches.{made_more, made_none}
use Rattle.meter.proofs.KeyKinds.{kind_of}
use Rattle.meter.proofs.state.Meter.run.Goals as goal

pub loop-call-init : goal.loop-call-init
loop-call-init g c =
    let was = c.reserve.ensures in
    record {
      long = omega (arith, was.len);
      room = search rules;
      made = rw was.items (made_none (kind_of g.A.PartialEq.eq g.A.Key) (kind_of g.B.PartialEq.eq g.B.Key) g.T.Tally c.args.rooms c.args.self.now c.args.calls.now _);
    }

pub loop-call-preserved : goal.loop-call-preserved
loop-call-preserved g c =
    let inv = c.loop-call.invariant in
    let was = c.push_reserved.ensures in
    let told = c.in_ok-told.ensures in
    record {
      long = omega (arith, was.len, inv.long);
      room = omega (arith, was.capacity, inv.room);
      made = made_more (kind_of g.A.PartialEq.eq g.A.Key) (kind_of g.B.PartialEq.eq g.B.Key) g.T.Tally c.args.rooms c.args.self.now c.args.calls.now _ _ _ _ _ _ _ _ inv.made c.loop-call-test.true c.call-item.is was.items told.told told.right told.kept;
    }

pub returns-in_err-reserve-clause-batch : goal.returns-in_err-reserve-clause-batch
returns-in_err-reserve-clause-batch g c =
    rw c.reserve.ensures.items (made_none (kind_of g.A.PartialEq.eq g.A.Key) (kind_of g.B.PartialEq.eq g.B.Key) g.T.Tally c.args.rooms c.args.self.now c.args.calls.now _).batch
