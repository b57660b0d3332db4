use Rattle.std.proofs.Common.{◌∙◌, arith}
use Rattle.meter.proofs.query.ask_all.Goals as goal

pub returns : goal.returns
returns g c = λ xs v.
    let n = c.arrivals.ensures in
    let w = c.width.ensures in
    let top = c.ceiling.ensures in
    record {
      long = n.length xs v ∙ n.value;
      truth = top.ranges xs v;
      narrow = λ k. omega (arith, w.narrow xs v k, w.value);
      missed = λ k out. omega (arith, (top.missed xs v k out).1, top.value);
    }
