use Rattle.records.proofs.Masked.{last_masked}
use Rattle.records.proofs.frame.Frame.last_ones.Goals as goal

pub returns : goal.returns
returns c = last_masked c.args.self.0
