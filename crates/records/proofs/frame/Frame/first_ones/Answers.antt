use Rattle.records.proofs.Masked.{first_masked}
use Rattle.records.proofs.frame.Frame.first_ones.Goals as goal

pub returns : goal.returns
returns c = first_masked c.args.self.0
