use Rattle.std.proofs.Common.{ap, ◌∙◌}
use Rattle.records.specs.Frames.{frame_of}
use Rattle.records.proofs.Framed.{written_back}
use Rattle.records.proofs.Masked.{fields_masked}
use Rattle.records.proofs.frame.Frame.badge.Goals as goal

pub returns : goal.returns
returns c =
    let e = fields_masked c.args.self.0 in
    record { value = e; written_back = λ w. ap frame_of e ∙ written_back c.args.self.0 w }
