use Rattle.std.proofs.Common.{ok_or, sym, ap}
use Rattle.keys.specs.Restored.{reader_at}
use Rattle.keys.specs.declared.refusal.Refusal.TheVariants.{NoReader}
use Rattle.keys.proofs.reader.ReaderTryFromU16.try_from.Goals as goal

pub returns : goal.returns
returns c = ap (λ o. ok_or o NoReader) (sym (reader_at c.args.number _))
