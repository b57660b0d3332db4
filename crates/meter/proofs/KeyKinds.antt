-- a kind of key as contracts pass it on, of the equality and of the members that its trait has
use Rattle.std.proofs.Common.{Bool}
use Rattle.keys.specs.Kinds.{KeyKind}
use Rattle.keys.specs.declared.key.Key.{Ghosts as Members}

abbrev pub kind_of : {K R : Type 0} → (K → K → Bool) → Members K R → KeyKind K R
kind_of same members = record { eq = same; parts = members.parts; lies = members.lies; reads = members.reads }
