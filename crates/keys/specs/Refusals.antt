use Rattle.std.specs.Prelude.{ℕ, Ok, Err, Result}
use Rattle.keys.specs.declared.refusal.Refusal.{Refusal}
use Rattle.keys.specs.declared.refusal.Refusal.TheVariants.{StrangeMark, CutShort, NoReader, MisreadBadge, ImpossibleShare, MisfitPlan, RunFull, TooFine, PageShort}

-- the number by which each refusal is told
abbrev pub number_of : Refusal → ℕ
number_of StrangeMark = 1
number_of CutShort = 2
number_of NoReader = 3
number_of MisreadBadge = 4
number_of ImpossibleShare = 5
number_of MisfitPlan = 6
number_of RunFull = 7
number_of TooFine = 8
number_of PageShort = 9

-- what a call told: its value, as `f` reads it, or the refusal
abbrev pub told : {X Y : Type 0} → (X → Y) → Result X Refusal → Result Y Refusal
told f (Ok x) = Ok (f x)
told f (Err e) = Err e
