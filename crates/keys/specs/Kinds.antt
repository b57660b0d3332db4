use Rattle.std.specs.Prelude.{ℕ, Bool, List, Option}

-- a kind of key as contracts pass it on: which keys are the same, their parts, the record of a key, and the key of a record
abbrev pub KeyKind : Type 0 → Type 0 → Type 0
KeyKind K R = record { eq : K → K → Bool; parts : K → List ℕ; lies : K → R; reads : R → Option K }
