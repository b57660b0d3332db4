use Rattle.std.specs.Prelude.{Bool, false, Some, None, Option}

-- whether a record is that of a key, by the sameness of its kind
abbrev pub of_key : {K R : Type 0} → (K → K → Bool) → (R → Option K) → K → R → Bool
of_key alike reads k r = elim (reads r) [ Some j ↦ alike k j | None ↦ false ]
