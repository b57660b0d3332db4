use Rattle.std.specs.Prelude.{ℕ, Bool, ◌&&◌, ◌==◌, nat_le}

-- whether a plan can have so many places: 1 to a most
abbrev pub plannable : ℕ → ℕ → Bool
plannable most places = nat_le 1 places && nat_le places most

-- whether a plan of so many places fits an area: they can be had, and the area has as many
abbrev pub plan_fits : ℕ → ℕ → ℕ → Bool
plan_fits most places area = plannable most places && area == places
