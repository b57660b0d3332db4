use Rattle.std.specs.Prelude.{ℕ, if◌then◌else◌, Some, None, Option, ◌==◌}
use Rattle.records.specs.declared.mark.Mark.{Mark}
use Rattle.records.specs.declared.mark.Mark.TheVariants.{Event, Report, Clear}

-- the three marks: 5A E1, 5A E2 and 5A E3
abbrev pub mark_of : ℕ → Option Mark
mark_of n = if n == 0x5ae1 then Some Event else if n == 0x5ae2 then Some Report else if n == 0x5ae3 then Some Clear else None

-- how many bytes a record has: after the mark, an event has a reader in two bytes and a frame in four, a report four numbers
-- in two bytes each, and a clear nothing
abbrev pub length_of : Mark → ℕ
length_of Event = 8
length_of Report = 10
length_of Clear = 2
