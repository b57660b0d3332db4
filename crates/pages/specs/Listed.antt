use Rattle.std.specs.Prelude.{ℕ, if◌then◌else◌, List, ◌++◌, length, drop, Ok, Err, Option, Result, filter_map, nat_le}
use Rattle.std.specs.List.{range_with_len}
use Rattle.keys.specs.declared.refusal.Refusal.{Refusal}
use Rattle.keys.specs.declared.refusal.Refusal.TheVariants.{PageShort}

-- the rows of the places below n, in order; a place may have none
abbrev pub listed : {X : Type 0} → (ℕ → Option X) → ℕ → List X
listed row n = filter_map row (range_with_len 0 n)

-- a page with rows written over its first places; the rest of it is as it was
abbrev pub over : {X : Type 0} → List X → List X → List X
over rows page = rows ++ drop (length rows) page

-- rows that are to be written where so many have room: all of them, or a refusal
abbrev pub fitted : {X : Type 0} → List X → ℕ → Result (List X) Refusal
fitted rows room = if nat_le (length rows) room then Ok rows else Err PageShort

-- a page after rows were to be written on it
abbrev pub page_after : {X : Type 0} → List X → List X → List X
page_after rows page = if nat_le (length rows) (length page) then over rows page else page

-- how many rows were written
abbrev pub counted : {X : Type 0} → Result (List X) Refusal → Result ℕ Refusal
counted (Ok rows) = Ok (length rows)
counted (Err e) = Err e
