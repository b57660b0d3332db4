use Rattle.std.specs.Prelude.{List}
use Rattle.pages.specs.Listed.{listed}
use Rattle.pages.specs.declared.source.Source.{Ghosts as SourceKind}

-- the rows of a source: those of its places, in order
abbrev pub rows_of : {S R : Type 0} → SourceKind S R → S → List R
rows_of kind s = listed (kind.row s) (kind.size s)
