use Rattle.std.proofs.Common.{◌≡◌, length}
use Rattle.pages.specs.Listed.{listed, over}
use Rattle.pages.proofs.list.write.Given as goal

abbrev pub invariant-loop-place : goal.invariant-loop-place
invariant-loop-place g l = (l.line ≡ length (listed (g.S.Source.row l.source) l.place)) × (l.page ≡ over (listed (g.S.Source.row l.source) l.place) l.initial.page)
