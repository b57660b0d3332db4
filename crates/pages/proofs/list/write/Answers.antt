use Rattle.std.proofs.Common.{◌≡◌, length, Some, None, ap, arith}
use Rattle.pages.specs.Listed.{listed}
use Rattle.pages.proofs.Lists.{length_more, listed_same, over_more, room}
use Rattle.pages.proofs.list.write.Goals as goal
use Rattle.pages.proofs.list.write.Goals.{in-Some, in_default}

pub bounds-page-line : goal.bounds-page-line
bounds-page-line g c =
    let row = g.S.Source.row c.args.source.now in
    let is : row c.loop-place.place ≡ Some c.in-Some.row = cc in
    let all = ap (λ m. length (listed row m)) c.places-place-end.ensures in
    let here = room row c.loop-place.place c.in-Some.row is c.places-place-end.result (length c.args.page.now) (omega arith) (omega arith) in
    omega arith

pub overflow_add-line : goal.overflow_add-line
overflow_add-line g c = let here = bounds-page-line g c in omega arith

pub loop-place-preserved : goal.loop-place-preserved
loop-place-preserved g c =
    let row = g.S.Source.row c.args.source.now in
    let i = c.loop-place.place in
    let all = ap (λ m. length (listed row m)) c.places-place-end.ensures in
    elim c.match-row_at.branch [
      | in-Some w ↦
          let is : row i ≡ Some w.in-Some.row = cc in
          let here = room row i w.in-Some.row is c.places-place-end.result (length c.args.page.now) (omega arith) (omega arith) in
          let more = length_more row i w.in-Some.row is in
          (omega arith, over_more row i w.in-Some.row is c.loop-place.line c.args.page.now c.loop-place.page c.match-row_at.page c.loop-place.invariant.0 (omega arith) c.loop-place.invariant.1 w.page-is)
      | in_default w ↦ let is : row i ≡ None = cc in let same = listed_same row i is in (cc, cc)
    ]
