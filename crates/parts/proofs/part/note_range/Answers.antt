use Rattle.std.proofs.Common.{◌≡◌, ◌+◌, ◌-◌, arith}
use Rattle.cells.specs.Cells.{cells_after, rule_for}
use Rattle.keys.specs.OfKey.{of_key}
use Rattle.parts.proofs.Areas.{amid_is}
use Rattle.parts.proofs.part.note_range.Goals as goal

pub returns : goal.returns
returns g c =
    let n : c.args.from + c.args.k - c.args.from ≡ c.args.k = omega arith in
    let is = of_key g.K.PartialEq.eq g.K.Key.reads c.args.key in
    let r = g.K.Key.lies c.args.key in
    record {
      cells = amid_is (λ p. cells_after c.args.level r tt p (rule_for is p)) c.args.from c.args.k c.args.cells.now _ c.note_in.ensures.cells;
      rule = rw n at c.note_in.ensures.rule;
    }
