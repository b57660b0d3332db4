use Rattle.cells.proofs.Kept.{note_kept}
use Rattle.cells.proofs.Runs.{note_ran}
use Rattle.cells.proofs.note.note_in.Goals as goal

pub returns : goal.returns
returns g c =
    let alike = g.K.PartialEq.eq in
    let reads = g.K.Key.reads in
    let law = g.met.K.Eq.laws in
    let key = c.args.key in
    let back = g.met.K.Key.restored key in
    let r = g.K.Key.lies key in
    record {
      rule = c.apply.ensures.rule;
      within = c.apply.ensures.within;
      cells = c.apply.ensures.cells;
      vouched = λ n xs few v. rw (c.apply.ensures.rule, c.apply.ensures.cells) (note_kept alike reads law key r back c.args.beside c.args.cells.now c.args.level n xs few v);
      ran = λ n xs few v. rw (c.apply.ensures.rule, c.apply.ensures.cells) (note_ran alike reads law key r back c.args.beside c.args.cells.now c.args.level n xs few v);
    }
