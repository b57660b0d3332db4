use Rattle.std.proofs.Common.{◌≡◌, ◌+◌, ◌<◌, arith}
use Rattle.counttable.proofs.table.CountTable.count.Goals as goal

pub returns-clause-vouched : goal.returns-clause-vouched
returns-clause-vouched g c =
    let n = c.args.self.now.run in
    let one_more : c.add.new.self ≡ n + 1 = grind (arith, c.in_ok-add.ensures.answer, c.in_ok-add.ensures.after) in
    let few : n < 100_000_000 = grind (arith, c.in_ok-add.ensures.answer) in
    λ xs v. rw (one_more, c.level_after-self.ensures) (c.note_in-rule.ensures.vouched n xs (omega arith) v)

pub returns-clause-ran : goal.returns-clause-ran
returns-clause-ran g c =
    let n = c.args.self.now.run in
    let one_more : c.add.new.self ≡ n + 1 = grind (arith, c.in_ok-add.ensures.answer, c.in_ok-add.ensures.after) in
    let few : n < 100_000_000 = grind (arith, c.in_ok-add.ensures.answer) in
    λ xs v. rw (one_more, c.level_after-self.ensures) (c.note_in-rule.ensures.ran n xs (omega arith) v)
