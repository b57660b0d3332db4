use Rattle.std.proofs.Common.{◌<◌, rules, arith}
use Rattle.badgetable.proofs.Noted.{note_accounts}
use Rattle.badgetable.proofs.table.BadgeTable.note.Goals as goal
use Rattle.badgetable.specs.Tables.{arrivals_in}
use Rattle.tally.specs.Owed.{most_arrivals}

pub returns-clause-accounts : goal.returns-clause-accounts
returns-clause-accounts g c =
    let t = c.args.self.now in
    let few : arrivals_in t < most_arrivals = grind (arith, c.in_ok-add.ensures.answer) in
    λ ps v. note_accounts _ g.met.A.Eq.laws _ g.met.B.Eq.laws c.args.reader (g.met.A.Key.restored c.args.reader) c.args.badge (g.met.B.Key.restored c.args.badge) t c.follow.new.self ps few (search rules) v
