use Rattle.std.proofs.Common.{◌≡◌, ◌+◌, ◌<◌, refl, ◌∙◌, arith}
use Rattle.exactlog.proofs.Kept.{logged_noted}
use Rattle.exactlog.specs.Logs.{area_after, next_after}
use Rattle.exactlog.proofs.log.ExactLog.count.Goals as goal

pub returns-clause-logged : goal.returns-clause-logged
returns-clause-logged g c =
    let t = c.args.self.now in
    let lies = g.K.Key.lies in
    let n : c.add.new.self ≡ t.run + 1 = grind (arith, c.in_ok-add.ensures.answer, c.in_ok-add.ensures.after) in
    let area : c.write_at.new.area ≡ area_after t.next (lies c.args.key) t.area.now = c.write_at.ensures ∙ rw (c.size-size.ensures.value, c.record.ensures) refl in
    let next : c.after-self.result ≡ next_after t.next t.area.now = c.after-self.ensures ∙ rw c.size-size.ensures.value refl in
    let few : t.run < 100_000_000 = grind (arith, c.in_ok-add.ensures.answer) in
    λ xs v. rw (n, area, next) (logged_noted lies t.run t.next t.area.now xs c.args.key v (omega arith))
