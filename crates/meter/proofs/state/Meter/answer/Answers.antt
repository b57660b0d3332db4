use Rattle.std.proofs.lemmas.Result.{IfOk-weaker}
use Rattle.meter.proofs.Books.{of_table, of_tally}
use Rattle.meter.proofs.KeyKinds.{kind_of}
use Rattle.meter.proofs.state.Meter.answer.Goals as goal

pub returns-in-ReaderRange-clause-right : goal.returns-in-ReaderRange-clause-right
returns-in-ReaderRange-clause-right g c =
    of_tally (kind_of g.A.PartialEq.eq g.A.Key) (kind_of g.B.PartialEq.eq g.B.Key) g.T.Tally c.args.self.now c.args.call _ _ c.in-ReaderRange.is c.answer_range.ensures.right

pub returns-in-BadgeRange-clause-right : goal.returns-in-BadgeRange-clause-right
returns-in-BadgeRange-clause-right g c =
    of_table (kind_of g.A.PartialEq.eq g.A.Key) (kind_of g.B.PartialEq.eq g.B.Key) g.T.Tally c.args.self.now c.args.call _ _ c.in-BadgeRange.is c.answer_badge_range.ensures.right

pub returns-in-ListReaders-clause-right : goal.returns-in-ListReaders-clause-right
returns-in-ListReaders-clause-right g c =
    IfOk-weaker c.answer_readers.result _ _ (λ a. of_tally (kind_of g.A.PartialEq.eq g.A.Key) (kind_of g.B.PartialEq.eq g.B.Key) g.T.Tally c.args.self.now c.args.call a _ c.in-ListReaders.is) c.answer_readers.ensures.right

pub returns-in-ListBadges-clause-right : goal.returns-in-ListBadges-clause-right
returns-in-ListBadges-clause-right g c =
    IfOk-weaker c.answer_badges.result _ _ (λ a. of_table (kind_of g.A.PartialEq.eq g.A.Key) (kind_of g.B.PartialEq.eq g.B.Key) g.T.Tally c.args.self.now c.args.call a _ c.in-ListBadges.is) c.answer_badges.ensures.right
