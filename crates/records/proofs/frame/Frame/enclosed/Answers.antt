use Rattle.std.proofs.Common.{◌<◌, sym, ap, ◌∙◌, sum, rules}
use Rattle.records.specs.Frames.{badge_in, first_thirteen, last_thirteen, well_formed}
use Rattle.records.proofs.Framed.{Held, framed_is, framed_read, framed_well, first_sum, last_sum}
use Rattle.records.proofs.Masked.{joined_shifted}
use Rattle.records.proofs.frame.Frame.enclosed.Goals as goal

pub returns : goal.returns
returns c =
    let x = c.args.first in
    let b = c.args.badge in
    let y = c.args.last in
    let h : Held b = record { site = search rules; card = search rules } in
    let i : x < 2 = search rules in
    let j : y < 2 = search rules in
    let e = joined_shifted x b y _ _ c.from-site.ensures c.from-card.ensures i j h in
    record {
      value = e ∙ sym (framed_is x b y h);
      read_back = ap badge_in e ∙ framed_read x b y i j h;
      first_half = ap (λ f. sum (first_thirteen f)) e ∙ first_sum x b y i j h;
      last_half = ap (λ f. sum (last_thirteen f)) e ∙ last_sum x b y j;
      sound = λ u v. ap well_formed e ∙ framed_well x b y i j h u v;
    }
