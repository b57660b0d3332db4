use Rattle.std.proofs.Common.{◌≡◌, ◌++◌, flat_map, take, string_bytes}
use Rattle.report.proofs.text.text_of.Given as goal
use Rattle.report.specs.Texts.{badge_line, first_line, reader_line}

abbrev pub invariant-loop-row : goal.invariant-loop-row
invariant-loop-row l =
    string_bytes l.text ≡ first_line l.head.n l.head.t ++ flat_map (reader_line l.share.p l.share.q l.head.t) (take l.row-index l.readers)

abbrev pub invariant-loop-badge : goal.invariant-loop-badge
invariant-loop-badge l =
    string_bytes l.text ≡ string_bytes l.initial.text ++ flat_map badge_line (take l.badge-index l.badges)
