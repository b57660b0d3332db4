use Rattle.std.specs.Prelude.{ℕ, List, ◌++◌, codes, decimal, flat_map}
use Rattle.keys.specs.declared.badge.Badge.{Badge}
use Rattle.listings.specs.declared.row.BadgeRow.{BadgeRow}
use Rattle.listings.specs.declared.row.ReaderRow.{ReaderRow}
use Rattle.meter.specs.Verdicts.{verdict_of, word_of}
use Rattle.meter.specs.declared.verdict.Verdict.{Verdict}

-- Fields are parted by single spaces, and a line feed ends each line. Numbers are decimal, without leading zeros.

-- the first line of a report: n and T
abbrev pub first_line : ℕ → ℕ → List ℕ
first_line n t = codes "report " ++ (decimal n ++ (codes " " ++ (decimal t ++ codes "\n")))

-- a listed reader: its number, its range, and the verdict
abbrev pub judged_line : ReaderRow ℕ → Verdict → List ℕ
judged_line r v =
    codes "reader "
    ++ (decimal r.key ++ (codes " " ++ (decimal r.low ++ (codes " " ++ (decimal r.high ++ (codes " " ++ (word_of v ++ codes "\n")))))))

-- the verdict is that at the share p/q of T
abbrev pub reader_line : ℕ → ℕ → ℕ → ReaderRow ℕ → List ℕ
reader_line p q t r = judged_line r (verdict_of p q t (r.low, r.high))

-- a listed badge: reader, site, card, and the badge's range there
abbrev pub badge_line : BadgeRow ℕ Badge → List ℕ
badge_line r =
    codes "badge "
    ++ (decimal r.reader
    ++ (codes " "
    ++ (decimal r.badge.site
    ++ (codes " " ++ (decimal r.badge.card ++ (codes " " ++ (decimal r.low ++ (codes " " ++ (decimal r.high ++ codes "\n")))))))))

-- a whole report
abbrev pub report_text : ℕ → ℕ → ℕ → ℕ → List (ReaderRow ℕ) → List (BadgeRow ℕ Badge) → List ℕ
report_text n t p q readers badges =
    first_line n t ++ (flat_map (reader_line p q t) readers ++ (flat_map badge_line badges ++ codes "end\n"))
