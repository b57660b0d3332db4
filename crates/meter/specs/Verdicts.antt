use Rattle.std.specs.Prelude.{ℕ, if◌then◌else◌, not, List, [], ◌∷◌, codes}
use Rattle.keys.specs.Shares.{passes}
use Rattle.meter.specs.declared.verdict.Verdict.{Verdict}
use Rattle.meter.specs.declared.verdict.Verdict.TheVariants.{Over, Within, Unsure}

-- the three verdicts
abbrev pub verdicts : List Verdict
verdicts = Over ∷ (Within ∷ (Unsure ∷ []))

-- the verdict on a range at a share p/q of t: Over where the low end passes it, Within where the high end does not, and
-- otherwise Unsure
abbrev pub verdict_of : ℕ → ℕ → ℕ → ℕ × ℕ → Verdict
verdict_of p q t range =
    if passes p q range.0 t then Over else if not (passes p q range.1 t) then Within else Unsure

-- a verdict in small letters
abbrev pub word_of : Verdict → List ℕ
word_of Over = codes "over"
word_of Within = codes "within"
word_of Unsure = codes "unsure"
