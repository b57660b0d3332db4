use Rattle.std.specs.Prelude.{ℕ, ◌+◌, min, if◌then◌else◌, Some, None, Ok, Err, Option, Result, nat_lt}
use Rattle.flowreport.specs.declared.flow.Counts.{Counts}
use Rattle.keys.specs.Shares.{share_of}
use Rattle.keys.specs.declared.refusal.Refusal.{Refusal}
use Rattle.keys.specs.declared.refusal.Refusal.TheVariants.{RunFull}
use Rattle.keys.specs.declared.share.Fraction.{Fraction}
use Rattle.records.specs.declared.record.Record.{Record}
use Rattle.records.specs.declared.record.Record.TheVariants.{Event, Report, Clear}
use Rattle.tally.specs.Owed.{most_arrivals}

-- a report of n events: the first impossible share is told, otherwise n and how many of them are within reach
abbrev pub shared_counts : ℕ → Result (ℕ × ℕ) Refusal → Result (ℕ × ℕ) Refusal → Result (Option Counts) Refusal
shared_counts n (Err refusal) badges = Err refusal
shared_counts n (Ok s) (Err refusal) = Err refusal
shared_counts n (Ok s) (Ok t) = Ok (Some (record { n = n; t = min n 512 }))

abbrev pub reported : ℕ → Fraction → Fraction → Result (Option Counts) Refusal
reported n readers badges = shared_counts n (share_of readers.p readers.q) (share_of badges.p badges.q)

-- what a record is answered after n events
abbrev pub answered : ℕ → Record → Result (Option Counts) Refusal
answered n (Event reader badge) = if nat_lt n most_arrivals then Ok None else Err RunFull
answered n (Report readers badges) = reported n readers badges
answered n Clear = Ok None

-- how many events have been taken since the latest clear, after one record more
abbrev pub counted : ℕ → Record → ℕ
counted n (Event reader badge) = if nat_lt n most_arrivals then n + 1 else n
counted n (Report readers badges) = n
counted n Clear = 0
