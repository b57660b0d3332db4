use Rattle.std.specs.Prelude.{ℕ, ◌+◌, if◌then◌else◌, List, length, Some, None, Ok, Err, Option, Result, nat_lt}
use Rattle.keys.specs.Readers.{reader_of}
use Rattle.keys.specs.declared.badge.Badge.{Badge}
use Rattle.keys.specs.declared.reader.Reader.{Reader}
use Rattle.keys.specs.declared.refusal.Refusal.{Refusal}
use Rattle.keys.specs.declared.refusal.Refusal.TheVariants.{StrangeMark, CutShort, NoReader}
use Rattle.keys.specs.declared.share.Fraction.{Fraction}
use Rattle.records.specs.Fields.{field}
use Rattle.records.specs.Frames.{frame_read}
use Rattle.records.specs.Marks.{mark_of, length_of}
use Rattle.records.specs.declared.mark.Mark.{Mark}
use Rattle.records.specs.declared.mark.Mark.TheVariants as mark
use Rattle.records.specs.declared.record.Record.{Record}
use Rattle.records.specs.declared.record.Record.TheVariants.{Event, Report, Clear}

-- an event by its reader and its badge: a missing reader is told before a misread badge
abbrev pub event_of : Option Reader → Result Badge Refusal → Result Record Refusal
event_of None badge = Err NoReader
event_of (Some reader) (Err refusal) = Err refusal
event_of (Some reader) (Ok badge) = Ok (Event reader badge)

-- after the mark, an event has its reader in two bytes and its badge's frame in four
abbrev pub event_in : List ℕ → Result Record Refusal
event_in bytes = event_of (reader_of (field 2 2 bytes)) (frame_read (field 4 4 bytes))

-- a fraction has p and q in two bytes each
abbrev pub fraction_in : ℕ → List ℕ → Fraction
fraction_in at bytes = record { p = field at 2 bytes; q = field (at + 2) 2 bytes }

-- after the mark, a report has the readers' share and the badges' share, as they came
abbrev pub report_in : List ℕ → Record
report_in bytes = Report (fraction_in 2 bytes) (fraction_in 6 bytes)

-- what a whole record with this mark holds
abbrev pub content_of : Mark → List ℕ → Result Record Refusal
content_of mark.Event bytes = event_in bytes
content_of mark.Report bytes = Ok (report_in bytes)
content_of mark.Clear bytes = Ok Clear

-- the mark of the whole record at the front of the bytes: fewer than two bytes are cut short, then a strange mark is told, then
-- that fewer bytes are there than the mark needs
abbrev pub mark_within : ℕ → Option Mark → Result Mark Refusal
mark_within have None = Err StrangeMark
mark_within have (Some m) = if nat_lt have (length_of m) then Err CutShort else Ok m

abbrev pub mark_at_front : List ℕ → Result Mark Refusal
mark_at_front bytes =
    if nat_lt (length bytes) 2 then Err CutShort else mark_within (length bytes) (mark_of (field 0 2 bytes))

-- the record at the front of the bytes with its length, or the refusal
abbrev pub with_length : ℕ → Result Record Refusal → Result (Record × ℕ) Refusal
with_length n (Err refusal) = Err refusal
with_length n (Ok r) = Ok (r, n)

abbrev pub record_after : List ℕ → Result Mark Refusal → Result (Record × ℕ) Refusal
record_after bytes (Err refusal) = Err refusal
record_after bytes (Ok m) = with_length (length_of m) (content_of m bytes)

abbrev pub record_at_front : List ℕ → Result (Record × ℕ) Refusal
record_at_front bytes = record_after bytes (mark_at_front bytes)
