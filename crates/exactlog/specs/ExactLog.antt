use Rattle.std.specs.Prelude.{◌≡◌, ℕ, ◌+◌, List, length, Option, count_by}
use Rattle.exactlog.specs.Logs.{Logged, area_after, kept, next_after, read_with, record_at, size}
use Rattle.exactlog.specs.declared.log.ExactLog.{ExactLog}
use Rattle.keys.specs.Kinds.{KeyKind}
use Rattle.keys.specs.OfKey.{of_key}

-- what a log is and does, as its contracts say it; the rules for its area stand in Logs

module _ {K R : Type 0} where
  -- how many arrivals a log keeps
  abbrev pub reach_of : ExactLog K R → ℕ
  reach_of t = size t.area.now

  -- a log has no arrivals
  pub record IsEmpty (t : ExactLog K R) : Type 0 where
    pub next : t.next ≡ 0
    pub run : t.run ≡ 0

  -- a log after an arrival whose record is r
  pub record Noted (r : R) (was t : ExactLog K R) : Type 0 where
    pub area : t.area.now ≡ area_after was.next r was.area.now
    pub next : t.next ≡ next_after was.next was.area.now
    pub run : t.run ≡ was.run + 1

  -- an area lies where it lay, and is as long as it was
  pub record SameArea (was t : ExactLog K R) : Type 0 where
    pub length_kept : length t.area.now ≡ length was.area.now
    pub lender : t.area.ghost_name ≡ was.area.ghost_name

module _ {K R : Type 0} (kind : KeyKind K R) where
  -- which lists of arrivals a log vouches for
  abbrev pub vouches : ExactLog K R → List K → Type 0
  vouches t xs = Logged kind.lies t.run t.next t.area.now xs

  -- how often a key stands in a log
  abbrev pub count_in : ExactLog K R → K → ℕ
  count_in t k = count_by (of_key kind.eq kind.reads k) (kept t.run t.area.now)

  -- the key at a place, from the newest arrival back
  abbrev pub key_at : ExactLog K R → ℕ → Option K
  key_at t i = read_with kind.reads (record_at t.run t.next t.area.now i)
