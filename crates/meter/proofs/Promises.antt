-- from what a tally promises to what is right of the book
use Rattle.std.proofs.Common.{◌≡◌, ℕ, min, true, false, List, length, Some, ap, ⊎_elim}
use Rattle.keys.specs.Shares.{is_share, passes}
use Rattle.keys.specs.Kinds.{KeyKind}
use Rattle.listings.proofs.Gates.{gate_open, given_behind}
use Rattle.listings.proofs.ReaderLaws.{passes_more, readers_right}
use Rattle.listings.specs.Listings.{reader_gate, reader_listing, reader_rows}
use Rattle.tally.specs.Within.{within}
use Rattle.listings.specs.Right.{Given, Promise, RightReaders}
use Rattle.meter.specs.Runs.{RightVerdict, verdict_rule}
use Rattle.meter.specs.Verdicts.{verdict_of}
use Rattle.std.proofs.lemmas.Bool.{both_ways, cases_Bool}
use Rattle.std.specs.Cmp.{IsEquivalence}
use Rattle.tally.specs.Arrivals.{heavy_hitter, true_count}
use Rattle.tally.specs.declared.Tally.{Ghosts as TallyKind}

module _ {S A R : Type 0} (kind : KeyKind A R) (t : TallyKind S A R) (s : S) (xs : List A) where
  module _ (v : Promise kind t s xs) where
    -- T of the book is the tally's
    same_latest : min (length xs) (t.reaches s) ≡ within t s
    same_latest = ap (λ (n : ℕ). min n (t.reaches s)) v.long

    verdict_right : (p q : ℕ) (k : A) → RightVerdict (verdict_of p q (within t s) (t.low s k, t.high s k)) (heavy_hitter kind.eq p q (within t s) k xs)
    verdict_right p q k =
        let T = within t s in
        let h = v.truth k in
        let above = heavy_hitter kind.eq p q T k xs in
        ⊎_elim
        (λ (l : passes p q (t.low s k) T ≡ true). rw l (passes_more p q (t.low s k) (true_count kind.eq T k xs) T h.from l))
        (λ (l : passes p q (t.low s k) T ≡ false). ⊎_elim
        (λ (e : passes p q (t.high s k) T ≡ true). rw (l, e) tt)
        (λ (e : passes p q (t.high s k) T ≡ false). rw (l, e)
        (⊎_elim
        (λ (z : above ≡ true). absurd (both_ways (passes p q (t.high s k) T) e (passes_more p q (true_count kind.eq T k xs) (t.high s k) T h.upto z)))
        (λ (z : above ≡ false). z)
        (cases_Bool above)))
        (cases_Bool (passes p q (t.high s k) T)))
        (cases_Bool (passes p q (t.low s k) T))

    pub verdict_given : (p q : ℕ) (k : A) → Given (verdict_rule t p q s k) (λ r. RightVerdict r (heavy_hitter kind.eq p q (min (length xs) (t.reaches s)) k xs))
    verdict_given p q k =
        ⊎_elim
        (λ (e : is_share p q ≡ true). rw (e, same_latest) (verdict_right p q k))
        (λ (e : is_share p q ≡ false). rw e tt)
        (cases_Bool (is_share p q))

    pub readers_given : (law : IsEquivalence kind.eq) (restored : (a : A) → kind.reads (kind.lies a) ≡ Some a) (p q room : ℕ) → Given (reader_listing kind t s p q room) (λ rows. RightReaders kind p q (min (length xs) (t.reaches s)) (t.wide s) xs rows)
    readers_given law restored p q room =
        given_behind (reader_gate kind t s p q) (reader_rows kind t s p q) room _
        (λ e. rw same_latest (readers_right kind law restored t s p q xs v.truth v.narrow v.missed (gate_open (is_share p q) (passes p q (t.top s) (within t s)) e).1))
