-- a ring that vouches for a list vouches for it with one arrival more
use Rattle.std.proofs.Common.{◌≡◌, ℕ, zero, suc, ◌+◌, ◌*◌, ◌<◌, ◌≤◌, min, Bool, true, false, List, [], ◌∷◌, ◌++◌, length, get_or, set, replicate, Some, Option, sym, refl, ap, ◌∙◌, ⊎_elim, add-one, arith, None}
use Rattle.std.proofs.lemmas.List.{append_assoc, get_or-replicate, get_or-set_other, get_or-set_same, length_push, length-replicate, length-set}
use Rattle.std.proofs.lemmas.Bool.{cases_Bool, cases_lt, leb-false, leb-true}
use Rattle.cells.proofs.Cleared.{cleared_vouches}
use Rattle.cells.proofs.Kept.{note_kept}
use Rattle.cells.proofs.Lengths.{length_after, length_emptied}
use Rattle.cells.specs.Cells.{Cell, cells_after, emptied, level_after, rule_for}
use Rattle.cells.specs.Vouched.{Vouched}
use Rattle.keys.specs.Kinds.{KeyKind}
use Rattle.keys.specs.OfKey.{of_key}
use Rattle.std.specs.Cmp.{IsEquivalence}
use Rattle.panering.specs.Panes.{fills, level_back, next_slot, noted_cells, noted_levels, one_more, pane_back, ring_cells_after, ring_levels_after, shape_after, slot_back, turned}
use Rattle.panering.specs.PaneRing.{Noted, vouches}
use Rattle.panering.specs.Ringed.{Ringed, Sized, size_back, stretch}
use Rattle.panering.specs.declared.ring.PaneRing.{PaneRing}
use Rattle.panering.specs.declared.shape.Shape.{Shape}
use Rattle.parts.proofs.Areas.{part_changed, part_other, part_replicate, slot_room, with_part_length}
use Rattle.parts.specs.Parts.{part, with_part}
use Rattle.panering.proofs.Slots.{next_below, next_oldest, slot_below, slot_current, slot_turned, slots_differ}
use Rattle.panering.proofs.Stretches.{stretch_noted, stretch_turned}

-- the segments after an arrival, and after a turn
abbrev noted_seg : {K : Type 0} → (ℕ → List K) → K → ℕ → List K
noted_seg seg key zero = seg 0 ++ key ∷ []
noted_seg seg key (suc j) = seg (suc j)

abbrev turned_seg : {K : Type 0} → (ℕ → List K) → ℕ → List K
turned_seg seg zero = []
turned_seg seg (suc j) = seg j

module _ {K R : Type 0} (alike : K → K → Bool) (reads : R → Option K) (law : IsEquivalence alike) (key : K) (r : R) (restored : reads r ≡ Some key) (s : Shape) (levels : List ℕ) (cs : List (Cell R (Unit {0}))) (n : ℕ) (xs : List K) (v : Ringed alike reads s levels cs n xs) where
  abbrev is : R → Bool
  is = of_key alike reads key

  abbrev f : List (Cell R (Unit {0})) → List (Cell R (Unit {0}))
  f p = cells_after (get_or levels s.slot 0) r tt p (rule_for is p)

  keeps : (p : List (Cell R (Unit {0}))) → length (f p) ≡ length p
  keeps p = length_after (get_or levels s.slot 0) r tt p (rule_for is p)

  abbrev cells1 : List (Cell R (Unit {0}))
  cells1 = noted_cells is r s levels cs

  abbrev levels1 : List ℕ
  levels1 = noted_levels is r s levels cs

  abbrev seg1 : ℕ → List K
  seg1 = noted_seg v.segments key

  room : (t : ℕ) → t ≤ s.panes → t * s.k + s.k ≤ length cs
  room t l = slot_room s.k t s.panes (length cs) l v.sized.room

  length1 : length cells1 ≡ length cs
  length1 = with_part_length f keeps s.k cs s.slot (room s.slot v.sized.turned)

  levelled1 : length levels1 ≡ 65
  levelled1 = length-set levels s.slot _ ∙ v.levelled

  each1 : (j : ℕ) → j ≤ s.complete → Vouched alike reads (part s.k (slot_back s j) cells1) (get_or levels1 (slot_back s j) 0) (size_back (one_more s) j) (seg1 j)
  each1 zero h =
      let at = slot_current s in
      let was : Vouched alike reads (part s.k s.slot cs) (get_or levels s.slot 0) s.filled (v.segments 0) = rw at at (v.each 0 h) in
      let p = part_changed f keeps s.k cs s.slot (room s.slot v.sized.turned) in
      let l : get_or levels1 s.slot 0 ≡ level_after (get_or levels s.slot 0) (rule_for is (part s.k s.slot cs)) = get_or-set_same levels s.slot _ 0 (omega (arith, v.levelled)) in
      rw (at, p, l) (note_kept alike reads law key r restored tt (part s.k s.slot cs) (get_or levels s.slot 0) s.filled (v.segments 0) (omega arith) was)
  each1 (suc j) h =
      let at = slot_current s in
      let t = slot_back s (suc j) in
      let ne : s.slot ≡ t → ⊥ = λ e. slots_differ s 0 (suc j) v.sized.turned (omega arith) (omega arith) (at ∙ e) in
      let below = slot_below s (suc j) v.sized.turned (omega arith) in
      let p : part s.k t cells1 ≡ part s.k t cs = part_other f keeps s.k cs s.slot t (room s.slot v.sized.turned) (room t below) ne in
      let l : get_or levels1 t 0 ≡ get_or levels t 0 = get_or-set_other levels s.slot t _ 0 (λ e. ne (sym e)) in
      rw (p, l) (v.each (suc j) h)

  joined1 : xs ++ key ∷ [] ≡ v.older ++ stretch seg1 (s.complete + 1)
  joined1 =
      let a = add-one s.complete in
      ap (λ (ys : List K). ys ++ key ∷ []) (v.joined ∙ ap (λ (m : ℕ). v.older ++ stretch v.segments m) a)
      ∙ append_assoc v.older (stretch v.segments (suc s.complete)) (key ∷ [])
      ∙ ap (λ (ys : List K). v.older ++ ys) (sym (stretch_noted v.segments seg1 key refl (λ j. refl) s.complete))
      ∙ ap (λ (m : ℕ). v.older ++ stretch seg1 m) (sym a)

  long1 : length (xs ++ key ∷ []) ≡ n + 1
  long1 = length_push xs key ∙ ap (λ (m : ℕ). m + 1) v.long

  kept_on : n < 100_000_000 → (s.filled + 1 ≡ s.length → ⊥) → Ringed alike reads (one_more s) levels1 cells1 (n + 1) (xs ++ key ∷ [])
  kept_on few more =
      let z = v.sized in
      record {
        long = long1;
        few = omega arith;
        sized = record {
          some_panes = z.some_panes;
          few_panes = z.few_panes;
          some_length = z.some_length;
          short = z.short;
          room = omega (arith, length1, z.room);
          turned = z.turned;
          unfilled = omega (arith, more, z.unfilled);
          counted = z.counted;
        };
        levelled = levelled1;
        older = v.older;
        segments = seg1;
        joined = joined1;
        whole = v.whole;
        each = each1;
      }

  abbrev cells2 : List (Cell R (Unit {0}))
  cells2 = with_part s.k (next_slot s) emptied cells1

  abbrev levels2 : List ℕ
  levels2 = set levels1 (next_slot s) 0

  abbrev seg2 : ℕ → List K
  seg2 = turned_seg seg1

  room1 : (t : ℕ) → t ≤ s.panes → t * s.k + s.k ≤ length cells1
  room1 t l = omega (arith, room t l, length1)

  length2 : length cells2 ≡ length cs
  length2 = with_part_length emptied length_emptied s.k cells1 (next_slot s) (room1 (next_slot s) (next_below s)) ∙ length1

  size_filled : s.filled + 1 ≡ s.length → (j : ℕ) → size_back (one_more s) j ≡ s.length
  size_filled full zero = full
  size_filled full (suc j) = refl

  each2 : s.filled + 1 ≡ s.length → (j : ℕ) → j ≤ min (s.complete + 1) s.panes → Vouched alike reads (part s.k (slot_back (turned s) j) cells2) (get_or levels2 (slot_back (turned s) j) 0) (size_back (turned s) j) (seg2 j)
  each2 full zero h =
      let at : slot_back (turned s) 0 ≡ next_slot s = slot_current (turned s) in
      let p = part_changed emptied length_emptied s.k cells1 (next_slot s) (room1 (next_slot s) (next_below s)) in
      let l : get_or levels2 (next_slot s) 0 ≡ 0 = get_or-set_same levels1 (next_slot s) 0 0 (omega (arith, levelled1, next_below s)) in
      rw (at, p, l) (cleared_vouches (Unit {0}) alike reads (length (part s.k (next_slot s) cells1)) (emptied (part s.k (next_slot s) cells1)) refl)
  each2 full (suc j) h =
      let z = v.sized in
      let less : j < s.panes = omega arith in
      let at : slot_back (turned s) (suc j) ≡ slot_back s j = slot_turned s (turned s) j refl refl z.turned less in
      let t = slot_back s j in
      let far = next_oldest s z.some_panes z.turned in
      let ne : next_slot s ≡ t → ⊥ = λ e. slots_differ s j s.panes z.turned less (omega arith) (sym e ∙ far) in
      let below = slot_below s j z.turned (omega arith) in
      let p : part s.k t cells2 ≡ part s.k t cells1 = part_other emptied length_emptied s.k cells1 (next_slot s) t (room1 (next_slot s) (next_below s)) (room1 t below) ne in
      let l : get_or levels2 t 0 ≡ get_or levels1 t 0 = get_or-set_other levels1 (next_slot s) t 0 0 (λ e. ne (sym e)) in
      let w = each1 j (omega arith) in
      rw (at, p, l) (rw (size_filled full j) at w)

  -- the list after a turn: where P panes were complete, the oldest is no more kept
  turned_on : n < 100_000_000 → s.filled + 1 ≡ s.length → Ringed alike reads (turned s) levels2 cells2 (n + 1) (xs ++ key ∷ [])
  turned_on few full =
      let z = v.sized in
      let sized2 : Sized (turned s) (length cells2) = record {
        some_panes = z.some_panes;
        few_panes = z.few_panes;
        some_length = z.some_length;
        short = z.short;
        room = omega (arith, length2, z.room);
        turned = next_below s;
        unfilled = z.some_length;
        counted = omega arith;
      } in
      let levelled2 : length levels2 ≡ 65 = length-set levels1 (next_slot s) 0 ∙ levelled1 in
      ⊎_elim
      (λ (l : s.complete < s.panes).
      let m : min (s.complete + 1) s.panes + 1 ≡ suc (s.complete + 1) = omega arith in
      record {
        long = long1;
        few = omega arith;
        sized = sized2;
        levelled = levelled2;
        older = v.older;
        segments = seg2;
        joined = joined1 ∙ ap (λ (ys : List K). v.older ++ ys) (sym (stretch_turned seg1 seg2 refl (λ j. refl) (s.complete + 1)) ∙ ap (stretch seg2) (sym m));
        whole = λ h. v.whole l;
        each = each2 full;
      })
      (λ (l : s.panes ≤ s.complete).
      let m : min (s.complete + 1) s.panes + 1 ≡ suc s.complete = omega arith in
      let a = add-one s.complete in
      record {
        long = long1;
        few = omega arith;
        sized = sized2;
        levelled = levelled2;
        older = v.older ++ seg1 s.complete;
        segments = seg2;
        joined =
            joined1
            ∙ ap (λ (m : ℕ). v.older ++ stretch seg1 m) a
            ∙ sym (append_assoc v.older (seg1 s.complete) (stretch seg1 s.complete))
            ∙ ap (λ (ys : List K). (v.older ++ seg1 s.complete) ++ ys) (sym (stretch_turned seg1 seg2 refl (λ j. refl) s.complete) ∙ ap (stretch seg2) (sym m));
        whole = λ h. absurd (omega arith);
        each = each2 full;
      })
      (cases_lt s.complete s.panes)

  -- an arrival, with or without a turn
  pub ring_noted : n < 100_000_000 → Ringed alike reads (shape_after s) (ring_levels_after is r s levels cs) (ring_cells_after is r s levels cs) (n + 1) (xs ++ key ∷ [])
  ring_noted few =
      ⊎_elim
      (λ (t : fills s ≡ true). rw t (turned_on few (omega (arith, leb-true s.length (s.filled + 1) t, v.sized.unfilled))))
      (λ (t : fills s ≡ false). rw t (kept_on few (λ e. omega (arith, leb-false s.length (s.filled + 1) t))))
      (cases_Bool (fills s))

-- a ring that has noted nothing: all cells are free, all levels 0
pub ring_empty : {K R : Type 0} (alike : K → K → Bool) (reads : R → Option K) (s : Shape) (m : ℕ) (cs : List (Cell R (Unit {0}))) → cs ≡ replicate m None → Sized s m → s.filled ≡ 0 → s.complete ≡ 0 → Ringed alike reads s (replicate 65 0) cs 0 []
ring_empty {K} {R} alike reads s m cs e z f c =
    let n : length cs ≡ m = ap length e ∙ length-replicate m None in
    let one : s.complete + 1 ≡ 1 = omega arith in
    let none : ℕ → List K = λ _. [] in
    record {
      long = refl;
      few = omega arith;
      sized = rw n z;
      levelled = refl;
      older = [];
      segments = none;
      joined = ap (stretch none) (sym one);
      whole = λ _. refl;
      each = λ j h.
          let j0 : j ≡ 0 = omega arith in
          let t = slot_back s 0 in
          let below = slot_below s 0 z.turned (omega arith) in
          let room : t * s.k + s.k ≤ m = slot_room s.k t s.panes m below z.room in
          let p : pane_back s cs 0 ≡ replicate s.k None = ap (part s.k t) e ∙ part_replicate s.k t m None room in
          let l : level_back s (replicate 65 0) 0 ≡ 0 = get_or-replicate 65 t 0 0 (omega (arith, below, z.few_panes)) in
          rw (j0, p, l, f) (cleared_vouches (Unit {0}) alike reads s.k (replicate s.k None) refl);
    }

-- a ring as it stands, after an arrival
pub vouches_noted : {K R : Type 0} (kind : KeyKind K R) (law : IsEquivalence kind.eq) (restored : (k : K) → kind.reads (kind.lies k) ≡ Some k) (k : K) (was t : PaneRing K R) (xs : List K) → was.run < 100_000_000 → Noted kind k was t → vouches kind was xs → vouches kind t (xs ++ k ∷ [])
vouches_noted kind law restored k was t xs few e v =
    rw (e.shape, e.levels, e.cells, e.run) (ring_noted kind.eq kind.reads law k (kind.lies k) (restored k) was.shape was.levels was.cells.now was.run xs v few)
