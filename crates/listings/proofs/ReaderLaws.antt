-- a reader listing that is given is right of every list that the tally vouches for
use Rattle.std.proofs.Common.{◌≡◌, ℕ, zero, suc, ◌+◌, ◌*◌, ◌<◌, ◌≤◌, Bool, true, false, not, ◌&&◌, List, Some, None, Option, sym, refl, ap, ◌∙◌, ⊎_elim, mul-le-mul_right, arith}
use Rattle.keys.specs.Kinds.{KeyKind}
use Rattle.keys.specs.OfKey.{of_key}
use Rattle.keys.specs.Shares.{passes}
use Rattle.std.proofs.lemmas.Bool.{and_parts, both_ways, cases_Bool, lt-ltb, ltb-true, not-true}
use Rattle.std.proofs.lemmas.Option.{cond_some, none-some}
use Rattle.std.specs.Cmp.{IsEquivalence}
use Rattle.tally.proofs.Counts.{occurs_alike}
use Rattle.tally.proofs.OfKey.{of_key_at}
use Rattle.tally.specs.Arrivals.{latest, true_count}
use Rattle.tally.specs.Owed.{Contains, held_below, holds}
use Rattle.tally.specs.Within.{within}
use Rattle.tally.specs.declared.Tally.{Ghosts as TallyKind}
use Rattle.tally.proofs.HeldBefore.{held_at, held_first}
use Rattle.listings.proofs.Rows.{all_listed, any_listed, pairs_listed}
use Rattle.listings.specs.Listings.{reader_row, reader_rows, row_held}
use Rattle.listings.specs.Right.{RightReaders, RightRow, names}
use Rattle.listings.specs.declared.row.ReaderRow.{ReaderRow}

-- what is more passes a share that less of it passes
pub passes_more : (p q m n t : ℕ) → m ≤ n → passes p q m t ≡ true → passes p q n t ≡ true
passes_more p q m n t l e =
    let a : m * q ≤ n * q = mul-le-mul_right q l in
    let b = ltb-true (p * t) (m * q) e in
    lt-ltb (p * t) (n * q) (omega (arith, a, b))

module _ {A R : Type 0} (kind : KeyKind A R) (law : IsEquivalence kind.eq) (restored : (a : A) → kind.reads (kind.lies a) ≡ Some a) where
  abbrev same : A → A → Bool
  same = kind.eq

  of_lies : (k j : A) → of_key same kind.reads k (kind.lies j) ≡ same k j
  of_lies k j = of_key_at same kind.reads law k j (kind.lies j) (restored j)

  -- keys that are the same are held at the same places
  holds_alike : (k j : A) → same k j ≡ true → (o : Option A) → holds same k o ≡ holds same j o
  holds_alike k j e None = refl
  holds_alike k j e (Some x) = law.congr k j x e

  held_alike : (k j : A) → same k j ≡ true → (held : ℕ → Option A) (i : ℕ) → held_below same held k i ≡ held_below same held j i
  held_alike k j e held zero = refl
  held_alike k j e held (suc i) = rw (holds_alike k j e (held i), held_alike k j e held i) refl

  held_one : (k : A) (o : Option A) → holds same k o ≡ true → (j : A) × (o ≡ Some j) × (same k j ≡ true)
  held_one k None e = absurd (both_ways false refl e)
  held_one k (Some j) e = (j, refl, e)

  module _ {S : Type 0} (t : TallyKind S A R) (s : S) (p q : ℕ) where
    abbrev T : ℕ
    T = within t s

    abbrev row : ℕ → Option (ReaderRow R)
    row i = row_held kind t s p q i (t.held s i)

    -- a place with a row: the key that it holds
    record Named (i : ℕ) (o : Option A) (r : ReaderRow R) : Type 0 where
      key : A
      held : o ≡ Some key
      high : passes p q (t.high s key) T ≡ true
      new : held_below same (t.held s) key i ≡ false
      is : reader_row kind t s key ≡ r

    named : (i : ℕ) (o : Option A) (r : ReaderRow R) → row_held kind t s p q i o ≡ Some r → Named i o r
    named i None r e = absurd (none-some r e)
    named i (Some k) r e =
        let high = passes p q (t.high s k) T in
        let before = held_below same (t.held s) k i in
        let h = cond_some (high && not before) (reader_row kind t s k) r e in
        let both = and_parts high (not before) h.0 in
        record { key = k; held = refl; high = both.0; new = not-true before both.1; is = h.1 }

    row_there : (i : ℕ) (o : Option A) (j : A) → o ≡ Some j → passes p q (t.high s j) T ≡ true → held_below same (t.held s) j i ≡ false → row_held kind t s p q i o ≡ Some (reader_row kind t s j)
    row_there i o j e high new = rw (e, high, new) refl

    -- a key that is held, and whose high end passes, is named where it first stands
    names_held : (k : A) → ((j : A) → same k j ≡ true → passes p q (t.high s j) T ≡ true) → held_below same (t.held s) k (t.spots s) ≡ true → names kind k (reader_rows kind t s p q) ≡ true
    names_held k high h =
        let w = held_first same (t.held s) k (t.spots s) h in
        let i = w.0 in
        let j = held_one k (t.held s i) w.3 in
        let new : held_below same (t.held s) j.0 i ≡ false = sym (held_alike k j.0 j.2 (t.held s) i) ∙ w.2 in
        let there : row i ≡ Some (reader_row kind t s j.0) = row_there i (t.held s i) j.0 j.1 (high j.0 j.2) new in
        any_listed row (λ r. of_key same kind.reads k r.key) (t.spots s) i (reader_row kind t s j.0) w.1 there (of_lies k j.0 ∙ j.2)

    -- of two places with a row the later one names another key
    named_once : (i j : ℕ) (r u : ReaderRow R) → i < j → row i ≡ Some r → row j ≡ Some u → (k : A) → kind.reads r.key ≡ Some k → of_key same kind.reads k u.key ≡ false
    named_once i j r u l e f k g =
        let a = named i (t.held s i) r e in
        let b = named j (t.held s j) u f in
        let first : a.key ≡ k = let x = restored a.key in let y : kind.reads (kind.lies a.key) ≡ Some k = rw (← a.is) at g in cc in
        let of : of_key same kind.reads k u.key ≡ same k b.key = ap (λ (w : ReaderRow R). of_key same kind.reads k w.key) (sym b.is) ∙ of_lies k b.key in
        ⊎_elim
        (λ (x : same k b.key ≡ true).
        let y : holds same b.key (t.held s i) ≡ true = rw (a.held, first) (law.symm b.key k ∙ x) in
        absurd (both_ways (held_below same (t.held s) b.key j) b.new (held_at same (t.held s) b.key j i l y)))
        (λ (x : same k b.key ≡ false). of ∙ x)
        (cases_Bool (same k b.key))

    module _ (xs : List A) (truth : (k : A) → Contains same T k xs (t.low s k) (t.high s k)) (narrow : (k : A) → t.high s k ≤ t.low s k + t.wide s) where
      row_right : (i : ℕ) (r : ReaderRow R) → Named i (t.held s i) r → RightRow kind p q T (t.wide s) xs r
      row_right i r n =
          let k = n.key in
          let h = truth k in
          let w = narrow k in
          rw (← n.is)
          (record {
            key = k;
            of = restored k;
            range = record { contains = h; narrow = w };
            near = passes_more p q (t.high s k) (true_count same T k xs + t.wide s) T (omega (arith, h.from, w)) n.high;
          })

      -- a listing that the ceiling does not forbid
      pub readers_right : ((k : A) → held_below same (t.held s) k (t.spots s) ≡ false → true_count same T k xs ≤ t.top s) → passes p q (t.top s) T ≡ false → RightReaders kind p q T (t.wide s) xs (reader_rows kind t s p q)
      readers_right missed coarse = record {
        complete = λ k heavy.
            ⊎_elim
            (λ (e : held_below same (t.held s) k (t.spots s) ≡ true).
            names_held k (λ j near.
            let as-often : true_count same T k xs ≡ true_count same T j xs = occurs_alike same law k j near (latest T xs) in
            passes_more p q (true_count same T k xs) (t.high s j) T (let h = truth j in omega (arith, as-often, h.upto)) heavy) e)
            (λ (e : held_below same (t.held s) k (t.spots s) ≡ false).
            absurd (both_ways (passes p q (t.top s) T) coarse (passes_more p q (true_count same T k xs) (t.top s) T (missed k e) heavy)))
            (cases_Bool (held_below same (t.held s) k (t.spots s)));
        sound = all_listed row (RightRow kind p q T (t.wide s) xs) (t.spots s) (λ i r l e. row_right i r (named i (t.held s i) r e));
        once = pairs_listed row (λ r u. (k : A) → kind.reads r.key ≡ Some k → of_key same kind.reads k u.key ≡ false) (t.spots s) named_once;
      }
