-- what a rearrangement of a list keeps
use Rattle.std.proofs.Common.{◌≡◌, ℕ, suc, Bool, true, false, ◌||◌, List, map, length, filter, sym, refl, ap, ◌∙◌, ⊎_elim}
use mathlib.Core.List.Permᴰ
use mathlib.Core.List.{Permᴰ}
use Rattle.std.proofs.lemmas.Bool.{cases_Bool}
use Rattle.cells.specs.MisraGries.{has_counter}

pub perm_length : {A : Type 0} {xs ys : List A} → Permᴰ xs ys → length xs ≡ length ys
perm_length Permᴰ.nil = refl
perm_length (Permᴰ.cons e d) = ap suc (perm_length d)
perm_length (Permᴰ.swap e f) = refl
perm_length (Permᴰ.trans d f) = perm_length d ∙ perm_length f

pub perm_map : {A B : Type 0} (f : A → B) {xs ys : List A} → Permᴰ xs ys → Permᴰ (map f xs) (map f ys)
perm_map f Permᴰ.nil = Permᴰ.nil
perm_map f (Permᴰ.cons e d) = Permᴰ.cons (ap f e) (perm_map f d)
perm_map f (Permᴰ.swap e g) = Permᴰ.swap (ap f e) (ap f g)
perm_map f (Permᴰ.trans d g) = Permᴰ.trans (perm_map f d) (perm_map f g)

pub perm_kept : {A : Type 0} (p : A → Bool) {xs ys : List A} → Permᴰ xs ys → Permᴰ (filter p xs) (filter p ys)
perm_kept p Permᴰ.nil = Permᴰ.nil
perm_kept p (Permᴰ.cons {a} {b} e d) =
    ⊎_elim
    (λ (t : p a ≡ true). let u : p b ≡ true = sym (ap p e) ∙ t in rw (t, u) (Permᴰ.cons e (perm_kept p d)))
    (λ (t : p a ≡ false). let u : p b ≡ false = sym (ap p e) ∙ t in rw (t, u) (perm_kept p d))
    (cases_Bool (p a))
perm_kept p (Permᴰ.swap {a} {b} {a'} {b'} {l} e f) =
    ⊎_elim
    (λ (t : p a ≡ true). let t' : p b' ≡ true = sym (ap p e) ∙ t in ⊎_elim
    (λ (u : p b ≡ true). let u' : p a' ≡ true = sym (ap p f) ∙ u in rw (t, u, t', u') (Permᴰ.swap e f))
    (λ (u : p b ≡ false). let u' : p a' ≡ false = sym (ap p f) ∙ u in rw (t, u, t', u') (Permᴰ.cons e (Permᴰ.refl (filter p l))))
    (cases_Bool (p b)))
    (λ (t : p a ≡ false). let t' : p b' ≡ false = sym (ap p e) ∙ t in ⊎_elim
    (λ (u : p b ≡ true). let u' : p a' ≡ true = sym (ap p f) ∙ u in rw (t, u, t', u') (Permᴰ.cons f (Permᴰ.refl (filter p l))))
    (λ (u : p b ≡ false). let u' : p a' ≡ false = sym (ap p f) ∙ u in rw (t, u, t', u') (Permᴰ.refl (filter p l)))
    (cases_Bool (p b)))
    (cases_Bool (p a))
perm_kept p (Permᴰ.trans d f) = Permᴰ.trans (perm_kept p d) (perm_kept p f)

or_exchanged : (x y z : Bool) → (x || (y || z)) ≡ (y || (x || z))
or_exchanged true true z = refl
or_exchanged true false z = refl
or_exchanged false true z = refl
or_exchanged false false z = refl

pub perm_has : {K : Type 0} (alike : K → K → Bool) (x : K) {xs ys : List (K × ℕ)} → Permᴰ xs ys → has_counter alike x xs ≡ has_counter alike x ys
perm_has alike x Permᴰ.nil = refl
perm_has alike x (Permᴰ.cons {b = b} {l₁ = xs} e d) =
    ap (λ (z : _ × ℕ). alike x z.0 || has_counter alike x xs) e ∙ ap (λ z. alike x b.0 || z) (perm_has alike x d)
perm_has alike x (Permᴰ.swap {a} {b} {a'} {b'} {l} e f) =
    or_exchanged (alike x a.0) (alike x b.0) (has_counter alike x l)
    ∙ ap (λ (z : _ × ℕ). alike x z.0 || (alike x a.0 || has_counter alike x l)) f
    ∙ ap (λ (z : _ × ℕ). alike x a'.0 || (alike x z.0 || has_counter alike x l)) e
perm_has alike x (Permᴰ.trans d f) = perm_has alike x d ∙ perm_has alike x f
