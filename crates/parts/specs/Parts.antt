use Rattle.std.specs.Prelude.{ℕ, ◌+◌, ◌*◌, cond, List, [], ◌++◌, length, take, drop, nat_le}

-- a list whose k elements from a place on are changed
abbrev pub amid : {X : Type 0} → ℕ → ℕ → (List X → List X) → List X → List X
amid from k f xs = take from xs ++ (f (take k (drop from xs)) ++ drop (from + k) xs)

-- part s of an area: the k elements that begin at element s × k, where the area has them all
abbrev pub part : {X : Type 0} → ℕ → ℕ → List X → List X
part k s xs = cond (nat_le (s * k + k) (length xs)) (take k (drop (s * k) xs)) []

-- an area whose part s is changed
abbrev pub with_part : {X : Type 0} → ℕ → ℕ → (List X → List X) → List X → List X
with_part k s f xs = cond (nat_le (s * k + k) (length xs)) (amid (s * k) k f xs) xs
