-- Tests of every byte.
use Rattle.std.proofs.Common.{◌≡◌, ℕ, Bool, ◌&&◌, List, [], ◌∷◌, refl, ap}
use Rattle.std.specs.List.{list_all}
use Rattle.words.specs.Bytes.{every}

pub list_all-every : (f : ℕ → Bool) (xs : List ℕ) → list_all f xs ≡ every f xs
list_all-every f [] = refl
list_all-every f (x ∷ xs) = ap (λ b. f x && b) (list_all-every f xs)
