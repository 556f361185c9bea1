-- The beginning of a list, and a place of one that is written.
use Rattle.std.proofs.Common.{◌≡◌, ℕ, min, List, length, take, set, sym, ap, ◌∙◌, ⊎_elim, arith, length-set}
use Rattle.std.proofs.lemmas.List.{take_all}
use Rattle.std.proofs.lemmas.Bool.{cases_lt}
use Rattle.arrayvec.specs.ArrayVec.{ArrayVec, with_items}
use Rattle.arrayvec.proofs.ArrayVecLemmas.{items-with_items}

pub take_min : {A : Type 0} (xs : List A) (n : ℕ) → take (min (length xs) n) xs ≡ take n xs
take_min xs n =
    ⊎_elim
    (λ h. ap (λ j. take j xs) (omega arith) ∙ take_all (length xs) xs (omega arith) ∙ sym (take_all n xs (omega arith)))
    (λ h. ap (λ j. take j xs) (omega arith))
    (cases_lt (length xs) n)

pub items-set : {A : Type 0} (v : ArrayVec A) (xs : List A) (i : ℕ) (x : A) → xs ≡ v.items → (with_items v (set xs i x)).items ≡ set v.items i x
items-set v xs i x e = items-with_items v (set xs i x) (length-set xs i x ∙ ap length e) ∙ ap (λ ys. set ys i x) e
