-- The number that digits spell.
use Rattle.std.proofs.Common.{◌≡◌, ℕ, ◌+◌, ◌-◌, ◌*◌, ◌<◌, ◌≤◌, ltb, List, [], ◌∷◌, length, get_or, drop, Some, None, sym, ◌∙◌, ⊎_elim, arith}
use Rattle.std.proofs.lemmas.List.{at_drop_more, at_drop_all}
use Rattle.std.proofs.lemmas.Bool.{cases_Bool, cond-true, cond-false, ltb-true, ltb-false, lt-ltb}
use Rattle.words.specs.Words.{value, largest, limited}

-- more digits make no smaller number
pub value_grows : (n : ℕ) (ds : List ℕ) → n ≤ value n ds
value_grows n [] = omega arith
value_grows n (d ∷ ds) = omega (arith, value_grows (n * 10 + (d - 48)) ds)

pub value_more : (n : ℕ) (ds : List ℕ) (i : ℕ) → i < length ds → value n (drop i ds) ≡ value (n * 10 + (get_or ds i 0 - 48)) (drop (i + 1) ds)
value_more n ds i h = at_drop_more (value n) ds i 0 h

pub value_all : (n : ℕ) (ds : List ℕ) (i : ℕ) → length ds ≤ i → value n (drop i ds) ≡ n
value_all n ds i h = at_drop_all (value n) ds i h

-- what a test against the largest number tells
pub limited_some : (n v : ℕ) → Some v ≡ limited n → (v ≡ n) × (n ≤ largest)
limited_some n v e =
    ⊎_elim
    (λ y. absurd (let z : ◌≡◌ {A = ℕ} 0 1 = (let c = e ∙ cond-true (ltb largest n) None (Some n) y in cc) in omega arith))
    (λ y. ((let c = e ∙ cond-false (ltb largest n) None (Some n) y in cc), ltb-false largest n y))
    (cases_Bool (ltb largest n))

pub limited_none : (n : ℕ) → None ≡ limited n → largest < n
limited_none n e =
    ⊎_elim
    (λ y. ltb-true largest n y)
    (λ y. absurd (let z : ◌≡◌ {A = ℕ} 0 1 = (let c = e ∙ cond-false (ltb largest n) None (Some n) y in cc) in omega arith))
    (cases_Bool (ltb largest n))

pub limited_above : (n : ℕ) → largest < n → None ≡ limited n
limited_above n h = sym (cond-true (ltb largest n) None (Some n) (lt-ltb largest n h))
