-- Totals and limits of a list of values.
use Rattle.std.proofs.Common.{◌≡◌, ℕ, zero, suc, ◌+◌, ◌*◌, ◌<◌, ◌≤◌, false, cond, List, [], ◌∷◌, Ok, Err, length, get_or, set, refl, ap, ◌∙◌, mul-suc, arith, lt-ltb, ltb-false}
use Rattle.shelf.specs.declared.refusal.Refusal.TheVariants.{NoEntry}
use Rattle.shelf.specs.Limits.{longest}
use Rattle.shelf.specs.Value.{Value, number, text, bytes_of, total, over}
use Rattle.shelf.specs.Calls.{held_told}

pub total_set : (vs : List Value) (i : ℕ) (v d : Value) → i < length vs → total (set vs i v) + length (bytes_of (get_or vs i d)) ≡ total vs + length (bytes_of v)
total_set [] i v d h = absurd (omega arith)
total_set (x ∷ vs) zero v d h = omega arith
total_set (x ∷ vs) (suc i) v d h = let r = total_set vs i v d (omega arith) in omega arith

-- no value passes its limit
abbrev pub Bounded : List Value → Type 0
Bounded vs = (i : ℕ) → over (get_or vs i (number 0)) ≡ false

pub bounded_set : (vs : List Value) (i : ℕ) (v : Value) → Bounded vs → over v ≡ false → Bounded (set vs i v)
bounded_set [] i v b h k = refl
bounded_set (x ∷ vs) zero v b h zero = h
bounded_set (x ∷ vs) zero v b h (suc k) = b (suc k)
bounded_set (x ∷ vs) (suc i) v b h zero = b zero
bounded_set (x ∷ vs) (suc i) v b h (suc k) = bounded_set vs i v (λ j. b (suc j)) h k

pub short_bytes : (v : Value) → over v ≡ false → length (bytes_of v) ≤ longest
short_bytes (number n) h = omega arith
short_bytes (text t) h = omega (arith, ltb-false longest (length t) h)

-- where no text is too long, all together are at most so many times the longest
pub total_bounded : (vs : List Value) → Bounded vs → total vs ≤ longest * length vs
total_bounded [] b = omega arith
total_bounded (v ∷ vs) b =
    let h = short_bytes v (b zero) in
    let r = total_bounded vs (λ i. b (suc i)) in
    omega (arith, mul-suc longest (length vs))

-- what is told of an entry that is there
pub told : (vs : List Value) (i : ℕ) (v : Value) → i < length vs → get_or vs i (number 0) ≡ v → held_told i vs ≡ Ok v
told vs i v h e = ap (λ b. cond b (Ok (get_or vs i (number 0))) (Err NoEntry)) (lt-ltb i (length vs) h) ∙ ap Ok e
