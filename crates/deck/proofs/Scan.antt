-- Judgements one after another, and the first node that is refused.
use Rattle.std.proofs.Common.{◌≡◌, ℕ, zero, suc, ◌+◌, ◌-◌, ◌<◌, ◌≤◌, Bool, true, false, Ok, Err, Result, sym, refl, ap, ◌∙◌, subst, inl, inr, add-one, arith}
use Rattle.std.proofs.lemmas.Bool.{cases_lt, cases_eq}
use Rattle.std.specs.Result.{IsErrAnd}
use Rattle.deck.specs.declared.fault.Refusal.{Refusal}
use Rattle.deck.specs.declared.fault.Fault.{Fault}
use Rattle.deck.specs.Rules.{ensured}
use Rattle.deck.specs.Load.{after, first, or_on}

pub err_not_ok : {E : Type 0} (P : Type 0) (e : E) → ◌≡◌ {A = Result (Unit {0}) E} (Err e) (Ok tt) → P
err_not_ok P e q = let z : ◌≡◌ {A = ℕ} 0 1 = cc in absurd (omega arith)

-- a rule that refuses nothing holds
pub holds : {E : Type 0} (b : Bool) (e : E) → ensured b e ≡ Ok tt → b ≡ true
holds true e q = refl
holds false e q = err_not_ok (false ≡ true) e q

-- and one that refuses does not
pub broken : {E : Type 0} (b : Bool) (e x : E) → ensured b e ≡ Err x → (b ≡ false) × (e ≡ x)
broken true e x q = let z : ◌≡◌ {A = ℕ} 0 1 = cc in absurd (omega arith)
broken false e x q = let z : e ≡ x = cc in (refl, z)

pub both : {E : Type 0} (r s : Result (Unit {0}) E) → after r s ≡ Ok tt → (r ≡ Ok tt) × (s ≡ Ok tt)
both (Ok u) s q = (refl, q)
both (Err e) s q = err_not_ok _ e q

pub joined : {E : Type 0} (r s : Result (Unit {0}) E) → r ≡ Ok tt → s ≡ Ok tt → after r s ≡ Ok tt
joined (Ok u) s p q = q
joined (Err e) s p q = err_not_ok _ e p

-- the second judgement matters only where the first refuses nothing
pub after_same : {E : Type 0} (r s t : Result (Unit {0}) E) → (r ≡ Ok tt → s ≡ t) → after r s ≡ after r t
after_same (Ok u) s t f = f refl
after_same (Err e) s t f = refl

step : (f : ℕ → Result (Unit {0}) Refusal) (n i : ℕ) → i < n → first f (n - i) i ≡ or_on (f i) i (first f (n - (i + 1)) (i + 1))
step f n i h =
    let e : n - i ≡ suc (n - (i + 1)) = omega arith in
    rw (add-one i) (ap (λ m. first f m i) (e ∙ ap (λ j. suc (n - j)) (add-one i)))

pub first_on : (f : ℕ → Result (Unit {0}) Refusal) (n i : ℕ) → i < n → Ok tt ≡ f i → first f (n - i) i ≡ first f (n - (i + 1)) (i + 1)
first_on f n i h e = step f n i h ∙ ap (λ o. or_on o i (first f (n - (i + 1)) (i + 1))) (sym e)

pub first_err : (f : ℕ → Result (Unit {0}) Refusal) (n i : ℕ) (x : Refusal) → i < n → Err x ≡ f i → first f (n - i) i ≡ Err (record { refusal = x; node = i })
first_err f n i x h e = step f n i h ∙ ap (λ o. or_on o i (first f (n - (i + 1)) (i + 1))) (sym e)

-- a refusal with its node beside it ends the judgements
pub refused_at : (f : ℕ → Result (Unit {0}) Refusal) (n i : ℕ) (r : Result (Unit {0}) Refusal) (s m : Result (Unit {0}) Fault) → i < n → r ≡ f i → IsErrAnd r (λ x. m ≡ Err (record { refusal = x; node = i })) → m ≡ after (first f (n - i) i) s
refused_at f n i (Ok u) s m h q k = absurd k
refused_at f n i (Err x) s m h q k = k ∙ sym (ap (λ t. after t s) (first_err f n i x h q))

-- where none is refused, f refuses none all along
pub on_parts : (o : Result (Unit {0}) Refusal) (i : ℕ) (r : Result (Unit {0}) Fault) → or_on o i r ≡ Ok tt → (o ≡ Ok tt) × (r ≡ Ok tt)
on_parts (Ok u) i r q = (refl, q)
on_parts (Err x) i r q = err_not_ok _ _ q

pub first_none : (f : ℕ → Result (Unit {0}) Refusal) (m i : ℕ) → first f m i ≡ Ok tt → (k : ℕ) → i ≤ k → k < i + m → f k ≡ Ok tt
first_none f zero i q k l h = absurd (omega arith)
first_none f (suc m) i q k l h =
    let p = on_parts (f i) i (first f m (suc i)) q in
    elim (cases_lt i k) [ inl g ↦ first_none f m (suc i) p.1 k g (omega arith) | inr g ↦ (let e : i ≡ k = omega arith in subst (λ j. f j ≡ Ok tt) e p.0) ]

pub none_first : (f : ℕ → Result (Unit {0}) Refusal) (m i : ℕ) → ((k : ℕ) → i ≤ k → k < i + m → f k ≡ Ok tt) → first f m i ≡ Ok tt
none_first f zero i q = refl
none_first f (suc m) i q = ap (λ o. or_on o i (first f m (suc i))) (q i (omega arith) (omega arith)) ∙ none_first f m (suc i) (λ k l h. q k (omega arith) (omega arith))

-- the first one that f refuses
pub first_at : (f : ℕ → Result (Unit {0}) Refusal) (m i j : ℕ) (x : Refusal) → i ≤ j → j < i + m → ((k : ℕ) → i ≤ k → k < j → f k ≡ Ok tt) → f j ≡ Err x → first f m i ≡ Err (record { refusal = x; node = j })
first_at f zero i j x l h q e = absurd (omega arith)
first_at f (suc m) i j x l h q e =
    elim (cases_eq i j) [
      | inl z ↦ ap (λ o. or_on o i (first f m (suc i))) (ap f z ∙ e) ∙ ap (λ n. Err (record { refusal = x; node = n })) z
      | inr n ↦ ap (λ o. or_on o i (first f m (suc i))) (q i (omega arith) (omega arith)) ∙ first_at f m (suc i) j x (omega arith) (omega arith) (λ k a b. q k (omega arith) b) e
    ]

pub first_same : (f g : ℕ → Result (Unit {0}) Refusal) (m i : ℕ) → ((k : ℕ) → i ≤ k → k < i + m → f k ≡ g k) → first f m i ≡ first g m i
first_same f g zero i e = refl
first_same f g (suc m) i e =
    ap (λ o. or_on o i (first f m (suc i))) (e i (omega arith) (omega arith))
    ∙ ap (λ r. or_on (g i) i r) (first_same f g m (suc i) (λ k l h. e k (omega arith) (omega arith)))
