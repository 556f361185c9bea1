-- What a shelf does with a value that is put on it.
use Rattle.std.proofs.Common.{◌≡◌, ℕ, Bool, true, false, cond, List, length, set, Ok, Err, Result, sym, refl, ap, ◌∙◌, ⊎_elim, arith}
use Rattle.std.proofs.lemmas.List.{set_past}
use Rattle.std.proofs.lemmas.Bool.{lt-ltb, le-ltb, cases_lt}
use Rattle.shelf.specs.Calls.{after as kept}
use Rattle.shelf.specs.Value.{Value, number}
use Rattle.shelf.specs.Calls.{number_put}
use Rattle.shelf.specs.declared.refusal.Refusal.{Refusal}
use Rattle.shelf.specs.declared.refusal.Refusal.TheVariants.{NoCapacity, NoEntry}
use Rattle.semantics.specs.Semantics.{crowded}
use Rattle.player.specs.Evaluation.{store_answer}

-- a number is put, or the shelf has no such entry
pub number_stored : (vs : List Value) (n x : ℕ) → number_put n x vs ≡ set vs n (number x)
number_stored vs n x = ⊎_elim (λ h. ap (λ b. kept_by b) (lt-ltb n (length vs) h)) (λ h. ap (λ b. kept_by b) (le-ltb n (length vs) h) ∙ sym (set_past vs n (number x) h)) (cases_lt n (length vs))
  where
    kept_by : Bool → List Value
    kept_by b = kept (cond {A = Result (Unit {0}) Refusal} b (Ok tt) (Err NoEntry)) (set vs n (number x)) vs

-- what the answer says of the texts
pub answer_ok : (R : ℕ) (vs : List Value) (n : ℕ) (w : Value) (u : Unit {0}) → Ok u ≡ store_answer R vs n w → crowded R vs n w ≡ false
answer_ok R vs n w u = by (crowded R vs n w)
  where
    by : (b : Bool) → Ok u ≡ cond {A = Result (Unit {0}) Refusal} b (Err NoCapacity) (Ok tt) → b ≡ false
    by true e = let z : ◌≡◌ {A = ℕ} 0 1 = cc in absurd (omega arith)
    by false e = refl

pub answer_err : (R : ℕ) (vs : List Value) (n : ℕ) (w : Value) (why : Refusal) → Err why ≡ store_answer R vs n w → (crowded R vs n w ≡ true) × (why ≡ NoCapacity)
answer_err R vs n w why = by (crowded R vs n w)
  where
    by : (b : Bool) → Err why ≡ cond {A = Result (Unit {0}) Refusal} b (Err NoCapacity) (Ok tt) → (b ≡ true) × (why ≡ NoCapacity)
    by true e = (refl, cc)
    by false e = let z : ◌≡◌ {A = ℕ} 0 1 = cc in absurd (omega arith)
