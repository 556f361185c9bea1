-- What the evaluator answers, and what it leaves in its line.
use Rattle.std.specs.Prelude.{◌≡◌, ℕ, ◌+◌, ◌≤◌, cond, List, ◌++◌, length, take, Some, None, Ok, Err, Option, Result, ◌==◌, nat_le, nat_lt, slice_set}
use Rattle.shelf.specs.Limits.{longest, largest}
use Rattle.shelf.specs.Value.{Value, number, text, num_of, bytes_of}
use Rattle.shelf.specs.declared.refusal.Refusal.{Refusal}
use Rattle.shelf.specs.declared.refusal.Refusal.TheVariants.{NoCapacity}
use Rattle.semantics.specs.declared.status.Cause.{Cause}
use Rattle.semantics.specs.declared.status.Cause.TheVariants.{SumTooLarge, TextTooLong}
use Rattle.semantics.specs.declared.call.Outcome.{Outcome}
use Rattle.semantics.specs.declared.call.Outcome.TheVariants.{Number, Text}
use Rattle.semantics.specs.Semantics.{crowded}
use Rattle.semantics.specs.Calls.{after}

-- the value that an outcome and its line stand for
abbrev pub meant : Outcome → List ℕ → Value
meant (Number x) line = number x
meant (Text n) line = text (take n line)

-- an expression's value, a text in the line
abbrev pub Computed : Result Value Cause → Result Outcome Cause → List ℕ → Type 0
Computed (Ok (number n)) r line = r ≡ Ok (Number n)
Computed (Ok (text t)) r line = (r ≡ Ok (Text (length t))) × (length t ≤ longest) × (take (length t) line ≡ t)
Computed (Err c) r line = r ≡ Err c

-- an expression's value as a number
abbrev pub numbered : Result Value Cause → Result ℕ Cause
numbered (Ok u) = Ok (num_of u)
numbered (Err c) = Err c

-- a sum, if it is a number
abbrev pub limited : ℕ → Result ℕ Cause
limited n = cond (nat_lt largest n) (Err SumTooLarge) (Ok n)

-- where a text that begins at the place at ends, if the line is long enough
abbrev pub ending : ℕ → ℕ → Option ℕ
ending at n = cond (nat_le (at + n) longest) (Some (at + n)) None

pub record Appended (before after : List ℕ) (at : ℕ) (t : List ℕ) (r : Option ℕ) : Type 0 where
  pub says : r ≡ ending at (length t)
  pub line : at + length t ≤ longest → take (at + length t) after ≡ take at before ++ t

-- an expression's value as a text, appended
abbrev pub Spelled : Result Value Cause → List ℕ → List ℕ → ℕ → Option ℕ → Type 0
Spelled (Ok u) before after at r = Appended before after at (bytes_of u) r × (length (bytes_of u) ≤ longest)
Spelled (Err c) before after at r = (r ≡ None) × (c ≡ TextTooLong)

abbrev pub spelling : Option ℕ → Result Outcome Cause
spelling (Some n) = Ok (Text n)
spelling None = Err TextTooLong

-- the series that an if goes on with
abbrev pub branch_of : ℕ → ℕ → ℕ → ℕ
branch_of x p q = cond (x == 0) q p

-- a value is put at n, unless all texts together would pass the capacity
abbrev pub store_answer : ℕ → List Value → ℕ → Value → Result (Unit {0}) Refusal
store_answer R vs n w = cond (crowded R vs n w) (Err NoCapacity) (Ok tt)

abbrev pub stored : ℕ → List Value → ℕ → Value → List Value
stored R vs n w = cond (crowded R vs n w) vs (slice_set vs n w)
