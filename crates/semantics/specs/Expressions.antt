-- What an expression is worth, without limits and with them.
use Rattle.std.specs.Prelude.{◌≡◌, ◌+◌, true, cond, ◌⊎◌, List, ◌++◌, Ok, Err, Result, slice_index_or}
use Rattle.shelf.specs.Value.{Value, number, text, num_of, bytes_of, over}
use Rattle.semantics.specs.declared.status.Cause.{Cause}
use Rattle.semantics.specs.declared.status.Cause.TheVariants.{SumTooLarge, TextTooLong}
use Rattle.semantics.specs.Syntax.{Expr, var, num, str, plus, conc}

-- where nothing has a largest
abbrev pub ideal : List Value → Expr → Value
ideal vs (var i) = slice_index_or vs i (number 0)
ideal vs (num n) = number n
ideal vs (str t) = text t
ideal vs (plus x y) = number (num_of (ideal vs x) + num_of (ideal vs y))
ideal vs (conc x y) = text (bytes_of (ideal vs x) ++ bytes_of (ideal vs y))

-- p is a part of the expression
abbrev pub Part : Expr → Expr → Type 0
Part p (var i) = p ≡ var i
Part p (num n) = p ≡ num n
Part p (str t) = p ≡ str t
Part p (plus x y) = (p ≡ plus x y) ⊎ (Part p x ⊎ Part p y)
Part p (conc x y) = (p ≡ conc x y) ⊎ (Part p x ⊎ Part p y)

-- some sum or text in the expression would pass its limit
abbrev pub Passes : List Value → Expr → Type 0
Passes vs e = (p : Expr) × Part p e × (over (ideal vs p) ≡ true)

abbrev pub reason : Value → Cause
reason (number n) = SumTooLarge
reason (text t) = TextTooLong

-- a value, or why it passes its limit
abbrev pub within : Value → Result Value Cause
within v = cond (over v) (Err (reason v)) (Ok v)

abbrev pub added : Result Value Cause → Result Value Cause → Result Value Cause
added (Ok u) (Ok v) = within (number (num_of u + num_of v))
added (Ok u) (Err c) = Err c
added (Err c) r = Err c

abbrev pub joined : Result Value Cause → Result Value Cause → Result Value Cause
joined (Ok u) (Ok v) = within (text (bytes_of u ++ bytes_of v))
joined (Ok u) (Err c) = Err c
joined (Err c) r = Err c

-- with limits: a sum adds, a join appends, and the first that passes its limit stops
abbrev pub value : List Value → Expr → Result Value Cause
value vs (var i) = Ok (slice_index_or vs i (number 0))
value vs (num n) = Ok (number n)
value vs (str t) = Ok (text t)
value vs (plus x y) = added (value vs x) (value vs y)
value vs (conc x y) = joined (value vs x) (value vs y)
