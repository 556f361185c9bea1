-- What a shelf holds: numbers and texts.
use Rattle.std.specs.Prelude.{ℕ, ◌+◌, Bool, List, [], ◌∷◌, length, nat_lt}
use Rattle.shelf.specs.Limits.{longest, largest}

pub data Value : Type 0 where
  number : ℕ → Value
  text : List ℕ → Value

-- 1 for a number, 2 for a text
abbrev pub kind_of : Value → ℕ
kind_of (number n) = 1
kind_of (text t) = 2

abbrev pub num_of : Value → ℕ
num_of (number n) = n
num_of (text t) = 0

abbrev pub bytes_of : Value → List ℕ
bytes_of (number n) = []
bytes_of (text t) = t

-- the bytes of all texts together
abbrev pub total : List Value → ℕ
total [] = 0
total (v ∷ vs) = length (bytes_of v) + total vs

-- whether a number or a text passes its limit
abbrev pub over : Value → Bool
over (number n) = nat_lt largest n
over (text t) = nat_lt longest (length t)
