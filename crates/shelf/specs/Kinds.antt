-- The kinds of variables, and the numbers by which they are known.
use Rattle.std.specs.Prelude.{ℕ, List, cond, length, Ok, Err, Result, ◌==◌, nat_lt, slice_index_or}
use Rattle.shelf.specs.declared.kind.Kind.{Kind}
use Rattle.shelf.specs.declared.kind.Kind.TheVariants.{Number, Text}
use Rattle.shelf.specs.declared.refusal.Refusal.{Refusal}
use Rattle.shelf.specs.declared.refusal.Refusal.TheVariants.{UnknownKind, NoEntry}
use Rattle.shelf.specs.Value.{Value, number, text}

-- the number of a kind
abbrev pub code_of : Kind → ℕ
code_of Number = 1
code_of Text = 2

-- the kind with this number
abbrev pub kind_from : ℕ → Result Kind Refusal
kind_from n = cond (n == 1) (Ok Number) (cond (n == 2) (Ok Text) (Err UnknownKind))

-- the kind of a value
abbrev pub kind_held : Value → Kind
kind_held (number n) = Number
kind_held (text t) = Text

-- the kind of the entry at i
abbrev pub kind_at : ℕ → List Value → Result Kind Refusal
kind_at i vs = cond (nat_lt i (length vs)) (Ok (kind_held (slice_index_or vs i (number 0)))) (Err NoEntry)

-- the answer, with the kind's number in its place
abbrev pub kind_number : Result Kind Refusal → Result ℕ Refusal
kind_number (Ok k) = Ok (code_of k)
kind_number (Err e) = Err e
