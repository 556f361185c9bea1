-- A shelf opened with the kinds that a sheet declares: there are some, each known, so that only the slots are left to ask.
use Rattle.std.specs.Prelude.{ℕ, Bool, cond, List, map, length, Ok, Err, Result, nat_le}
use Rattle.nodes.specs.Nodes.{Sheet, kinds}
use Rattle.shelf.specs.Value.{Value}
use Rattle.shelf.specs.Calls.{fresh}
use Rattle.shelf.specs.declared.refusal.Refusal.{Refusal}
use Rattle.shelf.specs.declared.refusal.Refusal.TheVariants.{WrongCount}

-- whether S slots are enough for the variables
abbrev pub enough_slots : ℕ → Sheet → Bool
enough_slots S sh = nat_le (length (kinds sh)) S

abbrev pub open_answer : ℕ → Sheet → Result (Unit {0}) Refusal
open_answer S sh = cond (enough_slots S sh) (Ok tt) (Err WrongCount)

abbrev pub opened : ℕ → Sheet → List Value → List Value
opened S sh vs = cond (enough_slots S sh) (map fresh (kinds sh)) vs
