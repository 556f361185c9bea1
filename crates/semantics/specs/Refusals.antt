-- The numbers by which the causes of a stop and the refusals of a Look are known.
use Rattle.std.specs.Prelude.{ℕ}
use Rattle.shelf.specs.Refusals as S
use Rattle.semantics.specs.declared.status.Cause.{Cause}
use Rattle.semantics.specs.declared.status.Cause.TheVariants.{SumTooLarge, TextTooLong, NoRoom, TooFewSlots}
use Rattle.semantics.specs.declared.call.LookRefusal.{LookRefusal}
use Rattle.semantics.specs.declared.call.LookRefusal.TheVariants as L

abbrev pub number_of : Cause → ℕ
number_of SumTooLarge = 70
number_of TextTooLong = 71
number_of (NoRoom e) = 72
number_of TooFewSlots = 73

-- a Look's refusal is the player's own, or the shelf's whole
abbrev pub look_number : LookRefusal → ℕ
look_number L.TooFewSlots = 73
look_number (L.Shelf e) = S.number_of e
