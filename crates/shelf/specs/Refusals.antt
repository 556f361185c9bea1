-- The numbers by which a shelf's refusals are known.
use Rattle.std.specs.Prelude.{ℕ}
use Rattle.shelf.specs.declared.refusal.Refusal.{Refusal}
use Rattle.shelf.specs.declared.refusal.Refusal.TheVariants.{WrongCount, UnknownKind, NoEntry, OtherKind, TextTooLong, NoCapacity}

abbrev pub number_of : Refusal → ℕ
number_of WrongCount = 60
number_of UnknownKind = 61
number_of NoEntry = 62
number_of OtherKind = 63
number_of TextTooLong = 64
number_of NoCapacity = 65
