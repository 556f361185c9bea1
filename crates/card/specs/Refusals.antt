-- The numbers by which refusals of a card are known.
use Rattle.std.specs.Prelude.{ℕ}
use Rattle.card.specs.declared.refusal.CardRefusal.{CardRefusal}
use Rattle.card.specs.declared.refusal.CardRefusal.TheVariants as R
use Rattle.card.specs.declared.flaw.Flaw.{Flaw}
use Rattle.card.specs.declared.flaw.Flaw.TheVariants as F
use Rattle.deck.specs.Refusals.{number_of as sheet_number}

abbrev pub number_of : CardRefusal → ℕ
number_of R.NoSizes = 30
number_of R.Sizes = 31
number_of R.Length = 32
number_of R.FewPlaces = 33
number_of R.ShortBuffer = 34

abbrev pub flaw_number : Flaw → ℕ
flaw_number (F.Card e) = number_of e
flaw_number (F.Sheet e) = sheet_number e
