-- The numbers by which refusals of a sheet are known.
use Rattle.std.specs.Prelude.{ℕ}
use Rattle.deck.specs.declared.fault.Refusal.{Refusal}
use Rattle.deck.specs.declared.fault.Refusal.TheVariants as R

abbrev pub number_of : Refusal → ℕ
number_of R.Sizes = 40
number_of R.Misplaced = 41
number_of R.Malformed = 42
number_of R.Astray = 43
number_of R.SecondArrow = 44
number_of R.Redeclared = 45
number_of R.Undeclared = 46
number_of R.Misnumbered = 47
number_of R.Disagreeing = 48
number_of R.TooDeep = 49
number_of R.NotOneTree = 50
