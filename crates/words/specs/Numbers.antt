-- The numbers by which refusals of a text are known.
use Rattle.std.specs.Prelude.{ℕ}
use Rattle.words.specs.declared.word.Refusal.{Refusal}
use Rattle.words.specs.declared.word.Refusal.TheVariants as R

abbrev pub number_of : Refusal → ℕ
number_of R.LongSheet = 10
number_of R.NoWord = 11
number_of R.Unclosed = 12
number_of R.NotAllowed = 13
number_of R.LongText = 14
number_of R.LargeNumber = 15
number_of R.Unexpected = 20
number_of R.EndsEarly = 21
number_of R.AfterEnd = 22
number_of R.ManyNodes = 23
