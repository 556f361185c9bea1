-- How the word in hand begins a statement.
use Rattle.std.specs.Prelude.{cond, Some, None, Option}
use Rattle.words.specs.declared.word.Fixed.TheVariants as F
use Rattle.grammar.specs.Grammar.{fixed, name, number, text}
use Rattle.grammar.specs.Machine.{same}
use Rattle.grammar.specs.Scan.{Found, word, nothing_left, wrong}
use Rattle.cursor.specs.declared.start.Start.{Start}
use Rattle.cursor.specs.declared.start.Start.TheVariants as S

-- what the word in hand begins
abbrev pub start_of : Found → Option Start
start_of (word (fixed v p) q) = cond (same v F.If) (Some S.Choice) (cond (same v F.While) (Some S.Repeat) None)
start_of (word (name n) q) = Some S.Assignment
start_of (word (number v p) q) = None
start_of (word (text n) q) = None
start_of (nothing_left z) = None
start_of (wrong m z) = None
