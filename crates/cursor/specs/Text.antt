-- The words of a text as the grammar sees them, and reading on from a word.
use Rattle.std.specs.Prelude.{ℕ, ◌+◌, ◌-◌, List, length, Ok, Err, Result}
use Rattle.words.specs.declared.word.Token.{Token}
use Rattle.words.specs.declared.word.Fault.{Fault}
use Rattle.words.specs.Words.{Lex, Scanned, meant, after}
use Rattle.words.specs.Words as L
use Rattle.grammar.specs.Grammar.{fixed, name, number, text}
use Rattle.grammar.specs.Machine.{Answer, fault, Last, State, stop, whole_of, feed, place, refused, ended, run, reading, go, no}
use Rattle.grammar.specs.Scan.{Found, word, nothing_left, wrong, words_from, last_from}
use Rattle.grammar.specs.Grammar as G

abbrev pub seen_as : Lex → ℕ → ℕ → Found
seen_as (L.name w) p q = word (name (record { place = p; size = q - p })) q
seen_as (L.number w v) p q = word (number v p) q
seen_as (L.text w) p q = word (text (record { place = p + 1; size = q - p - 2 })) q
seen_as (L.fixed w) p q = word (fixed w p) q
seen_as L.end p q = nothing_left p

abbrev pub seen : Scanned → Found
seen (Ok s) = seen_as s.lex s.place s.next
seen (Err f) = wrong f.refusal f.place

-- what stands in t from p on
abbrev pub found : List ℕ → ℕ → Found
found t p = seen (after t p)

-- a word that was handed out
abbrev pub token : Token → Found
token w = seen_as (meant w.word) w.place w.next

abbrev pub outcome : Result Token Fault → Found
outcome (Ok w) = token w
outcome (Err f) = wrong f.refusal f.place

-- the words of a text, and how they end
abbrev pub words_of : List ℕ → List G.Token
words_of t = words_from (found t) (length t) 0

abbrev pub last_of : List ℕ → Last
last_of t = last_from (found t) (length t) 0

-- what the words of a text say
abbrev pub parsed : List ℕ → Answer
parsed t = reading (words_of t) (last_of t)

-- reading goes on in the state s from p on; with the word f already in hand
abbrev pub from : List ℕ → State → ℕ → Answer
from t s p = run s (words_from (found t) (length t) p) (last_from (found t) (length t) p)

abbrev pub at : List ℕ → State → Found → Answer
at t s (word x q) = elim (feed s x) [ go y ↦ from t y q | no ↦ refused (whole_of s) (place x) ]
at t s (nothing_left z) = ended (whole_of s) (stop z)
at t s (wrong m z) = fault m z
