-- The sheet in a deck, before and after Load.
use Rattle.std.specs.Prelude.{ℕ, List, [], ◌∷◌, take, Ok, Err, Result}
use Rattle.nodes.specs.declared.node.Node.{Node}
use Rattle.nodes.specs.Nodes.{Sheet, node}
use Rattle.deck.specs.declared.deck.Deck.{Deck}
use Rattle.deck.specs.declared.fault.Fault.{Fault}

abbrev pub sheet_of : Deck → Sheet
sheet_of d = record { letters = d.letters.items; nodes = d.nodes.items; variables = d.declared }

-- the sheet that is given to Load
abbrev pub given : List ℕ → List Node → ℕ → ℕ → Sheet
given ls ns n v = record { letters = ls; nodes = take n ns; variables = v }

-- the letter a, declared integer, and an empty series
abbrev pub blank_sheet : Sheet
blank_sheet = record { letters = 97 ∷ []; nodes = node 1 0 1 1 ∷ node 11 0 0 0 ∷ []; variables = 1 }

-- an answer, and the sheet that stands after it
abbrev pub loaded_to : Result (Unit {0}) Fault → Sheet → Sheet → Sheet
loaded_to (Ok u) new old = new
loaded_to (Err e) new old = old
