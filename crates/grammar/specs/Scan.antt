-- The words of a text, one after another.
use Rattle.std.specs.Prelude.{ℕ, zero, suc, ◌-◌, List, [], ◌∷◌}
use Rattle.words.specs.declared.word.Refusal.{Refusal}
use Rattle.grammar.specs.Grammar.{Token}
use Rattle.grammar.specs.Machine.{Last, stop, bad}

-- what stands from a place on: a word, and where it ends; nothing, and where the text ends; or a fault
pub data Found : Type 0 where
  word : Token → ℕ → Found
  nothing_left : ℕ → Found
  wrong : Refusal → ℕ → Found

module _ (find : ℕ → Found) where
  abbrev pub words_by : ℕ → ℕ → List Token
  words_by zero p = []
  words_by (suc k) p = elim (find p) [ word x q ↦ x ∷ words_by k q | nothing_left z ↦ [] | wrong m z ↦ [] ]

  abbrev pub last_by : ℕ → ℕ → Last
  last_by zero p = stop p
  last_by (suc k) p = elim (find p) [ word x q ↦ last_by k q | nothing_left z ↦ stop z | wrong m z ↦ bad m z ]

-- the words of a text of n bytes from p on, and how they end
unfoldable pub words_from : (ℕ → Found) → ℕ → ℕ → List Token
words_from find n p = words_by find (suc (n - p)) p

unfoldable pub last_from : (ℕ → Found) → ℕ → ℕ → Last
last_from find n p = last_by find (suc (n - p)) p
