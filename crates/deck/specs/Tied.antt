-- How the rows of a judgement are tied to the nodes.
use Rattle.std.specs.Prelude.{◌≡◌, ℕ, ◌<◌, true, false, List, [], ◌∷◌, length, Some, None, Ok, Err, Option, Result, slice_index_or, slice_set}
use Rattle.nodes.specs.declared.node.Node.{Node}
use Rattle.nodes.specs.Trees.{tree, level, nest}
use Rattle.deck.specs.declared.fault.Fault.{Fault}
use Rattle.deck.specs.declared.fault.Refusal.TheVariants as R
use Rattle.deck.specs.declared.row.Row.{Row}
use Rattle.deck.specs.Rules.{taken as taken_by}

abbrev pub blank_row : Row
blank_row = record { level = 0; nest = 0; taken = false }

-- row k, a blank one past the end
abbrev pub row_at : List Row → ℕ → Row
row_at rs k = slice_index_or rs k blank_row

-- a row for each of the first nodes
pub record Tied (ns : List Node) (rs : List Row) : Type 0 where
  pub level_is : (k : ℕ) → k < length rs → (row_at rs k).level ≡ level (tree ns k)
  pub nest_is : (k : ℕ) → k < length rs → (row_at rs k).nest ≡ nest (tree ns k)
  pub taken_is : (k : ℕ) → (row_at rs k).taken ≡ taken_by ns (length rs) k

abbrev pub taken_row : Row → Row
taken_row r = record { level = r.level; nest = r.nest; taken = true }

-- the rows with more nodes taken
abbrev pub marked : List Row → List ℕ → List Row
marked rs [] = rs
marked rs (k ∷ ks) = marked (slice_set rs k (taken_row (row_at rs k))) ks

-- the answer where a node is found that no arrow leads to, or none
abbrev pub loose : Option ℕ → Result (Unit {0}) Fault
loose (Some k) = Err (record { refusal = R.NotOneTree; node = k })
loose None = Ok tt
