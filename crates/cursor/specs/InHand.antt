-- The word in hand: which one it is, what stands behind it, and the node that it stands for.
use Rattle.std.specs.Prelude.{◌≡◌, ℕ, Bool, true, false, cond, List, Some, None, Option}
use Rattle.words.specs.declared.word.Fixed.{Fixed}
use Rattle.words.specs.declared.word.Fixed.TheVariants as F
use Rattle.words.specs.declared.word.Refusal.TheVariants as R
use Rattle.nodes.specs.declared.node.Node.{Node}
use Rattle.nodes.specs.declared.view.View.{View}
use Rattle.nodes.specs.declared.view.View.TheVariants as V
use Rattle.nodes.specs.Nodes.{node}
use Rattle.cursor.specs.declared.leaf.Joint.{Joint}
use Rattle.cursor.specs.declared.leaf.Joint.TheVariants as J
use Rattle.grammar.specs.Grammar.{Part, fixed, name, number, text, Tree}
use Rattle.grammar.specs.Machine.{same, State, no, not, when, on_fixed, on_name, on_leaf, whole_of, place}
use Rattle.grammar.specs.Scan.{Found, word, nothing_left, wrong}
use Rattle.cursor.specs.Text.{found}
use Rattle.cursor.specs.Layout.{halves}

-- the word in hand is the fixed word w
abbrev pub is_word : Fixed → Found → Bool
is_word w (word (fixed v p) q) = same v w
is_word w (word (name n) q) = false
is_word w (word (number v p) q) = false
is_word w (word (text n) q) = false
is_word w (nothing_left z) = false
is_word w (wrong m z) = false

-- refused at the word in hand
abbrev pub unexpected : Found → Found
unexpected (word x q) = wrong R.Unexpected (place x)
unexpected (nothing_left z) = wrong R.EndsEarly z
unexpected (wrong m z) = wrong m z

-- what stands behind the word in hand
abbrev pub behind : List ℕ → Found → Found
behind t (word x q) = found t q
behind t (nothing_left z) = nothing_left z
behind t (wrong m z) = wrong m z

-- what stands behind the word w, which has to be the one in hand
abbrev pub expected : List ℕ → Fixed → Found → Found
expected t w f = elim (is_word w f) [ true ↦ behind t f | false ↦ unexpected f ]

-- the node of a name, a number or a text constant
abbrev pub leaf_of : (Part → ℕ) → Found → Option Node
leaf_of f (word (fixed v p) q) = None
leaf_of f (word (name n) q) = Some (node 2 n.place n.size (f n))
leaf_of f (word (number v p) q) = Some (halves v)
leaf_of f (word (text n) q) = Some (node 4 n.place n.size 0)
leaf_of f (nothing_left z) = None
leaf_of f (wrong m z) = None

-- how the word in hand joins two terms
abbrev pub joint_of : Found → Option Joint
joint_of f = cond (is_word F.Plus f) (Some J.Sum) (cond (is_word F.Join f) (Some J.Chain) None)

-- what is said of the two terms whose nodes are l and r
abbrev pub joined : Joint → ℕ → ℕ → View
joined J.Sum l r = V.Plus l r
joined J.Chain l r = V.Conc l r

-- the only word that s allows is w, and it leads to x
pub record Only (w : Fixed) (s x : State) : Type 0 where
  pub word_is : (v : Fixed) → on_fixed s v ≡ when (same v w) x
  pub named : (n : Part) → on_name s n ≡ no
  pub leaf : (e : Tree) → on_leaf s e ≡ no
  pub more_to_come : whole_of s ≡ not
