-- The tree of a node, and its level and nest.
use Rattle.std.specs.Prelude.{ℕ, zero, suc, ◌+◌, max, cond, List, nat_lt}
use Rattle.nodes.specs.declared.node.Node.{Node}
use Rattle.nodes.specs.declared.view.View.{View}
use Rattle.nodes.specs.declared.view.View.TheVariants as V
use Rattle.nodes.specs.Nodes.{view_at}

-- `none` where there is no tree; a variable by its number, a text constant by its part of the letters
pub data Tree : Type 0 where
  none : Tree
  var : ℕ → Tree
  num : ℕ → Tree
  str : ℕ → ℕ → Tree
  plus : Tree → Tree → Tree
  conc : Tree → Tree → Tree
  assign : Tree → Tree → Tree
  if_else : Tree → Tree → Tree → Tree
  while_do : Tree → Tree → Tree
  series : Tree → Tree → Tree
  empty : Tree

-- the tree of a node, from the trees of the nodes that its arrows lead to
abbrev pub build : (ℕ → Tree) → View → Tree
build f (V.Declaration p s k) = none
build f (V.Variable p s n) = var n
build f (V.Number v) = num v
build f (V.Text p s) = str p s
build f (V.Plus a b) = plus (f a) (f b)
build f (V.Conc a b) = conc (f a) (f b)
build f (V.Assign a b) = assign (f a) (f b)
build f (V.If a b c) = if_else (f a) (f b) (f c)
build f (V.While a b) = while_do (f a) (f b)
build f (V.Series a b) = series (f a) (f b)
build f V.Empty = empty
build f V.Unknown = none

-- the tree at node i, where n nodes may be passed on the way down; an arrow to no lower node has no tree
unfoldable pub decode : ℕ → List Node → ℕ → Tree
decode zero ns i = none
decode (suc n) ns i = build (λ a. cond (nat_lt a i) (decode n ns a) none) (view_at ns i)

abbrev pub tree : List Node → ℕ → Tree
tree ns i = decode (suc i) ns i

-- the level of an expression; of another tree 0
abbrev pub level : Tree → ℕ
level none = 0
level (var n) = 1
level (num v) = 1
level (str p s) = 1
level (plus x y) = 1 + max (level x) (level y)
level (conc x y) = 1 + max (level x) (level y)
level (assign x y) = 0
level (if_else x y z) = 0
level (while_do x y) = 0
level (series x y) = 0
level empty = 0

-- the nest of a statement or a series; of another tree 0
abbrev pub nest : Tree → ℕ
nest none = 0
nest (var n) = 0
nest (num v) = 0
nest (str p s) = 0
nest (plus x y) = 0
nest (conc x y) = 0
nest (assign x y) = 0
nest (if_else x y z) = 1 + max (nest y) (nest z)
nest (while_do x y) = 1 + nest y
nest (series x y) = max (nest x) (nest y)
nest empty = 0

-- the same from those of the nodes that a node's arrows lead to
abbrev pub level_by : (ℕ → ℕ) → View → ℕ
level_by f (V.Declaration p s k) = 0
level_by f (V.Variable p s n) = 1
level_by f (V.Number v) = 1
level_by f (V.Text p s) = 1
level_by f (V.Plus a b) = 1 + max (f a) (f b)
level_by f (V.Conc a b) = 1 + max (f a) (f b)
level_by f (V.Assign a b) = 0
level_by f (V.If a b c) = 0
level_by f (V.While a b) = 0
level_by f (V.Series a b) = 0
level_by f V.Empty = 0
level_by f V.Unknown = 0

abbrev pub nest_by : (ℕ → ℕ) → View → ℕ
nest_by f (V.Declaration p s k) = 0
nest_by f (V.Variable p s n) = 0
nest_by f (V.Number v) = 0
nest_by f (V.Text p s) = 0
nest_by f (V.Plus a b) = 0
nest_by f (V.Conc a b) = 0
nest_by f (V.Assign a b) = 0
nest_by f (V.If a b c) = 1 + max (f b) (f c)
nest_by f (V.While a b) = 1 + f b
nest_by f (V.Series a b) = max (f a) (f b)
nest_by f V.Empty = 0
nest_by f V.Unknown = 0
