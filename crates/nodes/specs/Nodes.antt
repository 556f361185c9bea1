-- A sheet, and what each of its nodes is by its kind.
use Rattle.std.specs.Prelude.{ℕ, ◌+◌, ◌*◌, ◌/◌, ◌%◌, Bool, true, cond, ◌&&◌, List, [], ◌∷◌, map, length, take, Some, None, Option, ◌==◌, nat_le, nat_lt, slice_index_or}
use Rattle.nodes.specs.declared.node.Node.{Node}
use Rattle.nodes.specs.declared.view.View.{View}
use Rattle.nodes.specs.declared.view.View.TheVariants as V
use Rattle.nodes.specs.declared.view.Sort.{Sort}
use Rattle.nodes.specs.declared.view.Sort.TheVariants as S
use Rattle.nodes.specs.declared.view.Arrow.{Arrow}
use Rattle.nodes.specs.declared.view.Arrows.{Arrows}
use Rattle.nodes.specs.declared.view.Arrows.TheVariants.{Leaf, Two, Three}

-- a sheet: its letters, its nodes and how many variables it declares
pub record Sheet : Type 0 where
  pub letters : List ℕ
  pub nodes : List Node
  pub variables : ℕ

abbrev pub node : ℕ → ℕ → ℕ → ℕ → Node
node k a b c = record { kind = k; a = a; b = b; c = c }

abbrev pub blank : Node
blank = node 0 0 0 0

-- node i; past the end there is none, and its kind is 0
abbrev pub node_at : List Node → ℕ → Node
node_at ns i = slice_index_or ns i blank

abbrev pub view_as : ℕ → ℕ → ℕ → ℕ → View
view_as k a b c =
    cond (k == 1) (V.Declaration a b c)
    (cond (k == 2) (V.Variable a b c)
    (cond (k == 3) (V.Number (a + 65536 * b))
    (cond (k == 4) (V.Text a b)
    (cond (k == 5) (V.Plus a b)
    (cond (k == 6) (V.Conc a b)
    (cond (k == 7) (V.Assign a b)
    (cond (k == 8) (V.If a b c)
    (cond (k == 9) (V.While a b)
    (cond (k == 10) (V.Series a b)
    (cond (k == 11) V.Empty V.Unknown))))))))))

abbrev pub view_of : Node → View
view_of x = view_as x.kind x.a x.b x.c

-- the node that says this; `view_of` of it is the view again, where the fields fit
abbrev pub node_of : View → Node
node_of (V.Declaration p s k) = node 1 p s k
node_of (V.Variable p s n) = node 2 p s n
node_of (V.Number v) = node 3 (v % 65536) (v / 65536) 0
node_of (V.Text p s) = node 4 p s 0
node_of (V.Plus a b) = node 5 a b 0
node_of (V.Conc a b) = node 6 a b 0
node_of (V.Assign a b) = node 7 a b 0
node_of (V.If a b c) = node 8 a b c
node_of (V.While a b) = node 9 a b 0
node_of (V.Series a b) = node 10 a b 0
node_of V.Empty = node 11 0 0 0
node_of V.Unknown = blank

abbrev pub view_at : List Node → ℕ → View
view_at ns i = view_of (node_at ns i)

-- a node of kind k is of the sort
abbrev pub of_sort : Sort → ℕ → Bool
of_sort S.Variable k = k == 2
of_sort S.Expression k = nat_le 2 k && nat_le k 6
of_sort S.Statement k = nat_le 7 k && nat_le k 9
of_sort S.Series k = nat_le 10 k && nat_le k 11

abbrev pub arrow : Sort → ℕ → Arrow
arrow s k = record { sort = s; to = k }

abbrev pub arrows_of : View → Arrows
arrows_of (V.Declaration p s k) = Leaf
arrows_of (V.Variable p s n) = Leaf
arrows_of (V.Number v) = Leaf
arrows_of (V.Text p s) = Leaf
arrows_of (V.Plus a b) = Two (arrow S.Expression a) (arrow S.Expression b)
arrows_of (V.Conc a b) = Two (arrow S.Expression a) (arrow S.Expression b)
arrows_of (V.Assign a b) = Two (arrow S.Variable a) (arrow S.Expression b)
arrows_of (V.If a b c) = Three (arrow S.Expression a) (arrow S.Series b) (arrow S.Series c)
arrows_of (V.While a b) = Two (arrow S.Expression a) (arrow S.Series b)
arrows_of (V.Series a b) = Two (arrow S.Statement a) (arrow S.Series b)
arrows_of V.Empty = Leaf
arrows_of V.Unknown = Leaf

-- the nodes that arrows lead to
abbrev pub targets : Arrows → List ℕ
targets Leaf = []
targets (Two x y) = x.to ∷ y.to ∷ []
targets (Three x y z) = x.to ∷ y.to ∷ z.to ∷ []

-- an arrow from node i leads to a lower node of its sort
abbrev pub leads : List Node → ℕ → Arrow → Bool
leads ns i x = nat_lt x.to i && of_sort x.sort (node_at ns x.to).kind

abbrev pub all_lead : List Node → ℕ → Arrows → Bool
all_lead ns i Leaf = true
all_lead ns i (Two x y) = leads ns i x && leads ns i y
all_lead ns i (Three x y z) = leads ns i x && (leads ns i y && leads ns i z)

-- the two kinds of variables and expressions
abbrev pub integer : ℕ
integer = 1

abbrev pub string : ℕ
string = 2

-- the type of an expression; of another node 0
abbrev pub type_by : List Node → View → ℕ
type_by ns (V.Declaration p s k) = 0
type_by ns (V.Variable p s n) = (node_at ns n).c
type_by ns (V.Number v) = integer
type_by ns (V.Text p s) = string
type_by ns (V.Plus a b) = integer
type_by ns (V.Conc a b) = string
type_by ns (V.Assign a b) = 0
type_by ns (V.If a b c) = 0
type_by ns (V.While a b) = 0
type_by ns (V.Series a b) = 0
type_by ns V.Empty = 0
type_by ns V.Unknown = 0

abbrev pub type_of : List Node → ℕ → ℕ
type_of ns i = type_by ns (view_at ns i)

-- the declared types, one for each variable
abbrev pub kinds : Sheet → List ℕ
kinds sh = map (λ x. x.c) (take sh.variables sh.nodes)

-- node i, where there is one
abbrev pub node_told : Sheet → ℕ → Option Node
node_told sh i = cond (nat_lt i (length sh.nodes)) (Some (node_at sh.nodes i)) None

-- the declared type of variable i, where there is one
abbrev pub kind_told : Sheet → ℕ → Option ℕ
kind_told sh i = cond (nat_lt i sh.variables) (Some (node_at sh.nodes i).c) None
