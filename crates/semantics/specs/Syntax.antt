-- The expressions and statements of a sheet, from the trees of its nodes.
use Rattle.std.specs.Prelude.{ℕ, List, take, drop}
use Rattle.nodes.specs.Nodes.{Sheet, node_at, view_at}
use Rattle.nodes.specs.declared.view.View.{View}
use Rattle.nodes.specs.declared.view.View.TheVariants as V
use Rattle.nodes.specs.Trees as T

-- a variable by its number, a text constant by its bytes
pub data Expr : Type 0 where
  var : ℕ → Expr
  num : ℕ → Expr
  str : List ℕ → Expr
  plus : Expr → Expr → Expr
  conc : Expr → Expr → Expr

-- a tree that is no expression counts as 0
abbrev pub expr_of : List ℕ → T.Tree → Expr
expr_of ls T.none = num 0
expr_of ls (T.var n) = var n
expr_of ls (T.num v) = num v
expr_of ls (T.str p s) = str (take s (drop p ls))
expr_of ls (T.plus x y) = plus (expr_of ls x) (expr_of ls y)
expr_of ls (T.conc x y) = conc (expr_of ls x) (expr_of ls y)
expr_of ls (T.assign x y) = num 0
expr_of ls (T.if_else x y z) = num 0
expr_of ls (T.while_do x y) = num 0
expr_of ls (T.series x y) = num 0
expr_of ls T.empty = num 0

-- the expression that node i begins
abbrev pub expression : Sheet → ℕ → Expr
expression sh i = expr_of sh.letters (T.tree sh.nodes i)

-- a variable is assigned by its number; series are named by their nodes; `skip` is a node that is no statement
pub data Statement : Type 0 where
  assign : ℕ → Expr → Statement
  if_else : Expr → ℕ → ℕ → Statement
  while_do : Expr → ℕ → Statement
  skip : Statement

-- the expression of the statement itself
abbrev pub own : Statement → Expr
own (assign n e) = e
own (if_else e p q) = e
own (while_do e p) = e
own skip = num 0

abbrev pub stated : Sheet → View → Statement
stated sh (V.Assign a b) = assign (node_at sh.nodes a).c (expression sh b)
stated sh (V.If a b c) = if_else (expression sh a) b c
stated sh (V.While a b) = while_do (expression sh a) b
stated sh (V.Declaration p s k) = skip
stated sh (V.Variable p s n) = skip
stated sh (V.Number v) = skip
stated sh (V.Text p s) = skip
stated sh (V.Plus a b) = skip
stated sh (V.Conc a b) = skip
stated sh (V.Series a b) = skip
stated sh V.Empty = skip
stated sh V.Unknown = skip

-- the statement at node i
abbrev pub statement : Sheet → ℕ → Statement
statement sh i = stated sh (view_at sh.nodes i)
