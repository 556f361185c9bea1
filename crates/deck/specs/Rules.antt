-- The rules of one node: its place, fields, arrows, name, types and depth.
use Rattle.std.specs.Prelude.{ℕ, zero, suc, ◌+◌, Bool, true, false, cond, not, ◌&&◌, ◌||◌, List, [], ◌∷◌, ◌++◌, length, take, drop, is_some, Some, None, Ok, Err, Option, Result, ◌==◌, nat_le, nat_lt}
use Rattle.spelling.specs.declared.Entry.{Entry}
use Rattle.spelling.specs.Table.{found}
use Rattle.words.specs.Bytes.{every, allowed}
use Rattle.words.specs.Words.{is_name, largest, longest}
use Rattle.nodes.specs.declared.node.Node.{Node}
use Rattle.nodes.specs.declared.view.View.{View}
use Rattle.nodes.specs.declared.view.View.TheVariants as V
use Rattle.nodes.specs.Limits.{deepest_level, deepest_nest}
use Rattle.nodes.specs.Nodes.{node_at, view_of, arrows_of, targets, type_of, integer, string}
use Rattle.nodes.specs.declared.binding.Binding.{Binding}

-- the first v nodes are declarations and the others are of the other kinds
abbrev pub placed : ℕ → ℕ → ℕ → Bool
placed v i k = cond (k == 1) (nat_lt i v) (nat_le 2 k && (nat_le k 11 && nat_le v i))

-- a part lies within the letters
abbrev pub inside : List ℕ → ℕ → ℕ → Bool
inside ls place size = nat_le (place + size) (length ls)

-- what it spells; nothing where it does not lie within them
abbrev pub spelled : List ℕ → ℕ → ℕ → List ℕ
spelled ls place size = cond (inside ls place size) (take size (drop place ls)) []

abbrev pub named : List ℕ → ℕ → ℕ → Bool
named ls place size = inside ls place size && is_name (spelled ls place size)

abbrev pub worded : List ℕ → ℕ → ℕ → Bool
worded ls place size = inside ls place size && (nat_le size longest && every allowed (spelled ls place size))

-- the fields of x, seen as its kind sees them; those that have no name are 0
abbrev pub formed_as : List ℕ → Node → View → Bool
formed_as ls x (V.Declaration p s k) = named ls p s && (k == integer || k == string)
formed_as ls x (V.Variable p s n) = named ls p s
formed_as ls x (V.Number v) = x.c == 0 && nat_le v largest
formed_as ls x (V.Text p s) = worded ls p s && x.c == 0
formed_as ls x (V.Plus a b) = x.c == 0
formed_as ls x (V.Conc a b) = x.c == 0
formed_as ls x (V.Assign a b) = x.c == 0
formed_as ls x (V.If a b c) = true
formed_as ls x (V.While a b) = x.c == 0
formed_as ls x (V.Series a b) = x.c == 0
formed_as ls x V.Empty = x.a == 0 && (x.b == 0 && x.c == 0)
formed_as ls x V.Unknown = x.c == 0

abbrev pub formed : List ℕ → Node → Bool
formed ls x = formed_as ls x (view_of x)

abbrev pub among : ℕ → List ℕ → Bool
among k [] = false
among k (x ∷ xs) = k == x || among k xs

-- where the arrows of a node lead
abbrev pub leading_to : Node → List ℕ
leading_to x = targets (arrows_of (view_of x))

-- some arrow of a node below i leads to node k
abbrev pub taken : List Node → ℕ → ℕ → Bool
taken ns zero k = false
taken ns (suc i) k = among k (leading_to (node_at ns i)) || taken ns i k

-- one of the nodes has an arrow already, or stands here twice
abbrev pub again : (ℕ → Bool) → List ℕ → Bool
again f [] = false
again f (k ∷ ks) = f k || (among k ks || again f ks)

-- the names that the first k nodes declare
abbrev pub entry : Node → ℕ → Entry Binding
entry x k = record { place = x.a; size = x.b; value = record { kind = x.c; number = k } }

abbrev pub names : ℕ → List Node → List (Entry Binding)
names zero ns = []
names (suc k) ns = names k ns ++ entry (node_at ns k) k ∷ []

-- what the name of a node is declared as
abbrev pub looked : List ℕ → List (Entry Binding) → Node → Option Binding
looked ls es x = found ls (spelled ls x.a x.b) es

-- a declaration's name is not among those declared
abbrev pub original : List ℕ → List (Entry Binding) → Node → Bool
original ls es x = not (x.kind == 1) || not (is_some (looked ls es x))

-- a variable's name is among those declared
abbrev pub declared : List ℕ → List (Entry Binding) → Node → Bool
declared ls es x = not (x.kind == 2) || is_some (looked ls es x)

abbrev pub same_number : ℕ → Option Binding → Bool
same_number c (Some d) = c == d.number
same_number c None = true

-- a variable's number is that of its declaration
abbrev pub numbered : List ℕ → List (Entry Binding) → Node → Bool
numbered ls es x = not (x.kind == 2) || same_number x.c (looked ls es x)

-- the types that a node asks of those that its arrows lead to
abbrev pub agree : List Node → View → Bool
agree ns (V.Declaration p s k) = true
agree ns (V.Variable p s n) = true
agree ns (V.Number v) = true
agree ns (V.Text p s) = true
agree ns (V.Plus a b) = type_of ns a == integer && type_of ns b == integer
agree ns (V.Conc a b) = type_of ns a == string && type_of ns b == string
agree ns (V.Assign a b) = type_of ns a == type_of ns b
agree ns (V.If a b c) = type_of ns a == integer
agree ns (V.While a b) = type_of ns a == integer
agree ns (V.Series a b) = true
agree ns V.Empty = true
agree ns V.Unknown = true

abbrev pub shallow : ℕ → ℕ → Bool
shallow l n = nat_le l deepest_level && nat_le n deepest_nest

-- refused, unless the rule holds
abbrev pub ensured : {E : Type 0} → Bool → E → Result (Unit {0}) E
ensured b e = cond b (Ok tt) (Err e)
