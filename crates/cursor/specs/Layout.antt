-- A tree laid out as nodes: each node directly after all that its arrows lead to.
use Rattle.std.specs.Prelude.{ℕ, ◌+◌, ◌-◌, ◌/◌, ◌%◌, List, [], ◌∷◌, ◌++◌, take, drop, Some, None, Option, slice_set}
use Rattle.spelling.specs.declared.Entry.{Entry}
use Rattle.spelling.specs.Table.{found}
use Rattle.nodes.specs.declared.node.Node.{Node}
use Rattle.nodes.specs.Nodes.{node}
use Rattle.grammar.specs.Grammar.{Part, Sort, integer, string, Tree, variable, constant, letters, plus, join, assign, choose, loop, none, more, first, also, sheet}
use Rattle.nodes.specs.declared.binding.Binding.{Binding}

-- the number of a variable that is not declared
abbrev pub undeclared : ℕ
undeclared = 65535

abbrev pub kind_of : Sort → ℕ
kind_of integer = 1
kind_of string = 2

-- how many nodes a tree has; of a sheet, its declarations and its series
abbrev pub size : Tree → ℕ
size (variable p) = 1
size (constant v) = 1
size (letters p) = 1
size (plus x y) = size x + size y + 1
size (join x y) = size x + size y + 1
size (assign p e) = size e + 2
size (choose e x y) = size e + size x + size y + 1
size (loop e x) = size e + size x + 1
size none = 1
size (more s r) = size s + size r + 1
size (first p s) = 1
size (also d p s) = size d + 1
size (sheet d a) = size d + size a

abbrev pub declaration : Part → Sort → Node
declaration p s = node 1 p.place p.size (kind_of s)

-- what the declarations declare, in a table for the search by spelling
abbrev pub entry : Part → Sort → ℕ → Entry Binding
entry p s k = record { place = p.place; size = p.size; value = record { kind = kind_of s; number = k } }

abbrev pub entries : Tree → List (Entry Binding)
entries (variable p) = []
entries (constant v) = []
entries (letters p) = []
entries (plus x y) = []
entries (join x y) = []
entries (assign p e) = []
entries (choose e x y) = []
entries (loop e x) = []
entries none = []
entries (more s r) = []
entries (first p s) = entry p s 0 ∷ []
entries (also d p s) = entries d ++ (entry p s (size d) ∷ [])
entries (sheet d a) = entries d

abbrev pub told : Option Binding → ℕ
told (Some d) = d.number
told None = undeclared

-- the number of the variable that the part p of the letters spells
abbrev pub number_in : List ℕ → List (Entry Binding) → Part → ℕ
number_in ls es p = told (found ls (take p.size (drop p.place ls)) es)

-- a number in two halves
abbrev pub halves : ℕ → Node
halves v = node 3 (v % 65536) (v / 65536) 0

-- the nodes of a tree, where n stand before them, and variables are numbered by f
abbrev pub lay : (Part → ℕ) → ℕ → Tree → List Node
lay f n (variable p) = node 2 p.place p.size (f p) ∷ []
lay f n (constant v) = halves v ∷ []
lay f n (letters p) = node 4 p.place p.size 0 ∷ []
lay f n (plus x y) = lay f n x ++ (lay f (n + size x) y ++ (node 5 (n + size x - 1) (n + size x + size y - 1) 0 ∷ []))
lay f n (join x y) = lay f n x ++ (lay f (n + size x) y ++ (node 6 (n + size x - 1) (n + size x + size y - 1) 0 ∷ []))
lay f n (assign p e) = node 2 p.place p.size (f p) ∷ (lay f (n + 1) e ++ (node 7 n (n + size e) 0 ∷ []))
lay f n (choose e x y) =
    lay f n e ++ (lay f (n + size e) x ++ (lay f (n + size e + size x) y ++ (node 8 (n + size e - 1) (n + size e + size x - 1) (n + size e + size x + size y - 1) ∷ [])))
lay f n (loop e x) = lay f n e ++ (lay f (n + size e) x ++ (node 9 (n + size e - 1) (n + size e + size x - 1) 0 ∷ []))
lay f n none = node 11 0 0 0 ∷ []
lay f n (more s r) = lay f n s ++ (lay f (n + size s) r ++ (node 10 (n + size s - 1) (n + size s + size r - 1) 0 ∷ []))
lay f n (first p s) = declaration p s ∷ []
lay f n (also d p s) = lay f n d ++ (declaration p s ∷ [])
lay f n (sheet d a) = lay f n d ++ lay f (n + size d) a

-- each element of the list into its place from i on, as far as there are places
abbrev pub write : {X : Type 0} → List X → ℕ → List X → List X
write xs i [] = xs
write xs i (b ∷ bs) = write (slice_set xs i b) (i + 1) bs
