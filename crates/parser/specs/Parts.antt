-- What each part of the parser answers and writes.
use Rattle.std.specs.Prelude.{◌≡◌, ℕ, ◌+◌, ◌-◌, ◌*◌, ◌<◌, ◌≤◌, cond, List, [], ◌∷◌, ◌++◌, length, take, Ok, Err, Result, nat_lt}
use Rattle.words.specs.declared.word.Fault.{Fault}
use Rattle.spelling.specs.declared.Entry.{Entry}
use Rattle.nodes.specs.declared.node.Node.{Node}
use Rattle.nodes.specs.declared.kind.Kind.{Kind}
use Rattle.nodes.specs.declared.binding.Binding.{Binding}
use Rattle.nodes.specs.Kinds.{kind_number}
use Rattle.nodes.specs.Limits.{most_nodes}
use Rattle.grammar.specs.Grammar.{Part, Sort, Tree}
use Rattle.grammar.specs.Machine.{State, fault, Given, declare, naming, sorting, declared, series, whole}
use Rattle.cursor.specs.declared.cursor.Cursor.{Cursor}
use Rattle.cursor.specs.Reading.{numbers, says, SameSheet}
use Rattle.cursor.specs.Layout.{kind_of, declaration, entry, entries, size, lay, write}

-- Reading a part of a sheet, from the cursor a to the cursor b, with n nodes in xs. Accepted: it says a tree, laid out behind those nodes; whatever
-- stands around, reading goes on from b as if that tree had been read. Or, whatever stands around, reading is refused.
pub record Reads {C : Type 0} (before : C → State) (after : C → Tree → State) (n : ℕ) (xs ys : List Node) (a b : Cursor) : Type 0 where
  pub tree : Tree
  pub count : b.count ≡ n + size tree
  pub nodes : ys ≡ write xs n (lay (numbers a) n tree)
  pub goes_on : (c : C) → says (before c) a ≡ says (after c tree) b

abbrev pub ReadAs : {C : Type 0} → (C → State) → (C → Tree → State) → ℕ → List Node → List Node → Result (Unit {0}) Fault → Cursor → Cursor → Type 0
ReadAs before after n xs ys (Ok u) a b = Reads before after n xs ys a b
ReadAs {C} before after n xs ys (Err e) a b = (c : C) → says (before c) a ≡ fault e.refusal e.place

-- the count of nodes, and the bytes left, keep it within 16 bits
abbrev pub Room : Cursor → Type 0
Room a = a.count + (length a.text.now - a.token.place) ≤ 60000

-- reading moves on from a to b, with a node or more, and no more nodes than bytes
abbrev pub MovesOn : Cursor → Cursor → Type 0
MovesOn a b = SameSheet a b × (a.token.place + 1 ≤ b.token.place) × (a.count < b.count) × (b.count + a.token.place ≤ a.count + b.token.place)

-- past what follows a term
abbrev pub PastMore : Cursor → Cursor → Type 0
PastMore a b = SameSheet a b × (a.token.place ≤ b.token.place) × (a.count ≤ b.count) × (b.count + a.token.place ≤ a.count + b.token.place)

-- the same as `Room`, for statements and series, which may have two nodes to a byte
abbrev pub Space : Cursor → Type 0
Space a = a.count + 2 * (length a.text.now - a.token.place) ≤ 50000

abbrev pub PastStatement : Cursor → Cursor → Type 0
PastStatement a b = SameSheet a b × (a.token.place + 1 ≤ b.token.place) × (a.count < b.count) × (b.count + 2 * a.token.place + 2 ≤ a.count + 2 * b.token.place)

-- past a test, or a series, and the word behind it
abbrev pub PastTest : Cursor → Cursor → Type 0
PastTest a b = SameSheet a b × (a.token.place + 1 ≤ b.token.place) × (a.count < b.count) × (b.count + a.token.place + 1 ≤ a.count + b.token.place)

abbrev pub PastBlock : Cursor → Cursor → Type 0
PastBlock a b = SameSheet a b × (a.token.place + 1 ≤ b.token.place) × (a.count < b.count) × (b.count + 2 * a.token.place + 1 ≤ a.count + 2 * b.token.place)

abbrev pub PastSeries : Cursor → Cursor → Type 0
PastSeries a b = SameSheet a b × (a.token.place ≤ b.token.place) × (a.count < b.count) × (b.count + 2 * a.token.place ≤ a.count + 2 * b.token.place + 1)

-- past words that are no nodes
abbrev pub PastWords : Cursor → Cursor → Type 0
PastWords a b = SameSheet a b × (a.token.place + 1 ≤ b.token.place) × (b.count ≡ a.count)

-- Reading the type of a declaration: its kind k.
pub record Types (k : Kind) (a b : Cursor) : Type 0 where
  pub sort : Sort
  pub kind : kind_number k ≡ kind_of sort
  pub goes_on : (g : Given) (n : Part) → says (sorting g n) a ≡ says (declared (declare g n sort)) b

abbrev pub TypedAs : Result Kind Fault → Cursor → Cursor → Type 0
TypedAs (Ok k) a b = Types k a b
TypedAs (Err e) a b = (g : Given) (n : Part) → says (sorting g n) a ≡ fault e.refusal e.place

-- past a declaration
abbrev pub PastDeclaration : Cursor → Cursor → Type 0
PastDeclaration a b = SameSheet a b × (a.token.place + 1 ≤ b.token.place) × (b.count ≡ a.count + 1)

-- the names with one more, if there is a place for it
abbrev pub noted : List (Entry Binding) → Entry Binding → List (Entry Binding)
noted es e = cond (nat_lt (length es) most_nodes) (es ++ (e ∷ [])) es

-- Reading a declaration: its node at the count, and its name.
pub record Declares (xs ys : List Node) (es ds : List (Entry Binding)) (a b : Cursor) : Type 0 where
  pub part : Part
  pub sort : Sort
  pub nodes : ys ≡ write xs a.count (declaration part sort ∷ [])
  pub names : ds ≡ noted es (entry part sort a.count)
  pub goes_on : (g : Given) → says (naming g) a ≡ says (declared (declare g part sort)) b

abbrev pub DeclaredAs : List Node → List Node → List (Entry Binding) → List (Entry Binding) → Result (Unit {0}) Fault → Cursor → Cursor → Type 0
DeclaredAs xs ys es ds (Ok u) a b = Declares xs ys es ds a b
DeclaredAs xs ys es ds (Err e) a b = (g : Given) → says (naming g) a ≡ fault e.refusal e.place

-- the declarations d have been read: their nodes from xs on, and as many of their names as there are places
pub record Listed (d : Tree) (n : ℕ) (xs ys : List Node) (ds : List (Entry Binding)) : Type 0 where
  pub count : n ≡ size d
  pub sized : length (entries d) ≡ size d
  pub nodes : (f : Part → ℕ) → ys ≡ write xs 0 (lay f 0 d)
  pub names : ds ≡ take most_nodes (entries d)

-- past the declarations that follow another
abbrev pub PastOthers : Cursor → Cursor → Type 0
PastOthers a b = SameSheet a b × (a.token.place ≤ b.token.place) × (a.count ≤ b.count) × (b.count + 2 * a.token.place ≤ a.count + 2 * b.token.place)

-- Reading the declarations that follow the declarations d, up to the `;`.
pub record Lists (d : Tree) (xs ys : List Node) (ds : List (Entry Binding)) (a b : Cursor) : Type 0 where
  pub tree : Tree
  pub listed : Listed tree b.count xs ys ds
  pub goes_on : says (declared d) a ≡ says (series (whole tree)) b

abbrev pub ListedAs : Tree → List Node → List Node → List (Entry Binding) → Result (Unit {0}) Fault → Cursor → Cursor → Type 0
ListedAs d xs ys ds (Ok u) a b = Lists d xs ys ds a b
ListedAs d xs ys ds (Err e) a b = says (declared d) a ≡ fault e.refusal e.place
