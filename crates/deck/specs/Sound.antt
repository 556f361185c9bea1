-- What a loaded sheet keeps to, node by node: what whoever plays it may rest on.
use Rattle.std.specs.Prelude.{◌≡◌, ℕ, ◌+◌, ◌-◌, ◌<◌, ◌≤◌, true, ◌⊎◌, List, length, slice_index}
use Rattle.words.specs.Words.{largest, longest}
use Rattle.nodes.specs.declared.view.View.{View}
use Rattle.nodes.specs.declared.view.View.TheVariants as V
use Rattle.nodes.specs.declared.view.Sort.{Sort}
use Rattle.nodes.specs.declared.view.Sort.TheVariants as S
use Rattle.nodes.specs.Limits.{deepest_level, deepest_nest}
use Rattle.nodes.specs.Nodes.{Sheet, node_at, view_at, of_sort, integer, string, kinds}
use Rattle.nodes.specs.Trees.{tree, level, nest}

-- the type of an expression, by the declared types; of another node 0
abbrev pub kind_in : List ℕ → View → ℕ
kind_in ks (V.Declaration p s k) = 0
kind_in ks (V.Variable p s n) = slice_index ks n
kind_in ks (V.Number v) = integer
kind_in ks (V.Text p s) = string
kind_in ks (V.Plus a b) = integer
kind_in ks (V.Conc a b) = string
kind_in ks (V.Assign a b) = 0
kind_in ks (V.If a b c) = 0
kind_in ks (V.While a b) = 0
kind_in ks (V.Series a b) = 0
kind_in ks V.Empty = 0
kind_in ks V.Unknown = 0

-- an arrow from node i to node a, an expression of type k
pub record Leads (sh : Sheet) (i a k : ℕ) : Type 0 where
  pub lower : a < i
  pub sort : of_sort S.Expression (node_at sh.nodes a).kind ≡ true
  pub agrees : kind_in (kinds sh) (view_at sh.nodes a) ≡ k

-- an arrow from node i to node a, of sort s, whose nest is smaller by m at least
pub record Holds (sh : Sheet) (i a : ℕ) (s : Sort) (m : ℕ) : Type 0 where
  pub lower : a < i
  pub sort : of_sort s (node_at sh.nodes a).kind ≡ true
  pub nested : m + nest (tree sh.nodes a) ≤ nest (tree sh.nodes i)

-- the target of an assignment at node i, and its value, of the declared type
pub record Assigns (sh : Sheet) (i a b : ℕ) : Type 0 where
  pub lower : a < i
  pub variable : (node_at sh.nodes a).kind ≡ 2
  pub target : (node_at sh.nodes a).c < length (kinds sh)
  pub value : Leads sh i b (slice_index (kinds sh) (node_at sh.nodes a).c)

abbrev pub Right : Sheet → ℕ → View → Type 0
Right sh i (V.Declaration p s k) = Unit {0}
Right sh i (V.Variable p s n) = n < length (kinds sh)
Right sh i (V.Number v) = v ≤ largest
Right sh i (V.Text p s) = (s ≤ longest) × (p + s ≤ length sh.letters)
Right sh i (V.Plus a b) = Leads sh i a integer × Leads sh i b integer
Right sh i (V.Conc a b) = Leads sh i a string × Leads sh i b string
Right sh i (V.Assign a b) = Assigns sh i a b
Right sh i (V.If a b c) = Leads sh i a integer × (Holds sh i b S.Series 1 × Holds sh i c S.Series 1)
Right sh i (V.While a b) = Leads sh i a integer × Holds sh i b S.Series 1
Right sh i (V.Series a b) = Holds sh i a S.Statement 0 × Holds sh i b S.Series 0
Right sh i V.Empty = Unit {0}
Right sh i V.Unknown = Unit {0}

pub record Sound (sh : Sheet) : Type 0 where
  pub right : (i : ℕ) → Right sh i (view_at sh.nodes i)
  pub declared : length (kinds sh) ≡ sh.variables
  pub known : (i : ℕ) → i < length (kinds sh) → (slice_index (kinds sh) i ≡ integer) ⊎ (slice_index (kinds sh) i ≡ string)
  pub some : sh.variables < length sh.nodes
  pub top : of_sort S.Series (node_at sh.nodes (length sh.nodes - 1)).kind ≡ true
  pub level_few : (i : ℕ) → i < length sh.nodes → level (tree sh.nodes i) ≤ deepest_level
  pub nest_few : (i : ℕ) → i < length sh.nodes → nest (tree sh.nodes i) ≤ deepest_nest
