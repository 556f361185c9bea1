-- When Load accepts a sheet: its rules, in no order.
use Rattle.std.specs.Prelude.{◌≡◌, ℕ, zero, suc, ◌+◌, ◌-◌, ◌<◌, ◌≤◌, true, cond, List, [], ◌∷◌, length, take, is_ok, ◌==◌}
use Rattle.nodes.specs.declared.node.Node.{Node}
use Rattle.nodes.specs.declared.view.Sort.TheVariants as S
use Rattle.nodes.specs.Limits.{most_nodes, most_letters, most_variables, deepest_level, deepest_nest}
use Rattle.nodes.specs.Nodes.{node_at, view_at, arrows_of, all_lead, of_sort}
use Rattle.nodes.specs.Trees.{tree, level, nest}
use Rattle.deck.specs.Rules.{spelled, formed, leading_to, agree}
use Rattle.deck.specs.Load.{load_says}

-- how often k stands in a list
abbrev pub times : ℕ → List ℕ → ℕ
times k [] = 0
times k (x ∷ xs) = cond (k == x) (suc (times k xs)) (times k xs)

-- how many arrows of the first n nodes lead to node k
abbrev pub arrows_to : List Node → ℕ → ℕ → ℕ
arrows_to ns zero k = 0
arrows_to ns (suc i) k = times k (leading_to (node_at ns i)) + arrows_to ns i k

-- the name that node i has, or declares
abbrev pub name_at : List ℕ → List Node → ℕ → List ℕ
name_at ls ns i = spelled ls (node_at ns i).a (node_at ns i).b

-- n nodes of m that are given, v of them declarations, and t letters
pub record Sizes (t m n v : ℕ) : Type 0 where
  pub two : 2 ≤ n
  pub n_few : n ≤ most_nodes
  pub n_given : n ≤ m
  pub one : 1 ≤ v
  pub v_few : v ≤ most_variables
  pub v_below : v < n
  pub t_few : t ≤ most_letters

-- what the rules ask of the n nodes ns and the letters ls
pub record Rules (ls : List ℕ) (ns : List Node) (n v : ℕ) : Type 0 where
  -- the first v nodes are declarations, the others of the kinds 2 to 11
  pub declarations : (i : ℕ) → i < v → (node_at ns i).kind ≡ 1
  pub others : (i : ℕ) → v ≤ i → i < n → (2 ≤ (node_at ns i).kind) × ((node_at ns i).kind ≤ 11)
  pub fields : (i : ℕ) → i < n → formed ls (node_at ns i) ≡ true
  -- arrows lead to lower nodes of the right sort
  pub arrows : (i : ℕ) → i < n → all_lead ns i (arrows_of (view_at ns i)) ≡ true
  -- no node has two arrows to it; the last is a series, and every other behind the declarations has one
  pub one_arrow : (k : ℕ) → arrows_to ns n k ≤ 1
  pub reached : (k : ℕ) → v ≤ k → k < n - 1 → arrows_to ns n k ≡ 1
  pub top : of_sort S.Series (node_at ns (n - 1)).kind ≡ true
  -- no name is declared twice, and a variable's number is that of the declaration with its name
  pub names_differ : (i j : ℕ) → i < v → j < v → name_at ls ns i ≡ name_at ls ns j → i ≡ j
  pub numbers : (i : ℕ) → i < n → (node_at ns i).kind ≡ 2 → ((node_at ns i).c < v) × (name_at ls ns (node_at ns i).c ≡ name_at ls ns i)
  pub types : (i : ℕ) → i < n → agree ns (view_at ns i) ≡ true
  pub levels : (i : ℕ) → i < n → level (tree ns i) ≤ deepest_level
  pub nests : (i : ℕ) → i < n → nest (tree ns i) ≤ deepest_nest

abbrev pub Accepts : List ℕ → List Node → ℕ → ℕ → Type 0
Accepts ls ns n v = Sizes (length ls) (length ns) n v × Rules ls (take n ns) n v

-- Load accepts exactly the sheets that keep to every rule
abbrev pub Exactly : Type 0
Exactly = (ls : List ℕ) (ns : List Node) (n v : ℕ) → (is_ok (load_says ls ns n v) ≡ true → Accepts ls ns n v) × (Accepts ls ns n v → is_ok (load_says ls ns n v) ≡ true)
