-- The table of declared names.
use Rattle.std.proofs.Common.{◌≡◌, ℕ, zero, suc, ◌≤◌, List, [], ◌∷◌, ◌++◌, length, take, refl, ap, ◌∙◌, arith}
use Rattle.std.proofs.lemmas.List.{length_push, get_or-take}
use Rattle.nodes.specs.declared.node.Node.{Node}
use Rattle.nodes.specs.Nodes.{node_at, blank}
use Rattle.deck.specs.Rules.{entry, names}

pub names_size : (k : ℕ) (ns : List Node) → length (names k ns) ≡ k
names_size zero ns = refl
names_size (suc k) ns = let e = names_size k ns in let l = length_push (names k ns) (entry (node_at ns k) k) in omega arith

-- the names of the first nodes, whatever stands behind them
pub names_front : (k v : ℕ) (ns : List Node) → k ≤ v → names k (take v ns) ≡ names k ns
names_front zero v ns h = refl
names_front (suc k) v ns h =
    ap (λ es. es ++ entry (node_at (take v ns) k) k ∷ []) (names_front k v ns (omega arith))
    ∙ ap (λ x. names k ns ++ entry x k ∷ []) (get_or-take v ns k blank h)
