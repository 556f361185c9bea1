-- Trees laid out as nodes, part by part.
use Rattle.std.proofs.Common.{◌≡◌, ℕ, ◌+◌, ◌-◌, List, [], ◌∷◌, ◌++◌, length, set, take, ltb, sym, refl, ap, ◌∙◌, ⊎_elim, arith, length-append, length-take}
use Rattle.std.proofs.lemmas.Bool.{cases_lt, cond-true, cond-false, lt-ltb, le-ltb}
use Rattle.std.proofs.lemmas.List.{take_all, take-append-le}
use Rattle.nodes.specs.declared.node.Node.{Node}
use Rattle.nodes.specs.declared.binding.Binding.{Binding}
use Rattle.nodes.specs.Nodes.{node, node_of}
use Rattle.spelling.specs.declared.Entry.{Entry}
use Rattle.grammar.specs.Grammar.{Part, Sort, Tree, assign, choose, first, also}
use Rattle.grammar.specs.Machine.{with}
use Rattle.grammar.specs.Scan.{Found}
use Rattle.cursor.specs.declared.leaf.Joint.{Joint}
use Rattle.cursor.specs.Layout.{declaration, entry, entries, size, lay, write}
use Rattle.cursor.specs.InHand.{joined}
use Rattle.cursor.proofs.Laying.{write_on, write_two, length_lay}
use Rattle.cursor.proofs.Leaves.{Joins}
use Rattle.nodes.specs.Limits.{most_nodes}
use Rattle.parser.specs.Parts.{noted, Listed}

-- two trees and a node above them, which g says by the numbers of theirs
pub laid_two : (f : Part → ℕ) (xs ys : List Node) (n : ℕ) (x y : Tree) (g : ℕ → ℕ → Node) (c1 c2 : ℕ) → c1 ≡ n + size x → c2 ≡ c1 + size y →
    ys ≡ write (write (write xs n (lay f n x)) c1 (lay f c1 y)) c2 (g (c1 - 1) (c2 - 1) ∷ []) →
    ys ≡ write xs n (lay f n x ++ (lay f (n + size x) y ++ (g (n + size x - 1) (n + size x + size y - 1) ∷ [])))
laid_two f xs ys n x y g c1 c2 e d h =
    let d2 : c2 ≡ n + size x + size y = omega arith in
    h ∙ (write_two f xs n x y (g (c1 - 1) (c2 - 1)) c1 c2 e d
    ∙ ap (λ (b : Node). write xs n (lay f n x ++ (lay f (n + size x) y ++ (b ∷ [])))) (ap (λ i. g (i - 1) (c2 - 1)) e ∙ ap (λ i. g (n + size x - 1) (i - 1)) d2))

-- two trees and a joint above them
pub laid_joint : (t : List ℕ) (w : Found) (k : Joint) (j : Joins t w k) (f : Part → ℕ) (xs ys zs : List Node) (n : ℕ) (x y : Tree) (c1 c2 : ℕ) → c1 ≡ n + size x → c2 ≡ c1 + size y → ys ≡ write xs n (lay f n x) →
    zs ≡ write (write ys c1 (lay f c1 y)) c2 (node_of (joined k (c1 - 1) (c2 - 1)) ∷ []) → zs ≡ write xs n (lay f n (with (j.before x) y))
laid_joint t w k j f xs ys zs n x y c1 c2 e d i h =
    laid_two f xs zs n x y (λ l r. node_of (joined k l r)) c1 c2 e d (h ∙ ap (λ (us : List Node). write (write us c1 (lay f c1 y)) c2 (node_of (joined k (c1 - 1) (c2 - 1)) ∷ [])) i) ∙ ap (write xs n) (sym (j.laid f n x y))

-- three trees and a choice above them
pub laid_choice : (f : Part → ℕ) (xs ys : List Node) (n : ℕ) (x y z : Tree) (c1 c2 c3 : ℕ) → c1 ≡ n + size x → c2 ≡ c1 + size y → c3 ≡ c2 + size z →
    ys ≡ write (write (write (write xs n (lay f n x)) c1 (lay f c1 y)) c2 (lay f c2 z)) c3 (node 8 (c1 - 1) (c2 - 1) (c3 - 1) ∷ []) → ys ≡ write xs n (lay f n (choose x y z))
laid_choice f xs ys n x y z c1 c2 c3 e d g h =
    let d2 : c2 ≡ n + size x + size y = omega arith in
    let d3 : c3 ≡ n + size x + size y + size z = omega arith in
    let b = node 8 (c1 - 1) (c2 - 1) (c3 - 1) in
    h ∙ (write_two f (write xs n (lay f n x)) c1 y z b c2 c3 d g
    ∙ (write_on xs n (lay f n x) (lay f c1 y ++ (lay f (c1 + size y) z ++ (b ∷ []))) c1 (omega (arith, length_lay f n x))
    ∙ (ap (λ i. write xs n (lay f n x ++ (lay f i y ++ (lay f (i + size y) z ++ (b ∷ []))))) e
    ∙ ap (λ (b : Node). write xs n (lay f n x ++ (lay f (n + size x) y ++ (lay f (n + size x + size y) z ++ (b ∷ [])))))
    (ap (λ i. node 8 (i - 1) (c2 - 1) (c3 - 1)) e ∙ (ap (λ i. node 8 (n + size x - 1) (i - 1) (c3 - 1)) d2 ∙ ap (λ i. node 8 (n + size x - 1) (n + size x + size y - 1) (i - 1)) d3)))))

pub laid_assign : (f : Part → ℕ) (xs ys : List Node) (n : ℕ) (p : Part) (e : Tree) (c : ℕ) → c ≡ n + 1 + size e →
    ys ≡ write (write (write xs n (node 2 p.place p.size (f p) ∷ [])) (n + 1) (lay f (n + 1) e)) c (node 7 n (c - 1) 0 ∷ []) → ys ≡ write xs n (lay f n (assign p e))
laid_assign f xs ys n p e c i h =
    let d : c - 1 ≡ n + size e = omega arith in
    let v = node 2 p.place p.size (f p) in
    h ∙ (write_on (set xs n v) (n + 1) (lay f (n + 1) e) (node 7 n (c - 1) 0 ∷ []) c (omega (arith, length_lay f (n + 1) e))
    ∙ ap (λ k. write (set xs n v) (n + 1) (lay f (n + 1) e ++ (node 7 n k 0 ∷ []))) d)

-- a name more, in a list that was cut
noted_take : (es : List (Entry Binding)) (e : Entry Binding) → noted (take most_nodes es) e ≡ take most_nodes (es ++ (e ∷ []))
noted_take es e =
    ⊎_elim
    (λ h. cond-true (ltb (length (take most_nodes es)) most_nodes) _ _ (lt-ltb (length (take most_nodes es)) most_nodes (omega (arith, length-take most_nodes es)))
    ∙ (ap (λ (x : List (Entry Binding)). x ++ (e ∷ [])) (take_all most_nodes es (omega arith)) ∙ sym (take_all most_nodes (es ++ (e ∷ [])) (omega (arith, length-append es (e ∷ []))))))
    (λ h. cond-false (ltb (length (take most_nodes es)) most_nodes) _ _ (le-ltb (length (take most_nodes es)) most_nodes (omega (arith, length-take most_nodes es))) ∙ sym (take-append-le most_nodes es (e ∷ []) h))
    (cases_lt (length es) most_nodes)

-- one declaration more
pub listed_more : (d : Tree) (n : ℕ) (xs ys zs : List Node) (ds fs : List (Entry Binding)) (p : Part) (s : Sort) → Listed d n xs ys ds → zs ≡ write ys n (declaration p s ∷ []) → fs ≡ noted ds (entry p s n) →
    Listed (also d p s) (n + 1) xs zs fs
listed_more d n xs ys zs ds fs p s l h k = record {
  count = omega (arith, l.count);
  sized = simp length-append (omega (arith, l.sized));
  nodes = λ f. h ∙ (ap (λ (y : List Node). write y n (declaration p s ∷ [])) (l.nodes f) ∙ write_on xs 0 (lay f 0 d) (declaration p s ∷ []) n (omega (arith, l.count, length_lay f 0 d)));
  names = k ∙ (ap (λ (y : List (Entry Binding)). noted y (entry p s n)) l.names ∙ (noted_take (entries d) (entry p s n) ∙ ap (λ i. take most_nodes (entries d ++ (entry p s i ∷ []))) l.count));
}

pub listed_first : (xs ys : List Node) (ds : List (Entry Binding)) (p : Part) (s : Sort) → ys ≡ write xs 0 (declaration p s ∷ []) → ds ≡ noted [] (entry p s 0) → Listed (first p s) 1 xs ys ds
listed_first xs ys ds p s h k = record { count = refl; sized = refl; nodes = λ f. h; names = k }
