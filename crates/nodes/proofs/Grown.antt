-- The tree of a node is built from the trees of the lower nodes that its arrows lead to.
use Rattle.std.proofs.Common.{◌≡◌, ℕ, zero, suc, ◌<◌, Bool, true, false, cond, ◌&&◌, ltb, List, sym, refl, ap, ◌∙◌, not-suc-le-zero, arith}
use Rattle.std.proofs.lemmas.Bool.{cond-true, ltb-true, and_parts, lt-ltb}
use Rattle.std.specs.List.{AllByRecursion}
use Rattle.nodes.specs.declared.node.Node.{Node}
use Rattle.nodes.specs.declared.view.View.{View}
use Rattle.nodes.specs.declared.view.View.TheVariants as V
use Rattle.nodes.specs.declared.view.Arrow.{Arrow}
use Rattle.nodes.specs.declared.view.Arrows.{Arrows}
use Rattle.nodes.specs.declared.view.Arrows.TheVariants.{Leaf, Two, Three}
use Rattle.nodes.specs.Nodes.{node_at, view_at, arrows_of, targets, of_sort, leads, all_lead}
use Rattle.nodes.specs.Trees.{Tree, none, build, decode, tree, level, nest, level_by, nest_by}

-- where an arrow leads
pub lead_parts : (ns : List Node) (i : ℕ) (x : Arrow) → leads ns i x ≡ true → (x.to < i) × (of_sort x.sort (node_at ns x.to).kind ≡ true)
lead_parts ns i x e = let p = and_parts (ltb x.to i) (of_sort x.sort (node_at ns x.to).kind) e in (ltb-true x.to i p.0, p.1)

pub all_low : (ns : List Node) (i : ℕ) (w : Arrows) → all_lead ns i w ≡ true → AllByRecursion (λ k. k < i) (targets w)
all_low ns i Leaf e = tt
all_low ns i (Two x y) e =
    let p = and_parts (leads ns i x) (leads ns i y) e in
    ((lead_parts ns i x p.0).0, ((lead_parts ns i y p.1).0, tt))
all_low ns i (Three x y z) e =
    let p = and_parts (leads ns i x) (leads ns i y && leads ns i z) e in
    let q = and_parts (leads ns i y) (leads ns i z) p.1 in
    ((lead_parts ns i x p.0).0, ((lead_parts ns i y q.0).0, ((lead_parts ns i z q.1).0, tt)))

-- a tree is built alike from trees that are alike where its arrows lead
build_same : (P : ℕ → Type 0) (f g : ℕ → Tree) → ((a : ℕ) → P a → f a ≡ g a) → (w : View) → AllByRecursion P (targets (arrows_of w)) → build f w ≡ build g w
build_same P f g e (V.Declaration p s k) l = refl
build_same P f g e (V.Variable p s n) l = refl
build_same P f g e (V.Number v) l = refl
build_same P f g e (V.Text p s) l = refl
build_same P f g e (V.Plus a b) l = let p = e a l.0 in let q = e b l.1.0 in cc
build_same P f g e (V.Conc a b) l = let p = e a l.0 in let q = e b l.1.0 in cc
build_same P f g e (V.Assign a b) l = let p = e a l.0 in let q = e b l.1.0 in cc
build_same P f g e (V.If a b c) l = let p = e a l.0 in let q = e b l.1.0 in let r = e c l.1.1.0 in cc
build_same P f g e (V.While a b) l = let p = e a l.0 in let q = e b l.1.0 in cc
build_same P f g e (V.Series a b) l = let p = e a l.0 in let q = e b l.1.0 in cc
build_same P f g e V.Empty l = refl
build_same P f g e V.Unknown l = refl

every_node : (w : Arrows) → AllByRecursion (λ k. Unit {0}) (targets w)
every_node Leaf = tt
every_node (Two x y) = (tt, (tt, tt))
every_node (Three x y z) = (tt, (tt, (tt, tt)))

alike : (f g : ℕ → Tree) → ((a : ℕ) → f a ≡ g a) → (w : View) → build f w ≡ build g w
alike f g e w = build_same (λ a. Unit {0}) f g (λ a u. e a) w (every_node (arrows_of w))

guard_same : (b : Bool) (x y : Tree) → (b ≡ true → x ≡ y) → cond b x none ≡ cond b y none
guard_same true x y e = e refl
guard_same false x y e = refl

enough : (ns : List Node) (m n i : ℕ) → i < m → i < n → decode m ns i ≡ decode n ns i
unfolding decode
enough ns zero n i p q = absurd (not-suc-le-zero p)
enough ns (suc m) zero i p q = absurd (not-suc-le-zero q)
enough ns (suc m) (suc n) i p q =
    alike _ _ (λ a. guard_same (ltb a i) _ _ (λ t. let l : a < i = ltb-true a i t in enough ns m n a (omega arith) (omega arith))) (view_at ns i)

-- the one unfolding law, with no premise
pub tree_is : (ns : List Node) (i : ℕ) → tree ns i ≡ build (λ a. cond (ltb a i) (tree ns a) none) (view_at ns i)
unfolding decode
tree_is ns i =
    alike _ _ (λ a. guard_same (ltb a i) _ _ (λ t. let l : a < i = ltb-true a i t in enough ns i (suc a) a l (omega arith))) (view_at ns i)

-- where the arrows are right, without the guard
pub tree_led : (ns : List Node) (i : ℕ) → all_lead ns i (arrows_of (view_at ns i)) ≡ true → tree ns i ≡ build (tree ns) (view_at ns i)
tree_led ns i led =
    tree_is ns i ∙ build_same (λ k. k < i) _ (tree ns) (λ k h. cond-true (ltb k i) (tree ns k) none (lt-ltb k i h)) (view_at ns i) (all_low ns i (arrows_of (view_at ns i)) led)

-- level and nest, by those of the nodes where the arrows lead
level_at : (g : ℕ → Tree) (f : ℕ → ℕ) (i : ℕ) → ((k : ℕ) → k < i → f k ≡ level (g k)) → (w : View) → AllByRecursion (λ k. k < i) (targets (arrows_of w)) → level (build g w) ≡ level_by f w
level_at g f i e (V.Declaration p s k) l = refl
level_at g f i e (V.Variable p s n) l = refl
level_at g f i e (V.Number v) l = refl
level_at g f i e (V.Text p s) l = refl
level_at g f i e (V.Plus a b) l = let x = e a l.0 in let y = e b l.1.0 in cc
level_at g f i e (V.Conc a b) l = let x = e a l.0 in let y = e b l.1.0 in cc
level_at g f i e (V.Assign a b) l = refl
level_at g f i e (V.If a b c) l = refl
level_at g f i e (V.While a b) l = refl
level_at g f i e (V.Series a b) l = refl
level_at g f i e V.Empty l = refl
level_at g f i e V.Unknown l = refl

nest_at : (g : ℕ → Tree) (f : ℕ → ℕ) (i : ℕ) → ((k : ℕ) → k < i → f k ≡ nest (g k)) → (w : View) → AllByRecursion (λ k. k < i) (targets (arrows_of w)) → nest (build g w) ≡ nest_by f w
nest_at g f i e (V.Declaration p s k) l = refl
nest_at g f i e (V.Variable p s n) l = refl
nest_at g f i e (V.Number v) l = refl
nest_at g f i e (V.Text p s) l = refl
nest_at g f i e (V.Plus a b) l = refl
nest_at g f i e (V.Conc a b) l = refl
nest_at g f i e (V.Assign a b) l = refl
nest_at g f i e (V.If a b c) l = let x = e b l.1.0 in let y = e c l.1.1.0 in cc
nest_at g f i e (V.While a b) l = let x = e b l.1.0 in cc
nest_at g f i e (V.Series a b) l = let x = e a l.0 in let y = e b l.1.0 in cc
nest_at g f i e V.Empty l = refl
nest_at g f i e V.Unknown l = refl

-- the level and the nest of node i, whose arrows are right, by tables of those of lower nodes
module _ (ns : List Node) (i : ℕ) (f : ℕ → ℕ) (w : View) (m : ℕ) (q : w ≡ view_at ns i) (led : all_lead ns i (arrows_of w) ≡ true) where
  grown : tree ns i ≡ build (tree ns) w
  grown = tree_led ns i (ap (λ x. all_lead ns i (arrows_of x)) (sym q) ∙ led) ∙ ap (build (tree ns)) (sym q)

  pub level_found : ((k : ℕ) → k < i → f k ≡ level (tree ns k)) → m ≡ level_by f w → m ≡ level (tree ns i)
  level_found e r = r ∙ sym (level_at (tree ns) f i e w (all_low ns i (arrows_of w) led)) ∙ sym (ap level grown)

  pub nest_found : ((k : ℕ) → k < i → f k ≡ nest (tree ns k)) → m ≡ nest_by f w → m ≡ nest (tree ns i)
  nest_found e r = r ∙ sym (nest_at (tree ns) f i e w (all_low ns i (arrows_of w) led)) ∙ sym (ap nest grown)
