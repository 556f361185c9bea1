-- Words that are terms by themselves, and words that join terms.
use Rattle.std.proofs.Common.{◌≡◌, ℕ, ◌+◌, ◌-◌, Bool, true, false, List, [], ◌∷◌, ◌++◌, Some, None, sym, refl, ap, ◌∙◌, subst, ⊎_elim}
use Rattle.std.proofs.lemmas.Bool.{cases_Bool, cond-true, cond-false}
use Rattle.nodes.specs.declared.node.Node.{Node}
use Rattle.nodes.specs.Nodes.{node, node_of}
use Rattle.cursor.specs.declared.leaf.Joint.{Joint}
use Rattle.cursor.specs.declared.leaf.Joint.TheVariants as J
use Rattle.words.specs.declared.word.Refusal.TheVariants as R
use Rattle.words.specs.Words.{Lex}
use Rattle.words.specs.Words as L
use Rattle.grammar.specs.Grammar.{Open, Plus, Join, Part, fixed, name, number, text, Tree, variable, constant, letters}
use Rattle.grammar.specs.Machine.{same, Before, start, sum, chain, For, group, term, tail, leaving, with}
use Rattle.grammar.specs.Scan.{Found, word, nothing_left, wrong}
use Rattle.cursor.specs.Text.{seen_as, found, at}
use Rattle.cursor.specs.Layout.{size, lay}
use Rattle.cursor.specs.InHand.{is_word, behind, expected, leaf_of, joint_of, joined}
use Rattle.cursor.proofs.Steps.{apart, leaf_at, plus_at, join_at, no_joint_at, open_at, no_open_at}

-- a word that is a term by itself
pub record Leaf (t : List ℕ) (f : Part → ℕ) (w : Found) (b : Node) : Type 0 where
  pub tree : Tree
  pub laid : (n : ℕ) → lay f n tree ≡ b ∷ []
  pub one : size tree ≡ 1
  pub goes_on : (c : Before) (g : For) → at t (term c g) w ≡ at t (tail g (with c tree)) (behind t w)

pub leaf_reads : (t : List ℕ) (f : Part → ℕ) (w : Found) (b : Node) → Some b ≡ leaf_of f w → Leaf t f w b
leaf_reads t f (word (fixed v p) q) b e = apart (cc)
leaf_reads t f (word (name n) q) b e =
    record { tree = variable n; laid = λ m. (let i : ◌≡◌ {A = Node} (node 2 n.place n.size (f n)) b = cc in ap (λ x. x ∷ []) i); one = refl; goes_on = λ c g. leaf_at t c g (name n) (variable n) q (λ c h. refl) }
leaf_reads t f (word (number v p) q) b e =
    record { tree = constant v; laid = λ m. ap (λ x. x ∷ []) (cc); one = refl; goes_on = λ c g. leaf_at t c g (number v p) (constant v) q (λ c h. refl) }
leaf_reads t f (word (text n) q) b e =
    record { tree = letters n; laid = λ m. (let i : ◌≡◌ {A = Node} (node 4 n.place n.size 0) b = cc in ap (λ x. x ∷ []) i); one = refl; goes_on = λ c g. leaf_at t c g (text n) (letters n) q (λ c h. refl) }
leaf_reads t f (nothing_left z) b e = apart (cc)
leaf_reads t f (wrong m z) b e = apart (cc)

-- a word that joins two terms so
pub record Joins (t : List ℕ) (w : Found) (k : Joint) : Type 0 where
  pub before : Tree → Before
  pub laid : (f : Part → ℕ) (n : ℕ) (x y : Tree) → lay f n (with (before x) y) ≡ lay f n x ++ (lay f (n + size x) y ++ (node_of (joined k (n + size x - 1) (n + size x + size y - 1)) ∷ []))
  pub sized : (x y : Tree) → size (with (before x) y) ≡ size x + size y + 1
  pub goes_on : (e : Tree) (g : For) → at t (tail g e) w ≡ at t (term (before e) g) (behind t w)

pub joint_reads : (t : List ℕ) (w : Found) (k : Joint) → Some k ≡ joint_of w → Joins t w k
joint_reads t w k e =
    ⊎_elim
    (λ i. subst (Joins t w) (let j = sym (e ∙ cond-true (is_word Plus w) _ _ i) in let m : J.Sum ≡ k = cc in m) (record { before = sum; laid = λ f n x y. refl; sized = λ x y. refl; goes_on = λ e g. plus_at t g e w i }))
    (λ i. ⊎_elim
    (λ j. subst (Joins t w) (let l = sym (e ∙ (cond-false (is_word Plus w) _ _ i ∙ cond-true (is_word Join w) _ _ j)) in let m : J.Chain ≡ k = cc in m) (record { before = chain; laid = λ f n x y. refl; sized = λ x y. refl; goes_on = λ e g. join_at t g e w j }))
    (λ j. apart (let l = e ∙ (cond-false (is_word Plus w) _ _ i ∙ cond-false (is_word Join w) _ _ j) in cc))
    (cases_Bool (is_word Join w)))
    (cases_Bool (is_word Plus w))

pub no_joint_reads : (t : List ℕ) (w : Found) → None ≡ joint_of w → (e : Tree) (g : For) → at t (tail g e) w ≡ at t (leaving g e) w
no_joint_reads t w e =
    ⊎_elim
    (λ i. apart (let j = e ∙ cond-true (is_word Plus w) _ _ i in cc))
    (λ i. ⊎_elim
    (λ j. apart (let l = e ∙ (cond-false (is_word Plus w) _ _ i ∙ cond-true (is_word Join w) _ _ j) in cc))
    (λ j. λ e g. no_joint_at t g e w i j)
    (cases_Bool (is_word Join w)))
    (cases_Bool (is_word Plus w))

-- the word in hand, where it is not the end
pub behind_leaf : (t : List ℕ) (f : Part → ℕ) (k : Lex) (p q : ℕ) (b : Node) → Some b ≡ leaf_of f (seen_as k p q) → behind t (seen_as k p q) ≡ found t q
behind_leaf t f (L.name w) p q b e = refl
behind_leaf t f (L.number w v) p q b e = refl
behind_leaf t f (L.text w) p q b e = refl
behind_leaf t f (L.fixed w) p q b e = refl
behind_leaf t f L.end p q b e = apart (cc)

pub behind_joint : (t : List ℕ) (k : Lex) (p q : ℕ) (b : Joint) → Some b ≡ joint_of (seen_as k p q) → behind t (seen_as k p q) ≡ found t q
behind_joint t (L.name w) p q b e = refl
behind_joint t (L.number w v) p q b e = refl
behind_joint t (L.text w) p q b e = refl
behind_joint t (L.fixed w) p q b e = refl
behind_joint t L.end p q b e = apart (cc)

-- no term by itself: a parenthesis has to come
pub group_reads : (t : List ℕ) (f : Part → ℕ) (w : Found) → None ≡ leaf_of f w → (c : Before) (g : For) → at t (term c g) w ≡ at t (term start (group c g)) (expected t Open w)
group_reads t f (word (fixed v p) q) e c g = by (same v Open) refl
  where
    by : (b : Bool) → same v Open ≡ b → at t (term c g) (word (fixed v p) q) ≡ at t (term start (group c g)) (elim b [ true ↦ found t q | false ↦ wrong R.Unexpected p ])
    by true i = open_at t c g (word (fixed v p) q) i
    by false i = no_open_at t c g v p q i
group_reads t f (word (name n) q) e c g = apart (cc)
group_reads t f (word (number v p) q) e c g = apart (cc)
group_reads t f (word (text n) q) e c g = apart (cc)
group_reads t f (nothing_left z) e c g = refl
group_reads t f (wrong m z) e c g = refl
