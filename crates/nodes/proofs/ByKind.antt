-- What holds of a node's view, kind by kind.
use Rattle.std.proofs.Common.{◌≡◌, ℕ, ◌+◌, ◌*◌, Bool, true, false, cond, eqb, refl, ap, arith}
use Rattle.std.proofs.lemmas.Bool.{eqb-true}
use Rattle.nodes.specs.declared.node.Node.{Node}
use Rattle.nodes.specs.declared.view.View.{View}
use Rattle.nodes.specs.declared.view.View.TheVariants as V
use Rattle.nodes.specs.Nodes.{view_as, view_of, node_of}

-- the view of a node of a known kind
pub kind_is : (x : Node) (k : ℕ) → x.kind ≡ k → view_of x ≡ view_as k x.a x.b x.c
kind_is x k e = ap (λ m. view_as m x.a x.b x.c) e

pick : (P : View → Type 0) (b : Bool) (x y : View) → (b ≡ true → P x) → P y → P (cond b x y)
pick P true x y f q = f refl
pick P false x y f q = q

pub by_kind : (P : View → Type 0) (k a b c : ℕ)
    → (k ≡ 1 → P (V.Declaration a b c)) → (k ≡ 2 → P (V.Variable a b c)) → (k ≡ 3 → P (V.Number (a + 65536 * b))) → (k ≡ 4 → P (V.Text a b))
    → (k ≡ 5 → P (V.Plus a b)) → (k ≡ 6 → P (V.Conc a b)) → (k ≡ 7 → P (V.Assign a b)) → (k ≡ 8 → P (V.If a b c)) → (k ≡ 9 → P (V.While a b))
    → (k ≡ 10 → P (V.Series a b)) → P V.Empty → P V.Unknown → P (view_as k a b c)
by_kind P k a b c f1 f2 f3 f4 f5 f6 f7 f8 f9 f10 empty unknown =
    pick P (eqb k 1) _ _ (λ e. f1 (eqb-true k 1 e))
    (pick P (eqb k 2) _ _ (λ e. f2 (eqb-true k 2 e))
    (pick P (eqb k 3) _ _ (λ e. f3 (eqb-true k 3 e))
    (pick P (eqb k 4) _ _ (λ e. f4 (eqb-true k 4 e))
    (pick P (eqb k 5) _ _ (λ e. f5 (eqb-true k 5 e))
    (pick P (eqb k 6) _ _ (λ e. f6 (eqb-true k 6 e))
    (pick P (eqb k 7) _ _ (λ e. f7 (eqb-true k 7 e))
    (pick P (eqb k 8) _ _ (λ e. f8 (eqb-true k 8 e))
    (pick P (eqb k 9) _ _ (λ e. f9 (eqb-true k 9 e))
    (pick P (eqb k 10) _ _ (λ e. f10 (eqb-true k 10 e))
    (pick P (eqb k 11) _ _ (λ e. empty) unknown))))))))))

-- the node that a view says is seen as that view
pub view_of-node_of : (v : View) → view_of (node_of v) ≡ v
view_of-node_of (V.Declaration p s k) = refl
view_of-node_of (V.Variable p s n) = refl
view_of-node_of (V.Number v) = ap V.Number (omega arith)
view_of-node_of (V.Text p s) = refl
view_of-node_of (V.Plus a b) = refl
view_of-node_of (V.Conc a b) = refl
view_of-node_of (V.Assign a b) = refl
view_of-node_of (V.If a b c) = refl
view_of-node_of (V.While a b) = refl
view_of-node_of (V.Series a b) = refl
view_of-node_of V.Empty = refl
view_of-node_of V.Unknown = refl
