-- What stands in front of a ready course.
use Rattle.std.proofs.Common.{◌≡◌, ℕ, ◌-◌, ◌<◌, ◌≤◌, List, get_or, sym, ap, ◌∙◌, subst, arith}
use Rattle.std.proofs.lemmas.Bool.{leb-true, le-leb}
use Rattle.nodes.specs.Nodes.{Sheet, node_at, view_at, view_of}
use Rattle.nodes.specs.declared.view.View.{View}
use Rattle.nodes.specs.declared.node.Node.{Node}
use Rattle.nodes.specs.Trees.{tree, nest}
use Rattle.nodes.proofs.ByKind.{kind_is}
use Rattle.deck.specs.Sound.{Right}
use Rattle.deck.specs.Sheets.{sheet_of}
use Rattle.deck.proofs.OfDeck.{sound}
use Rattle.semantics.specs.declared.status.Status.TheVariants.{Ready}
use Rattle.player.specs.declared.course.Course.{Course}
use Rattle.player.specs.Of.{depth_of, front_of, Comes}
use Rattle.player.proofs.Stack.{reversed, top, ready_some}
use Rattle.nodes.specs.declared.view.View.TheVariants as V

module _ (c : Course) (ready : c.status ≡ Ready) where
  pub front_some : 0 < depth_of c
  front_some = (ready_some (sheet_of c.deck) c.todo.items c.status c.front ready).0

  module _ (x : Node) (ex : x ≡ node_at (sheet_of c.deck).nodes (front_of c)) (y : View) (ey : y ≡ view_at (sheet_of c.deck).nodes x.a) where
    front_is : view_at (sheet_of c.deck).nodes (front_of c) ≡ V.Series x.a x.b
    front_is =
        ap view_of (sym ex)
        ∙ kind_is x 10 (ap (λ z. z.kind) ex ∙ (ready_some (sheet_of c.deck) c.todo.items c.status c.front ready).1)

    parts : Right (sheet_of c.deck) (front_of c) (V.Series x.a x.b)
    parts = subst (Right (sheet_of c.deck) (front_of c)) front_is ((sound c.deck).right (front_of c))

    right_as : (w : View) → y ≡ w → Right (sheet_of c.deck) x.a w
    right_as w e = subst (Right (sheet_of c.deck) x.a) (sym ey ∙ e) ((sound c.deck).right x.a)

    comes : Comes c (record { front = front_of c; at = x.a; rest = x.b; statement = y })
    comes =
        let sh : Sheet = sheet_of c.deck in
        let d = c.deep in
        let s = front_some in
        let t = top sh c.todo.items c.stacked front_some in
        let nx : nest (tree sh.nodes (front_of c)) ≤ 16 - (depth_of c - 1) = leb-true (nest (tree sh.nodes (front_of c))) (16 - (depth_of c - 1)) t.1 in
        let ny = parts.0.nested in
        let nz = parts.1.nested in
        let l16 : depth_of c - 1 ≤ 16 = t.0 in
        record {
          todo = reversed c.todo.items front_some;
          series_is = front_is;
          statement_is = sym ey;
          again = t.1;
          rest = le-leb (nest (tree sh.nodes x.b)) (16 - (depth_of c - 1)) (omega arith);
          branches = λ i p q e.
              let r = right_as (V.If i p q) e in
              let np = r.1.0.nested in
              let nq = r.1.1.nested in
              (r.0.agrees, omega arith, le-leb (nest (tree sh.nodes p)) (16 - depth_of c) (omega arith), le-leb (nest (tree sh.nodes q)) (16 - depth_of c) (omega arith));
          body = λ i p e.
              let r = right_as (V.While i p) e in
              let np = r.1.nested in
              (r.0.agrees, omega arith, le-leb (nest (tree sh.nodes p)) (16 - depth_of c) (omega arith));
        }

-- the same, by the list and the length as they are read
pub comes_as :
    (c : Course) → c.status ≡ Ready → (l : List ℕ) (n : ℕ) → l ≡ c.todo.items → n ≡ depth_of c → (x : Node) → x ≡ node_at (sheet_of c.deck).nodes (get_or l (n - 1) 0) →
    (y : View) → y ≡ view_at (sheet_of c.deck).nodes x.a → Comes c (record { front = get_or l (n - 1) 0; at = x.a; rest = x.b; statement = y })
comes_as c ready l n el en x ex y ey =
    let e : get_or l (n - 1) 0 ≡ front_of c = ap (λ z. get_or z (n - 1) 0) el ∙ ap (λ m. get_or c.todo.items (m - 1) 0) en in
    subst (λ f. Comes c (record { front = f; at = x.a; rest = x.b; statement = y })) (sym e) (comes c ready x (ex ∙ ap (node_at (sheet_of c.deck).nodes) e) y ey)
