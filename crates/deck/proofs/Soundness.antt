-- An accepted sheet is sound.
use Rattle.std.proofs.Common.{◌≡◌, ℕ, ◌+◌, ◌-◌, ◌*◌, ◌<◌, ◌≤◌, max, true, not, ◌&&◌, ◌||◌, eqb, leb, List, length, get_or, take, is_some, Some, None, Option, sym, refl, ap, ◌∙◌, subst, inl, inr, arith, length-take, get_or-take}
use native.Mathlib.Nat.{le-max_left, le-max_right}
use lib.ListN.{length-map}
use Rattle.std.proofs.lemmas.List.{get_or-map, get_or_past}
use Rattle.std.proofs.lemmas.Bool.{false≢true, and_parts, eqb-true, leb-true, cases_lt}
use Rattle.words.specs.Bytes.{every, allowed}
use Rattle.words.specs.Words.{largest, longest}
use Rattle.nodes.specs.declared.node.Node.{Node}
use Rattle.nodes.specs.declared.view.View.TheVariants as V
use Rattle.nodes.specs.declared.view.Sort.{Sort}
use Rattle.nodes.specs.declared.view.Sort.TheVariants as S
use Rattle.nodes.specs.Nodes.{blank, node_at, view_as, view_of, view_at, arrow, arrows_of, leads, all_lead, of_sort, type_by, type_of, integer, string, kinds}
use Rattle.nodes.specs.Trees.{build, tree, nest}
use Rattle.nodes.proofs.ByKind.{kind_is, by_kind}
use Rattle.nodes.proofs.Grown.{lead_parts, tree_led}
use Rattle.nodes.specs.declared.binding.Binding.{Binding}
use Rattle.deck.specs.Rules.{inside, spelled, worded, formed_as, looked, declared, numbered, same_number, names, agree}
use Rattle.deck.specs.Sound.{kind_in, Leads, Holds, Right, Sound}
use Rattle.deck.proofs.Clean.{Clean}
use Rattle.deck.proofs.Declarations.{has_kind}
use Rattle.deck.proofs.Lookup.{found_some}

-- a variable's number is that of a declaration
pub variable_found : (ls : List ℕ) (ns : List Node) (v : ℕ) (x : Node) → x.kind ≡ 2 → declared ls (names v ns) x ≡ true → numbered ls (names v ns) x ≡ true → (d : Binding) × ((looked ls (names v ns) x ≡ Some d) × (x.c ≡ d.number))
variable_found ls ns v x k e f = by (looked ls (names v ns) x) refl
    (subst (λ m. (not (eqb m 2) || is_some (looked ls (names v ns) x)) ≡ true) k e)
    (subst (λ m. (not (eqb m 2) || same_number x.c (looked ls (names v ns) x)) ≡ true) k f)
  where
    by : (o : Option Binding) → looked ls (names v ns) x ≡ o → is_some o ≡ true → same_number x.c o ≡ true → (d : Binding) × ((looked ls (names v ns) x ≡ Some d) × (x.c ≡ d.number))
    by (Some d) q p r = (d, (q, eqb-true _ _ r))
    by None q p r = absurd (false≢true p)

pub number_below : (ls : List ℕ) (ns : List Node) (v i : ℕ) → Clean ls ns v i → (node_at ns i).kind ≡ 2 → (node_at ns i).c < v
number_below ls ns v i c k =
    let p = variable_found ls ns v (node_at ns i) k c.known c.number_right in
    let q = found_some ls (spelled ls (node_at ns i).a (node_at ns i).b) ns v p.0 p.1.0 in
    let l = q.0 in let e = p.1.1 in omega arith

-- the declared types
pub kinds_size : (ls : List ℕ) (ns : List Node) (v : ℕ) → v < length ns → length (kinds (record { letters = ls; nodes = ns; variables = v })) ≡ v
kinds_size ls ns v h = length-map (take v ns) (λ x. x.c) ∙ (simp length-take (omega arith))

pub kinds_at : (ls : List ℕ) (ns : List Node) (v k : ℕ) → v < length ns → k < v → get_or (kinds (record { letters = ls; nodes = ns; variables = v })) k 0 ≡ (node_at ns k).c
kinds_at ls ns v k h l =
    let e : length (take v ns) ≡ v = simp length-take (omega arith) in
    let g : k < length (take v ns) = omega arith in
    get_or-map (λ x. x.c) (take v ns) k blank 0 g ∙ ap (λ x. x.c) (get_or-take v ns k blank l)

-- a view that is known
seen : (ns : List Node) (i k : ℕ) → (node_at ns i).kind ≡ k → view_at ns i ≡ view_as k (node_at ns i).a (node_at ns i).b (node_at ns i).c
seen ns i k e = kind_is (node_at ns i) k e

module _ (ls : List ℕ) (ns : List Node) (v : ℕ) (some : v < length ns) (clean : (i : ℕ) → i < length ns → Clean ls ns v i) where
  -- the type of an expression, by the declared types
  typed : (a : ℕ) → a < length ns → type_of ns a ≡ kind_in (kinds (record { letters = ls; nodes = ns; variables = v })) (view_at ns a)
  typed a h =
      by_kind (λ w. type_by ns w ≡ kind_in (kinds (record { letters = ls; nodes = ns; variables = v })) w) (node_at ns a).kind (node_at ns a).a (node_at ns a).b (node_at ns a).c
      (λ e. refl) (λ e. sym (kinds_at ls ns v (node_at ns a).c some (number_below ls ns v a (clean a h) e))) (λ e. refl) (λ e. refl) (λ e. refl) (λ e. refl) (λ e. refl) (λ e. refl) (λ e. refl) (λ e. refl) refl refl

  module _ (i : ℕ) (h : i < length ns) where
    -- where arrows lead
    to : (s : Sort) (a : ℕ) → leads ns i (arrow s a) ≡ true → (a < i) × (of_sort s (node_at ns a).kind ≡ true)
    to s a e = lead_parts ns i (arrow s a) e

    led_as : (k : ℕ) → (node_at ns i).kind ≡ k → all_lead ns i (arrows_of (view_as k (node_at ns i).a (node_at ns i).b (node_at ns i).c)) ≡ true
    led_as k e = subst (λ w. all_lead ns i (arrows_of w) ≡ true) (seen ns i k e) (clean i h).led

    agree_as : (k : ℕ) → (node_at ns i).kind ≡ k → agree ns (view_as k (node_at ns i).a (node_at ns i).b (node_at ns i).c) ≡ true
    agree_as k e = subst (λ w. agree ns w ≡ true) (seen ns i k e) (clean i h).agreed

    tree_as : (k : ℕ) → (node_at ns i).kind ≡ k → tree ns i ≡ build (tree ns) (view_as k (node_at ns i).a (node_at ns i).b (node_at ns i).c)
    tree_as k e = tree_led ns i (clean i h).led ∙ ap (build (tree ns)) (seen ns i k e)

    leads_to : (a t : ℕ) → leads ns i (arrow S.Expression a) ≡ true → type_of ns a ≡ t → Leads (record { letters = ls; nodes = ns; variables = v }) i a t
    leads_to a t e q =
        let p = to S.Expression a e in
        let l = p.0 in
        record { lower = p.0; sort = p.1; agrees = sym (typed a (omega arith)) ∙ q }

    holds_to : (a m : ℕ) (s : Sort) → leads ns i (arrow s a) ≡ true → m + nest (tree ns a) ≤ nest (tree ns i) → Holds (record { letters = ls; nodes = ns; variables = v }) i a s m
    holds_to a m s e q = let p = to s a e in record { lower = p.0; sort = p.1; nested = q }

    right_plus : (node_at ns i).kind ≡ 5 → Right (record { letters = ls; nodes = ns; variables = v }) i (V.Plus (node_at ns i).a (node_at ns i).b)
    right_plus e =
        let l = and_parts (leads ns i (arrow S.Expression (node_at ns i).a)) (leads ns i (arrow S.Expression (node_at ns i).b)) (led_as 5 e) in
        let t = and_parts (eqb (type_of ns (node_at ns i).a) integer) (eqb (type_of ns (node_at ns i).b) integer) (agree_as 5 e) in
        (leads_to (node_at ns i).a integer l.0 (eqb-true _ _ t.0), leads_to (node_at ns i).b integer l.1 (eqb-true _ _ t.1))

    right_conc : (node_at ns i).kind ≡ 6 → Right (record { letters = ls; nodes = ns; variables = v }) i (V.Conc (node_at ns i).a (node_at ns i).b)
    right_conc e =
        let l = and_parts (leads ns i (arrow S.Expression (node_at ns i).a)) (leads ns i (arrow S.Expression (node_at ns i).b)) (led_as 6 e) in
        let t = and_parts (eqb (type_of ns (node_at ns i).a) string) (eqb (type_of ns (node_at ns i).b) string) (agree_as 6 e) in
        (leads_to (node_at ns i).a string l.0 (eqb-true _ _ t.0), leads_to (node_at ns i).b string l.1 (eqb-true _ _ t.1))

    right_assign : (node_at ns i).kind ≡ 7 → Right (record { letters = ls; nodes = ns; variables = v }) i (V.Assign (node_at ns i).a (node_at ns i).b)
    right_assign e =
        let a = (node_at ns i).a in
        let l = and_parts (leads ns i (arrow S.Variable (node_at ns i).a)) (leads ns i (arrow S.Expression (node_at ns i).b)) (led_as 7 e) in
        let p = to S.Variable (node_at ns i).a l.0 in
        let below = p.0 in
        let inner : (node_at ns i).a < length ns = omega arith in
        let var = eqb-true (node_at ns (node_at ns i).a).kind 2 p.1 in
        let few = number_below ls ns v (node_at ns i).a (clean (node_at ns i).a inner) var in
        let same : type_of ns (node_at ns i).a ≡ type_of ns (node_at ns i).b = eqb-true _ _ (agree_as 7 e) in
        let kind : type_of ns (node_at ns i).a ≡ get_or (kinds (record { letters = ls; nodes = ns; variables = v })) (node_at ns (node_at ns i).a).c 0 =
        ap (type_by ns) (seen ns (node_at ns i).a 2 var) ∙ sym (kinds_at ls ns v (node_at ns (node_at ns i).a).c some few) in
        record {
          lower = p.0;
          variable = var;
          target = (let z = kinds_size ls ns v some in omega arith);
          value = leads_to (node_at ns i).b (get_or (kinds (record { letters = ls; nodes = ns; variables = v })) (node_at ns (node_at ns i).a).c 0) l.1 (sym same ∙ kind);
        }

    right_if : (node_at ns i).kind ≡ 8 → Right (record { letters = ls; nodes = ns; variables = v }) i (V.If (node_at ns i).a (node_at ns i).b (node_at ns i).c)
    right_if e =
        let l = and_parts (leads ns i (arrow S.Expression (node_at ns i).a)) (leads ns i (arrow S.Series (node_at ns i).b) && leads ns i (arrow S.Series (node_at ns i).c)) (led_as 8 e) in
        let m = and_parts (leads ns i (arrow S.Series (node_at ns i).b)) (leads ns i (arrow S.Series (node_at ns i).c)) l.1 in
        let t : nest (tree ns i) ≡ 1 + max (nest (tree ns (node_at ns i).b)) (nest (tree ns (node_at ns i).c)) = ap nest (tree_as 8 e) in
        let x = le-max_left (nest (tree ns (node_at ns i).b)) (nest (tree ns (node_at ns i).c)) in
        let y = le-max_right (nest (tree ns (node_at ns i).b)) (nest (tree ns (node_at ns i).c)) in
        (leads_to (node_at ns i).a integer l.0 (eqb-true _ _ (agree_as 8 e)), (holds_to (node_at ns i).b 1 S.Series m.0 (omega arith), holds_to (node_at ns i).c 1 S.Series m.1 (omega arith)))

    right_while : (node_at ns i).kind ≡ 9 → Right (record { letters = ls; nodes = ns; variables = v }) i (V.While (node_at ns i).a (node_at ns i).b)
    right_while e =
        let l = and_parts (leads ns i (arrow S.Expression (node_at ns i).a)) (leads ns i (arrow S.Series (node_at ns i).b)) (led_as 9 e) in
        let t : nest (tree ns i) ≡ 1 + nest (tree ns (node_at ns i).b) = ap nest (tree_as 9 e) in
        (leads_to (node_at ns i).a integer l.0 (eqb-true _ _ (agree_as 9 e)), holds_to (node_at ns i).b 1 S.Series l.1 (omega arith))

    right_series : (node_at ns i).kind ≡ 10 → Right (record { letters = ls; nodes = ns; variables = v }) i (V.Series (node_at ns i).a (node_at ns i).b)
    right_series e =
        let l = and_parts (leads ns i (arrow S.Statement (node_at ns i).a)) (leads ns i (arrow S.Series (node_at ns i).b)) (led_as 10 e) in
        let t : nest (tree ns i) ≡ max (nest (tree ns (node_at ns i).a)) (nest (tree ns (node_at ns i).b)) = ap nest (tree_as 10 e) in
        let x = le-max_left (nest (tree ns (node_at ns i).a)) (nest (tree ns (node_at ns i).b)) in
        let y = le-max_right (nest (tree ns (node_at ns i).a)) (nest (tree ns (node_at ns i).b)) in
        (holds_to (node_at ns i).a 0 S.Statement l.0 (omega arith), holds_to (node_at ns i).b 0 S.Series l.1 (omega arith))

    formed_as_kind : (k : ℕ) → (node_at ns i).kind ≡ k → formed_as ls (node_at ns i) (view_as k (node_at ns i).a (node_at ns i).b (node_at ns i).c) ≡ true
    formed_as_kind k e = subst (λ w. formed_as ls (node_at ns i) w ≡ true) (seen ns i k e) (clean i h).form

    right_text : (node_at ns i).kind ≡ 4 → ((node_at ns i).b ≤ longest) × ((node_at ns i).a + (node_at ns i).b ≤ length ls)
    right_text e =
        let p = and_parts (worded ls (node_at ns i).a (node_at ns i).b) (eqb (node_at ns i).c 0) (formed_as_kind 4 e) in
        let q = and_parts (inside ls (node_at ns i).a (node_at ns i).b) (leb (node_at ns i).b longest && every allowed (spelled ls (node_at ns i).a (node_at ns i).b)) p.0 in
        let r = and_parts (leb (node_at ns i).b longest) (every allowed (spelled ls (node_at ns i).a (node_at ns i).b)) q.1 in
        (leb-true _ _ r.0, leb-true _ _ q.0)

    right_number : (node_at ns i).kind ≡ 3 → (node_at ns i).a + 65536 * (node_at ns i).b ≤ largest
    right_number e = leb-true _ _ (and_parts (eqb (node_at ns i).c 0) (leb ((node_at ns i).a + 65536 * (node_at ns i).b) largest) (formed_as_kind 3 e)).1

    right_here : Right (record { letters = ls; nodes = ns; variables = v }) i (view_at ns i)
    right_here =
        by_kind (Right (record { letters = ls; nodes = ns; variables = v }) i) (node_at ns i).kind (node_at ns i).a (node_at ns i).b (node_at ns i).c
        (λ e. tt) (λ e. let z = kinds_size ls ns v some in let l = number_below ls ns v i (clean i h) e in omega arith) right_number right_text right_plus right_conc right_assign right_if right_while right_series tt tt

  past_end : (i : ℕ) → length ns ≤ i → Right (record { letters = ls; nodes = ns; variables = v }) i (view_at ns i)
  past_end i h = subst (λ x. Right (record { letters = ls; nodes = ns; variables = v }) i (view_of x)) (sym (get_or_past ns i blank h)) tt

  pub sound_by : of_sort S.Series (node_at ns (length ns - 1)).kind ≡ true → Sound (record { letters = ls; nodes = ns; variables = v })
  sound_by last = record {
    right = λ i. elim (cases_lt i (length ns)) [ inl h ↦ right_here i h | inr h ↦ past_end i h ];
    declared = kinds_size ls ns v some;
    known = λ i h.
        let z = kinds_size ls ns v some in
        let l : i < v = omega arith in
        let e = kinds_at ls ns v i some l in
        elim (has_kind ls ns v i (clean i (omega arith)) l) [ inl k ↦ inl (e ∙ k) | inr k ↦ inr (e ∙ k) ];
    some = some;
    top = last;
    level_few = λ i h. (clean i h).level_few;
    nest_few = λ i h. (clean i h).nest_few;
  }
