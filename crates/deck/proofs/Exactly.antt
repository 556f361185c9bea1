-- Load accepts exactly the sheets that keep to every rule.
use Rattle.std.proofs.Common.{◌≡◌, ℕ, ◌-◌, ◌<◌, ◌≤◌, Bool, true, false, not, ◌||◌, eqb, ltb, leb, List, length, take, is_some, is_ok, Some, None, Ok, Option, sym, refl, ap, ◌∙◌, subst, inl, inr, arith}
use Rattle.std.proofs.lemmas.Bool.{false≢true, true≢false, cond-true, and_from, or_left, or_right, ltb-true, le-leb, lt-ltb, eq-eqb, ne_eqb, cases_lt, cases_eq, cases_Bool}
use Rattle.std.proofs.lemmas.Bool.Decides.{nat_tests}
use Rattle.nodes.specs.declared.node.Node.{Node}
use Rattle.nodes.specs.declared.view.Sort.TheVariants as S
use Rattle.nodes.specs.Limits.{most_nodes, most_letters, most_variables, deepest_level, deepest_nest}
use Rattle.nodes.specs.Nodes.{node_at, view_at, arrows_of, all_lead, of_sort}
use Rattle.nodes.specs.Trees.{tree, level, nest}
use Rattle.deck.specs.declared.fault.Refusal.{Refusal}
use Rattle.deck.specs.declared.fault.Refusal.TheVariants as R
use Rattle.nodes.specs.declared.binding.Binding.{Binding}
use Rattle.deck.specs.Accepts.{arrows_to, name_at, Sizes, Rules, Exactly}
use Rattle.deck.specs.Rules.{placed, inside, formed, taken, names, looked, original, declared, numbered, same_number, agree, ensured}
use Rattle.deck.specs.Load.{naming, shape, judged, or_on, first, sizes_fit, sheet_says}
use Rattle.deck.proofs.Scan.{joined, none_first}
use Rattle.deck.proofs.Clean.{Clean}
use Rattle.deck.proofs.Accepted.{fits, faultless, last_is_series, reached}
use Rattle.deck.proofs.Arrows.{taken_is, one_arrow, never_again}
use Rattle.deck.proofs.Declarations.{is_declaration, name_inside}
use Rattle.deck.proofs.Lookup.{take_names, spelt, binding, found_some, found_none, none_found, found_first, spells_is, is_spells}
use Rattle.deck.proofs.Soundness.{variable_found}

other_kind : (v i k : ℕ) → placed v i k ≡ true → v ≤ i → (2 ≤ k) × (k ≤ 11)
other_kind v i k e h = (grind (arith, nat_tests), grind (arith, nat_tests))

declares : (v i k : ℕ) → placed v i k ≡ true → k ≡ 1 → i < v
declares v i k e h = grind (arith, nat_tests)

-- the rules of an accepted sheet
module _ (ls : List ℕ) (ns : List Node) (n v : ℕ) (below : v < n) (clean : (i : ℕ) → i < n → Clean ls ns v i) where
  named_inside : (i : ℕ) → i < v → inside ls (node_at ns i).a (node_at ns i).b ≡ true
  named_inside i h = name_inside ls (node_at ns i) (is_declaration ls ns v i (clean i (omega arith)) h) (clean i (omega arith)).form

  none_is : (o : Option Binding) → (not true || not (is_some o)) ≡ true → o ≡ None
  none_is None e = refl
  none_is (Some d) e = absurd (false≢true e)

  -- no lower node has the name that node j declares
  new_name : (i j : ℕ) → i < j → j < v → name_at ls ns i ≡ name_at ls ns j → ⊥
  new_name i j h l e =
      let w = name_at ls ns j in
      let k = is_declaration ls ns v j (clean j (omega arith)) l in
      let q : looked ls (take j (names v ns)) (node_at ns j) ≡ None = none_is (looked ls (take j (names v ns)) (node_at ns j)) (subst (λ m. (not (eqb m 1) || not (is_some (looked ls (take j (names v ns)) (node_at ns j)))) ≡ true) k (clean j (omega arith)).new) in
      let z = none_found ls (name_at ls ns j) ns j (sym (ap (λ es. looked ls es (node_at ns j)) (take_names j v ns (omega arith))) ∙ q) i h in
      true≢false (sym (is_spells ls (name_at ls ns j) (node_at ns i).a (node_at ns i).b (named_inside i (omega arith)) e) ∙ z)

  differ : (i j : ℕ) → i < v → j < v → name_at ls ns i ≡ name_at ls ns j → i ≡ j
  differ i j h l e = elim (cases_eq i j) [
    | inl q ↦ q
    | inr d ↦ elim (cases_lt i j) [ inl g ↦ absurd (new_name i j g l e) | inr g ↦ absurd (new_name j i (omega arith) h (sym e)) ]
  ]

  number_is : (i : ℕ) → i < n → (node_at ns i).kind ≡ 2 → ((node_at ns i).c < v) × (name_at ls ns (node_at ns i).c ≡ name_at ls ns i)
  number_is i h k =
      let p = variable_found ls ns v (node_at ns i) k (clean i h).known (clean i h).number_right in
      let q = found_some ls (name_at ls ns i) ns v p.0 p.1.0 in
      let e = p.1.1 in
      let l = q.0 in
      (omega arith, ap (λ j. name_at ls ns j) e ∙ spells_is ls (name_at ls ns i) (node_at ns p.0.number).a (node_at ns p.0.number).b q.1)

  pub rules : of_sort S.Series (node_at ns (n - 1)).kind ≡ true → ((k : ℕ) → v ≤ k → k < n - 1 → taken ns n k ≡ true) → Rules ls ns n v
  rules last all = record {
    declarations = λ i h. is_declaration ls ns v i (clean i (omega arith)) h;
    others = λ i l h. other_kind v i (node_at ns i).kind (clean i h).placed_right l;
    fields = λ i h. (clean i h).form;
    arrows = λ i h. (clean i h).led;
    one_arrow = one_arrow ns n (λ i h. (clean i h).once);
    reached = λ k l h.
        let m = one_arrow ns n (λ i g. (clean i g).once) k in
        let t = ltb-true 0 (arrows_to ns n k) (sym (taken_is ns n k) ∙ all k l h) in
        omega arith;
    top = last;
    names_differ = differ;
    numbers = number_is;
    types = λ i h. (clean i h).agreed;
    levels = λ i h. (clean i h).level_few;
    nests = λ i h. (clean i h).nest_few;
  }

not_eqb : (a b : ℕ) → (a ≡ b → ⊥) → not (eqb a b) ≡ true
not_eqb a b d = ap not (ne_eqb a b d)

pub placed_first : (v i k : ℕ) → k ≡ 1 → i < v → placed v i k ≡ true
placed_first v i k e h = grind (arith, nat_tests)

pub placed_behind : (v i k : ℕ) → 2 ≤ k → k ≤ 11 → v ≤ i → placed v i k ≡ true
placed_behind v i k e f h = grind (arith, nat_tests)

-- a sheet that keeps to the rules has nothing against it
module _ (ls : List ℕ) (ns : List Node) (n v : ℕ) (below : v < n) (r : Rules ls ns n v) where
  -- the node k, a declaration, is spelled w only where its name is w
  unlike : (w : List ℕ) (k : ℕ) → (name_at ls ns k ≡ w → ⊥) → spelt ls w ns k ≡ false
  unlike w k d = elim (cases_Bool (spelt ls w ns k)) [ inl e ↦ absurd (d (spells_is ls w (node_at ns k).a (node_at ns k).b e)) | inr e ↦ e ]

  in_place : (i : ℕ) → i < n → placed v i (node_at ns i).kind ≡ true
  in_place i h = elim (cases_lt i v) [
    | inl l ↦ placed_first v i (node_at ns i).kind (r.declarations i l) l
    | inr l ↦ (let o = r.others i l h in placed_behind v i (node_at ns i).kind o.0 o.1 l)
  ]

  is_new : (i : ℕ) → i < n → original ls (take i (names v ns)) (node_at ns i) ≡ true
  is_new i h = elim (cases_eq (node_at ns i).kind 1) [
    | inl e ↦ (let l = declares v i (node_at ns i).kind (in_place i h) e in
        let q : looked ls (take i (names v ns)) (node_at ns i) ≡ None =
        ap (λ es. looked ls es (node_at ns i)) (take_names i v ns (omega arith))
        ∙ found_none ls (name_at ls ns i) ns i (λ j g. unlike (name_at ls ns i) j (λ s. let z = r.names_differ j i (omega arith) l s in omega arith)) in
        or_right (not (eqb (node_at ns i).kind 1)) (not (is_some (looked ls (take i (names v ns)) (node_at ns i)))) (ap (λ o. not (is_some o)) q))
    | inr d ↦ or_left (not (eqb (node_at ns i).kind 1)) (not (is_some (looked ls (take i (names v ns)) (node_at ns i)))) (not_eqb (node_at ns i).kind 1 d)
  ]

  -- what a variable's name is declared as
  bound : (i : ℕ) → i < n → (node_at ns i).kind ≡ 2 → looked ls (names v ns) (node_at ns i) ≡ Some (binding ns (node_at ns i).c)
  bound i h k =
      let p = r.numbers i h k in
      let l = p.0 in
      let f : formed ls (node_at ns (node_at ns i).c) ≡ true = r.fields (node_at ns i).c (omega arith) in
      found_first ls (name_at ls ns i) ns v (node_at ns i).c p.0
      (is_spells ls (name_at ls ns i) (node_at ns (node_at ns i).c).a (node_at ns (node_at ns i).c).b (name_inside ls (node_at ns (node_at ns i).c) (r.declarations (node_at ns i).c p.0) f) p.1)
      (λ m g. unlike (name_at ls ns i) m (λ s. let z = r.names_differ m (node_at ns i).c (omega arith) p.0 (s ∙ sym p.1) in omega arith))

  is_declared : (i : ℕ) → i < n → declared ls (names v ns) (node_at ns i) ≡ true
  is_declared i h = elim (cases_eq (node_at ns i).kind 2) [
    | inl k ↦ or_right (not (eqb (node_at ns i).kind 2)) (is_some (looked ls (names v ns) (node_at ns i))) (ap is_some (bound i h k))
    | inr d ↦ or_left (not (eqb (node_at ns i).kind 2)) (is_some (looked ls (names v ns) (node_at ns i))) (not_eqb (node_at ns i).kind 2 d)
  ]

  is_numbered : (i : ℕ) → i < n → numbered ls (names v ns) (node_at ns i) ≡ true
  is_numbered i h = elim (cases_eq (node_at ns i).kind 2) [
    | inl k ↦ or_right (not (eqb (node_at ns i).kind 2)) (same_number (node_at ns i).c (looked ls (names v ns) (node_at ns i))) (ap (same_number (node_at ns i).c) (bound i h k) ∙ eq-eqb (node_at ns i).c (node_at ns i).c refl)
    | inr d ↦ or_left (not (eqb (node_at ns i).kind 2)) (same_number (node_at ns i).c (looked ls (names v ns) (node_at ns i))) (not_eqb (node_at ns i).kind 2 d)
  ]

  kept : {b : Bool} (e : Refusal) → b ≡ true → ensured b e ≡ Ok tt
  kept e q = ap (λ x. ensured x e) q

  nothing_said : (i : ℕ) → i < n → judged ls ns v i ≡ Ok tt
  nothing_said i h =
      joined (shape ls ns v i (node_at ns i) (taken ns i)) _
      (joined (ensured (placed v i (node_at ns i).kind) R.Misplaced) _ (kept R.Misplaced (in_place i h))
      (joined (ensured (formed ls (node_at ns i)) R.Malformed) _ (kept R.Malformed (r.fields i h))
      (joined (ensured (all_lead ns i (arrows_of (view_at ns i))) R.Astray) _ (kept R.Astray (r.arrows i h))
      (kept R.SecondArrow (ap not (never_again ns n r.one_arrow i h))))))
      (joined (naming ls (names v ns) i (node_at ns i)) _
      (joined (ensured (original ls (take i (names v ns)) (node_at ns i)) R.Redeclared) _ (kept R.Redeclared (is_new i h))
      (joined (ensured (declared ls (names v ns) (node_at ns i)) R.Undeclared) _ (kept R.Undeclared (is_declared i h))
      (kept R.Misnumbered (is_numbered i h))))
      (joined (ensured (agree ns (view_at ns i)) R.Disagreeing) _ (kept R.Disagreeing (r.types i h))
      (kept R.TooDeep (and_from (leb (level (tree ns i)) deepest_level) (leb (nest (tree ns i)) deepest_nest) (le-leb _ _ (r.levels i h)) (le-leb _ _ (r.nests i h))))))

  pub accepted_by : sheet_says ls ns n v ≡ Ok tt
  accepted_by =
      joined (first (judged ls ns v) n 0) _ (none_first (judged ls ns v) n 0 (λ k l h. nothing_said k (omega arith)))
      (ap (λ o. or_on o (n - 1) (first (λ k. ensured (taken ns n k) R.NotOneTree) ((n - 1) - v) v)) (kept R.NotOneTree r.top)
      ∙ none_first (λ k. ensured (taken ns n k) R.NotOneTree) ((n - 1) - v) v
      (λ k l h. kept R.NotOneTree (let one = r.reached k l (omega arith) in taken_is ns n k ∙ lt-ltb 0 (arrows_to ns n k) (omega arith))))

sizes_hold : (t m n v : ℕ) → Sizes t m n v → sizes_fit t m n v ≡ true
sizes_hold t m n v s =
    and_from (leb 2 n) _ (le-leb 2 n s.two)
    (and_from (leb n most_nodes) _ (le-leb n most_nodes s.n_few)
    (and_from (leb n m) _ (le-leb n m s.n_given)
    (and_from (leb 1 v) _ (le-leb 1 v s.one)
    (and_from (leb v most_variables) _ (le-leb v most_variables s.v_few)
    (and_from (ltb v n) (leb t most_letters) (lt-ltb v n s.v_below) (le-leb t most_letters s.t_few))))))

pub exactly : Exactly
exactly ls ns n v = (
  (λ ok.
      let f = fits ls ns n v ok in
      (f, rules ls (take n ns) n v f.v_below (faultless ls ns n v ok) (last_is_series ls ns n v ok) (reached ls ns n v ok))),
  (λ a. ap is_ok (cond-true (sizes_fit (length ls) (length ns) n v) (sheet_says ls (take n ns) n v) _ (sizes_hold (length ls) (length ns) n v a.0) ∙ accepted_by ls (take n ns) n v a.0.v_below a.1)),
)
