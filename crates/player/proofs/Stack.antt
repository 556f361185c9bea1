-- The series still to do, as a course holds them.
use Rattle.std.proofs.Common.{◌≡◌, ℕ, ◌+◌, ◌-◌, ◌<◌, ◌≤◌, true, false, ◌&&◌, eqb, leb, List, [], ◌∷◌, ◌++◌, reverse, length, get_or, take, sym, refl, ap, ◌∙◌, subst, ⊎_elim, arith, length-take, take_all, get_or-take}
use mathlib.Core.List.{reverse-append}
use Rattle.std.proofs.lemmas.List.{take_more, length_push, get_or_push, get_or_append_left}
use Rattle.std.proofs.lemmas.Bool.{cond-true, cond-false, and_parts, and_from, leb-true, le-leb, eq-eqb, eqb-true, cases_lt}
use Rattle.nodes.specs.Nodes.{Sheet, node_at, view_of}
use Rattle.nodes.specs.declared.node.Node.{Node}
use Rattle.nodes.proofs.ByKind.{by_kind, kind_is}
use Rattle.deck.specs.Sheets.{sheet_of}
use Rattle.deck.specs.declared.deck.Deck.{Deck}
use Rattle.deck.proofs.OfDeck.{sound, count_is, fits}
use Rattle.semantics.specs.declared.status.Status.{Status}
use Rattle.semantics.specs.declared.status.Status.TheVariants.{Ready, Ended}
use Rattle.semantics.specs.Semantics.{full, settle, status_of}
use Rattle.player.specs.declared.course.Course.{Course}
use Rattle.player.specs.Stack.{reaches, Stacked, front_right, Settles}
use Rattle.player.specs.Of.{depth_of, behind}

-- a series with a statement, by its kind
full_not : (x : Node) → (x.kind ≡ 10 → ⊥) → full (view_of x) ≡ false
full_not x n =
    by_kind (λ w. full w ≡ false) x.kind x.a x.b x.c
    (λ e. refl) (λ e. refl) (λ e. refl) (λ e. refl) (λ e. refl) (λ e. refl) (λ e. refl) (λ e. refl) (λ e. refl) (λ e. absurd (n e)) refl refl

full_yes : (x : Node) → x.kind ≡ 10 → full (view_of x) ≡ true
full_yes x e = ap full (kind_is x 10 e)

pub full_kind : (x : Node) → full (view_of x) ≡ true → x.kind ≡ 10
full_kind x h =
    by_kind (λ w. full w ≡ true → x.kind ≡ 10) x.kind x.a x.b x.c
    (λ e g. cc) (λ e g. cc) (λ e g. cc) (λ e g. cc) (λ e g. cc) (λ e g. cc) (λ e g. cc) (λ e g. cc) (λ e g. cc) (λ e g. e) (λ g. cc) (λ g. cc) h

pub full_other : (x : Node) → full (view_of x) ≡ false → x.kind ≡ 10 → ⊥
full_other x h k = let e = full_yes x k in cc

pub reversed : (ts : List ℕ) → 0 < length ts → reverse ts ≡ get_or ts (length ts - 1) 0 ∷ reverse (take (length ts - 1) ts)
reversed ts h =
    let e : length ts ≡ (length ts - 1) + 1 = omega arith in
    ap reverse (sym (take_all (length ts) ts (omega arith)) ∙ ap (λ k. take k ts) e ∙ take_more ts (length ts - 1) 0 (omega arith))
    ∙ reverse-append (take (length ts - 1) ts) (get_or ts (length ts - 1) 0 ∷ [])

module _ (sh : Sheet) (ts : List ℕ) (ok : Stacked sh ts) where
  -- what is known of the front series
  pub top : 0 < length ts → (length ts - 1 ≤ 16) × (reaches sh (get_or ts (length ts - 1) 0) (16 - (length ts - 1)) ≡ true)
  top h =
      let p = and_parts (leb (length ts - 1) 16) (reaches sh (get_or ts (length ts - 1) 0) (16 - (length ts - 1))) (ok (length ts - 1) (omega arith)) in
      (leb-true (length ts - 1) 16 p.0, p.1)

  -- fewer are stacked too
  pub fewer : (m : ℕ) → Stacked sh (take m ts)
  fewer m k l =
      let e = length-take m ts in
      let b : k < m = omega arith in
      subst (λ x. (leb k 16 && reaches sh x (16 - k)) ≡ true) (sym (get_or-take m ts k 0 b)) (ok k (omega arith))

stacked_push : (sh : Sheet) (ts : List ℕ) (m x : ℕ) → length ts ≡ m → Stacked sh ts → m ≤ 16 → reaches sh x (16 - m) ≡ true → Stacked sh (ts ++ x ∷ [])
stacked_push sh ts m x e ok h f k l =
    let n = length_push ts x in
    ⊎_elim
    (λ (b : k < m). subst (λ y. (leb k 16 && reaches sh y (16 - k)) ≡ true) (sym (get_or_append_left ts (x ∷ []) 0 k (omega arith))) (ok k (omega arith)))
    (λ (b : m ≤ k).
    let q : k ≡ length ts = omega arith in
    let r : m ≡ k = omega arith in
    subst (λ y. (leb k 16 && reaches sh y (16 - k)) ≡ true) (sym (get_or_push ts x 0 k (sym q)))
    (and_from (leb k 16) (reaches sh x (16 - k)) (le-leb k 16 (omega arith)) (subst (λ j. reaches sh x (16 - j) ≡ true) r f)))
    (cases_lt k m)

empty_of : (ts : List ℕ) → length ts ≤ 0 → ts ≡ []
empty_of [] h = refl
empty_of (x ∷ xs) h = absurd (omega arith)

-- the loop that drops
pub record Settling (sh : Sheet) (before now : List ℕ) : Type 0 where
  pub few : length now ≤ length before
  pub stacked : Stacked sh before → Stacked sh now
  pub same : settle sh (reverse now) ≡ settle sh (reverse before)

module _ (sh : Sheet) (before now : List ℕ) (p : Settling sh before now) where
  pub settling_stay : (y : ℕ) → 0 < length now → y ≡ get_or now (length now - 1) 0 → (node_at sh.nodes y).kind ≡ 10 → Settles sh before now Ready
  unfolding settle
  settling_stay y h ey ky =
      let k : (node_at sh.nodes (get_or now (length now - 1) 0)).kind ≡ 10 = subst (λ j. (node_at sh.nodes j).kind ≡ 10) ey ky in
      let e = reversed now h in
      let f = full_yes (node_at sh.nodes (get_or now (length now - 1) 0)) k in
      let t : reverse now ≡ settle sh (reverse before) = e ∙ sym (ap (settle sh) e ∙ cond-true _ _ _ f) ∙ p.same in
      record {
        few = p.few;
        stacked = p.stacked;
        front = and_from (leb 1 (length now)) (eqb (node_at sh.nodes (get_or now (length now - 1) 0)).kind 10) (le-leb 1 (length now) h) (eq-eqb _ 10 k);
        todo = t;
        status = ap status_of (sym e ∙ t);
      }

  pub settling_drop : (y : ℕ) → 0 < length now → y ≡ get_or now (length now - 1) 0 → ((node_at sh.nodes y).kind ≡ 10 → ⊥) → Settling sh before (take (length now - 1) now)
  unfolding settle
  settling_drop y h ey ky =
      let k : (node_at sh.nodes (get_or now (length now - 1) 0)).kind ≡ 10 → ⊥ = subst (λ j. (node_at sh.nodes j).kind ≡ 10 → ⊥) ey ky in
      let q = p.few in
      let l = length-take (length now - 1) now in
      let e = reversed now h in
      let f = full_not (node_at sh.nodes (get_or now (length now - 1) 0)) k in
      record { few = omega arith; stacked = λ s. fewer sh now (p.stacked s) (length now - 1); same = sym (ap (settle sh) e ∙ cond-false _ _ _ f) ∙ p.same }

  pub settling_none : length now ≤ 0 → Settles sh before now Ended
  unfolding settle
  settling_none h =
      let z : now ≡ [] = empty_of now h in
      let t : [] ≡ settle sh (reverse before) = sym (ap (λ l. settle sh (reverse l)) z) ∙ p.same in
      record { few = p.few; stacked = p.stacked; front = refl; todo = ap reverse z ∙ t; status = ap status_of t }

-- where a course lands once it is settled
pub record Lands (sh : Sheet) (us : List ℕ) (s : Status) (ts : List ℕ) : Type 0 where
  pub deep : length us ≤ 17
  pub stacked : Stacked sh us
  pub front : front_right sh us s ≡ true
  pub todo_is : reverse us ≡ settle sh ts
  pub status_is : s ≡ status_of (settle sh ts)

lands : (sh : Sheet) (ws vs us ts : List ℕ) (s : Status) → vs ≡ ws → length ws ≤ 17 → Stacked sh ws → reverse ws ≡ ts → Settles sh vs us s → Lands sh us s ts
lands sh ws vs us ts s e w ok r p =
    let f = p.few in
    let l = ap length e in
    record {
      deep = omega arith;
      stacked = p.stacked (subst (Stacked sh) (sym e) ok);
      front = p.front;
      todo_is = p.todo ∙ ap (λ y. settle sh (reverse y)) e ∙ ap (settle sh) r;
      status_is = p.status ∙ ap (λ y. status_of (settle sh (reverse y))) e ∙ ap (λ y. status_of (settle sh y)) r;
    }

-- a ready course has a series with a statement in front
pub ready_some : (sh : Sheet) (ts : List ℕ) (s : Status) → front_right sh ts s ≡ true → s ≡ Ready → (0 < length ts) × ((node_at sh.nodes (get_or ts (length ts - 1) 0)).kind ≡ 10)
ready_some sh ts s h e =
    let p = and_parts (leb 1 (length ts)) (eqb (node_at sh.nodes (get_or ts (length ts - 1) 0)).kind 10) (ap (front_right sh ts) (sym e) ∙ h) in
    (leb-true 1 (length ts) p.0, eqb-true _ 10 p.1)

pub some : (c : Course) → c.status ≡ Ready → 0 < depth_of c
some c ready = (ready_some (sheet_of c.deck) c.todo.items c.status c.front ready).0

-- the front series replaced, and one more before it
module _ (c : Course) (ready : c.status ≡ Ready) (x : ℕ) (fx : reaches (sheet_of c.deck) x (16 - (depth_of c - 1)) ≡ true) (ws : List ℕ) (ew : ws ≡ take (depth_of c - 1) c.todo.items) where
  long : length (take (depth_of c - 1) c.todo.items) ≡ depth_of c - 1
  long = let l = length-take (depth_of c - 1) c.todo.items in omega arith

  put_stacked : Stacked (sheet_of c.deck) (take (depth_of c - 1) c.todo.items ++ x ∷ [])
  put_stacked = let d = c.deep in let h = some c ready in stacked_push (sheet_of c.deck) (take (depth_of c - 1) c.todo.items) (depth_of c - 1) x long (fewer (sheet_of c.deck) c.todo.items c.stacked (depth_of c - 1)) (omega arith) fx

  put_reverse : reverse (take (depth_of c - 1) c.todo.items ++ x ∷ []) ≡ x ∷ behind c
  put_reverse = reverse-append (take (depth_of c - 1) c.todo.items) (x ∷ [])

  put_long : length (take (depth_of c - 1) c.todo.items ++ x ∷ []) ≡ depth_of c
  put_long = let l = long in let h = some c ready in let m = length_push (take (depth_of c - 1) c.todo.items) x in omega arith

  module _ (vs : List ℕ) (ev : vs ≡ ws ++ x ∷ []) where
    put_is : vs ≡ take (depth_of c - 1) c.todo.items ++ x ∷ []
    put_is = ev ∙ ap (λ l. l ++ x ∷ []) ew

    pub put_lands : (us : List ℕ) (s : Status) → Settles (sheet_of c.deck) vs us s → Lands (sheet_of c.deck) us s (x ∷ behind c)
    put_lands us s p = let d = c.deep in let l = put_long in lands (sheet_of c.deck) (take (depth_of c - 1) c.todo.items ++ x ∷ []) vs us _ s put_is (omega arith) put_stacked put_reverse p

    pub enter_lands : (y : ℕ) → depth_of c ≤ 16 → reaches (sheet_of c.deck) y (16 - depth_of c) ≡ true → (zs us : List ℕ) (s : Status) → zs ≡ vs ++ y ∷ [] → Settles (sheet_of c.deck) zs us s → Lands (sheet_of c.deck) us s (y ∷ x ∷ behind c)
    enter_lands y h f zs us s e p =
        let l = put_long in
        let m = length_push (take (depth_of c - 1) c.todo.items ++ x ∷ []) y in
        lands (sheet_of c.deck) ((take (depth_of c - 1) c.todo.items ++ x ∷ []) ++ y ∷ []) zs us _ s (e ∙ ap (λ k. k ++ y ∷ []) put_is) (omega arith)
        (stacked_push (sheet_of c.deck) (take (depth_of c - 1) c.todo.items ++ x ∷ []) (depth_of c) y put_long put_stacked h f)
        (reverse-append (take (depth_of c - 1) c.todo.items ++ x ∷ []) (y ∷ []) ∙ ap (λ k. y ∷ k) put_reverse) p

-- the last node alone to do
pub last_few : (d : Deck) → (1 ≤ length (sheet_of d).nodes) × (length (sheet_of d).nodes ≤ 512)
last_few d = let e = count_is d in let f = fits d in let a = f.two in let b = f.n_few in (omega arith, omega arith)

first_stacked : (d : Deck) → Stacked (sheet_of d) ((length (sheet_of d).nodes - 1) ∷ [])
first_stacked d k l =
    let z : 0 ≡ k = omega arith in
    let f = (last_few d).0 in
    subst (λ j. (leb j 16 && reaches (sheet_of d) (get_or ((length (sheet_of d).nodes - 1) ∷ []) j 0) (16 - j)) ≡ true) z
    (le-leb _ 16 ((sound d).nest_few (length (sheet_of d).nodes - 1) (omega arith)))

pub first_lands : (d : Deck) (ws vs us : List ℕ) (x : ℕ) (s : Status) → ws ≡ [] → vs ≡ ws ++ x ∷ [] → x ≡ length (sheet_of d).nodes - 1 → Settles (sheet_of d) vs us s → Lands (sheet_of d) us s ((length (sheet_of d).nodes - 1) ∷ [])
first_lands d ws vs us x s ew ev ex p = lands (sheet_of d) ((length (sheet_of d).nodes - 1) ∷ []) vs us _ s (ev ∙ ap (λ l. l ++ x ∷ []) ew ∙ ap (λ y. y ∷ []) ex) (omega arith) (first_stacked d) refl p
