-- One beat, by what stands in front.
use Rattle.std.proofs.Common.{◌≡◌, ℕ, Bool, true, false, cond, eqb, List, ◌∷◌, length, set, Ok, Err, Result, sym, refl, ap, ◌∙◌, subst, arith}
use Rattle.std.proofs.lemmas.Bool.{cond-true, cond-false, eq-eqb, ne_eqb}
use Rattle.nodes.specs.Nodes.{Sheet, node_at}
use Rattle.nodes.specs.declared.view.View.{View}
use Rattle.deck.specs.Sheets.{sheet_of}
use Rattle.shelf.specs.declared.Shelf.{Ghosts}
use Rattle.shelf.specs.Value.{Value, number, text, num_of}
use Rattle.shelf.specs.declared.refusal.Refusal.{Refusal}
use Rattle.shelf.specs.declared.refusal.Refusal.TheVariants.{NoCapacity}
use Rattle.semantics.specs.declared.status.Cause.{Cause}
use Rattle.semantics.specs.declared.status.Cause.TheVariants.{NoRoom}
use Rattle.semantics.specs.declared.status.Status.TheVariants.{Ready, Stopped}
use Rattle.semantics.specs.declared.call.Outcome.{Outcome}
use Rattle.semantics.specs.declared.call.Outcome.TheVariants.{Number, Text}
use Rattle.semantics.specs.Syntax.{expression, skip, own, stated}
use Rattle.semantics.specs.Expressions.{value}
use Rattle.semantics.specs.Semantics.{State, settled, halted, crowded, done, taken, fronted, beat_at, beat}
use Rattle.player.specs.declared.course.Course.{Course}
use Rattle.player.specs.declared.course.Coming.{Coming}
use Rattle.player.specs.declared.player.Player.{Player}
use Rattle.player.specs.Stack.{reaches}
use Rattle.player.specs.Of.{todo_of, behind, Moved, state_with, state_of, deck_of, Comes, GoesTo, beat_of}
use Rattle.player.specs.Evaluation.{meant, Computed, numbered, branch_of, store_answer, stored}
use Rattle.player.proofs.Storing.{answer_ok, answer_err}
use Rattle.nodes.specs.declared.view.View.TheVariants as V

-- what the evaluator's answer says
computed_err : (v : Result Value Cause) (c : Cause) (l : List ℕ) → Computed v (Err c) l → v ≡ Err c
computed_err (Ok (number n)) c l e = let z : ◌≡◌ {A = ℕ} 0 1 = cc in absurd (omega arith)
computed_err (Ok (text t)) c l e = let f = e.0 in let z : ◌≡◌ {A = ℕ} 0 1 = cc in absurd (omega arith)
computed_err (Err d) c l e = let f : d ≡ c = cc in ap (λ y. Err y) f

computed_ok : (v : Result Value Cause) (y : Outcome) (l : List ℕ) → Computed v (Ok y) l → v ≡ Ok (meant y l)
computed_ok (Ok (number n)) y l e = let f : y ≡ Number n = cc in ap (λ z. Ok (meant z l)) (sym f)
computed_ok (Ok (text t)) y l e =
    let q = e.0 in
    let f : y ≡ Text (length t) = cc in
    ap (λ z. Ok (text z)) (sym e.2) ∙ ap (λ z. Ok (meant z l)) (sym f)
computed_ok (Err d) y l e = let z : ◌≡◌ {A = ℕ} 0 1 = cc in absurd (omega arith)

numbered_ok : (v : Result Value Cause) (x : ℕ) → Ok x ≡ numbered v → (u : Value) × (v ≡ Ok u) × (num_of u ≡ x)
numbered_ok (Ok u) x e = (u, refl, cc)
numbered_ok (Err c) x e = let z : ◌≡◌ {A = ℕ} 0 1 = cc in absurd (omega arith)

numbered_err : (v : Result Value Cause) (c : Cause) → Err c ≡ numbered v → v ≡ Err c
numbered_err (Ok u) c e = let z : ◌≡◌ {A = ℕ} 0 1 = cc in absurd (omega arith)
numbered_err (Err d) c e = let f : d ≡ c = cc in ap (λ y. Err y) f

pub branch_reaches : (sh : Sheet) (x p q b m : ℕ) → b ≡ branch_of x p q → reaches sh p m ≡ true → reaches sh q m ≡ true → reaches sh b m ≡ true
branch_reaches sh x p q b m e f g = subst (λ j. reaches sh j m ≡ true) (sym e) (by (eqb x 0))
  where
    by : (t : Bool) → reaches sh (cond t q p) m ≡ true
    by true = g
    by false = f

module _ (c : Course) (ready : c.status ≡ Ready) (r : Coming) (p : Comes c r) (R : ℕ) (vs : List Value) where
  beat_as : (w : View) → r.statement ≡ w → beat (sheet_of c.deck) R (state_with vs c) ≡ done (sheet_of c.deck) R vs r.front (behind c) r.at r.rest (stated (sheet_of c.deck) w) (value vs (own (stated (sheet_of c.deck) w)))
  unfolding beat
  beat_as w e =
      ap (beat_at (sheet_of c.deck) R vs (todo_of c)) ready
      ∙ ap (fronted (sheet_of c.deck) R vs) p.todo
      ∙ ap (taken (sheet_of c.deck) R vs r.front (behind c)) p.series_is
      ∙ ap (λ v. done (sheet_of c.deck) R vs r.front (behind c) r.at r.rest (stated (sheet_of c.deck) v) (value vs (own (stated (sheet_of c.deck) v)))) (p.statement_is ∙ e)

  -- the statement's own expression has a value, or stops
  with_value : (w : View) → r.statement ≡ w → (q : Result Value Cause) → value vs (own (stated (sheet_of c.deck) w)) ≡ q → beat (sheet_of c.deck) R (state_with vs c) ≡ done (sheet_of c.deck) R vs r.front (behind c) r.at r.rest (stated (sheet_of c.deck) w) q
  with_value w k q e = beat_as w k ∙ ap (done (sheet_of c.deck) R vs r.front (behind c) r.at r.rest (stated (sheet_of c.deck) w)) e

  halts : (d : Course) (x : Cause) → todo_of d ≡ todo_of c → d.status ≡ Stopped x r.at → state_with vs d ≡ halted vs (r.front ∷ behind c) x r.at
  halts d x e s = let f = e ∙ p.todo in cc

  moves : (d : Course) (ws : List Value) (ts : List ℕ) → Moved c.deck d ts → state_with ws d ≡ settled (sheet_of c.deck) ws ts
  moves d ws ts m = let e = m.todo in let f = m.status in cc

  stops : (w : View) → r.statement ≡ w → (d : Course) (x : Cause) → value vs (own (stated (sheet_of c.deck) w)) ≡ Err x → todo_of d ≡ todo_of c → d.status ≡ Stopped x r.at → state_with vs d ≡ beat (sheet_of c.deck) R (state_with vs c)
  stops w k d x v e s = halts d x e s ∙ sym (with_value w k (Err x) v)

  pub stop_assign : (a b : ℕ) → r.statement ≡ V.Assign a b → (d : Course) (x : Cause) (l : List ℕ) → Computed (value vs (expression (sheet_of c.deck) b)) (Err x) l → todo_of d ≡ todo_of c → d.status ≡ Stopped x r.at → state_with vs d ≡ beat (sheet_of c.deck) R (state_with vs c)
  stop_assign a b k d x l v = stops (V.Assign a b) k d x (computed_err _ x l v)

  pub stop_if : (t i j : ℕ) → r.statement ≡ V.If t i j → (d : Course) (x : Cause) → Err x ≡ numbered (value vs (expression (sheet_of c.deck) t)) → todo_of d ≡ todo_of c → d.status ≡ Stopped x r.at → state_with vs d ≡ beat (sheet_of c.deck) R (state_with vs c)
  stop_if t i j k d x v = stops (V.If t i j) k d x (numbered_err _ x v)

  pub stop_while : (t i : ℕ) → r.statement ≡ V.While t i → (d : Course) (x : Cause) → Err x ≡ numbered (value vs (expression (sheet_of c.deck) t)) → todo_of d ≡ todo_of c → d.status ≡ Stopped x r.at → state_with vs d ≡ beat (sheet_of c.deck) R (state_with vs c)
  stop_while t i k d x v = stops (V.While t i) k d x (numbered_err _ x v)

  -- an assignment, by what the shelf answered
  module _ (a b : ℕ) (k : r.statement ≡ V.Assign a b) (n : ℕ) (en : n ≡ (node_at (sheet_of c.deck).nodes a).c) (y : Outcome) (l : List ℕ) (v : Computed (value vs (expression (sheet_of c.deck) b)) (Ok y) l) (d : Course) (ws : List Value) (ew : ws ≡ stored R vs n (meant y l)) where
    assign_is : beat (sheet_of c.deck) R (state_with vs c) ≡ cond (crowded R vs n (meant y l)) (halted vs (r.front ∷ behind c) (NoRoom NoCapacity) r.at) (settled (sheet_of c.deck) (set vs n (meant y l)) (r.rest ∷ behind c))
    assign_is =
        with_value (V.Assign a b) k (Ok (meant y l)) (computed_ok _ y l v)
        ∙ ap (λ j. cond (crowded R vs j (meant y l)) (halted vs (r.front ∷ behind c) (NoRoom NoCapacity) r.at) (settled (sheet_of c.deck) (set vs j (meant y l)) (r.rest ∷ behind c))) (sym en)

    pub go_assign : (u : Unit {0}) → Ok u ≡ store_answer R vs n (meant y l) → Moved c.deck d (r.rest ∷ behind c) → state_with ws d ≡ beat (sheet_of c.deck) R (state_with vs c)
    go_assign u q m =
        let f = answer_ok R vs n (meant y l) u q in
        moves d ws (r.rest ∷ behind c) m ∙ ap (λ z. settled (sheet_of c.deck) z (r.rest ∷ behind c)) (ew ∙ cond-false (crowded R vs n (meant y l)) vs (set vs n (meant y l)) f)
        ∙ sym (assign_is ∙ cond-false _ _ _ f)

    pub crowd_assign : (why : Refusal) → Err why ≡ store_answer R vs n (meant y l) → todo_of d ≡ todo_of c → d.status ≡ Stopped (NoRoom why) r.at → state_with ws d ≡ beat (sheet_of c.deck) R (state_with vs c)
    crowd_assign why q e s =
        let f = answer_err R vs n (meant y l) why q in
        ap (λ z. state_with z d) (ew ∙ cond-true (crowded R vs n (meant y l)) vs (set vs n (meant y l)) f.0)
        ∙ halts d (NoRoom NoCapacity) e (s ∙ ap (λ z. Stopped (NoRoom z) r.at) f.1) ∙ sym (assign_is ∙ cond-true _ _ _ f.0)

  -- an if goes on with one of its series
  pub go_if : (t i j : ℕ) → r.statement ≡ V.If t i j → (d : Course) (x b : ℕ) → Ok x ≡ numbered (value vs (expression (sheet_of c.deck) t)) → b ≡ branch_of x i j → Moved c.deck d (b ∷ r.rest ∷ behind c) → state_with vs d ≡ beat (sheet_of c.deck) R (state_with vs c)
  go_if t i j k d x b v e m =
      let u = numbered_ok _ x v in
      moves d vs (b ∷ r.rest ∷ behind c) m ∙ ap (λ z. settled (sheet_of c.deck) vs (z ∷ r.rest ∷ behind c)) (e ∙ ap (λ z. branch_of z i j) (sym u.2))
      ∙ sym (with_value (V.If t i j) k (Ok u.0) u.1)

  -- a while goes on with its rest, or with its body and this series again
  while_is : (t i x : ℕ) → r.statement ≡ V.While t i → Ok x ≡ numbered (value vs (expression (sheet_of c.deck) t)) →
      beat (sheet_of c.deck) R (state_with vs c) ≡ cond (eqb x 0) (settled (sheet_of c.deck) vs (r.rest ∷ behind c)) (settled (sheet_of c.deck) vs (i ∷ r.front ∷ behind c))
  while_is t i x k v =
      let u = numbered_ok _ x v in
      with_value (V.While t i) k (Ok u.0) u.1
      ∙ ap (λ y. cond (eqb y 0) (settled (sheet_of c.deck) vs (r.rest ∷ behind c)) (settled (sheet_of c.deck) vs (i ∷ r.front ∷ behind c))) u.2

  pub past_while : (t i : ℕ) → r.statement ≡ V.While t i → (d : Course) (x : ℕ) → Ok x ≡ numbered (value vs (expression (sheet_of c.deck) t)) → x ≡ 0 → Moved c.deck d (r.rest ∷ behind c) → state_with vs d ≡ beat (sheet_of c.deck) R (state_with vs c)
  past_while t i k d x v z m = moves d vs (r.rest ∷ behind c) m ∙ sym (while_is t i x k v ∙ cond-true _ _ _ (eq-eqb x 0 z))

  pub into_while : (t i : ℕ) → r.statement ≡ V.While t i → (d : Course) (x : ℕ) → Ok x ≡ numbered (value vs (expression (sheet_of c.deck) t)) → (x ≡ 0 → ⊥) → Moved c.deck d (i ∷ r.front ∷ behind c) → state_with vs d ≡ beat (sheet_of c.deck) R (state_with vs c)
  into_while t i k d x v z m = moves d vs (i ∷ r.front ∷ behind c) m ∙ sym (while_is t i x k v ∙ cond-false _ _ _ (ne_eqb x 0 z))

  -- what is no statement is passed over
  skips : (w : View) → r.statement ≡ w → ((a b : ℕ) → r.statement ≡ V.Assign a b → ⊥) → ((t i j : ℕ) → r.statement ≡ V.If t i j → ⊥) → ((t i : ℕ) → r.statement ≡ V.While t i → ⊥) → stated (sheet_of c.deck) w ≡ skip
  skips (V.Assign a b) e ha hi hw = absurd (ha a b e)
  skips (V.If t i j) e ha hi hw = absurd (hi t i j e)
  skips (V.While t i) e ha hi hw = absurd (hw t i e)
  skips (V.Declaration x y z) e ha hi hw = refl
  skips (V.Variable x y z) e ha hi hw = refl
  skips (V.Number x) e ha hi hw = refl
  skips (V.Text x y) e ha hi hw = refl
  skips (V.Plus x y) e ha hi hw = refl
  skips (V.Conc x y) e ha hi hw = refl
  skips (V.Series x y) e ha hi hw = refl
  skips V.Empty e ha hi hw = refl
  skips V.Unknown e ha hi hw = refl

  pub go_skip : ((a b : ℕ) → r.statement ≡ V.Assign a b → ⊥) → ((t i j : ℕ) → r.statement ≡ V.If t i j → ⊥) → ((t i : ℕ) → r.statement ≡ V.While t i → ⊥) → (d : Course) → Moved c.deck d (r.rest ∷ behind c) → state_with vs d ≡ beat (sheet_of c.deck) R (state_with vs c)
  go_skip ha hi hw d m =
      moves d vs (r.rest ∷ behind c) m
      ∙ sym (beat_as r.statement refl ∙ ap (λ st. done (sheet_of c.deck) R vs r.front (behind c) r.at r.rest st (value vs (own st))) (skips r.statement refl ha hi hw))

-- a beat of a player that has gone on from another
module _ {S : Type 0} (g : Ghosts S) (p q r : Player S) (a : GoesTo g p q (state_of g.values q)) (b : GoesTo g q r (beat_of g q)) where
  pub beat_begun : state_of g.values r ≡ beat (sheet_of (deck_of p)) (g.capacity p.shelf) (state_of g.values q)
  beat_begun = b.state ∙ ap (λ x. beat (sheet_of x) (g.capacity q.shelf) (state_of g.values q)) a.deck ∙ ap (λ y. beat (sheet_of (deck_of p)) y (state_of g.values q)) a.capacity

  pub goes_on : (s : State) → state_of g.values r ≡ s → GoesTo g p r s
  goes_on s e = record { deck = b.deck ∙ a.deck; capacity = b.capacity ∙ a.capacity; slots = b.slots ∙ a.slots; state = e }
