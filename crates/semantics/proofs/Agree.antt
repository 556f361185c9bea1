-- What the semantics ends with is what the sheet evaluates to.
use Rattle.std.proofs.Common.{◌≡◌, ℕ, zero, suc, Bool, true, false, cond, eqb, List, [], ◌∷◌, set, Ok, Err, Result, sym, refl, ap, ◌∙◌, subst}
use Rattle.std.proofs.lemmas.Bool.{false≢true, eqb-true, eqb-false}
use Rattle.nodes.specs.Nodes.{Sheet, view_at}
use Rattle.nodes.specs.declared.view.View.{View}
use Rattle.deck.specs.Sound.{Sound}
use Rattle.shelf.specs.Value.{Value, num_of}
use Rattle.shelf.specs.declared.refusal.Refusal.TheVariants.{NoCapacity}
use Rattle.semantics.specs.declared.status.Cause.{Cause}
use Rattle.semantics.specs.declared.status.Cause.TheVariants.{NoRoom}
use Rattle.semantics.specs.declared.status.Status.{Status}
use Rattle.semantics.specs.declared.status.Status.TheVariants.{Ready, Ended, Stopped}
use Rattle.semantics.specs.Syntax.{Expr, Statement, assign, if_else, while_do, skip, own, statement}
use Rattle.semantics.specs.Expressions.{ideal, value}
use Rattle.semantics.specs.Semantics.{State, full, settle, settled, halted, crowded, act, done, taken, beat_at, beat, run, begun}
use Rattle.semantics.specs.Evaluates.{Evaluates, Performs, empty, then, sets, first, second, leaves, again, idles, whole, starting}
use Rattle.semantics.specs.Law.{Held, IsStopped, left}
use Rattle.semantics.specs.Report.{Agreement}
use Rattle.semantics.proofs.Expressions.{Valued, wants, proper, own_valued}
use Rattle.semantics.proofs.Beats.{Good, good_beat, good_begun, beats_right}
use Rattle.semantics.proofs.Runs.{Still, stopped, run_still}
use Rattle.semantics.proofs.Natural.{of_series}
use Rattle.nodes.specs.declared.view.View.TheVariants as V

pub still_stopped : (t : Status) → IsStopped t → Still t
still_stopped Ready h = absurd h
still_stopped Ended h = absurd h
still_stopped (Stopped c a) h = stopped

module _ (sh : Sheet) where
  -- the series still to do, one after the (V.Declaration p s k), take vs to ws
  -- the series still to do, one after the V.Empty, take vs to ws
  -- the series still to do, one after the V.Unknown, take vs to ws
  abbrev pub All : List ℕ → List Value → List Value → Type 0
  All [] vs ws = ws ≡ vs
  All (i ∷ is) vs xs = (ws : List Value) × Evaluates sh i vs ws × All is ws xs

  pub settle_all : (ts : List ℕ) (vs xs : List Value) → All (settle sh ts) vs xs → All ts vs xs
  unfolding settle
  settle_all [] vs xs h = h
  settle_all (i ∷ is) vs xs h = by (full (view_at sh.nodes i)) refl (settle_all is vs xs) h
    where
      by : (b : Bool) → full (view_at sh.nodes i) ≡ b → (All (settle sh is) vs xs → All is vs xs) → All (cond b (i ∷ is) (settle sh is)) vs xs → All (i ∷ is) vs xs
      by true e r h = h
      by false e r h = (vs, empty e, r h)

  left_all : (ts : List ℕ) (vs : List Value) → left sh ts ≡ false → All ts vs vs
  left_all [] vs e = refl
  left_all (i ∷ is) vs e = by (full (view_at sh.nodes i)) refl e (left_all is vs)
    where
      by : (b : Bool) → full (view_at sh.nodes i) ≡ b → cond b true (left sh is) ≡ false → (left sh is ≡ false → All is vs vs) → All (i ∷ is) vs vs
      by true f e r = absurd (false≢true (sym e))
      by false f e r = (vs, empty f, r e)

  -- what is left to do after s was left to do before, unless s has stopped
  abbrev Back : List Value → List ℕ → State → Type 0
  Back vs ts s = (IsStopped s.status → ⊥) → (xs : List Value) → All s.todo s.values xs → All ts vs xs

  settled_back : (vs ws : List Value) (ts us : List ℕ) → ((xs : List Value) → All us ws xs → All ts vs xs) → Back vs ts (settled sh ws us)
  settled_back vs ws ts us g z xs h = g xs (settle_all us ws xs h)

  module _ (R : ℕ) (vs : List Value) (f : ℕ) (ts : List ℕ) (a b : ℕ) (v : view_at sh.nodes f ≡ V.Series a b) where
    -- one statement, and the rest of its series
    go : (ws : List Value) (st : Statement) → statement sh a ≡ st → Performs sh st vs ws → (xs : List Value) → All (b ∷ ts) ws xs → All (f ∷ ts) vs xs
    go ws st e p xs h = (h.0, then v (subst (λ s. Performs sh s vs ws) (sym e) p) h.1, h.2)

    put_back : (n : ℕ) (e : Expr) (w : Value) → statement sh a ≡ assign n e → w ≡ ideal vs e → (t : Bool) → Back vs (f ∷ ts) (cond t (halted vs (f ∷ ts) (NoRoom NoCapacity) a) (settled sh (set vs n w) (b ∷ ts)))
    put_back n e w q is true = λ z. absurd (z tt)
    put_back n e w q is false = settled_back vs (set vs n w) (f ∷ ts) (b ∷ ts) (go (set vs n w) (assign n e) q (subst (λ u. Performs sh (assign n e) vs (set vs n u)) (sym is) sets))

    choose_back : (e : Expr) (i j : ℕ) (w : Value) → statement sh a ≡ if_else e i j → w ≡ ideal vs e → (t : Bool) → eqb (num_of w) 0 ≡ t → Back vs (f ∷ ts) (settled sh vs (cond t j i ∷ b ∷ ts))
    choose_back e i j w q is true z = settled_back vs vs (f ∷ ts) (j ∷ b ∷ ts) (λ xs h. go h.0 (if_else e i j) q (second (ap num_of (sym is) ∙ eqb-true (num_of w) 0 z) h.1) xs h.2)
    choose_back e i j w q is false z = settled_back vs vs (f ∷ ts) (i ∷ b ∷ ts) (λ xs h. go h.0 (if_else e i j) q (first (λ y. eqb-false (num_of w) 0 z (ap num_of is ∙ y)) h.1) xs h.2)

    repeat_back : (e : Expr) (i : ℕ) (w : Value) → statement sh a ≡ while_do e i → w ≡ ideal vs e → (t : Bool) → eqb (num_of w) 0 ≡ t → Back vs (f ∷ ts) (cond t (settled sh vs (b ∷ ts)) (settled sh vs (i ∷ f ∷ ts)))
    repeat_back e i w q is true z = settled_back vs vs (f ∷ ts) (b ∷ ts) (go vs (while_do e i) q (leaves (ap num_of (sym is) ∙ eqb-true (num_of w) 0 z)))
    repeat_back e i w q is false z =
        settled_back vs vs (f ∷ ts) (i ∷ f ∷ ts)
        (λ xs h.
        let r = of_series sh h.2.1 a b v in
        go r.0 (while_do e i) q (again (λ y. eqb-false (num_of w) 0 z (ap num_of is ∙ y)) h.1 (subst (λ s. Performs sh s h.0 r.0) q r.1)) xs (h.2.0, r.2, h.2.2))

    act_back : (st : Statement) (w : Value) → statement sh a ≡ st → w ≡ ideal vs (own st) → Back vs (f ∷ ts) (act sh R vs f ts a b st w)
    act_back (assign n e) w q is = put_back n e w q is (crowded R vs n w)
    act_back (if_else e i j) w q is = choose_back e i j w q is (eqb (num_of w) 0) refl
    act_back (while_do e i) w q is = repeat_back e i w q is (eqb (num_of w) 0) refl
    act_back skip w q is = settled_back vs vs (f ∷ ts) (b ∷ ts) (go vs skip q idles)

    done_back : (st : Statement) (k : ℕ) (r : Result Value Cause) → statement sh a ≡ st → Valued vs (own st) k r → Back vs (f ∷ ts) (done sh R vs f ts a b st r)
    done_back st k (Ok w) q h = act_back st w q h.is
    done_back st k (Err c) q h = λ z. absurd (z tt)

  module _ (R : ℕ) (ok : Sound sh) where
    drop_back : (vs : List Value) (f : ℕ) (ts : List ℕ) → full (view_at sh.nodes f) ≡ false → Back vs (f ∷ ts) (settled sh vs ts)
    drop_back vs f ts e = settled_back vs vs (f ∷ ts) ts (λ xs h. (vs, empty e, h))

    taken_back : (vs : List Value) (f : ℕ) (ts : List ℕ) → Held sh R vs → (x : View) → view_at sh.nodes f ≡ x → Back vs (f ∷ ts) (taken sh R vs f ts x)
    taken_back vs f ts h (V.Series a b) e = done_back R vs f ts a b e (statement sh a) (wants sh ok (statement sh a)) (value vs (own (statement sh a))) refl (own_valued sh ok R vs h (statement sh a) (proper sh ok a))
    taken_back vs f ts h (V.Variable p s c) e = drop_back vs f ts (ap full e)
    taken_back vs f ts h (V.Number n) e = drop_back vs f ts (ap full e)
    taken_back vs f ts h (V.Text a b) e = drop_back vs f ts (ap full e)
    taken_back vs f ts h (V.Plus a b) e = drop_back vs f ts (ap full e)
    taken_back vs f ts h (V.Conc a b) e = drop_back vs f ts (ap full e)
    taken_back vs f ts h (V.Assign a b) e = drop_back vs f ts (ap full e)
    taken_back vs f ts h (V.If a b c) e = drop_back vs f ts (ap full e)
    taken_back vs f ts h (V.While a b) e = drop_back vs f ts (ap full e)
    taken_back vs f ts h (V.Declaration p s k) e = drop_back vs f ts (ap full e)
    taken_back vs f ts h V.Empty e = drop_back vs f ts (ap full e)
    taken_back vs f ts h V.Unknown e = drop_back vs f ts (ap full e)

    back_at : (vs : List Value) (ts : List ℕ) (t : Status) → Held sh R vs → Back vs ts (beat_at sh R vs ts t)
    back_at vs [] Ready h = λ z xs d. d
    back_at vs (f ∷ ts) Ready h = taken_back vs f ts h (view_at sh.nodes f) refl
    back_at vs ts Ended h = λ z xs d. d
    back_at vs ts (Stopped c a) h = λ z xs d. d

    beat_back : (s : State) → Held sh R s.values → Back s.values s.todo (beat sh R s)
    unfolding beat
    beat_back s h = back_at s.values s.todo s.status h

    not_stopped : (n : ℕ) (s : State) → (run sh R n s).status ≡ Ended → IsStopped s.status → ⊥
    not_stopped n s e h = subst IsStopped (sym (ap (λ t. t.status) (run_still sh R n s (still_stopped s.status h))) ∙ e) h

    -- what is still to do evaluates to what the semantics ends with
    pub run_all : (n : ℕ) (s : State) → Good sh R s → (run sh R n s).status ≡ Ended → All s.todo s.values (run sh R n s).values
    unfolding run
    run_all zero s g e = left_all s.todo s.values ((beats_right sh R ok s g).ended.0 e)
    run_all (suc n) s g e = beat_back s g.held (not_stopped n (beat sh R s) e) (run sh R n (beat sh R s)).values (run_all n (beat sh R s) (good_beat sh R ok s g) e)

pub agreement : Agreement
agreement sh R ok h e =
    let d = settle_all sh (whole sh ∷ []) (starting sh) (run sh R h (begun sh)).values (run_all sh R ok h (begun sh) (good_begun sh R ok) e) in
    subst (λ z. Evaluates sh (whole sh) (starting sh) z) (sym d.2) d.1
