-- What a sheet evaluates to is what the semantics ends with, unless a limit stops it.
use Rattle.std.proofs.Common.{◌≡◌, ℕ, ◌+◌, ◌-◌, ◌<◌, ◌≤◌, Bool, true, false, cond, eqb, ◌⊎◌, List, [], ◌∷◌, set, Ok, Err, Result, sym, refl, ap, ◌∙◌, subst, inl, inr, ⊎_elim, arith}
use Rattle.std.proofs.lemmas.Bool.{eq-eqb, ne_eqb, cases_lt}
use Rattle.nodes.specs.Nodes.{Sheet, view_at}
use Rattle.deck.specs.Sound.{Sound}
use Rattle.shelf.specs.Value.{Value, num_of}
use Rattle.shelf.specs.declared.refusal.Refusal.TheVariants.{NoCapacity}
use Rattle.semantics.specs.declared.status.Cause.{Cause}
use Rattle.semantics.specs.declared.status.Cause.TheVariants.{NoRoom}
use Rattle.semantics.specs.declared.status.Status.{Status}
use Rattle.semantics.specs.declared.status.Status.TheVariants.{Ready, Ended, Stopped}
use Rattle.semantics.specs.Syntax.{Expr, Statement, assign, if_else, while_do, skip, own, statement}
use Rattle.semantics.specs.Expressions.{ideal, value}
use Rattle.semantics.specs.Semantics.{State, full, settle, status_of, settled, halted, crowded, act, done, taken, beat, made_by, run, beats, begun}
use Rattle.semantics.specs.Evaluates.{Evaluates, Performs, empty, then, sets, first, second, leaves, again, idles, beats_in, beats_of, whole, starting}
use Rattle.semantics.specs.Law.{IsStopped}
use Rattle.semantics.specs.Report.{Ends, Converse}
use Rattle.semantics.proofs.Expressions.{Valued, wants, Proper, proper, own_valued}
use Rattle.semantics.proofs.Beats.{Good, good_run, good_begun, never_stopped}
use Rattle.semantics.proofs.Runs.{Still, ended, run_still, beats_still, run_add, beats_add, beats_le}
use Rattle.semantics.proofs.Natural.{deterministic}
use Rattle.semantics.proofs.Agree.{agreement, still_stopped}
use Rattle.nodes.specs.declared.view.View.TheVariants as V

-- s is t, or has stopped
abbrev Meets : State → State → Type 0
Meets s t = (s ≡ t) ⊎ IsStopped s.status

module _ (sh : Sheet) (R : ℕ) where
  -- s comes to t in n beats
  pub record Arrives (n : ℕ) (s t : State) : Type 0 where
    pub state : run sh R n s ≡ t
    pub made : beats sh R n s ≡ n

  -- or a limit has stopped it
  abbrev pub Gets : ℕ → State → State → Type 0
  Gets n s t = Arrives n s t ⊎ IsStopped (run sh R n s).status

  gets_none : (s t : State) → s ≡ t → Gets 0 s t
  unfolding run beats
  gets_none s t e = inl (record { state = e; made = refl })

  made_one : (u : Status) → (IsStopped u → ⊥) → made_by Ready u + 0 ≡ 1
  made_one Ready h = refl
  made_one Ended h = refl
  made_one (Stopped c a) h = absurd (h tt)

  gets_beat : (vs : List Value) (ts : List ℕ) (t : State) → (IsStopped t.status → ⊥) → Meets (beat sh R (record { values = vs; todo = ts; status = Ready })) t → Gets 1 (record { values = vs; todo = ts; status = Ready }) t
  unfolding run beats
  gets_beat vs ts t z =
      let s : State = record { values = vs; todo = ts; status = Ready } in
      ⊎_elim (λ e. inl (record { state = e; made = made_one (beat sh R s).status (λ h. z (subst (λ x. IsStopped x.status) e h)) })) (λ h. inr h)

  gets_from : (n : ℕ) (s s' t : State) → s ≡ s' → Gets n s' t → Gets n s t
  gets_from n s s' t e g = subst (λ z. Gets n z t) (sym e) g

  module _ (ok : Sound sh) where
    gets_then : (m n : ℕ) (s t u : State) → Good sh R s → Gets m s t → (Good sh R t → Gets n t u) → Gets (m + n) s u
    gets_then m n s t u g p f = ⊎_elim on off p
      where
        off : IsStopped (run sh R m s).status → Gets (m + n) s u
        off h = inr (subst (λ z. IsStopped z.status) (sym (run_add sh R m n s ∙ run_still sh R n (run sh R m s) (still_stopped (run sh R m s).status h))) h)

        on : Arrives m s t → Gets (m + n) s u
        on e =
            let q : Gets n t u = f (subst (Good sh R) e.state (good_run sh R ok m s g)) in
            let r : run sh R (m + n) s ≡ run sh R n t = run_add sh R m n s ∙ ap (run sh R n) e.state in
            let c : beats sh R (m + n) s ≡ m + beats sh R n t = beats_add sh R m n s ∙ ap (λ k. k + beats sh R n (run sh R m s)) e.made ∙ ap (λ z. m + beats sh R n z) e.state in
            ⊎_elim (λ a. inl (record { state = r ∙ a.state; made = c ∙ ap (λ k. m + k) a.made })) (λ h. inr (subst (λ z. IsStopped z.status) (sym r) h)) q

    module _ (vs : List Value) (f : ℕ) (ts : List ℕ) (a b : ℕ) (v : view_at sh.nodes f ≡ V.Series a b) where
      abbrev facing : State
      facing = record { values = vs; todo = f ∷ ts; status = Ready }

      faces : settled sh vs (f ∷ ts) ≡ facing
      unfolding settle
      faces = ap (λ x. let l : List ℕ = cond (full x) (f ∷ ts) (settle sh ts) in record { values = vs; todo = l; status = status_of l }) v

      beat_is : (st : Statement) → statement sh a ≡ st → beat sh R facing ≡ done sh R vs f ts a b st (value vs (own st))
      unfolding beat
      beat_is st e = ap (λ x. taken sh R vs f ts x) v ∙ ap (λ s. done sh R vs f ts a b s (value vs (own s))) e

      done_meets : (st : Statement) (k : ℕ) (t : State) → ((w : Value) → w ≡ ideal vs (own st) → Meets (act sh R vs f ts a b st w) t) → (r : Result Value Cause) → Valued vs (own st) k r → Meets (done sh R vs f ts a b st r) t
      done_meets st k t m (Ok w) h = m w h.is
      done_meets st k t m (Err c) h = inr tt

      -- one beat
      step : (st : Statement) (t : State) → (IsStopped t.status → ⊥) → statement sh a ≡ st → Good sh R (settled sh vs (f ∷ ts)) → ((w : Value) → w ≡ ideal vs (own st) → Meets (act sh R vs f ts a b st w) t) → Gets 1 (settled sh vs (f ∷ ts)) t
      step st t z e g m =
          let p : Proper sh ok st = subst (Proper sh ok) e (proper sh ok a) in
          let d = done_meets st (wants sh ok st) t m (value vs (own st)) (own_valued sh ok R vs g.held st p) in
          gets_from 1 (settled sh vs (f ∷ ts)) facing t faces (gets_beat vs (f ∷ ts) t z (subst (λ y. Meets y t) (sym (beat_is st e)) d))

      put_meets : (n : ℕ) (e : Expr) (w : Value) → w ≡ ideal vs e → (t : Bool) → Meets (cond t (halted vs (f ∷ ts) (NoRoom NoCapacity) a) (settled sh (set vs n w) (b ∷ ts))) (settled sh (set vs n (ideal vs e)) (b ∷ ts))
      put_meets n e w is true = inr tt
      put_meets n e w is false = inl (ap (λ u. settled sh (set vs n u) (b ∷ ts)) is)

      is_zero : (e : Expr) (w : Value) → w ≡ ideal vs e → num_of (ideal vs e) ≡ 0 → eqb (num_of w) 0 ≡ true
      is_zero e w is h = eq-eqb (num_of w) 0 (ap num_of is ∙ h)

      not_zero : (e : Expr) (w : Value) → w ≡ ideal vs e → ¬ (num_of (ideal vs e) ≡ 0) → eqb (num_of w) 0 ≡ false
      not_zero e w is h = ne_eqb (num_of w) 0 (λ z. h (ap num_of (sym is) ∙ z))

      chosen : (e : Expr) (i j : ℕ) (t : Bool) → ((w : Value) → w ≡ ideal vs e → eqb (num_of w) 0 ≡ t) → statement sh a ≡ if_else e i j → Good sh R (settled sh vs (f ∷ ts)) → Gets 1 (settled sh vs (f ∷ ts)) (settled sh vs (cond t j i ∷ b ∷ ts))
      chosen e i j t h q g = step (if_else e i j) (settled sh vs (cond t j i ∷ b ∷ ts)) (never_stopped sh R (settle sh (cond t j i ∷ b ∷ ts))) q g (λ w is. inl (ap (λ z. settled sh vs (cond z j i ∷ b ∷ ts)) (h w is)))

      either_goes : (t : Bool) (us ws : List ℕ) → IsStopped (cond t (settled sh vs us) (settled sh vs ws)).status → ⊥
      either_goes true us ws h = never_stopped sh R (settle sh us) h
      either_goes false us ws h = never_stopped sh R (settle sh ws) h

      looped : (e : Expr) (i : ℕ) (t : Bool) → ((w : Value) → w ≡ ideal vs e → eqb (num_of w) 0 ≡ t) → statement sh a ≡ while_do e i → Good sh R (settled sh vs (f ∷ ts)) → Gets 1 (settled sh vs (f ∷ ts)) (cond t (settled sh vs (b ∷ ts)) (settled sh vs (i ∷ f ∷ ts)))
      looped e i t h q g = step (while_do e i) (cond t (settled sh vs (b ∷ ts)) (settled sh vs (i ∷ f ∷ ts))) (either_goes t (b ∷ ts) (i ∷ f ∷ ts)) q g (λ w is. inl (ap (λ z. cond z (settled sh vs (b ∷ ts)) (settled sh vs (i ∷ f ∷ ts))) (h w is)))

    drops : (vs : List Value) (i : ℕ) (ts : List ℕ) → full (view_at sh.nodes i) ≡ false → settled sh vs (i ∷ ts) ≡ settled sh vs ts
    unfolding settle
    drops vs i ts e = ap (λ x. let l : List ℕ = cond x (i ∷ ts) (settle sh ts) in record { values = vs; todo = l; status = status_of l }) e

    mutual
      unfolding beats_in beats_of

      pub goes : {i : ℕ} {vs ws : List Value} (d : Evaluates sh i vs ws) (ts : List ℕ) → Good sh R (settled sh vs (i ∷ ts)) → Gets (beats_in d) (settled sh vs (i ∷ ts)) (settled sh ws ts)
      goes (empty {i = i} {vs = vs} e) ts g = gets_none (settled sh vs (i ∷ ts)) (settled sh vs ts) (drops vs i ts e)
      goes (then {i = i} {a = a} {b = b} {vs = vs} {ws = ws} {xs = xs} v p d) ts g =
          gets_then (beats_of p) (beats_in d) (settled sh vs (i ∷ ts)) (settled sh ws (b ∷ ts)) (settled sh xs ts) g (goes_of p i a b ts v refl g) (λ h. goes d ts h)

      pub goes_of : {st : Statement} {vs ws : List Value} (d : Performs sh st vs ws) (f a b : ℕ) (ts : List ℕ) → view_at sh.nodes f ≡ V.Series a b → statement sh a ≡ st → Good sh R (settled sh vs (f ∷ ts)) → Gets (beats_of d) (settled sh vs (f ∷ ts)) (settled sh ws (b ∷ ts))
      goes_of (sets {n = n} {e = e} {vs = vs}) f a b ts v q g =
          step vs f ts a b v (assign n e) (settled sh (set vs n (ideal vs e)) (b ∷ ts)) (never_stopped sh R (settle sh (b ∷ ts))) q g (λ w is. put_meets vs f ts a b v n e w is (crowded R vs n w))
      goes_of (first {e = e} {p = i} {q = j} {vs = vs} {ws = ws} h d) f a b ts v q g =
          gets_then 1 (beats_in d) (settled sh vs (f ∷ ts)) (settled sh vs (i ∷ b ∷ ts)) (settled sh ws (b ∷ ts)) g (chosen vs f ts a b v e i j false (λ w is. not_zero vs f ts a b v e w is h) q g) (λ k. goes d (b ∷ ts) k)
      goes_of (second {e = e} {p = i} {q = j} {vs = vs} {ws = ws} h d) f a b ts v q g =
          gets_then 1 (beats_in d) (settled sh vs (f ∷ ts)) (settled sh vs (j ∷ b ∷ ts)) (settled sh ws (b ∷ ts)) g (chosen vs f ts a b v e i j true (λ w is. is_zero vs f ts a b v e w is h) q g) (λ k. goes d (b ∷ ts) k)
      goes_of (leaves {e = e} {p = i} {vs = vs} h) f a b ts v q g = looped vs f ts a b v e i true (λ w is. is_zero vs f ts a b v e w is h) q g
      goes_of (again {e = e} {p = i} {vs = vs} {ws = ws} {xs = xs} h d r) f a b ts v q g =
          gets_then 1 (beats_in d + beats_of r) (settled sh vs (f ∷ ts)) (settled sh vs (i ∷ f ∷ ts)) (settled sh xs (b ∷ ts)) g (looped vs f ts a b v e i false (λ w is. not_zero vs f ts a b v e w is h) q g)
          (λ k. gets_then (beats_in d) (beats_of r) (settled sh vs (i ∷ f ∷ ts)) (settled sh ws (f ∷ ts)) (settled sh xs (b ∷ ts)) k (goes d (f ∷ ts) k) (λ k'. goes_of r f a b ts v q k'))
      goes_of (idles {vs = vs}) f a b ts v q g = step vs f ts a b v skip (settled sh vs (b ∷ ts)) (never_stopped sh R (settle sh (b ∷ ts))) q g (λ w is. inl refl)

  -- what is still after h beats makes no more
  no_more : (h : ℕ) (s : State) → Still (run sh R h s).status → (n : ℕ) → beats sh R n s ≤ h
  no_more h s st n = ⊎_elim below above (cases_lt n h)
    where
      below : n < h → beats sh R n s ≤ h
      below l = let b = beats_le sh R n s in omega arith

      above : h ≤ n → beats sh R n s ≤ h
      above l =
          let e : n ≡ h + (n - h) = omega arith in
          let c : beats sh R n s ≡ beats sh R h s + beats sh R (n - h) (run sh R h s) = ap (λ k. beats sh R k s) e ∙ beats_add sh R h (n - h) s in
          let z = beats_still sh R (n - h) (run sh R h s) st in
          let b = beats_le sh R h s in
          omega arith

pub converse : Converse
unfolding settle
converse sh R ok vs d =
    let h : ℕ = beats_in d in
    let p : Gets sh R h (begun sh) (settled sh vs []) = goes sh R ok d [] (good_begun sh R ok) in
    let made : Arrives sh R h (begun sh) (settled sh vs []) → Ends sh R h vs =
    λ a. record {
      ended = ap (λ s. s.status) a.state;
      values = ap (λ s. s.values) a.state;
      has = record { makes = a.made; never = no_more sh R h (begun sh) (subst Still (sym (ap (λ s. s.status) a.state)) ended) };
    } in
    let still : Still (run sh R h (begun sh)).status = ⊎_elim (λ a. subst Still (sym (ap (λ s. s.status) a.state)) ended) (still_stopped (run sh R h (begun sh)).status) p in
    record {
      never_others = λ n e. deterministic sh (whole sh) (starting sh) (run sh R n (begun sh)).values vs (agreement sh R ok n e) d;
      either = ⊎_elim (λ a. inl (made a)) (λ z. inr z) p;
      unless_stopped = λ z. ⊎_elim made (λ q. absurd (z h q)) p;
      not_endless = λ z. let a = no_more sh R h (begun sh) still (h + 1) in let b = z (h + 1) in omega arith;
    }
