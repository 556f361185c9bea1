-- What a beat keeps, and when it stops.
use Rattle.std.proofs.Common.{◌≡◌, ℕ, zero, suc, ◌+◌, ◌-◌, ◌<◌, ◌≤◌, Bool, true, false, cond, eqb, ◌⊎◌, ◌↔◌, List, [], ◌∷◌, map, length, get_or, set, Ok, Err, Result, sym, refl, ap, ◌∙◌, subst, inl, inr, ⊎_elim, arith, length-set, get_or-set_other, get_or-set_same}
use lib.ListN.{length-map}
use Rattle.std.proofs.lemmas.List.{get_or-map}
use Rattle.std.proofs.lemmas.Bool.{false≢true, cases_eq, ltb-true, ltb-false}
use Rattle.nodes.specs.Nodes.{Sheet, view_at, kinds}
use Rattle.nodes.specs.declared.view.View.{View}
use Rattle.deck.specs.Sound.{Sound}
use Rattle.shelf.specs.Value.{Value, number, text, kind_of, num_of, bytes_of, total, over}
use Rattle.shelf.specs.Calls.{fresh}
use Rattle.shelf.specs.declared.refusal.Refusal.TheVariants.{NoCapacity}
use Rattle.semantics.specs.declared.status.Cause.{Cause}
use Rattle.semantics.specs.declared.status.Cause.TheVariants.{NoRoom}
use Rattle.semantics.specs.declared.status.Status.{Status}
use Rattle.semantics.specs.declared.status.Status.TheVariants.{Ready, Ended, Stopped}
use Rattle.semantics.specs.Syntax.{Expr, Statement, assign, if_else, while_do, skip, own, statement}
use Rattle.semantics.specs.Expressions.{ideal, Passes, value}
use Rattle.semantics.specs.Semantics.{State, full, settle, status_of, settled, halted, crowded, act, done, taken, fronted, beat_at, beat, made_by, made, run, begun}
use Rattle.semantics.specs.Law.{Held, first_of, coming, WouldPass, IsStopped, left}
use Rattle.semantics.proofs.Expressions.{Exact, Valued, none_passes, wants, Proper, proper, own_valued}
use Rattle.nodes.specs.declared.view.View.TheVariants as V

-- what a beat of s does
pub record BeatsRight (sh : Sheet) (R : ℕ) (s : State) : Type 0 where
  pub stops : s.status ≡ Ready → IsStopped (beat sh R s).status ↔ WouldPass R s.values (coming sh s.todo)
  pub ended : s.status ≡ Ended ↔ left sh s.todo ≡ false
  pub goes_on : s.status ≡ Ready → ¬ (WouldPass R s.values (coming sh s.todo)) → made sh R s ≡ 1

-- a number takes no bytes
total_number : (vs : List Value) (n x : ℕ) → total (set vs n (number x)) ≤ total vs
total_number [] n x = omega arith
total_number (v ∷ vs) zero x = omega arith
total_number (v ∷ vs) (suc n) x = let h = total_number vs n x in omega arith

crowded_true : (R : ℕ) (vs : List Value) (n : ℕ) (w : Value) → crowded R vs n w ≡ true → R < total (set vs n w)
crowded_true R vs n (number x) e = absurd (false≢true e)
crowded_true R vs n (text t) e = ltb-true R (total (set vs n (text t))) e

crowded_false : (R : ℕ) (vs : List Value) (n : ℕ) (w : Value) → total vs ≤ R → crowded R vs n w ≡ false → total (set vs n w) ≤ R
crowded_false R vs n (number x) h e = let q = total_number vs n x in omega arith
crowded_false R vs n (text t) h e = ltb-false R (total (set vs n (text t))) e

module _ (sh : Sheet) (R : ℕ) where
  held_set : (vs : List Value) (n : ℕ) (w : Value) → Held sh R vs → n < length (kinds sh) → kind_of w ≡ get_or (kinds sh) n 0 → over w ≡ false → total (set vs n w) ≤ R → Held sh R (set vs n w)
  held_set vs n w h l k o r =
      let m : n < length vs = (let e = h.each in omega arith) in
      record {
        each = length-set vs n w ∙ h.each;
        kind = λ i p. ⊎_elim
            (λ (e : i ≡ n). ap (λ j. kind_of (get_or (set vs n w) j (number 0))) e ∙ ap kind_of (get_or-set_same vs n w (number 0) m) ∙ k ∙ ap (λ j. get_or (kinds sh) j 0) (sym e))
            (λ d. ap kind_of (get_or-set_other vs n i w (number 0) d) ∙ h.kind i p) (cases_eq i n);
        limit = λ i p. ⊎_elim
            (λ (e : i ≡ n). ap (λ j. over (get_or (set vs n w) j (number 0))) e ∙ ap over (get_or-set_same vs n w (number 0) m) ∙ o)
            (λ d. ap over (get_or-set_other vs n i w (number 0) d) ∙ h.limit i p) (cases_eq i n);
        capacity = r;
      }

  -- the front of the series still to do has a statement, unless ended
  abbrev FullFront : List ℕ → Type 0
  FullFront [] = ⊥
  FullFront (f ∷ ts) = full (view_at sh.nodes f) ≡ true

  abbrev Fronted : Status → List ℕ → Type 0
  Fronted Ready ts = FullFront ts
  Fronted Ended ts = ts ≡ []
  Fronted (Stopped c a) ts = FullFront ts

  settle_fronted : (ts : List ℕ) → Fronted (status_of (settle sh ts)) (settle sh ts)
  unfolding settle
  settle_fronted [] = refl
  settle_fronted (i ∷ is) = by (full (view_at sh.nodes i)) refl (settle_fronted is)
    where
      by : (b : Bool) → full (view_at sh.nodes i) ≡ b → Fronted (status_of (settle sh is)) (settle sh is) → Fronted (status_of (cond b (i ∷ is) (settle sh is))) (cond b (i ∷ is) (settle sh is))
      by true e h = e
      by false e h = h

  pub never_stopped : (ts : List ℕ) → IsStopped (status_of ts) → ⊥
  never_stopped [] h = h
  never_stopped (i ∷ is) h = h

  pub record Good (s : State) : Type 0 where
    pub held : Held sh R s.values
    pub front : Fronted s.status s.todo

  -- what the coming statement st leaves
  pub record Beaten (vs : List Value) (st : Statement) (s : State) : Type 0 where
    pub good : Good s
    pub stops : IsStopped s.status ↔ WouldPass R vs st

  went_on : (vs ws : List Value) (st : Statement) (ts : List ℕ) → Held sh R ws → (WouldPass R vs st → ⊥) → Beaten vs st (settled sh ws ts)
  went_on vs ws st ts h z = record { good = record { held = h; front = settle_fronted ts }; stops = (λ q. absurd (never_stopped (settle sh ts) q), λ q. absurd (z q)) }

  stopped : (vs : List Value) (st : Statement) (f : ℕ) (ts : List ℕ) (c : Cause) (a : ℕ) → Held sh R vs → full (view_at sh.nodes f) ≡ true → WouldPass R vs st → Beaten vs st (halted vs (f ∷ ts) c a)
  stopped vs st f ts c a h l z = record { good = record { held = h; front = l }; stops = (λ q. z, λ q. tt) }

  module _ (ok : Sound sh) (vs : List Value) (h : Held sh R vs) (f : ℕ) (ts : List ℕ) (l : full (view_at sh.nodes f) ≡ true) (a b : ℕ) where
    no_pass : (e : Expr) (k : ℕ) (w : Value) → Exact vs e k w → Passes vs e ⊎ (R < total vs) → ⊥
    no_pass e k w v = ⊎_elim (none_passes vs e v.parts) (λ q. let r = h.capacity in omega arith)

    put_beaten : (n : ℕ) (e : Expr) (w : Value) → n < length (kinds sh) → Exact vs e (get_or (kinds sh) n 0) w → (t : Bool) → crowded R vs n w ≡ t →
        Beaten vs (assign n e) (cond t (halted vs (f ∷ ts) (NoRoom NoCapacity) a) (settled sh (set vs n w) (b ∷ ts)))
    put_beaten n e w m v true q = stopped vs (assign n e) f ts (NoRoom NoCapacity) a h l (inr (subst (λ z. R < total (set vs n z)) v.is (crowded_true R vs n w q)))
    put_beaten n e w m v false q =
        let r = crowded_false R vs n w h.capacity q in
        went_on vs (set vs n w) (assign n e) (b ∷ ts) (held_set vs n w h m v.kind v.limit r)
        (⊎_elim (none_passes vs e v.parts) (λ z. let y : total (set vs n w) ≡ total (set vs n (ideal vs e)) = ap (λ x. total (set vs n x)) v.is in omega arith))

    loop_beaten : (e : Expr) (p : ℕ) (w : Value) → Exact vs e 1 w → (t : Bool) → Beaten vs (while_do e p) (cond t (settled sh vs (b ∷ ts)) (settled sh vs (p ∷ f ∷ ts)))
    loop_beaten e p w v true = went_on vs vs (while_do e p) (b ∷ ts) h (no_pass e 1 w v)
    loop_beaten e p w v false = went_on vs vs (while_do e p) (p ∷ f ∷ ts) h (no_pass e 1 w v)

    act_beaten : (st : Statement) (w : Value) → Proper sh ok st → Exact vs (own st) (wants sh ok st) w → Beaten vs st (act sh R vs f ts a b st w)
    act_beaten (assign n e) w p v = put_beaten n e w p.0 v (crowded R vs n w) refl
    act_beaten (if_else e p q) w f' v = went_on vs vs (if_else e p q) _ h (no_pass e 1 w v)
    act_beaten (while_do e p) w f' v = loop_beaten e p w v (eqb (num_of w) 0)
    act_beaten skip w p v = went_on vs vs skip (b ∷ ts) h (no_pass _ 1 w v)

    done_beaten : (st : Statement) (r : Result Value Cause) → Proper sh ok st → Valued vs (own st) (wants sh ok st) r → Beaten vs st (done sh R vs f ts a b st r)
    done_beaten st (Ok w) p v = act_beaten st w p v
    done_beaten st (Err c) p v = stopped vs st f ts c a h l (inl v)

  module _ (ok : Sound sh) where
    taken_beaten : (vs : List Value) (f : ℕ) (ts : List ℕ) → Held sh R vs → full (view_at sh.nodes f) ≡ true → Beaten vs (coming sh (f ∷ ts)) (taken sh R vs f ts (view_at sh.nodes f))
    taken_beaten vs f ts h l = by (view_at sh.nodes f) l
      where
        by : (x : View) → full x ≡ true → Beaten vs (first_of sh x) (taken sh R vs f ts x)
        by (V.Series a b) e = done_beaten ok vs h f ts l a b (statement sh a) (value vs (own (statement sh a))) (proper sh ok a) (own_valued sh ok R vs h (statement sh a) (proper sh ok a))
        by (V.Variable p s c) e = absurd (false≢true e)
        by (V.Number n) e = absurd (false≢true e)
        by (V.Text a b) e = absurd (false≢true e)
        by (V.Plus a b) e = absurd (false≢true e)
        by (V.Conc a b) e = absurd (false≢true e)
        by (V.Assign a b) e = absurd (false≢true e)
        by (V.If a b c) e = absurd (false≢true e)
        by (V.While a b) e = absurd (false≢true e)
        by (V.Declaration p s k) e = absurd (false≢true e)
        by V.Empty e = absurd (false≢true e)
        by V.Unknown e = absurd (false≢true e)

    ready_beaten : (vs : List Value) (ts : List ℕ) → Held sh R vs → FullFront ts → Beaten vs (coming sh ts) (fronted sh R vs ts)
    ready_beaten vs [] h l = absurd l
    ready_beaten vs (f ∷ ts) h l = taken_beaten vs f ts h l

    good_at : (vs : List Value) (ts : List ℕ) (t : Status) → Held sh R vs → Fronted t ts → Good (beat_at sh R vs ts t)
    good_at vs ts Ready h l = (ready_beaten vs ts h l).good
    good_at vs ts Ended h l = record { held = h; front = l }
    good_at vs ts (Stopped c a) h l = record { held = h; front = l }

    pub good_beat : (s : State) → Good s → Good (beat sh R s)
    unfolding beat
    good_beat s g = good_at s.values s.todo s.status g.held g.front

    pub good_run : (n : ℕ) (s : State) → Good s → Good (run sh R n s)
    unfolding run
    good_run zero s g = g
    good_run (suc n) s g = good_run n (beat sh R s) (good_beat s g)

    -- (b)
    stops_at : (vs : List Value) (ts : List ℕ) (t : Status) → Held sh R vs → Fronted t ts → t ≡ Ready → IsStopped (beat_at sh R vs ts t).status ↔ WouldPass R vs (coming sh ts)
    stops_at vs ts Ready h l e = (ready_beaten vs ts h l).stops
    stops_at vs ts Ended h l e = let z : ◌≡◌ {A = ℕ} 0 1 = cc in absurd (omega arith)
    stops_at vs ts (Stopped c a) h l e = let z : ◌≡◌ {A = ℕ} 0 1 = cc in absurd (omega arith)

    front_left : (ts : List ℕ) → FullFront ts → left sh ts ≡ true
    front_left [] l = absurd l
    front_left (f ∷ ts) l = ap (λ b. cond b true (left sh ts)) l

    ended_at : (ts : List ℕ) (t : Status) → Fronted t ts → t ≡ Ended ↔ left sh ts ≡ false
    ended_at ts Ready l = (λ e. let z : ◌≡◌ {A = ℕ} 0 1 = cc in absurd (omega arith), λ e. absurd (false≢true (sym e ∙ front_left ts l)))
    ended_at ts Ended l = (λ e. ap (left sh) l, λ e. refl)
    ended_at ts (Stopped c a) l = (λ e. let z : ◌≡◌ {A = ℕ} 0 1 = cc in absurd (omega arith), λ e. absurd (false≢true (sym e ∙ front_left ts l)))

    made_one : (t u : Status) → t ≡ Ready → (IsStopped u → ⊥) → made_by t u ≡ 1
    made_one t u e h = ap (λ v. made_by v u) e ∙ by u h
      where
        by : (u : Status) → (IsStopped u → ⊥) → made_by Ready u ≡ 1
        by Ready h = refl
        by Ended h = refl
        by (Stopped c a) h = absurd (h tt)

    pub beats_right : (s : State) → Good s → BeatsRight sh R s
    unfolding beat
    beats_right s g =
        let st : s.status ≡ Ready → IsStopped (beat sh R s).status ↔ WouldPass R s.values (coming sh s.todo) = stops_at s.values s.todo s.status g.held g.front in
        record {
          stops = st;
          ended = ended_at s.todo s.status g.front;
          goes_on = λ e z. made_one s.status (beat sh R s).status e (λ q. z ((st e).0 q));
        }

  fresh_total : (ks : List ℕ) → total (map fresh ks) ≡ 0
  fresh_total [] = refl
  fresh_total (k ∷ ks) = by (eqb k 1) (fresh_total ks)
    where
      by : (b : Bool) → total (map fresh ks) ≡ 0 → length (bytes_of (cond b (number 0) (text []))) + total (map fresh ks) ≡ 0
      by true e = omega arith
      by false e = omega arith

  fresh_kind : (k : ℕ) → (k ≡ 1) ⊎ (k ≡ 2) → kind_of (fresh k) ≡ k
  fresh_kind k = ⊎_elim (λ e. ap (λ j. kind_of (fresh j)) e ∙ sym e) (λ e. ap (λ j. kind_of (fresh j)) e ∙ sym e)

  fresh_limit : (b : Bool) → over (cond b (number 0) (text [])) ≡ false
  fresh_limit true = refl
  fresh_limit false = refl

  pub good_begun : Sound sh → Good (begun sh)
  good_begun ok =
      record {
        held = record {
          each = length-map (kinds sh) fresh;
          kind = λ i h. ap kind_of (get_or-map fresh (kinds sh) i 0 (number 0) h) ∙ fresh_kind (get_or (kinds sh) i 0) (ok.known i h);
          limit = λ i h. ap over (get_or-map fresh (kinds sh) i 0 (number 0) h) ∙ fresh_limit (eqb (get_or (kinds sh) i 0) 1);
          capacity = let e = fresh_total (kinds sh) in omega arith;
        };
        front = settle_fronted ((length sh.nodes - 1) ∷ []);
      }
