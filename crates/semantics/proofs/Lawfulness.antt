-- The law over any succession of calls, proved of the semantics.
use Rattle.std.proofs.Common.{◌≡◌, ℕ, zero, suc, ◌+◌, ◌-◌, ◌<◌, ◌≤◌, min, Bool, true, false, cond, eqb, List, [], ◌∷◌, take, set, Ok, Err, Result, sym, refl, ap, ◌∙◌, subst, ⊎_elim, arith}
use native.Mathlib.Nat.{min-eq_left, min-eq_right}
use Rattle.std.proofs.lemmas.Bool.{cases_lt}
use Rattle.nodes.specs.Nodes.{Sheet, view_at}
use Rattle.nodes.specs.declared.view.View.{View}
use Rattle.shelf.specs.Value.{Value, num_of}
use Rattle.shelf.specs.declared.refusal.Refusal.TheVariants.{NoCapacity}
use Rattle.semantics.specs.declared.status.Cause.{Cause}
use Rattle.semantics.specs.declared.status.Cause.TheVariants.{SumTooLarge, TextTooLong, NoRoom, TooFewSlots}
use Rattle.semantics.specs.declared.status.Status.{Status}
use Rattle.semantics.specs.declared.status.Status.TheVariants.{Ready, Ended, Stopped}
use Rattle.semantics.specs.declared.call.Call.{Call}
use Rattle.semantics.specs.declared.call.Call.TheVariants.{Play, Rewind, Look}
use Rattle.semantics.specs.Syntax.{Statement, assign, if_else, while_do, skip, own, statement}
use Rattle.semantics.specs.Expressions.{value}
use Rattle.semantics.specs.Semantics.{State, settle, settled, halted, crowded, act, done, taken, fronted, beat_at, beat, made_by, made, run, beats, begun}
use Rattle.semantics.specs.Calls.{look_at, after, answer, all_after, all_answers, granting, granted, reporting, reported}
use Rattle.semantics.specs.Evaluates.{Evaluates, whole, starting}
use Rattle.semantics.specs.Law.{IsStopped, Has, moment, reports, Law}
use Rattle.semantics.proofs.Beats.{Good, good_run, good_begun, beats_right, never_stopped}
use Rattle.semantics.proofs.Runs.{Still, ended, stopped, run_still, beats_still, run_add, beats_add, beats_le}
use Rattle.semantics.proofs.Agree.{agreement}
use Rattle.nodes.specs.declared.view.View.TheVariants as V

module _ (sh : Sheet) (R : ℕ) where
  one_after : (g : ℕ) (c : Call) → after true sh R c (run sh R g (begun sh)) ≡ run sh R (granting g c) (begun sh)
  unfolding run
  one_after g (Play n) = sym (run_add sh R g n (begun sh))
  one_after g Rewind = refl
  one_after g (Look i line) = refl

  looks_at : (b : ℕ) (t : Status) (vs : List Value) (i : ℕ) (line : List ℕ) → reporting b (look_at t vs i line) ≡ b
  looks_at b Ready vs i line = refl
  looks_at b Ended vs i line = refl
  looks_at b (Stopped SumTooLarge a) vs i line = refl
  looks_at b (Stopped TextTooLong a) vs i line = refl
  looks_at b (Stopped (NoRoom e) a) vs i line = refl
  looks_at b (Stopped TooFewSlots a) vs i line = refl

  one_answer : (g : ℕ) (c : Call) → reporting (beats sh R g (begun sh)) (answer true sh R c (run sh R g (begun sh))) ≡ beats sh R (granting g c) (begun sh)
  unfolding beats
  one_answer g (Play n) = sym (beats_add sh R g n (begun sh))
  one_answer g Rewind = refl
  one_answer g (Look i line) = looks_at (beats sh R g (begun sh)) (run sh R g (begun sh)).status (run sh R g (begun sh)).values i line

  after_from : (g : ℕ) (cs : List Call) → all_after true sh R cs (run sh R g (begun sh)) ≡ run sh R (granted g cs) (begun sh)
  unfolding all_after granted
  after_from g [] = refl
  after_from g (c ∷ cs) = ap (all_after true sh R cs) (one_after g c) ∙ after_from (granting g c) cs

  counted_from : (g : ℕ) (cs : List Call) → reported (beats sh R g (begun sh)) (all_answers true sh R cs (run sh R g (begun sh))) ≡ beats sh R (granted g cs) (begun sh)
  unfolding all_answers reported granted
  counted_from g [] = refl
  counted_from g (c ∷ cs) =
      ap (λ b. reported b (all_answers true sh R cs (after true sh R c (run sh R g (begun sh))))) (one_answer g c)
      ∙ ap (λ s. reported (beats sh R (granting g c) (begun sh)) (all_answers true sh R cs s)) (one_after g c)
      ∙ counted_from (granting g c) cs

  pub after_is : (cs : List Call) → all_after true sh R cs (begun sh) ≡ run sh R (granted 0 cs) (begun sh)
  unfolding run
  after_is cs = after_from 0 cs

  reports_is : (cs : List Call) → reports sh R cs ≡ beats sh R (granted 0 cs) (begun sh)
  unfolding run beats
  reports_is cs = counted_from 0 cs

  -- beats made are the smaller of those granted and those there are
  least_of : (h : ℕ) → Has sh R h → (n : ℕ) → beats sh R n (begun sh) ≡ min n h
  least_of h e n = ⊎_elim below above (cases_lt n h)
    where
      s : State
      s = begun sh

      below : n < h → beats sh R n (begun sh) ≡ min n h
      below l =
          let k : ℕ = h - n in
          let a : n + k ≡ h = omega arith in
          let p = beats_add sh R n k (begun sh) in
          let q : beats sh R (n + k) (begun sh) ≡ h = ap (λ j. beats sh R j (begun sh)) a ∙ e.makes in
          let r = beats_le sh R k (run sh R n (begun sh)) in
          let t = beats_le sh R n (begun sh) in
          let u : n ≤ h = omega arith in
          let z : beats sh R n (begun sh) ≡ n = omega arith in
          z ∙ sym (min-eq_left u)

      above : h ≤ n → beats sh R n (begun sh) ≡ min n h
      above l =
          let k : ℕ = n - h in
          let a : h + k ≡ n = omega arith in
          let p = beats_add sh R h k (begun sh) in
          let q : beats sh R (h + k) (begun sh) ≡ beats sh R n (begun sh) = ap (λ j. beats sh R j (begun sh)) a in
          let r = e.makes in
          let t = e.never n in
          let z : beats sh R n (begun sh) ≡ h = omega arith in
          z ∙ sym (min-eq_right l)

  -- where a beat stops, it alters no value
  act_values : (vs : List Value) (f : ℕ) (ts : List ℕ) (a b : ℕ) (st : Statement) (w : Value) → IsStopped (act sh R vs f ts a b st w).status → (act sh R vs f ts a b st w).values ≡ vs
  act_values vs f ts a b (assign n e) w h = by (crowded R vs n w) h
    where
      by : (t : Bool) → IsStopped (cond t (halted vs (f ∷ ts) (NoRoom NoCapacity) a) (settled sh (set vs n w) (b ∷ ts))).status → (cond t (halted vs (f ∷ ts) (NoRoom NoCapacity) a) (settled sh (set vs n w) (b ∷ ts))).values ≡ vs
      by true h = refl
      by false h = absurd (never_stopped sh R (settle sh (b ∷ ts)) h)
  act_values vs f ts a b (if_else e p q) w h = refl
  act_values vs f ts a b (while_do e p) w h = by (eqb (num_of w) 0)
    where
      by : (t : Bool) → (cond t (settled sh vs (b ∷ ts)) (settled sh vs (p ∷ f ∷ ts))).values ≡ vs
      by true = refl
      by false = refl
  act_values vs f ts a b skip w h = refl

  done_values : (vs : List Value) (f : ℕ) (ts : List ℕ) (a b : ℕ) (st : Statement) (r : Result Value Cause) → IsStopped (done sh R vs f ts a b st r).status → (done sh R vs f ts a b st r).values ≡ vs
  done_values vs f ts a b st (Ok w) h = act_values vs f ts a b st w h
  done_values vs f ts a b st (Err c) h = refl

  taken_values : (vs : List Value) (f : ℕ) (ts : List ℕ) (x : View) → IsStopped (taken sh R vs f ts x).status → (taken sh R vs f ts x).values ≡ vs
  taken_values vs f ts (V.Series a b) h = done_values vs f ts a b (statement sh a) (value vs (own (statement sh a))) h
  taken_values vs f ts (V.Variable p s c) h = refl
  taken_values vs f ts (V.Number n) h = refl
  taken_values vs f ts (V.Text a b) h = refl
  taken_values vs f ts (V.Plus a b) h = refl
  taken_values vs f ts (V.Conc a b) h = refl
  taken_values vs f ts (V.Assign a b) h = refl
  taken_values vs f ts (V.If a b c) h = refl
  taken_values vs f ts (V.While a b) h = refl
  taken_values vs f ts (V.Declaration p s k) h = refl
  taken_values vs f ts V.Empty h = refl
  taken_values vs f ts V.Unknown h = refl

  front_values : (vs : List Value) (ts : List ℕ) → IsStopped (fronted sh R vs ts).status → (fronted sh R vs ts).values ≡ vs
  front_values vs [] h = refl
  front_values vs (f ∷ ts) h = taken_values vs f ts (view_at sh.nodes f) h

  -- a beat is made, or alters no value and is the last
  pub data Way (s u : State) (m : ℕ) : Type 0 where
    goes : m ≡ 1 → Way s u m
    rests : m ≡ 0 → Still u.status → u.values ≡ s.values → Way s u m

  way_ready : (vs : List Value) (ts : List ℕ) (u : State) → (IsStopped u.status → u.values ≡ vs) → Way (record { values = vs; todo = ts; status = Ready }) u (made_by Ready u.status)
  way_ready vs ts u e = by u.status refl
    where
      by : (t : Status) → u.status ≡ t → Way (record { values = vs; todo = ts; status = Ready }) u (made_by Ready t)
      by Ready q = goes refl
      by Ended q = goes refl
      by (Stopped c a) q = rests refl (subst Still (sym q) stopped) (e (subst IsStopped (sym q) tt))

  way_at : (vs : List Value) (ts : List ℕ) (t : Status) → Way (record { values = vs; todo = ts; status = t }) (beat_at sh R vs ts t) (made_by t (beat_at sh R vs ts t).status)
  way_at vs ts Ready = way_ready vs ts (fronted sh R vs ts) (front_values vs ts)
  way_at vs ts Ended = rests refl ended refl
  way_at vs ts (Stopped c a) = rests refl stopped refl

  way : (s : State) → Way s (beat sh R s) (made sh R s)
  unfolding beat
  way s = way_at s.values s.todo s.status

  -- the values after g granted beats are those after the beats made
  pub values_then : (g : ℕ) (s : State) → (run sh R g s).values ≡ (run sh R (beats sh R g s) s).values
  unfolding run beats
  values_then zero s = refl
  values_then (suc g) s = by (way s) (values_then g (beat sh R s))
    where
      by : Way s (beat sh R s) (made sh R s) → (run sh R g (beat sh R s)).values ≡ (run sh R (beats sh R g (beat sh R s)) (beat sh R s)).values →
          (run sh R g (beat sh R s)).values ≡ (run sh R (made sh R s + beats sh R g (beat sh R s)) s).values
      by (goes e) h =
          let n : made sh R s + beats sh R g (beat sh R s) ≡ suc (beats sh R g (beat sh R s)) = omega arith in
          h ∙ ap (λ k. (run sh R k s).values) (sym n)
      by (rests e st v) h =
          let z = beats_still sh R g (beat sh R s) st in
          let n : made sh R s + beats sh R g (beat sh R s) ≡ 0 = omega arith in
          ap (λ x. x.values) (run_still sh R g (beat sh R s) st) ∙ v ∙ ap (λ k. (run sh R k s).values) (sym n)

  moment_is : (cs : List Call) (k j : ℕ) → moment sh R cs k j ≡ run sh R (granted 0 (take k cs) + j) (begun sh)
  moment_is cs k j = ap (run sh R j) (after_is (take k cs)) ∙ sym (run_add sh R (granted 0 (take k cs)) j (begun sh))

pub law : Law
law sh R ok cs =
    let good : (k j : ℕ) → Good sh R (moment sh R cs k j) = λ k j. subst (Good sh R) (sym (moment_is sh R cs k j)) (good_run sh R ok (granted 0 (take k cs) + j) (begun sh) (good_begun sh R ok)) in
    let c = reports_is sh R cs in
    record {
      kept = λ k j. (good k j).held;
      stops = λ k j. (beats_right sh R ok (moment sh R cs k j) (good k j)).stops;
      ended = λ k j. (beats_right sh R ok (moment sh R cs k j) (good k j)).ended;
      goes_on = λ k j. (beats_right sh R ok (moment sh R cs k j) (good k j)).goes_on;
      counted = λ h e. c ∙ least_of sh R h e (granted 0 cs);
      counted_endless = λ e. c ∙ e (granted 0 cs);
      portions = after_is sh R cs;
      values = ap (λ s. s.values) (after_is sh R cs) ∙ values_then sh R (granted 0 cs) (begun sh) ∙ ap (λ n. (run sh R n (begun sh)).values) (sym c);
      evaluated = λ e. subst (λ s. Evaluates sh (whole sh) (starting sh) s.values) (sym (after_is sh R cs)) (agreement sh R ok (granted 0 cs) (sym (ap (λ s. s.status) (after_is sh R cs)) ∙ e));
    }
