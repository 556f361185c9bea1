-- Laws of runs.
use Rattle.std.proofs.Common.{◌≡◌, ℕ, zero, suc, ◌+◌, ◌-◌, ◌<◌, ◌≤◌, Bool, List, sym, refl, ap, ◌∙◌, subst, add_assoc, suc-add, zero-add, arith}
use Rattle.nodes.specs.Nodes.{Sheet}
use Rattle.shelf.specs.Value.{Value}
use Rattle.semantics.specs.declared.status.Cause.{Cause}
use Rattle.semantics.specs.declared.status.Status.{Status}
use Rattle.semantics.specs.declared.status.Status.TheVariants.{Ready, Ended, Stopped}
use Rattle.semantics.specs.declared.call.Call.{Call}
use Rattle.semantics.specs.declared.call.Call.TheVariants.{Play}
use Rattle.semantics.specs.declared.call.Answer.TheVariants.{Played}
use Rattle.semantics.specs.Semantics.{State, beat_at, beat, made_by, made, run, beats}
use Rattle.semantics.specs.Calls.{after, answer}

-- not ready: nothing happens any more
pub data Still : Status → Type 0 where
  ended : Still Ended
  stopped : {c : Cause} {a : ℕ} → Still (Stopped c a)

pub still_since : (t : Status) → (t ≡ Ready → ⊥) → Still t
still_since Ready h = absurd (h refl)
still_since Ended h = ended
still_since (Stopped c a) h = stopped

none_made : (t u : Status) → Still t → made_by t u ≡ 0
none_made Ready u h = elim h [ ]
none_made Ended u h = refl
none_made (Stopped c a) u h = refl

made_le : (t u : Status) → made_by t u ≤ 1
made_le Ready Ready = omega arith
made_le Ready Ended = omega arith
made_le Ready (Stopped c a) = omega arith
made_le Ended u = omega arith
made_le (Stopped c a) u = omega arith

made_ready : (t u : Status) → t ≡ Ready → ((c : Cause) (a : ℕ) → u ≡ Stopped c a → ⊥) → made_by t u ≡ 1
made_ready t u e h = ap (λ v. made_by v u) e ∙ by u h
  where
    by : (u : Status) → ((c : Cause) (a : ℕ) → u ≡ Stopped c a → ⊥) → made_by Ready u ≡ 1
    by Ready h = refl
    by Ended h = refl
    by (Stopped c a) h = absurd (h c a refl)

-- a beat is made exactly where it then does not stand stopped
pub none_since : (u : Status) → (made_by Ready u ≡ 1 → ⊥) → (c : Cause) × (a : ℕ) × (u ≡ Stopped c a)
none_since Ready h = absurd (h refl)
none_since Ended h = absurd (h refl)
none_since (Stopped c a) h = (c, a, refl)

pub some_since : (u : Status) → made_by Ready u ≡ 1 → (c : Cause) (a : ℕ) → u ≡ Stopped c a → ⊥
some_since u h c a e = let f : made_by Ready u ≡ 0 = ap (made_by Ready) e in omega arith

module _ (sh : Sheet) (R : ℕ) where
  stays_at : (t : Status) (vs : List Value) (ts : List ℕ) → Still t → beat_at sh R vs ts t ≡ record { values = vs; todo = ts; status = t }
  stays_at Ready vs ts h = elim h [ ]
  stays_at Ended vs ts h = refl
  stays_at (Stopped c a) vs ts h = refl

  pub beat_still : (s : State) → Still s.status → beat sh R s ≡ s
  unfolding beat
  beat_still s h = stays_at s.status s.values s.todo h

  pub run_still : (n : ℕ) (s : State) → Still s.status → run sh R n s ≡ s
  unfolding run
  run_still zero s h = refl
  run_still (suc n) s h = ap (run sh R n) (beat_still s h) ∙ run_still n s h

  pub beats_still : (n : ℕ) (s : State) → Still s.status → beats sh R n s ≡ 0
  unfolding beats
  beats_still zero s h = refl
  beats_still (suc n) s h =
      let p : made sh R s ≡ 0 = none_made s.status (beat sh R s).status h in
      let q : beats sh R n (beat sh R s) ≡ 0 = ap (beats sh R n) (beat_still s h) ∙ beats_still n s h in
      omega arith

  -- portions do not matter
  pub run_add : (m n : ℕ) (s : State) → run sh R (m + n) s ≡ run sh R n (run sh R m s)
  unfolding run
  run_add zero n s = ap (λ k. run sh R k s) (zero-add n)
  run_add (suc m) n s = ap (λ k. run sh R k s) (suc-add m n) ∙ run_add m n (beat sh R s)

  pub beats_add : (m n : ℕ) (s : State) → beats sh R (m + n) s ≡ beats sh R m s + beats sh R n (run sh R m s)
  unfolding run beats
  beats_add zero n s = ap (λ k. beats sh R k s) (zero-add n) ∙ sym (zero-add (beats sh R n s))
  beats_add (suc m) n s =
      ap (λ k. beats sh R k s) (suc-add m n) ∙ ap (λ k. made sh R s + k) (beats_add m n (beat sh R s))
      ∙ sym (add_assoc (made sh R s) (beats sh R m (beat sh R s)) (beats sh R n (run sh R m (beat sh R s))))

  pub beats_le : (n : ℕ) (s : State) → beats sh R n s ≤ n
  unfolding beats
  beats_le zero s = omega arith
  beats_le (suc n) s =
      let p : made sh R s ≤ 1 = made_le s.status (beat sh R s).status in
      let q = beats_le n (beat sh R s) in
      omega arith

  -- a run by portions: m of the g beats granted are made, and led from s₀ to s
  pub record Playing (g m : ℕ) (s₀ s : State) : Type 0 where
    pub few : m ≤ g
    pub state : run sh R g s₀ ≡ run sh R (g - m) s
    pub count : beats sh R g s₀ ≡ m + beats sh R (g - m) s

  module _ (g m : ℕ) (s₀ s t : State) (p : Playing g m s₀ s) where
    one_more : m < g → g - m ≡ suc (g - (m + 1))
    one_more h = omega arith

    pub playing_more : m < g → t ≡ beat sh R s → s.status ≡ Ready → ((c : Cause) (a : ℕ) → t.status ≡ Stopped c a → ⊥) → Playing g (m + 1) s₀ t
    unfolding run beats
    playing_more h e r k =
        let q : made sh R s ≡ 1 = made_ready s.status (beat sh R s).status r (λ c a w. k c a (ap (λ x. x.status) e ∙ w)) in
        let n : ℕ = g - (m + 1) in
        let f : beats sh R g s₀ ≡ m + (made sh R s + beats sh R n (beat sh R s)) = p.count ∙ ap (λ j. m + beats sh R j s) (one_more h) in
        let b : beats sh R n t ≡ beats sh R n (beat sh R s) = ap (beats sh R n) e in
        record {
          few = omega arith;
          state = p.state ∙ ap (λ j. run sh R j s) (one_more h) ∙ ap (run sh R n) (sym e);
          count = omega arith;
        }

    pub playing_still : Still s.status → (s ≡ run sh R g s₀) × (m ≡ beats sh R g s₀)
    playing_still h =
        let z = beats_still (g - m) s h in
        let c = p.count in
        (sym (p.state ∙ run_still (g - m) s h), omega arith)

    pub playing_stopped : (c : Cause) (a : ℕ) → m < g → t ≡ beat sh R s → s.status ≡ Ready → t.status ≡ Stopped c a → (t ≡ run sh R g s₀) × (m ≡ beats sh R g s₀)
    unfolding run beats
    playing_stopped c a h e r w =
        let n : ℕ = g - (m + 1) in
        let st : Still t.status = subst Still (sym w) stopped in
        let q : made sh R s ≡ 0 = ap (λ v. made_by v (beat sh R s).status) r ∙ ap (λ v. made_by Ready v) (sym (ap (λ x. x.status) e) ∙ w) in
        let f : beats sh R g s₀ ≡ m + (made sh R s + beats sh R n (beat sh R s)) = p.count ∙ ap (λ j. m + beats sh R j s) (one_more h) in
        let b : beats sh R n (beat sh R s) ≡ 0 = ap (beats sh R n) (sym e) ∙ beats_still n t st in
        (sym (p.state ∙ ap (λ j. run sh R j s) (one_more h) ∙ ap (run sh R n) (sym e) ∙ run_still n t st), omega arith)

    pub playing_all : g ≤ m → (s ≡ run sh R g s₀) × (m ≡ beats sh R g s₀)
    unfolding run beats
    playing_all h =
        let z : g - m ≡ 0 = omega arith in
        let f : beats sh R g s₀ ≡ m + 0 = p.count ∙ ap (λ j. m + beats sh R j s) z in
        (sym (p.state ∙ ap (λ j. run sh R j s) z), omega arith)

  -- a Play where it is not ready
  pub still_call : (b : Bool) (k : Call) (g : ℕ) (s : State) (t : Status) → k ≡ Play g → s.status ≡ t → Still t → (s ≡ after b sh R k s) × (Played (record { beats = 0; status = t }) ≡ answer b sh R k s)
  still_call b k g s t e q h =
      let h' : Still s.status = subst Still (sym q) h in
      let r = run_still g s h' in
      let n = beats_still g s h' in
      (sym (ap (λ x. after b sh R x s) e ∙ r), sym (ap (λ x. answer b sh R x s) e ∙ ap (λ m. Played (record { beats = m; status = (run sh R g s).status })) n ∙ ap (λ x. Played (record { beats = 0; status = x.status })) r ∙ ap (λ x. Played (record { beats = 0; status = x })) q))
