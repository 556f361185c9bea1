-- A loop that makes one call after the other.
use Rattle.std.proofs.Common.{◌≡◌, ℕ, Some, None, slice_get, ◌+◌, ◌<◌, ◌≤◌, Bool, true, false, ◌⊎◌, List, [], ◌∷◌, ◌++◌, map, length, get_or, take, drop, set, sym, refl, ap, ◌∙◌, subst, ⊎_elim, arith, length-append, length-set, length-take, take_all, get_or-take, drop-drop, drop-set-lt}
use Rattle.std.proofs.lemmas.List.{take_more, take_more_set, drop_all}
use Rattle.std.proofs.lemmas.Option.{slice_get_within, get_or_from_slice_get, slice_get_cases}
use Rattle.std.proofs.lemmas.Bool.{le-leb, lt-leb, cases_lt}
use Rattle.nodes.specs.Nodes.{Sheet, kinds}
use Rattle.deck.specs.Sheets.{sheet_of}
use Rattle.deck.specs.declared.deck.Deck.{Deck}
use Rattle.deck.proofs.OfDeck.{sound}
use Rattle.shelf.specs.Value.{Value}
use Rattle.semantics.specs.declared.status.Cause.TheVariants.{TooFewSlots}
use Rattle.semantics.specs.declared.status.Status.TheVariants.{Ready, Ended}
use Rattle.semantics.specs.declared.call.Call.{Call}
use Rattle.semantics.specs.declared.call.Call.TheVariants.{Play, Rewind, Look}
use Rattle.semantics.specs.declared.call.Progress.{Progress}
use Rattle.semantics.specs.declared.call.Answer.{Answer}
use Rattle.semantics.specs.declared.call.Answer.TheVariants.{Played, Rewound}
use Rattle.semantics.specs.Semantics.{State, halted, run, beats, begun}
use Rattle.semantics.specs.Calls.{started, after, answer, all_after, all_answers, reported}
use Rattle.semantics.specs.Evaluates.{Evaluates, whole, starting}
use Rattle.semantics.specs.Law.{Held, moment, reports, Lawful}
use Rattle.semantics.proofs.Runs.{stopped, run_still, beats_still}
use Rattle.semantics.proofs.Reaches.{converse}
use Rattle.semantics.proofs.Lawfulness.{law}
use Rattle.shelf.specs.declared.Shelf.{Ghosts}
use Rattle.player.specs.declared.player.Player.{Player}
use Rattle.player.specs.Opening.{enough_slots}
use Rattle.player.specs.Of.{state_of, deck_of, enough, GoesTo, after_call, answer_to}
use Rattle.player.specs.Performed.{Performed, unplayed, Unplayed}

module _ (b : Bool) (sh : Sheet) (R : ℕ) where
  after_push : (cs : List Call) (c : Call) (s : State) → all_after b sh R (cs ++ c ∷ []) s ≡ after b sh R c (all_after b sh R cs s)
  unfolding all_after
  after_push [] c s = refl
  after_push (x ∷ xs) c s = after_push xs c (after b sh R x s)

  answers_push : (cs : List Call) (c : Call) (s : State) → all_answers b sh R (cs ++ c ∷ []) s ≡ all_answers b sh R cs s ++ answer b sh R c (all_after b sh R cs s) ∷ []
  unfolding all_after all_answers
  answers_push [] c s = refl
  answers_push (x ∷ xs) c s = ap (λ r. answer b sh R x s ∷ r) (answers_push xs c (after b sh R x s))

  answers_last : (cs : List Call) (c : Call) (s : State) (z : Answer) → get_or (all_answers b sh R (cs ++ c ∷ []) s) (length cs) z ≡ answer b sh R c (all_after b sh R cs s)
  unfolding all_after all_answers
  answers_last [] c s z = refl
  answers_last (x ∷ xs) c s z = answers_last xs c (after b sh R x s) z

  pub record Performing (cs : List Call) (i : ℕ) (s₀ s : State) (given₀ given : List Answer) : Type 0 where
    pub few : i ≤ length cs
    pub fits : i ≤ length given₀
    pub long : length given ≡ length given₀
    pub state : s ≡ all_after b sh R (take i cs) s₀
    pub says : take i given ≡ all_answers b sh R (take i cs) s₀
    pub beyond : drop i given ≡ drop i given₀

  pub performing_none : (cs : List Call) (s : State) (given : List Answer) → Performing cs 0 s s given given
  unfolding all_after all_answers
  performing_none cs s given = record { few = omega arith; fits = omega arith; long = refl; state = refl; says = refl; beyond = refl }

  pub performing_more :
      (cs : List Call) (i : ℕ) (s₀ s t : State) (given₀ given : List Answer) (d : Call) (a : Answer) →
      Performing cs i s₀ s given₀ given → i < length cs → d ≡ get_or cs i d → i < length given → t ≡ after b sh R d s → a ≡ answer b sh R d s →
      Performing cs (i + 1) s₀ t given₀ (set given i a)
  performing_more cs i s₀ s t given₀ given d a p h at k e' q' =
      let m = take_more cs i d h in
      let l = p.long in
      let e : t ≡ after b sh R (get_or cs i d) s = e' ∙ ap (λ x. after b sh R x s) at in
      let q : a ≡ answer b sh R (get_or cs i d) s = q' ∙ ap (λ x. answer b sh R x s) at in
      record {
        few = omega arith;
        fits = omega arith;
        long = length-set given i a ∙ p.long;
        state = e ∙ ap (after b sh R (get_or cs i d)) p.state ∙ sym (ap (λ xs. all_after b sh R xs s₀) m ∙ after_push (take i cs) (get_or cs i d) s₀);
        says =
            take_more_set given i a k ∙ ap (λ xs. xs ++ a ∷ []) p.says
            ∙ ap (λ x. all_answers b sh R (take i cs) s₀ ++ x ∷ []) (q ∙ ap (answer b sh R (get_or cs i d)) p.state)
            ∙ sym (ap (λ xs. all_answers b sh R xs s₀) m ∙ answers_push (take i cs) (get_or cs i d) s₀);
        beyond = drop-set-lt (i + 1) given i a (omega arith) ∙ sym (drop-drop 1 i given) ∙ ap (drop 1) p.beyond ∙ drop-drop 1 i given₀;
      }

  -- the calls that had a place for their answer were all made
  pub record Made (cs : List Call) (s₀ s : State) (given₀ given : List Answer) : Type 0 where
    pub state : s ≡ all_after b sh R (take (length given₀) cs) s₀
    pub says : take (length cs) given ≡ all_answers b sh R (take (length given₀) cs) s₀
    pub beyond : drop (length cs) given ≡ drop (length cs) given₀

  pub performing_all : (cs : List Call) (i : ℕ) (s₀ s : State) (given₀ given : List Answer) → Performing cs i s₀ s given₀ given → (length cs ≤ i) ⊎ (length given ≤ i) → Made cs s₀ s given₀ given
  performing_all cs i s₀ s given₀ given p = ⊎_elim calls_out places_out
    where
      calls_out : length cs ≤ i → Made cs s₀ s given₀ given
      calls_out h =
          let f = p.few in let g = p.fits in
          let e : i ≡ length cs = omega arith in
          let q : take i cs ≡ take (length given₀) cs = take_all i cs h ∙ sym (take_all (length given₀) cs (omega arith)) in
          record {
            state = p.state ∙ ap (λ xs. all_after b sh R xs s₀) q;
            says = ap (λ n. take n given) (sym e) ∙ p.says ∙ ap (λ xs. all_answers b sh R xs s₀) q;
            beyond = subst (λ n. drop n given ≡ drop n given₀) e p.beyond;
          }

      places_out : length given ≤ i → Made cs s₀ s given₀ given
      places_out h =
          let f = p.few in let g = p.fits in let l = p.long in
          let e : i ≡ length given₀ = omega arith in
          let q : take i cs ≡ take (length given₀) cs = ap (λ n. take n cs) e in
          record {
            state = p.state ∙ ap (λ xs. all_after b sh R xs s₀) q;
            says = take_all (length cs) given (omega arith) ∙ sym (take_all i given h) ∙ p.says ∙ ap (λ xs. all_answers b sh R xs s₀) q;
            beyond = drop_all (length cs) given (omega arith) ∙ sym (drop_all (length cs) given₀ (omega arith));
          }

-- a call by its place, or none
pub got : (cs : List Call) (i : ℕ) (c : Call) → Some c ≡ slice_get cs i → (i < length cs) × (c ≡ get_or cs i c)
got cs i c e = (slice_get_within cs i c (sym e), sym (get_or_from_slice_get cs i c c (sym e)))

pub got_none : (cs : List Call) (i : ℕ) → None ≡ slice_get cs i → length cs ≤ i
got_none cs i e = ⊎_elim (λ p. let q = p.2 in let z : ◌≡◌ {A = ℕ} 0 1 = cc in absurd (omega arith)) (λ p. p.0) (slice_get_cases cs i).1

-- with too few slots nothing happens
module _ (sh : Sheet) (R : ℕ) (vs : List Value) where
  lacking_one : (c : Call) → after false sh R c (halted vs [] TooFewSlots 0) ≡ halted vs [] TooFewSlots 0
  lacking_one (Play g) = run_still sh R g (halted vs [] TooFewSlots 0) stopped
  lacking_one Rewind = refl
  lacking_one (Look i line) = refl

  lacking_answer : (c : Call) → answer false sh R c (halted vs [] TooFewSlots 0) ≡ unplayed c
  lacking_answer (Play g) =
      ap (λ n. Played (record { beats = n; status = (run sh R g (halted vs [] TooFewSlots 0)).status })) (beats_still sh R g (halted vs [] TooFewSlots 0) stopped)
      ∙ ap (λ s. Played (record { beats = 0; status = s.status })) (run_still sh R g (halted vs [] TooFewSlots 0) stopped)
  lacking_answer Rewind = refl
  lacking_answer (Look i line) = refl

  lacking_after : (cs : List Call) → all_after false sh R cs (halted vs [] TooFewSlots 0) ≡ halted vs [] TooFewSlots 0
  unfolding all_after
  lacking_after [] = refl
  lacking_after (c ∷ cs) = ap (all_after false sh R cs) (lacking_one c) ∙ lacking_after cs

  lacking_answers : (cs : List Call) → all_answers false sh R cs (halted vs [] TooFewSlots 0) ≡ map unplayed cs
  unfolding all_answers
  lacking_answers [] = refl
  lacking_answers (c ∷ cs) = ap (λ a. a ∷ all_answers false sh R cs (after false sh R c (halted vs [] TooFewSlots 0))) (lacking_answer c) ∙ ap (λ s. unplayed c ∷ all_answers false sh R cs s) (lacking_one c) ∙ ap (λ r. unplayed c ∷ r) (lacking_answers cs)

-- the end of the succession is one of its moments
whole_moment : (sh : Sheet) (R : ℕ) (cs : List Call) → (all_after true sh R cs (begun sh)).values ≡ (moment sh R cs (length cs) 0).values
unfolding run
whole_moment sh R cs = ap (λ xs. (all_after true sh R xs (begun sh)).values) (sym (take_all (length cs) cs (omega arith)))

played_is : (p q : Progress) → Played p ≡ Played q → p ≡ q
played_is p q e = cc

-- where the last answer says that the sheet has ended
module _ (sh : Sheet) (R : ℕ) (calls : List Call) (given : List Answer) (vs : List Value) (says : take (length calls) given ≡ all_answers true sh R calls (begun sh)) (values : vs ≡ (all_after true sh R calls (begun sh)).values) (lawful : Lawful sh R calls) where
  evaluates_last : (before : List Call) (g n : ℕ) → calls ≡ before ++ (Play g ∷ []) → get_or given (length before) (Rewound Ready) ≡ Played (record { beats = n; status = Ended }) → Evaluates sh (whole sh) (starting sh) vs
  evaluates_last before g n e h =
      let z : Answer = Rewound Ready in
      let l = ap length e ∙ length-append before (Play g ∷ []) in
      let k : length before < length calls = omega arith in
      let s : State = all_after true sh R before (begun sh) in
      let a : Played (record { beats = beats sh R g s; status = (run sh R g s).status }) ≡ Played (record { beats = n; status = Ended }) =
      sym (answers_last true sh R before (Play g) (begun sh) z) ∙ ap (λ x. get_or (all_answers true sh R x (begun sh)) (length before) z) (sym e)
      ∙ ap (λ x. get_or x (length before) z) (sym says) ∙ get_or-take (length calls) given (length before) z k ∙ h in
      let b : ◌≡◌ {A = Progress} (record { beats = beats sh R g s; status = (run sh R g s).status }) (record { beats = n; status = Ended }) = played_is _ _ a in
      let t : (run sh R g s).status ≡ Ended = ap (λ (x : Progress). x.status) b in
      let r : all_after true sh R calls (begun sh) ≡ run sh R g s = ap (λ x. all_after true sh R x (begun sh)) e ∙ after_push true sh R before (Play g) (begun sh) in
      subst (λ x. Evaluates sh (whole sh) (starting sh) x) (sym values) (lawful.evaluated (ap (λ x. x.status) r ∙ t))

-- the places that had an answer
shorter : (given : List Answer) (cs : List Call) (m : ℕ) → length given ≡ m → take (length (take m cs)) given ≡ take (length cs) given
shorter given cs m l =
    let n = length-take m cs in
    ⊎_elim
    (λ (k : length cs < m). let e : length (take m cs) ≡ length cs = omega arith in ap (λ j. take j given) e)
    (λ (k : m ≤ length cs). take_all (length (take m cs)) given (omega arith) ∙ sym (take_all (length cs) given (omega arith)))
    (cases_lt (length cs) m)

module _
    (d : Deck) (R S : ℕ) (vs₀ vs : List Value) (cs : List Call) (given₀ given : List Answer)
    (v : vs ≡ (all_after (enough_slots S (sheet_of d)) (sheet_of d) R (take (length given₀) cs) (started (enough_slots S (sheet_of d)) (sheet_of d) vs₀)).values)
    (a : take (length cs) given ≡ all_answers (enough_slots S (sheet_of d)) (sheet_of d) R (take (length given₀) cs) (started (enough_slots S (sheet_of d)) (sheet_of d) vs₀))
    (l : length given ≡ length given₀) where
  -- on a shelf that has the slots
  pub performed : length (kinds (sheet_of d)) ≤ S → Performed (sheet_of d) R (take (length given₀) cs) given vs
  performed h =
      let e : enough_slots S (sheet_of d) ≡ true = le-leb (length (kinds (sheet_of d))) S h in
      let calls : List Call = take (length given₀) cs in
      let s : take (length (take (length given₀) cs)) given ≡ all_answers true (sheet_of d) R (take (length given₀) cs) (begun (sheet_of d)) = shorter given cs (length given₀) l ∙ a ∙ ap (λ b. all_answers b (sheet_of d) R (take (length given₀) cs) (started b (sheet_of d) vs₀)) e in
      let w : vs ≡ (all_after true (sheet_of d) R (take (length given₀) cs) (begun (sheet_of d))).values = v ∙ ap (λ b. (all_after b (sheet_of d) R (take (length given₀) cs) (started b (sheet_of d) vs₀)).values) e in
      let q : Lawful (sheet_of d) R (take (length given₀) cs) = law (sheet_of d) R (sound d) (take (length given₀) cs) in
      let n : reported 0 (take (length (take (length given₀) cs)) given) ≡ reports (sheet_of d) R (take (length given₀) cs) = ap (reported 0) s in
      record {
        answers = s;
        values = w;
        lawful = q;
        counted = λ m g. n ∙ q.counted m g;
        counted_endless = λ g. n ∙ q.counted_endless g;
        portions = w ∙ q.values ∙ ap (λ j. (run (sheet_of d) R j (begun (sheet_of d))).values) (sym n);
        kept = subst (Held (sheet_of d) R) (sym (w ∙ whole_moment (sheet_of d) R (take (length given₀) cs))) (q.kept (length (take (length given₀) cs)) 0);
        evaluates = evaluates_last (sheet_of d) R (take (length given₀) cs) given vs s w q;
        reached = λ ws t. converse (sheet_of d) R (sound d) ws t;
      }

  -- on a shelf that has too few
  pub unperformed : S < length (kinds (sheet_of d)) → Unplayed (take (length given₀) cs) given vs₀ vs
  unperformed h =
      let e : enough_slots S (sheet_of d) ≡ false = lt-leb (length (kinds (sheet_of d))) S h in
      record {
        answers = shorter given cs (length given₀) l ∙ a ∙ ap (λ b. all_answers b (sheet_of d) R (take (length given₀) cs) (started b (sheet_of d) vs₀)) e ∙ lacking_answers (sheet_of d) R vs₀ (take (length given₀) cs);
        values = v ∙ ap (λ b. (all_after b (sheet_of d) R (take (length given₀) cs) (started b (sheet_of d) vs₀)).values) e ∙ ap (λ s. s.values) (lacking_after (sheet_of d) R vs₀ (take (length given₀) cs));
      }

-- a call of a player that has gone on from another
module _ {S : Type 0} (g : Ghosts S) (p q r : Player S) (c : Call) (a : GoesTo g p q (state_of g.values q)) (b : GoesTo g q r (after_call g c q)) where
  as_begun : {A : Type 0} (f : Bool → Sheet → ℕ → A) → f (enough g (deck_of q) q.shelf) (sheet_of (deck_of q)) (g.capacity q.shelf) ≡ f (enough g (deck_of p) p.shelf) (sheet_of (deck_of p)) (g.capacity p.shelf)
  as_begun f =
      ap (λ x. f (enough_slots (g.slots q.shelf) (sheet_of x)) (sheet_of x) (g.capacity q.shelf)) a.deck
      ∙ ap (λ y. f (enough_slots (g.slots q.shelf) (sheet_of (deck_of p))) (sheet_of (deck_of p)) y) a.capacity
      ∙ ap (λ z. f (enough_slots z (sheet_of (deck_of p))) (sheet_of (deck_of p)) (g.capacity p.shelf)) a.slots

  pub after_begun : state_of g.values r ≡ after (enough g (deck_of p) p.shelf) (sheet_of (deck_of p)) (g.capacity p.shelf) c (state_of g.values q)
  after_begun = b.state ∙ as_begun (λ x y z. after x y z c (state_of g.values q))

  pub answer_begun : (x : Answer) → x ≡ answer_to g c q → x ≡ answer (enough g (deck_of p) p.shelf) (sheet_of (deck_of p)) (g.capacity p.shelf) c (state_of g.values q)
  answer_begun x e = e ∙ as_begun (λ u y z. answer u y z c (state_of g.values q))

  pub called_on : GoesTo g p r (state_of g.values r)
  called_on = record { deck = b.deck ∙ a.deck; capacity = b.capacity ∙ a.capacity; slots = b.slots ∙ a.slots; state = refl }

-- the whole, by the deck, capacity and slots that were handed over
module _ (d d₀ : Deck) (R R₀ S S₀ : ℕ) (e : d ≡ d₀) (f : R ≡ R₀) (h : S ≡ S₀) (cs : List Call) (s₀ s : State) (given₀ given : List Answer) (vs₀ : List Value) where
  pub made_begun :
      s₀ ≡ started (enough_slots S₀ (sheet_of d₀)) (sheet_of d₀) vs₀ → Made (enough_slots S (sheet_of d)) (sheet_of d) R cs s₀ s given₀ given →
      Made (enough_slots S₀ (sheet_of d₀)) (sheet_of d₀) R₀ cs (started (enough_slots S₀ (sheet_of d₀)) (sheet_of d₀) vs₀) s given₀ given
  made_begun q m =
      subst (λ x. Made (enough_slots S₀ (sheet_of d₀)) (sheet_of d₀) R₀ cs x s given₀ given) q
      (subst (λ z. Made (enough_slots z (sheet_of d₀)) (sheet_of d₀) R₀ cs s₀ s given₀ given) h
      (subst (λ y. Made (enough_slots S (sheet_of d₀)) (sheet_of d₀) y cs s₀ s given₀ given) f
      (subst (λ x. Made (enough_slots S (sheet_of x)) (sheet_of x) R cs s₀ s given₀ given) e m)))
