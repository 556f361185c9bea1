-- What refusals mean.
use Rattle.std.proofs.Common.{◌≡◌, ℕ, List, [], ◌∷◌, ◌++◌, sym, refl, ap, ◌∙◌, subst, append_assoc, append-nil, arith}
use Rattle.grammar.specs.Grammar.{Fixed, Begin, End, Declare, Integer, Then, Else, Fi, Do, Od, Close, Semicolon, Colon, Becomes, Part, Token, fixed, name, number, text, integer, Tree, variable, assign, choose, loop, none, more, first, sheet, Sheet, Derives}
use Rattle.words.specs.declared.word.Refusal.{Refusal}
use Rattle.words.specs.declared.word.Refusal.TheVariants as R
use Rattle.grammar.specs.Machine.{Around, whole, after, taken, left, body, For, value, test, guard, group, declare, State, empty, begun, naming, typing, sorting, declared, series, closing, becoming, done, term, tail, leaving, over, Move, go, no, with, feed, place, Last, stop, bad, Answer, read, fault, Whole, is, not, whole_of, refused, ended, run}
use Rattle.grammar.specs.Laws.{Begins, Never, Unfinished, Means, not_allowed, ends_early, more_after, bad_word, Faults, Exact}
use Rattle.grammar.proofs.Complete.{Closer, an_end, an_else, a_fi, an_od, closer, no_more, last_one, assigned, complete}
use Rattle.grammar.proofs.Sound.{Leads, at_empty, Onto, leads_on, Ends, ends, run_sound, refused_not}

-- the word that closes what is open, and the words after it
abbrev closing_word : Around → Fixed
closing_word (whole d) = End
closing_word (after s o) = closing_word o
closing_word (taken e o) = Else
closing_word (left e a o) = Fi
closing_word (body e o) = Od

abbrev after_closing : Around → List Token
after_closing (whole d) = []
after_closing (after s o) = after_closing o
after_closing (taken e o) = fixed Fi 0 ∷ (fixed (closing_word o) 0 ∷ after_closing o)
after_closing (left e a o) = fixed (closing_word o) 0 ∷ after_closing o
after_closing (body e o) = fixed (closing_word o) 0 ∷ after_closing o

abbrev shut : Around → List Token
shut o = fixed (closing_word o) 0 ∷ after_closing o

closes : (o : Around) → Closer (closing_word o)
closes (whole d) = an_end
closes (after s o) = closes o
closes (taken e o) = an_else
closes (left e a o) = a_fi
closes (body e o) = an_od

abbrev Shuts : State → List Token → Type 0
Shuts s ts = (t : Tree) × (run s ts (stop 0) ≡ read t)

via : {x y : Answer} → x ≡ y → (t : Tree) × (y ≡ read t) → (t : Tree) × (x ≡ read t)
via e h = (h.0, e ∙ h.1)

shuts : (o : Around) (a : Tree) → Shuts (closing o a) (shut o)
shuts (whole d) a = (sheet d a, refl)
shuts (after s o) a = shuts o (more s a)
shuts (taken e o) a = via (last_one (stop 0) o (choose e a none) 0 (after_closing o) (closes o)) (shuts o (more (choose e a none) none))
shuts (left e b o) a = via (last_one (stop 0) o (choose e b a) 0 (after_closing o) (closes o)) (shuts o (more (choose e b a) none))
shuts (body e o) a = via (last_one (stop 0) o (loop e a) 0 (after_closing o) (closes o)) (shuts o (more (loop e a) none))

series_shuts : (o : Around) → Shuts (series o) (shut o)
series_shuts o = via (no_more (stop 0) o 0 (after_closing o) (closes o)) (shuts o none)

done_shuts : (o : Around) (s : Tree) → Shuts (done o s) (shut o)
done_shuts o s = via (last_one (stop 0) o s 0 (after_closing o) (closes o)) (shuts o (more s none))

abbrev shut_for : For → List Token
shut_for (value n o) = shut o
shut_for (test o) = fixed Then 0 ∷ (fixed Else 0 ∷ (fixed Fi 0 ∷ shut o))
shut_for (guard o) = fixed Do 0 ∷ (fixed Od 0 ∷ shut o)
shut_for (group b f) = fixed Close 0 ∷ shut_for f

tail_shuts : (f : For) (e : Tree) → Shuts (tail f e) (shut_for f)
tail_shuts (value n o) e = via (assigned (stop 0) o n e 0 (after_closing o) (closer (closes o))) (done_shuts o (assign n e))
tail_shuts (test o) e = done_shuts o (choose e none none)
tail_shuts (guard o) e = done_shuts o (loop e none)
tail_shuts (group b f) e = tail_shuts f (with b e)

leaving_shuts : (f : For) (e : Tree) → Shuts (leaving f e) (shut_for f)
leaving_shuts (value n o) e = done_shuts o (assign n e)
leaving_shuts (test o) e = done_shuts o (choose e none none)
leaving_shuts (guard o) e = done_shuts o (loop e none)
leaving_shuts (group b f) e = tail_shuts f (with b e)

abbrev a : Part
a = record { place = 0; size = 1 }

-- words that make a whole sheet of what has been read
abbrev rest : State → List Token
rest empty = fixed Begin 0 ∷ (fixed Declare 0 ∷ (name a ∷ (fixed Colon 0 ∷ (fixed Integer 0 ∷ (fixed Semicolon 0 ∷ (fixed End 0 ∷ []))))))
rest begun = fixed Declare 0 ∷ (name a ∷ (fixed Colon 0 ∷ (fixed Integer 0 ∷ (fixed Semicolon 0 ∷ (fixed End 0 ∷ [])))))
rest (naming g) = name a ∷ (fixed Colon 0 ∷ (fixed Integer 0 ∷ (fixed Semicolon 0 ∷ (fixed End 0 ∷ []))))
rest (typing g n) = fixed Colon 0 ∷ (fixed Integer 0 ∷ (fixed Semicolon 0 ∷ (fixed End 0 ∷ [])))
rest (sorting g n) = fixed Integer 0 ∷ (fixed Semicolon 0 ∷ (fixed End 0 ∷ []))
rest (declared d) = fixed Semicolon 0 ∷ (fixed End 0 ∷ [])
rest (series o) = shut o
rest (closing o s) = shut o
rest (becoming n o) = fixed Becomes 0 ∷ (name a ∷ shut o)
rest (done o s) = shut o
rest (term b f) = name a ∷ shut_for f
rest (tail f e) = shut_for f
rest (leaving f e) = shut_for f
rest (over t) = []

rest_shuts : (s : State) → Shuts s (rest s)
rest_shuts empty = (sheet (first a integer) none, refl)
rest_shuts begun = (sheet (first a integer) none, refl)
rest_shuts (naming g) = (sheet (declare g a integer) none, refl)
rest_shuts (typing g n) = (sheet (declare g n integer) none, refl)
rest_shuts (sorting g n) = (sheet (declare g n integer) none, refl)
rest_shuts (declared d) = (sheet d none, refl)
rest_shuts (series o) = series_shuts o
rest_shuts (closing o s) = shuts o s
rest_shuts (becoming n o) = tail_shuts (value n o) (variable a)
rest_shuts (done o s) = done_shuts o s
rest_shuts (term b f) = tail_shuts f (with b (variable a))
rest_shuts (tail f e) = tail_shuts f e
rest_shuts (leaving f e) = leaving_shuts f e
rest_shuts (over t) = (t, refl)

-- the words us were read, and the state is s
record At (us : List Token) (s : State) : Type 0 where
  leads : Leads s us
  reaches : (vs : List Token) (z : Last) → run empty (us ++ vs) z ≡ run s vs z

begins : {us : List Token} {s : State} → At us s → Begins us
begins {us} {s} h = let e = rest_shuts s in (rest s, e.0, run_sound (rest s) (stop 0) e.0 h.leads e.1)

-- where the word k is refused, nothing that begins so is a sheet
refuses : {us : List Token} {s : State} (k : Token) → At us s → feed s k ≡ no → Never (us ++ (k ∷ []))
refuses {us} {s} k h e vs t d =
    let c : run empty (us ++ (k ∷ vs)) (stop 0) ≡ read t = ap (λ (l : List Token). run empty l (stop 0)) (sym (append_assoc us (k ∷ []) vs)) ∙ complete _ t 0 d in
    let r : refused (whole_of s) (place k) ≡ run s (k ∷ vs) (stop 0) = ap (λ (m : Move). elim m [ go next ↦ run next vs (stop 0) | no ↦ refused (whole_of s) (place k) ]) (sym e) in
    refused_not (whole_of s) (place k) t (r ∙ sym (h.reaches (k ∷ vs) (stop 0)) ∙ c)

onward : {us : List Token} {s x : State} (k : Token) → At us s → feed s k ≡ go x → Leads x (us ++ (k ∷ [])) → At (us ++ (k ∷ [])) x
onward {us} {s} {x} k h e l = record {
  leads = l;
  reaches = λ vs z. ap (λ (l : List Token). run empty l z) (append_assoc us (k ∷ []) vs) ∙ h.reaches (k ∷ vs) z
      ∙ ap (λ (m : Move). elim m [ go next ↦ run next vs z | no ↦ refused (whole_of s) (place k) ]) e;
}

told : {ts : List Token} {z : Last} {m : Refusal} {q : ℕ} {n : Refusal} {p : ℕ} → Means ts z m q → fault m q ≡ fault n p → Means ts z n p
told {ts} {z} {m} {q} {n} {p} h e =
    let e1 : m ≡ n = cc in
    let e2 : q ≡ p = cc in
    subst (λ x. Means ts z x p) e1 (subst (λ y. Means ts z m y) e2 h)

of_words : {ts us : List Token} {z : Last} {n : Refusal} {p : ℕ} → Means ts z n p → ts ≡ us → Means us z n p
of_words {ts} {us} {z} {n} {p} h e = subst (λ (l : List Token). Means l z n p) e h

-- what is not whole where it is read is no sheet
unfinished : (us : List Token) (w : Whole) → w ≡ not → ((x : Last) → run empty us x ≡ ended w x) → Unfinished us
unfinished us w e r t d =
    let c : ended w (stop 0) ≡ read t = sym (r (stop 0)) ∙ complete us t 0 d in
    let i : ended w (stop 0) ≡ fault R.EndsEarly 0 = ap (λ (y : Whole). ended y (stop 0)) e in
    let x : ◌≡◌ {A = ℕ} 0 1 = cc in omega arith

at_end : {us : List Token} (w : Whole) (z : Last) (n : Refusal) (p : ℕ) → Begins us → ((x : Last) → run empty us x ≡ ended w x) → ended w z ≡ fault n p → Means us z n p
at_end w (bad m q) n p b r e = told (bad_word refl b) e
at_end (is t) (stop q) n p b r e = absurd (let x : ◌≡◌ {A = ℕ} 0 1 = cc in omega arith)
at_end {us} not (stop q) n p b r e = told (ends_early refl b (unfinished us not refl r)) e

at_word : (us : List Token) (w : Whole) (k : Token) (vs : List Token) (z : Last) (n : Refusal) (p : ℕ) → Begins us → ((x : Last) → run empty us x ≡ ended w x) → Never (us ++ (k ∷ [])) → Ends w us → refused w (place k) ≡ fault n p → Means (us ++ (k ∷ vs)) z n p
at_word us (is t) k vs z n p b r v d e = told (more_after us vs k t refl d) e
at_word us not k vs z n p b r v d e = told (not_allowed us vs k refl b (unfinished us not refl r) v) e

here : {us : List Token} {s : State} → At us s → (x : Last) → run empty us x ≡ ended (whole_of s) x
here {us} {s} h x = ap (λ (l : List Token). run empty l x) (sym (append-nil us)) ∙ h.reaches [] x

faults_from : (ts : List Token) {us : List Token} {s : State} (z : Last) (n : Refusal) (p : ℕ) → At us s → run s ts z ≡ fault n p → Means (us ++ ts) z n p
faults_from [] {us} {s} z n p h e =
    of_words (at_end (whole_of s) z n p (begins h) (here h) e) (sym (append-nil us))
faults_from (k ∷ ts) {us} {s} z n p h e =
    at (feed s k) refl (leads_on k h.leads) e (λ x i d. of_words (faults_from ts z n p i d) (append_assoc us (k ∷ []) ts))
  where
    at : (m : Move) → feed s k ≡ m → Onto m (λ x. Leads x (us ++ (k ∷ []))) → ◌≡◌ {A = Answer} (elim m [ go next ↦ run next ts z | no ↦ refused (whole_of s) (place k) ]) (fault n p) →
        ((x : State) → At (us ++ (k ∷ [])) x → run x ts z ≡ fault n p → Means (us ++ (k ∷ ts)) z n p) → Means (us ++ (k ∷ ts)) z n p
    at (go x) i l e f = f x (onward k h i l) e
    at no i l e f = at_word us (whole_of s) k ts z n p (begins h) (here h) (refuses k h i) (ends h.leads) e

pub faults : Faults
faults ts z n p e = faults_from ts z n p (record { leads = at_empty; reaches = λ vs x. refl }) e

-- words that begin a sheet are read
reached : (ts : List Token) {us : List Token} {s : State} (vs : List Token) (t : Tree) → At us s → run s (ts ++ vs) (stop 0) ≡ read t → (x : State) × At (us ++ ts) x
reached [] {us} {s} vs t h e = (s, subst (λ (l : List Token). At l s) (sym (append-nil us)) h)
reached (k ∷ ts) {us} {s} vs t h e = by (feed s k) refl (leads_on k h.leads) e (λ x i d. let r = reached ts vs t i d in (r.0, subst (λ (l : List Token). At l r.0) (append_assoc us (k ∷ []) ts) r.1))
  where
    by : (m : Move) → feed s k ≡ m → Onto m (λ x. Leads x (us ++ (k ∷ []))) → ◌≡◌ {A = Answer} (elim m [ go next ↦ run next (ts ++ vs) (stop 0) | no ↦ refused (whole_of s) (place k) ]) (read t) →
        ((x : State) → At (us ++ (k ∷ [])) x → run x (ts ++ vs) (stop 0) ≡ read t → (y : State) × At (us ++ (k ∷ ts)) y) → (y : State) × At (us ++ (k ∷ ts)) y
    by (go x) i l e f = f x (onward k h i l) e
    by no i l e f = absurd (refused_not (whole_of s) (place k) t e)

begun_at : {us : List Token} → Begins us → (s : State) × At us s
begun_at {us} b = reached us b.0 b.1 (record { leads = at_empty; reaches = λ vs x. refl }) (complete _ b.1 0 b.2)

whole_not : {us : List Token} (w : Whole) → Ends w us → Unfinished us → w ≡ not
whole_not (is t) d u = absurd (u t d)
whole_not not d u = refl

whole_is : (us : List Token) (w : Whole) (t : Tree) → ((x : Last) → run empty us x ≡ ended w x) → Derives Sheet us t → (u : Tree) × (w ≡ is u)
whole_is us (is u) t r d = (u, refl)
whole_is us not t r d = absurd (unfinished us not refl r t d)

never_fed : {us : List Token} {s : State} (k : Token) → At us s → Never (us ++ (k ∷ [])) → feed s k ≡ no
never_fed {us} {s} k h v = by (feed s k) refl (leads_on k h.leads)
  where
    by : (m : Move) → feed s k ≡ m → Onto m (λ x. Leads x (us ++ (k ∷ []))) → m ≡ no
    by (go x) i l = let b = begins (onward k h i l) in absurd (v b.0 b.1 b.2)
    by no i l = refl

stuck : {us : List Token} {s : State} (k : Token) (vs : List Token) (z : Last) (w : Whole) → At us s → feed s k ≡ no → whole_of s ≡ w → run empty (us ++ (k ∷ vs)) z ≡ refused w (place k)
stuck {us} {s} k vs z w h e i = h.reaches (k ∷ vs) z ∙ ap (λ (m : Move). elim m [ go next ↦ run next vs z | no ↦ refused (whole_of s) (place k) ]) e ∙ ap (λ (y : Whole). refused y (place k)) i

not_is : {X : Type 0} {t : Tree} → not ≡ is t → X
not_is e = absurd (let x : ◌≡◌ {A = ℕ} 0 1 = cc in omega arith)

over_feeds : (t : Tree) (k : Token) → feed (over t) k ≡ no
over_feeds t (fixed w p) = refl
over_feeds t (name n) = refl
over_feeds t (number v p) = refl
over_feeds t (text n) = refl

over_stuck : (s : State) (k : Token) (t : Tree) → whole_of s ≡ is t → feed s k ≡ no
over_stuck empty k t e = not_is e
over_stuck begun k t e = not_is e
over_stuck (naming g) k t e = not_is e
over_stuck (typing g n) k t e = not_is e
over_stuck (sorting g n) k t e = not_is e
over_stuck (declared d) k t e = not_is e
over_stuck (series o) k t e = not_is e
over_stuck (closing o b) k t e = not_is e
over_stuck (becoming n o) k t e = not_is e
over_stuck (done o b) k t e = not_is e
over_stuck (term b f) k t e = not_is e
over_stuck (tail f b) k t e = not_is e
over_stuck (leaving f b) k t e = not_is e
over_stuck (over u) k t e = over_feeds u k

pub exact : Exact
exact ts z n p (not_allowed us vs k e b u v) =
    let h = begun_at b in
    ap (λ (l : List Token). run empty l z) e ∙ stuck k vs z not h.1 (never_fed k h.1 v) (whole_not (whole_of h.0) (ends h.1.leads) u)
exact ts z n p (ends_early {p = q} e b u) =
    let h = begun_at b in
    ap (λ (y : Last). run empty ts y) e ∙ here h.1 (stop q) ∙ ap (λ (y : Whole). ended y (stop q)) (whole_not (whole_of h.0) (ends h.1.leads) u)
exact ts z n p (more_after us vs k t e d) =
    let h = begun_at ([], t, subst (λ (l : List Token). Derives Sheet l t) (sym (append-nil us)) d) in
    let w = whole_is us (whole_of h.0) t (here h.1) d in
    ap (λ (l : List Token). run empty l z) e ∙ stuck k vs z (is w.0) h.1 (over_stuck h.0 k w.0 w.1) w.1
exact ts z n p (bad_word {n = m} {p = q} e b) =
    let h = begun_at b in
    ap (λ (y : Last). run empty ts y) e ∙ here h.1 (bad m q)
