-- What is read, the rules derive.
use Rattle.std.proofs.Common.{◌≡◌, ℕ, Bool, true, false, List, [], ◌∷◌, ◌++◌, sym, refl, ap, ◌∙◌, subst, append_assoc, append-nil, arith}
use Rattle.grammar.specs.Grammar.{Fixed, Begin, End, Declare, Integer, String, If, Then, Else, Fi, While, Do, Od, Open, Close, Plus, Minus, Semicolon, Comma, Join, Colon, Becomes, Part, Token, fixed, name, number, text, Sort, integer, string, word_of, Tree, variable, constant, letters, plus, join, assign, choose, loop, none, more, first, also, sheet, Goal, Sheet, Declarations, Series, Statement, Expression, Term, Derives, one_name, more_names, nothing, one, several, assigns, chooses, loops, a_term, adds, joins, a_name, a_number, a_text, grouped}
use Rattle.grammar.specs.Grammar as G
use Rattle.grammar.specs.Machine.{same, Around, whole, after, taken, left, body, Before, start, sum, chain, For, value, test, guard, group, Given, nothing_yet, given, declare, State, empty, begun, naming, typing, sorting, declared, series, closing, becoming, done, term, tail, leaving, over, Move, go, no, when, or, with, close, finish, leave, on_fixed, on_name, on_leaf, feed, place, Last, stop, bad, Answer, read, Whole, is, not, whole_of, refused, ended, run}
use Rattle.grammar.specs.Laws.{Sound}
use Rattle.grammar.proofs.Words.{same_is}

-- the words us lead to a state
pub data Leads : State → List Token → Type 0 where
  at_empty : Leads empty []
  at_begun : (p : ℕ) → Leads begun (fixed Begin p ∷ [])
  at_naming : (p q : ℕ) → Leads (naming nothing_yet) (fixed Begin p ∷ (fixed Declare q ∷ []))
  at_comma : (r : ℕ) {us : List Token} {d : Tree} → Leads (declared d) us → Leads (naming (given d)) (us ++ (fixed Comma r ∷ []))
  at_typing : (n : Part) {g : Given} {us : List Token} → Leads (naming g) us → Leads (typing g n) (us ++ (name n ∷ []))
  at_sorting : (n : Part) (r : ℕ) {g : Given} {us : List Token} → Leads (naming g) us → Leads (sorting g n) (us ++ (name n ∷ (fixed Colon r ∷ [])))
  at_declared : (p q : ℕ) {us : List Token} {d : Tree} → Derives Declarations us d → Leads (declared d) (fixed Begin p ∷ (fixed Declare q ∷ us))
  at_whole : (r : ℕ) {us : List Token} {d : Tree} → Leads (declared d) us → Leads (series (whole d)) (us ++ (fixed Semicolon r ∷ []))
  at_after : (r : ℕ) {us vs : List Token} {o : Around} {s : Tree} → Leads (series o) us → Derives Statement vs s → Leads (series (after s o)) (us ++ (vs ++ (fixed Semicolon r ∷ [])))
  at_taken : (p q : ℕ) {us vs : List Token} {o : Around} {e : Tree} → Leads (series o) us → Derives Expression vs e → Leads (series (taken e o)) (us ++ (fixed If p ∷ (vs ++ (fixed Then q ∷ []))))
  at_left : (p q r : ℕ) {us vs ws : List Token} {o : Around} {e a : Tree} → Leads (series o) us → Derives Expression vs e → Derives Series ws a →
      Leads (series (left e a o)) (us ++ (fixed If p ∷ (vs ++ (fixed Then q ∷ (ws ++ (fixed Else r ∷ []))))))
  at_body : (p q : ℕ) {us vs : List Token} {o : Around} {e : Tree} → Leads (series o) us → Derives Expression vs e → Leads (series (body e o)) (us ++ (fixed While p ∷ (vs ++ (fixed Do q ∷ []))))
  at_closing : {us vs : List Token} {o : Around} {a : Tree} → Leads (series o) us → Derives Series vs a → Leads (closing o a) (us ++ vs)
  at_becoming : (n : Part) {us : List Token} {o : Around} → Leads (series o) us → Leads (becoming n o) (us ++ (name n ∷ []))
  at_done : {us vs : List Token} {o : Around} {s : Tree} → Leads (series o) us → Derives Statement vs s → Leads (done o s) (us ++ vs)
  at_value : (n : Part) (p : ℕ) {us : List Token} {o : Around} → Leads (series o) us → Leads (term start (value n o)) (us ++ (name n ∷ (fixed Becomes p ∷ [])))
  at_test : (p : ℕ) {us : List Token} {o : Around} → Leads (series o) us → Leads (term start (test o)) (us ++ (fixed If p ∷ []))
  at_guard : (p : ℕ) {us : List Token} {o : Around} → Leads (series o) us → Leads (term start (guard o)) (us ++ (fixed While p ∷ []))
  at_group : (p : ℕ) {us : List Token} {b : Before} {f : For} → Leads (term b f) us → Leads (term start (group b f)) (us ++ (fixed Open p ∷ []))
  at_sum : (p : ℕ) {us vs : List Token} {f : For} {e : Tree} → Leads (term start f) us → Derives Expression vs e → Leads (term (sum e) f) (us ++ (vs ++ (fixed Plus p ∷ [])))
  at_chain : (p : ℕ) {us vs : List Token} {f : For} {e : Tree} → Leads (term start f) us → Derives Expression vs e → Leads (term (chain e) f) (us ++ (vs ++ (fixed Join p ∷ [])))
  at_tail : {us vs : List Token} {f : For} {e : Tree} → Leads (term start f) us → Derives Expression vs e → Leads (tail f e) (us ++ vs)
  at_leaving : {us vs : List Token} {f : For} {e : Tree} → Leads (term start f) us → Derives Expression vs e → Leads (leaving f e) (us ++ vs)
  at_over : {us : List Token} {t : Tree} → Derives Sheet us t → Leads (over t) us

-- what holds of the state that a move leads to, if any
abbrev pub Onto : Move → (State → Type 0) → Type 0
Onto (go s) P = P s
Onto no P = Unit

on_word : (w c : Fixed) (x : State) (P : Fixed → State → Type 0) → P c x → Onto (when (same w c) x) (P w)
on_word w c x P h = at (same w c) refl
  where
    at : (b : Bool) → same w c ≡ b → Onto (when b x) (P w)
    at true e = subst (λ (v : Fixed). P v x) (sym (same_is w c e)) h
    at false e = tt

on_or : (w c : Fixed) (x : State) (m : Move) (P : Fixed → State → Type 0) → P c x → Onto m (P w) → Onto (or (same w c) x m) (P w)
on_or w c x m P h k = at (same w c) refl
  where
    at : (b : Bool) → same w c ≡ b → Onto (or b x m) (P w)
    at true e = subst (λ (v : Fixed). P v x) (sym (same_is w c e)) h
    at false e = k

retype : {g : Goal} {us vs : List Token} {t : Tree} → Derives g us t → us ≡ vs → Derives g vs t
retype {g} {us} {vs} {t} h e = subst (λ (l : List Token). Derives g l t) e h

re : {s : State} {us vs : List Token} → Leads s us → us ≡ vs → Leads s vs
re {s} {us} {vs} h e = subst (λ (l : List Token). Leads s l) e h

-- the list us and then the word w at p
abbrev To : List Token → ℕ → Fixed → State → Type 0
To us p w s = Leads s (us ++ (fixed w p ∷ []))

into : (m : Move) {us vs : List Token} (p : ℕ) (w : Fixed) → us ≡ vs → Onto m (To us p w) → Onto m (To vs p w)
into m {us} {vs} p w e h = subst (λ (l : List Token). Onto m (To l p w)) e h

close_leads : {o : Around} {us vs : List Token} {a : Tree} (w : Fixed) (p : ℕ) → Leads (series o) us → Derives Series vs a → Onto (close o a w) (To (us ++ vs) p w)
close_leads {us = us} {vs = vs} w p (at_whole r (at_declared q s h)) d = on_word w End _ (To (us ++ vs) p) (at_over (retype (G.whole q s r p h d) (simp append_assoc)))
close_leads {vs = ws} {a = a} w p (at_after r {us} {vs} {o} {s} l h) d =
    into (close o (more s a) w) p w (sym (append_assoc us _ ws ∙ ap (λ (k : List Token). us ++ k) (append_assoc vs _ ws))) (close_leads w p l (several r h d))
close_leads w p (at_taken q r l x) d = on_word w Else _ (To _ p) (re (at_left q r p l x d) (simp append_assoc))
close_leads w p (at_left q r s l x y) d = on_word w Fi _ (To _ p) (re (at_done l (chooses q r s p x y d)) (simp append_assoc))
close_leads w p (at_body q r l x) d = on_word w Od _ (To _ p) (re (at_done l (loops q r p x d)) (simp append_assoc))

finish_leads : {o : Around} {us vs : List Token} {s : Tree} (w : Fixed) (p : ℕ) → Leads (series o) us → Derives Statement vs s → Onto (finish o s w) (To (us ++ vs) p w)
finish_leads w p l h = on_or w Semicolon _ _ (To _ p) (re (at_after p l h) (simp append_assoc)) (close_leads w p l (one h))

with_is : {b : Before} {f : For} {us vs : List Token} {e : Tree} → Leads (term b f) us → Derives Term vs e → Leads (tail f (with b e)) (us ++ vs)
with_is (at_value n p l) h = at_tail (at_value n p l) (a_term h)
with_is (at_test p l) h = at_tail (at_test p l) (a_term h)
with_is (at_guard p l) h = at_tail (at_guard p l) (a_term h)
with_is (at_group p l) h = at_tail (at_group p l) (a_term h)
with_is (at_sum p l x) h = re (at_tail l (adds p x h)) (simp append_assoc)
with_is (at_chain p l x) h = re (at_tail l (joins p x h)) (simp append_assoc)

leave_leads : {f : For} {us vs : List Token} {e : Tree} (w : Fixed) (p : ℕ) → Leads (term start f) us → Derives Expression vs e → Onto (leave f e w) (To (us ++ vs) p w)
leave_leads {vs = vs} {e = e} w p (at_value n q {us} {o} l) h = into (finish o (assign n e) w) p w (sym (append_assoc us _ vs)) (finish_leads w p l (assigns n q h))
leave_leads w p (at_test q l) h = on_word w Then _ (To _ p) (re (at_taken q p l h) (simp append_assoc))
leave_leads w p (at_guard q l) h = on_word w Do _ (To _ p) (re (at_body q p l h) (simp append_assoc))
leave_leads w p (at_group q l) h = on_word w Close _ (To _ p) (re (with_is l (grouped q p h)) (simp append_assoc))

series_word : {o : Around} {us : List Token} (w : Fixed) (p : ℕ) → Leads (series o) us → Onto (on_fixed (series o) w) (To us p w)
series_word {o} {us} w p l = on_or w If _ _ (To us p) (at_test p l) (on_or w While _ _ (To us p) (at_guard p l) (into (close o none w) p w (append-nil us) (close_leads w p l nothing)))

open_word : {b : Before} {f : For} {us : List Token} (w : Fixed) (p : ℕ) → Leads (term b f) us → Onto (on_fixed (term b f) w) (To us p w)
open_word {b} {f} {us} w p l = on_word w Open _ (To us p) (at_group p l)

declare_leads : {g : Given} {us : List Token} (n : Part) (s : Sort) (p q : ℕ) → Leads (naming g) us → Leads (declared (declare g n s)) (us ++ (name n ∷ (fixed Colon p ∷ (fixed (word_of s) q ∷ []))))
declare_leads n s p q (at_naming x y) = at_declared x y (one_name n s p q)
declare_leads n s p q (at_comma r (at_declared x y h)) = re (at_declared x y (more_names n s r p q h)) (simp append_assoc)

fixed_leads : {s : State} {us : List Token} (w : Fixed) (p : ℕ) → Leads s us → Onto (on_fixed s w) (To us p w)
fixed_leads {us = us} w p at_empty = on_word w Begin _ (To us p) (at_begun p)
fixed_leads {us = us} w p (at_begun q) = on_word w Declare _ (To us p) (at_naming q p)
fixed_leads {us = us} w p (at_naming q r) = tt
fixed_leads {us = us} w p (at_comma r l) = tt
fixed_leads {us = us} w p (at_typing n l) = on_word w Colon _ (To us p) (re (at_sorting n p l) (simp append_assoc))
fixed_leads {us = us} w p (at_sorting n r l) = on_or w Integer _ _ (To us p) (re (declare_leads n integer r p l) (simp append_assoc)) (on_word w String _ (To us p) (re (declare_leads n string r p l) (simp append_assoc)))
fixed_leads {us = us} w p (at_declared q r h) = on_or w Comma _ _ (To us p) (at_comma p (at_declared q r h)) (on_word w Semicolon _ (To us p) (at_whole p (at_declared q r h)))
fixed_leads {us = us} w p (at_whole r l) = series_word w p (at_whole r l)
fixed_leads {us = us} w p (at_after r l h) = series_word w p (at_after r l h)
fixed_leads {us = us} w p (at_taken q r l h) = series_word w p (at_taken q r l h)
fixed_leads {us = us} w p (at_left q r s l h k) = series_word w p (at_left q r s l h k)
fixed_leads {us = us} w p (at_body q r l h) = series_word w p (at_body q r l h)
fixed_leads {us = us} w p (at_closing l h) = close_leads w p l h
fixed_leads {us = us} w p (at_becoming n l) = on_word w Becomes _ (To us p) (re (at_value n p l) (simp append_assoc))
fixed_leads {us = us} w p (at_done l h) = finish_leads w p l h
fixed_leads {us = us} w p (at_value n q l) = open_word w p (at_value n q l)
fixed_leads {us = us} w p (at_test q l) = open_word w p (at_test q l)
fixed_leads {us = us} w p (at_guard q l) = open_word w p (at_guard q l)
fixed_leads {us = us} w p (at_group q l) = open_word w p (at_group q l)
fixed_leads {us = us} w p (at_sum q l h) = open_word w p (at_sum q l h)
fixed_leads {us = us} w p (at_chain q l h) = open_word w p (at_chain q l h)
fixed_leads {us = us} w p (at_tail l h) = on_or w Plus _ _ (To us p) (re (at_sum p l h) (simp append_assoc)) (on_or w Join _ _ (To us p) (re (at_chain p l h) (simp append_assoc)) (leave_leads w p l h))
fixed_leads {us = us} w p (at_leaving l h) = leave_leads w p l h
fixed_leads {us = us} w p (at_over h) = tt

leaf_leads : {s : State} {us vs : List Token} {e : Tree} → Leads s us → Derives Term vs e → Onto (on_leaf s e) (λ x. Leads x (us ++ vs))
leaf_leads at_empty h = tt
leaf_leads (at_begun q) h = tt
leaf_leads (at_naming q r) h = tt
leaf_leads (at_typing n l) h = tt
leaf_leads (at_sorting n r l) h = tt
leaf_leads (at_declared q r k) h = tt
leaf_leads (at_comma r l) h = tt
leaf_leads (at_whole r l) h = tt
leaf_leads (at_after r l k) h = tt
leaf_leads (at_taken q r l k) h = tt
leaf_leads (at_left q r s l k j) h = tt
leaf_leads (at_body q r l k) h = tt
leaf_leads (at_closing l k) h = tt
leaf_leads (at_becoming n l) h = tt
leaf_leads (at_done l k) h = tt
leaf_leads (at_value n q l) h = with_is (at_value n q l) h
leaf_leads (at_test q l) h = with_is (at_test q l) h
leaf_leads (at_guard q l) h = with_is (at_guard q l) h
leaf_leads (at_group q l) h = with_is (at_group q l) h
leaf_leads (at_sum q l k) h = with_is (at_sum q l k) h
leaf_leads (at_chain q l k) h = with_is (at_chain q l k) h
leaf_leads (at_tail l k) h = tt
leaf_leads (at_leaving l k) h = tt
leaf_leads (at_over k) h = tt

name_leads : {s : State} {us : List Token} (n : Part) → Leads s us → Onto (on_name s n) (λ x. Leads x (us ++ (name n ∷ [])))
name_leads n at_empty = tt
name_leads n (at_begun q) = tt
name_leads n (at_naming q r) = at_typing n (at_naming q r)
name_leads n (at_comma r l) = at_typing n (at_comma r l)
name_leads n (at_typing m l) = tt
name_leads n (at_sorting m r l) = tt
name_leads n (at_declared q r k) = tt
name_leads n (at_whole r l) = at_becoming n (at_whole r l)
name_leads n (at_after r l k) = at_becoming n (at_after r l k)
name_leads n (at_taken q r l k) = at_becoming n (at_taken q r l k)
name_leads n (at_left q r s l k j) = at_becoming n (at_left q r s l k j)
name_leads n (at_body q r l k) = at_becoming n (at_body q r l k)
name_leads n (at_closing l k) = tt
name_leads n (at_becoming m l) = tt
name_leads n (at_done l k) = tt
name_leads n (at_value m q l) = with_is (at_value m q l) (a_name n)
name_leads n (at_test q l) = with_is (at_test q l) (a_name n)
name_leads n (at_guard q l) = with_is (at_guard q l) (a_name n)
name_leads n (at_group q l) = with_is (at_group q l) (a_name n)
name_leads n (at_sum q l k) = with_is (at_sum q l k) (a_name n)
name_leads n (at_chain q l k) = with_is (at_chain q l k) (a_name n)
name_leads n (at_tail l k) = tt
name_leads n (at_leaving l k) = tt
name_leads n (at_over k) = tt

-- a word that is allowed leads on
pub leads_on : {s : State} {us : List Token} (k : Token) → Leads s us → Onto (feed s k) (λ x. Leads x (us ++ (k ∷ [])))
leads_on (fixed w p) l = fixed_leads w p l
leads_on (name n) l = name_leads n l
leads_on (number v p) l = leaf_leads l (a_number v p)
leads_on (text n) l = leaf_leads l (a_text n)

abbrev pub Ends : Whole → List Token → Type 0
Ends (is t) us = Derives Sheet us t
Ends not us = Unit

-- what stands at the end is a sheet
pub ends : {s : State} {us : List Token} → Leads s us → Ends (whole_of s) us
ends at_empty = tt
ends (at_begun q) = tt
ends (at_naming q r) = tt
ends (at_typing n l) = tt
ends (at_sorting n r l) = tt
ends (at_declared q r k) = tt
ends (at_comma r l) = tt
ends (at_whole r l) = tt
ends (at_after r l k) = tt
ends (at_taken q r l k) = tt
ends (at_left q r s l k j) = tt
ends (at_body q r l k) = tt
ends (at_closing l k) = tt
ends (at_becoming n l) = tt
ends (at_done l k) = tt
ends (at_value n q l) = tt
ends (at_test q l) = tt
ends (at_guard q l) = tt
ends (at_group q l) = tt
ends (at_sum q l k) = tt
ends (at_chain q l k) = tt
ends (at_tail l k) = tt
ends (at_leaving l k) = tt
ends (at_over k) = k

read_only : (w : Whole) (z : Last) (t : Tree) (us : List Token) → ended w z ≡ read t → Ends w us → Derives Sheet us t
read_only (is u) (stop p) t us e h = let q : u ≡ t = cc in subst (λ (x : Tree). Derives Sheet us x) q h
read_only not (stop p) t us e h = absurd (let q : ◌≡◌ {A = ℕ} 0 1 = cc in omega arith)
read_only w (bad n p) t us e h = absurd (let q : ◌≡◌ {A = ℕ} 0 1 = cc in omega arith)

pub refused_not : (w : Whole) (p : ℕ) (t : Tree) → refused w p ≡ read t → ⊥
refused_not (is u) p t e = let q : ◌≡◌ {A = ℕ} 0 1 = cc in omega arith
refused_not not p t e = let q : ◌≡◌ {A = ℕ} 0 1 = cc in omega arith

-- what is read after the words us makes a sheet with them
pub run_sound : (ts : List Token) {s : State} {us : List Token} (z : Last) (t : Tree) → Leads s us → run s ts z ≡ read t → Derives Sheet (us ++ ts) t
run_sound [] {s} {us} z t l e = retype (read_only (whole_of s) z t us e (ends l)) (sym (append-nil us))
run_sound (k ∷ ts) {s} {us} z t l e = at (feed s k) (leads_on k l) e (λ x h d. retype (run_sound ts z t h d) (append_assoc us (k ∷ []) ts))
  where
    at : (m : Move) → Onto m (λ x. Leads x (us ++ (k ∷ []))) → ◌≡◌ {A = Answer} (elim m [ go next ↦ run next ts z | no ↦ refused (whole_of s) (place k) ]) (read t) →
        ((x : State) → Leads x (us ++ (k ∷ [])) → run x ts z ≡ read t → Derives Sheet (us ++ (k ∷ ts)) t) → Derives Sheet (us ++ (k ∷ ts)) t
    at (go x) h e f = f x h e
    at no h e f = absurd (refused_not (whole_of s) (place k) t e)

pub sound : Sound
sound ts z t e = run_sound ts z t at_empty e
