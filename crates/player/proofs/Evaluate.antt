-- What an expression's node is worth, by what it says.
use Rattle.std.proofs.Common.{◌≡◌, ℕ, ◌+◌, ◌-◌, ◌<◌, ◌≤◌, min, Bool, true, false, cond, ltb, leb, ◌⊎◌, List, [], ◌++◌, length, get_or, take, drop, replicate, Some, None, Ok, Err, Option, Result, sym, refl, ap, ◌∙◌, subst, ⊎_elim, append_assoc, arith, length-append, length-take}
use Rattle.std.proofs.lemmas.List.{get_or_past, take_at, append-nil}
use Rattle.std.proofs.lemmas.Bool.{cond-true, cond-false, lt-ltb, le-ltb, le-leb, lt-leb, ltb-true, ltb-false, cases_lt}
use Rattle.std.specs.Option.{ok_or}
use Rattle.std.specs.Result.{IsErrAnd, IsOkAnd, MatchResult, result_unwrap_or}
use Rattle.nodes.specs.Nodes.{view_at, kinds, integer, string}
use Rattle.nodes.specs.declared.view.View.{View}
use Rattle.deck.specs.Sound.{Right, Leads, kind_in}
use Rattle.deck.specs.Sheets.{sheet_of}
use Rattle.deck.specs.declared.deck.Deck.{Deck}
use Rattle.deck.proofs.OfDeck.{sound}
use Rattle.shelf.specs.Limits.{longest, largest}
use Rattle.shelf.specs.Value.{Value, number, text, num_of, bytes_of}
use Rattle.shelf.specs.Calls.{the_text, text_told}
use Rattle.shelf.specs.declared.refusal.Refusal.{Refusal}
use Rattle.shelf.specs.declared.refusal.Refusal.TheVariants.{NoEntry}
use Rattle.semantics.specs.declared.status.Cause.{Cause}
use Rattle.semantics.specs.declared.status.Cause.TheVariants.{SumTooLarge, TextTooLong}
use Rattle.semantics.specs.declared.call.Outcome.{Outcome}
use Rattle.semantics.specs.declared.call.Outcome.TheVariants.{Number, Text}
use Rattle.semantics.specs.Syntax.{Expr, var, num, str, plus, conc, expression}
use Rattle.semantics.specs.Expressions.{added, joined, value}
use Rattle.semantics.specs.Calls.{seen_as, seen}
use Rattle.semantics.proofs.Expressions.{Fine, expression_fine, expression_is, build}
use Rattle.player.specs.Evaluation.{Computed, numbered, limited, ending, Appended, Spelled, spelling}
use Rattle.nodes.specs.declared.view.View.TheVariants as V

-- numbers
pub summed : Result ℕ Cause → Result ℕ Cause → Result ℕ Cause
summed (Ok m) (Ok n) = cond (ltb 4294967295 (m + n)) (Err SumTooLarge) (Ok (m + n))
summed (Ok m) (Err c) = Err c
summed (Err c) r = Err c

within_number : (b : Bool) (n : ℕ) → numbered (cond b (Err SumTooLarge) (Ok (number n))) ≡ cond b (Err SumTooLarge) (Ok n)
within_number true n = refl
within_number false n = refl

numbered_added : (v w : Result Value Cause) → numbered (added v w) ≡ summed (numbered v) (numbered w)
unfolding summed
numbered_added (Ok u) (Ok x) = within_number (ltb 4294967295 (num_of u + num_of x)) (num_of u + num_of x)
numbered_added (Ok u) (Err c) = refl
numbered_added (Err c) w = refl

-- what `?` hands on
pub handed_on : {A : Type 0} (r : Result A Cause) (c : Cause) → IsErrAnd r (λ x. x ≡ c) → r ≡ Err c
handed_on (Ok a) c h = absurd h
handed_on (Err x) c h = ap (λ y. Err y) h

-- a sum, held against the largest number
limited_small : (n : ℕ) → n ≤ largest → limited n ≡ Ok n
limited_small n h = cond-false (ltb largest n) (Err SumTooLarge) (Ok n) (le-ltb largest n h)

limited_large : (n : ℕ) → largest < n → limited n ≡ Err SumTooLarge
limited_large n h = cond-true (ltb largest n) (Err SumTooLarge) (Ok n) (lt-ltb largest n h)

-- what two parts come to, up to a number far beyond the largest
pub limited_added : (m n z : ℕ) → z ≡ min (m + n) 18446744073709551615 → limited z ≡ summed (limited m) (limited n)
unfolding summed
limited_added m n z e =
    ⊎_elim
    (λ (h : largest < m). limited_large z (omega arith) ∙ ap (λ r. summed r (limited n)) (sym (limited_large m h)))
    (λ (h : m ≤ largest). ⊎_elim
    (λ (k : largest < n). limited_large z (omega arith) ∙ ap (λ r. summed (Ok m) r) (sym (limited_large n k)) ∙ ap (λ r. summed r (limited n)) (sym (limited_small m h)))
    (λ (k : n ≤ largest). ap limited (omega arith) ∙ ap (λ r. summed (Ok m) r) (sym (limited_small n k)) ∙ ap (λ r. summed r (limited n)) (sym (limited_small m h)))
    (cases_lt largest n))
    (cases_lt largest m)

past_zero : (vs : List Value) (c : ℕ) → ltb c (length vs) ≡ false → get_or vs c (number 0) ≡ number 0
past_zero vs c e = get_or_past vs c (number 0) (ltb-false c (length vs) e)

-- texts
told_text : (vs : List Value) (c n : ℕ) (l : List ℕ) → Ok n ≡ (text_told c vs l).answer → (n ≡ length (bytes_of (get_or vs c (number 0)))) × (bytes_of (get_or vs c (number 0)) ≡ take n (text_told c vs l).line) × (get_or vs c (number 0) ≡ text (bytes_of (get_or vs c (number 0))))
told_text vs c n l = by (ltb c (length vs)) (get_or vs c (number 0))
  where
    by : (b : Bool) (v : Value) → Ok n ≡ (cond b (the_text v l) (record { answer = Err NoEntry; line = l })).answer → (n ≡ length (bytes_of v)) × (bytes_of v ≡ take n (cond b (the_text v l) (record { answer = Err NoEntry; line = l })).line) × (v ≡ text (bytes_of v))
    by true (number m) e = let z : ◌≡◌ {A = ℕ} 0 1 = cc in absurd (omega arith)
    by true (text t) e = let f : n ≡ length t = cc in (f, sym (take_at t (replicate (80 - length t) 0) n (sym f)), refl)
    by false v e = let z : ◌≡◌ {A = ℕ} 0 1 = cc in absurd (omega arith)

told_no_text : (vs : List Value) (c : ℕ) (x : Refusal) (l : List ℕ) → Err x ≡ (text_told c vs l).answer → bytes_of (get_or vs c (number 0)) ≡ []
told_no_text vs c x l = by (ltb c (length vs)) (get_or vs c (number 0)) (past_zero vs c)
  where
    by : (b : Bool) (v : Value) → (b ≡ false → v ≡ number 0) → Err x ≡ (cond b (the_text v l) (record { answer = Err NoEntry; line = l })).answer → bytes_of v ≡ []
    by true (number m) h e = refl
    by true (text t) h e = let z : ◌≡◌ {A = ℕ} 0 1 = cc in absurd (omega arith)
    by false v h e = ap bytes_of (h refl)

pub ends_at : (at n : ℕ) → at + n ≤ 80 → ending at n ≡ Some (at + n)
ends_at at n h = cond-true _ _ _ (le-leb (at + n) 80 h)

pub too_long : (at n : ℕ) → 80 < at + n → ending at n ≡ None
too_long at n h = cond-false _ _ _ (lt-leb (at + n) 80 h)

long_since : (at n : ℕ) → None ≡ ending at n → 80 < at + n
long_since at n e = ⊎_elim (λ h. h) (λ h. let q = ends_at at n h in let z : ◌≡◌ {A = ℕ} 0 1 = cc in absurd (omega arith)) (cases_lt 80 (at + n))

ends_since : (at n m : ℕ) → Some m ≡ ending at n → (at + n ≤ 80) × (m ≡ at + n)
ends_since at n m e =
    ⊎_elim (λ h. let q = too_long at n h in let z : ◌≡◌ {A = ℕ} 0 1 = cc in absurd (omega arith)) (λ h. let q = ends_at at n h in (h, cc)) (cases_lt 80 (at + n))

nothing_added : (l : List ℕ) (at : ℕ) → at ≤ 80 → Appended l l at [] (Some at)
nothing_added l at h =
    let z : at + 0 ≡ at = omega arith in
    record { says = ap Some (sym z) ∙ sym (ends_at at 0 (omega arith)); line = λ k. ap (λ n. take n l) z ∙ sym (append-nil (take at l)) }

appended_join : (l m k : List ℕ) (at mid : ℕ) (a b : List ℕ) (r : Option ℕ) → Appended l m at a (Some mid) → Appended m k mid b r → Appended l k at (a ++ b) r
appended_join l m k at mid a b r p q =
    let e = ends_since at (length a) mid p.says in
    let f : mid + length b ≡ at + length (a ++ b) = (let g = length-append a b in omega (arith, e.1)) in
    record {
      says = q.says ∙ ap (λ n. cond (leb n 80) (Some n) None) f;
      line = λ h.
          ap (λ n. take n k) (sym f) ∙ q.line (omega arith)
          ∙ ap (λ x. x ++ b) (ap (λ n. take n m) e.1 ∙ p.line e.0) ∙ append_assoc (take at l) a b;
    }

joined_by : (b : Bool) (t : List ℕ) (l k : List ℕ) (at : ℕ) (r : Option ℕ) → ltb 80 (length t) ≡ b → Appended l k at t r → Spelled (cond b (Err TextTooLong) (Ok (text t))) l k at r
joined_by true t l k at r e p = let h = ltb-true 80 (length t) e in (p.says ∙ too_long at (length t) (omega arith), refl)
joined_by false t l k at r e p = (p, ltb-false 80 (length t) e)

pub spelled_join : (v w : Result Value Cause) (l m k : List ℕ) (at mid : ℕ) (r : Option ℕ) → Spelled v l m at (Some mid) → Spelled w m k mid r → Spelled (joined v w) l k at r
spelled_join (Ok u) (Ok x) l m k at mid r p q = joined_by (ltb 80 (length (bytes_of u ++ bytes_of x))) (bytes_of u ++ bytes_of x) l k at r refl (appended_join l m k at mid (bytes_of u) (bytes_of x) r p.0 q.0)
spelled_join (Ok u) (Err c) l m k at mid r p q = q
spelled_join (Err c) w l m k at mid r p q = let e = p.0 in let z : ◌≡◌ {A = ℕ} 0 1 = cc in absurd (omega arith)

pub spelled_none : (v w : Result Value Cause) (l m : List ℕ) (at : ℕ) → ((c : Cause) → w ≡ Err c → c ≡ TextTooLong) → Spelled v l m at None → Spelled (joined v w) l m at None
spelled_none (Ok u) (Ok x) l m at h p =
    let e = long_since at (length (bytes_of u)) p.0.says in
    let g = length-append (bytes_of u) (bytes_of x) in
    joined_by (ltb 80 (length (bytes_of u ++ bytes_of x))) (bytes_of u ++ bytes_of x) l m at None refl
    (record { says = sym (too_long at (length (bytes_of u ++ bytes_of x)) (omega arith)); line = λ k. absurd (omega arith) })
spelled_none (Ok u) (Err c) l m at h p = (refl, h c refl)
spelled_none (Err c) w l m at h p = p

-- a text stops for its length alone
long_by : (b : Bool) (t : List ℕ) (c : Cause) → ◌≡◌ {A = Result Value Cause} (cond b (Err TextTooLong) (Ok (text t))) (Err c) → c ≡ TextTooLong
long_by true t c e = cc
long_by false t c e = let z : ◌≡◌ {A = ℕ} 0 1 = cc in absurd (omega arith)

long_join : (v w : Result Value Cause) → ((c : Cause) → v ≡ Err c → c ≡ TextTooLong) → ((c : Cause) → w ≡ Err c → c ≡ TextTooLong) → (c : Cause) → joined v w ≡ Err c → c ≡ TextTooLong
long_join (Ok u) (Ok x) f g c e = long_by (ltb 80 (length (bytes_of u ++ bytes_of x))) (bytes_of u ++ bytes_of x) c e
long_join (Ok u) (Err d) f g c e = g c e
long_join (Err d) w f g c e = f c e

long_only : (ks : List ℕ) (vs : List Value) (e : Expr) → Fine ks 2 e → (c : Cause) → value vs e ≡ Err c → c ≡ TextTooLong
long_only ks vs (var i) f c e = let z : ◌≡◌ {A = ℕ} 0 1 = cc in absurd (omega arith)
long_only ks vs (num n) f c e = let z : ◌≡◌ {A = ℕ} 0 1 = cc in absurd (omega arith)
long_only ks vs (str t) f c e = let z : ◌≡◌ {A = ℕ} 0 1 = cc in absurd (omega arith)
long_only ks vs (plus x y) f c e = let g = f.0 in absurd (omega arith)
long_only ks vs (conc x y) f c e = long_join (value vs x) (value vs y) (long_only ks vs x f.1) (long_only ks vs y f.2) c e

Texty : Result Value Cause → Type 0
Texty (Ok (number n)) = ⊥
Texty (Ok (text t)) = Unit {0}
Texty (Err c) = Unit {0}

joined_texty : (v w : Result Value Cause) → Texty (joined v w)
unfolding Texty
joined_texty (Ok u) (Ok x) = by (ltb 80 (length (bytes_of u ++ bytes_of x)))
  where
    by : (b : Bool) → Texty (cond b (Err TextTooLong) (Ok (text (bytes_of u ++ bytes_of x))))
    by true = tt
    by false = tt
joined_texty (Ok u) (Err c) = tt
joined_texty (Err c) w = tt

computed_spelled : (v : Result Value Cause) (l m : List ℕ) (r : Option ℕ) → Texty v → Spelled v l m 0 r → Computed v (spelling r) m
unfolding Texty
computed_spelled (Ok (number n)) l m r h p = absurd h
computed_spelled (Ok (text t)) l m r h p =
    let k = p.1 in
    let z : 0 + length t ≡ length t = omega arith in
    let e : r ≡ Some (length t) = p.0.says ∙ ends_at 0 (length t) (omega arith) ∙ ap Some z in
    (ap spelling e, p.1, ap (λ n. take n m) (sym z) ∙ p.0.line (omega arith))
computed_spelled (Err c) l m r h p = ap spelling p.0 ∙ ap (λ x. Err x) (sym p.1)

-- what the evaluator makes of where a text ends
pub spelling_ok : (r : Option ℕ) (n : ℕ) → Ok n ≡ ok_or r TextTooLong → Ok (Text n) ≡ spelling r
spelling_ok None n e = let z : ◌≡◌ {A = ℕ} 0 1 = cc in absurd (omega arith)
spelling_ok (Some m) n e = let f : n ≡ m = cc in ap (λ y. Ok (Text y)) f

pub spelling_err : (r : Option ℕ) (c : Cause) → Err c ≡ ok_or r TextTooLong → Err c ≡ spelling r
spelling_err None c e = let f : c ≡ TextTooLong = cc in ap (λ y. Err y) f
spelling_err (Some m) c e = let z : ◌≡◌ {A = ℕ} 0 1 = cc in absurd (omega arith)

computed_stopped : (v : Result Value Cause) (c : Cause) (m : List ℕ) → Err c ≡ numbered v → Computed v (Err c) m
computed_stopped (Ok u) c m e = let z : ◌≡◌ {A = ℕ} 0 1 = cc in absurd (omega arith)
computed_stopped (Err d) c m e = let f : c ≡ d = cc in ap (λ y. Err y) f

-- where a text ends is a place in the line
pub mid_fits : (v : Result Value Cause) (l m : List ℕ) (at mid : ℕ) → Spelled v l m at (Some mid) → mid ≤ longest
mid_fits (Ok u) l m at mid p = let e = ends_since at (length (bytes_of u)) mid p.0.says in let f = e.0 in let g = e.1 in omega arith
mid_fits (Err c) l m at mid p = let e = p.0 in let z : ◌≡◌ {A = ℕ} 0 1 = cc in absurd (omega arith)

-- where a variable's entry is seen
seen_computed : (vs : List Value) (n : ℕ) (y : Outcome) (l m : List ℕ) → length (bytes_of (get_or vs n (number 0))) ≤ longest → Ok y ≡ (seen vs n l).answer → m ≡ (seen vs n l).line → Computed (Ok (get_or vs n (number 0))) (Ok y) m
seen_computed vs n y l m = by (ltb n (length vs)) (get_or vs n (number 0))
  where
    by : (b : Bool) (v : Value) → length (bytes_of v) ≤ longest → Ok y ≡ (cond b (seen_as v l) (record { answer = Err NoEntry; line = l })).answer → m ≡ (cond b (seen_as v l) (record { answer = Err NoEntry; line = l })).line → Computed (Ok v) (Ok y) m
    by true (number x) s e f = let q : y ≡ Number x = cc in ap (λ z. Ok z) q
    by true (text t) s e f = let q : y ≡ Text (length t) = cc in (ap (λ z. Ok z) q, s, ap (take (length t)) f ∙ take_at t (replicate (longest - length t) 0) (length t) refl)
    by false v s e f = let z : ◌≡◌ {A = ℕ} 0 1 = cc in absurd (omega arith)

seen_none : (vs : List Value) (n : ℕ) (x : Refusal) (l m : List ℕ) → Err x ≡ (seen vs n l).answer → Computed (Ok (get_or vs n (number 0))) (Ok (Number 0)) m
seen_none vs n x l m = by (ltb n (length vs)) (get_or vs n (number 0)) (past_zero vs n)
  where
    by : (b : Bool) (v : Value) → (b ≡ false → v ≡ number 0) → Err x ≡ (cond b (seen_as v l) (record { answer = Err NoEntry; line = l })).answer → Computed (Ok v) (Ok (Number 0)) m
    by true (number k) h e = let z : ◌≡◌ {A = ℕ} 0 1 = cc in absurd (omega arith)
    by true (text t) h e = let z : ◌≡◌ {A = ℕ} 0 1 = cc in absurd (omega arith)
    by false v h e = subst (λ y. Computed (Ok y) (Ok (Number 0)) m) (sym (h refl)) refl

-- a sum, a number or no expression is a number
Numeric : Result Value Cause → Type 0
Numeric (Ok (number n)) = Unit {0}
Numeric (Ok (text t)) = ⊥
Numeric (Err c) = Unit {0}

numeric_added : (v w : Result Value Cause) → Numeric (added v w)
unfolding Numeric
numeric_added (Ok u) (Ok y) = by (ltb largest (num_of u + num_of y))
  where
    by : (b : Bool) → Numeric (cond b (Err SumTooLarge) (Ok (number (num_of u + num_of y))))
    by true = tt
    by false = tt
numeric_added (Ok u) (Err c) = tt
numeric_added (Err c) w = tt

numeric_by : (v : Result Value Cause) (n : ℕ) (m : List ℕ) → Numeric v → Ok n ≡ numbered v → Computed v (Ok (Number n)) m
unfolding Numeric
numeric_by (Ok (number y)) n m h e = let f : n ≡ y = cc in ap (λ z. Ok (Number z)) f
numeric_by (Ok (text t)) n m h e = absurd h
numeric_by (Err c) n m h e = let z : ◌≡◌ {A = ℕ} 0 1 = cc in absurd (omega arith)

-- what node i says
module _ (d : Deck) (i : ℕ) (x : View) (ex : x ≡ view_at (sheet_of d).nodes i) where
  right_as : (w : View) → x ≡ w → Right (sheet_of d) i w
  right_as w e = subst (Right (sheet_of d) i) (sym ex ∙ e) ((sound d).right i)

  pub kind_as : (w : View) → x ≡ w → kind_in (kinds (sheet_of d)) (view_at (sheet_of d).nodes i) ≡ kind_in (kinds (sheet_of d)) w
  kind_as w e = ap (kind_in (kinds (sheet_of d))) (sym ex ∙ e)

  pub plus_leads : (a b : ℕ) → x ≡ V.Plus a b → Leads (sheet_of d) i a integer × Leads (sheet_of d) i b integer
  plus_leads a b e = right_as (V.Plus a b) e

  pub conc_leads : (a b : ℕ) → x ≡ V.Conc a b → Leads (sheet_of d) i a string × Leads (sheet_of d) i b string
  conc_leads a b e = right_as (V.Conc a b) e

  -- a text constant or a join
  abbrev pub Joins : Type 0
  Joins = ((p : ℕ) × (s : ℕ) × (x ≡ V.Text p s)) ⊎ ((a : ℕ) × (b : ℕ) × (x ≡ V.Conc a b))

  pub kind_joins : Joins → kind_in (kinds (sheet_of d)) (view_at (sheet_of d).nodes i) ≡ string
  kind_joins = ⊎_elim (λ t. kind_as (V.Text t.0 t.1) t.2) (λ t. kind_as (V.Conc t.0 t.1) t.2)

  pub text_fits : (p s : ℕ) → x ≡ V.Text p s → (s ≤ longest) × (p + s ≤ length (sheet_of d).letters)
  text_fits p s e = right_as (V.Text p s) e

  -- what is neither variable, text nor join is no text
  pub no_text : ((p s n : ℕ) → x ≡ V.Variable p s n → ⊥) → ((p s : ℕ) → x ≡ V.Text p s → ⊥) → ((a b : ℕ) → x ≡ V.Conc a b → ⊥) → kind_in (kinds (sheet_of d)) (view_at (sheet_of d).nodes i) ≡ string → ⊥
  no_text hv ht hc t = by x refl (ap (kind_in (kinds (sheet_of d))) ex ∙ t)
    where
      by : (w : View) → x ≡ w → kind_in (kinds (sheet_of d)) w ≡ string → ⊥
      by (V.Variable p s n) e k = hv p s n e
      by (V.Text p s) e k = ht p s e
      by (V.Conc a b) e k = hc a b e
      by (V.Declaration p s m) e k = omega arith
      by (V.Number v) e k = omega arith
      by (V.Plus a b) e k = omega arith
      by (V.Assign a b) e k = omega arith
      by (V.If a b c) e k = omega arith
      by (V.While a b) e k = omega arith
      by (V.Series a b) e k = omega arith
      by V.Empty e k = omega arith
      by V.Unknown e k = omega arith

  module _ (vs : List Value) where
    value_as : (w : View) → x ≡ w → value vs (expression (sheet_of d) i) ≡ value vs (build (sheet_of d).letters (expression (sheet_of d)) w)
    value_as w e = ap (value vs) (expression_is (sheet_of d) (sound d) i ∙ ap (build (sheet_of d).letters (expression (sheet_of d))) (sym ex ∙ e))

    -- numbers
    numbered_as : (w : View) → x ≡ w → numbered (value vs (expression (sheet_of d) i)) ≡ numbered (value vs (build (sheet_of d).letters (expression (sheet_of d)) w))
    numbered_as w e = ap numbered (value_as w e)

    pub is_variable : (p s n y : ℕ) → x ≡ V.Variable p s n → y ≡ num_of (get_or vs n (number 0)) → Ok y ≡ numbered (value vs (expression (sheet_of d) i))
    is_variable p s n y e q = ap (λ z. Ok z) q ∙ sym (numbered_as (V.Variable p s n) e)

    pub sum_variable : (p s n y : ℕ) → x ≡ V.Variable p s n → y ≤ largest → y ≡ num_of (get_or vs n (number 0)) → limited y ≡ numbered (value vs (expression (sheet_of d) i))
    sum_variable p s n y e h q = limited_small y h ∙ is_variable p s n y e q

    pub is_number : (n y : ℕ) → x ≡ V.Number n → y ≡ n → Ok y ≡ numbered (value vs (expression (sheet_of d) i))
    is_number n y e q = ap (λ z. Ok z) q ∙ sym (numbered_as (V.Number n) e)

    pub sum_number : (n y : ℕ) → x ≡ V.Number n → y ≤ largest → y ≡ n → limited y ≡ numbered (value vs (expression (sheet_of d) i))
    sum_number n y e h q = limited_small y h ∙ is_number n y e q

    pub sum_plus : (a b m n z : ℕ) → x ≡ V.Plus a b → limited m ≡ numbered (value vs (expression (sheet_of d) a)) → limited n ≡ numbered (value vs (expression (sheet_of d) b)) → z ≡ min (m + n) 18446744073709551615 → limited z ≡ numbered (value vs (expression (sheet_of d) i))
    sum_plus a b m n z k e f q =
        limited_added m n z q ∙ ap (λ y. summed y (limited n)) e ∙ ap (λ y. summed (numbered (value vs (expression (sheet_of d) a))) y) f
        ∙ sym (numbered_as (V.Plus a b) k ∙ numbered_added (value vs (expression (sheet_of d) a)) (value vs (expression (sheet_of d) b)))

    -- a node that is no expression
    rest_as : (w : View) → x ≡ w → ((p s n : ℕ) → x ≡ V.Variable p s n → ⊥) → ((n : ℕ) → x ≡ V.Number n → ⊥) → ((p s : ℕ) → x ≡ V.Text p s → ⊥) → ((a b : ℕ) → x ≡ V.Plus a b → ⊥) → ((a b : ℕ) → x ≡ V.Conc a b → ⊥) → value vs (build (sheet_of d).letters (expression (sheet_of d)) w) ≡ Ok (number 0)
    rest_as (V.Variable p s n) e hv hn ht hp hc = absurd (hv p s n e)
    rest_as (V.Number n) e hv hn ht hp hc = absurd (hn n e)
    rest_as (V.Text p s) e hv hn ht hp hc = absurd (ht p s e)
    rest_as (V.Plus a b) e hv hn ht hp hc = absurd (hp a b e)
    rest_as (V.Conc a b) e hv hn ht hp hc = absurd (hc a b e)
    rest_as (V.Declaration p s k) e hv hn ht hp hc = refl
    rest_as (V.Assign a b) e hv hn ht hp hc = refl
    rest_as (V.If a b c) e hv hn ht hp hc = refl
    rest_as (V.While a b) e hv hn ht hp hc = refl
    rest_as (V.Series a b) e hv hn ht hp hc = refl
    rest_as V.Empty e hv hn ht hp hc = refl
    rest_as V.Unknown e hv hn ht hp hc = refl

    pub sum_rest : (kind_in (kinds (sheet_of d)) (view_at (sheet_of d).nodes i) ≡ string → ⊥) → ((p s n : ℕ) → x ≡ V.Variable p s n → ⊥) → ((n : ℕ) → x ≡ V.Number n → ⊥) → ((a b : ℕ) → x ≡ V.Plus a b → ⊥) → limited 0 ≡ numbered (value vs (expression (sheet_of d) i))
    sum_rest t hv hn hp =
        sym (ap numbered (value_as x refl ∙ rest_as x refl hv hn (λ p s e. t (kind_as (V.Text p s) e)) hp (λ a b e. t (kind_as (V.Conc a b) e))))

    -- texts
    pub spell_variable : (p s c n : ℕ) (t₀ t y l m : List ℕ) (at : ℕ) (r : Option ℕ) → length (bytes_of (get_or vs c (number 0))) ≤ longest → x ≡ V.Variable p s c → Ok n ≡ (text_told c vs t₀).answer → t ≡ (text_told c vs t₀).line → y ≡ take n t → Appended l m at y r → Spelled (value vs (expression (sheet_of d) i)) l m at r
    spell_variable p s c n t₀ t y l m at r short k e f q a =
        let b = told_text vs c n t₀ e in
        let w : y ≡ bytes_of (get_or vs c (number 0)) = q ∙ ap (take n) f ∙ sym b.1 in
        subst (λ v. Spelled v l m at r) (sym (value_as (V.Variable p s c) k)) (subst (λ z. Appended l m at z r) w a, short)

    pub spell_no_entry : (p s c : ℕ) (n : Refusal) (t₀ l : List ℕ) (at : ℕ) → at ≤ longest → x ≡ V.Variable p s c → Err n ≡ (text_told c vs t₀).answer → Spelled (value vs (expression (sheet_of d) i)) l l at (Some at)
    spell_no_entry p s c n t₀ l at a k e =
        let b = told_no_text vs c n t₀ e in
        let z : length (bytes_of (get_or vs c (number 0))) ≡ 0 = ap length b in
        subst (λ v. Spelled v l l at (Some at)) (sym (value_as (V.Variable p s c) k)) (subst (λ y. Appended l l at y (Some at)) (sym b) (nothing_added l at a), omega arith)

    pub spell_text : (p s n : ℕ) (y l m : List ℕ) (at : ℕ) (r : Option ℕ) → x ≡ V.Text p s → n ≡ s → y ≡ take n (drop p (sheet_of d).letters) → Appended l m at y r → Spelled (value vs (expression (sheet_of d) i)) l m at r
    spell_text p s n y l m at r k q e a =
        let f = (text_fits p s k).0 in
        let z : y ≡ take s (drop p (sheet_of d).letters) = e ∙ ap (λ j. take j (drop p (sheet_of d).letters)) q in
        let c : length (take s (drop p (sheet_of d).letters)) ≤ longest = (let g = length-take s (drop p (sheet_of d).letters) in omega arith) in
        subst (λ v. Spelled v l m at r) (sym (value_as (V.Text p s) k)) (subst (λ j. Appended l m at j r) z a, c)

    pub spell_conc : (a b : ℕ) (l m o : List ℕ) (at mid : ℕ) (r : Option ℕ) → x ≡ V.Conc a b → Spelled (value vs (expression (sheet_of d) a)) l m at (Some mid) → Spelled (value vs (expression (sheet_of d) b)) m o mid r → Spelled (value vs (expression (sheet_of d) i)) l o at r
    spell_conc a b l m o at mid r k p q =
        subst (λ v. Spelled v l o at r) (sym (value_as (V.Conc a b) k)) (spelled_join (value vs (expression (sheet_of d) a)) (value vs (expression (sheet_of d) b)) l m o at mid r p q)

    pub spell_conc_none : (a b : ℕ) (l m : List ℕ) (at : ℕ) → x ≡ V.Conc a b → Spelled (value vs (expression (sheet_of d) a)) l m at None → Spelled (value vs (expression (sheet_of d) i)) l m at None
    spell_conc_none a b l m at k p =
        subst (λ v. Spelled v l m at None) (sym (value_as (V.Conc a b) k))
        (spelled_none (value vs (expression (sheet_of d) a)) (value vs (expression (sheet_of d) b)) l m at
        (long_only (kinds (sheet_of d)) vs (expression (sheet_of d) b) (expression_fine (sheet_of d) (sound d) i b 2 (conc_leads a b k).1 (λ z. omega arith))) p)

    -- the whole
    computed_variable : (p s n : ℕ) (y : Outcome) (l m : List ℕ) → length (bytes_of (get_or vs n (number 0))) ≤ longest → x ≡ V.Variable p s n → Ok y ≡ (seen vs n l).answer → m ≡ (seen vs n l).line → Computed (value vs (expression (sheet_of d) i)) (Ok y) m
    computed_variable p s n y l m short k e f = subst (λ v. Computed v (Ok y) m) (sym (value_as (V.Variable p s n) k)) (seen_computed vs n y l m short e f)

    computed_no_entry : (p s n : ℕ) (y : Refusal) (l m : List ℕ) → x ≡ V.Variable p s n → Err y ≡ (seen vs n l).answer → Computed (value vs (expression (sheet_of d) i)) (Ok (Number 0)) m
    computed_no_entry p s n y l m k e = subst (λ v. Computed v (Ok (Number 0)) m) (sym (value_as (V.Variable p s n) k)) (seen_none vs n y l m e)

    pub computed_seen : (p s n : ℕ) (y : Result Outcome Refusal) (l m : List ℕ) (w : Outcome) → length (bytes_of (get_or vs n (number 0))) ≤ longest → x ≡ V.Variable p s n → y ≡ (seen vs n l).answer → m ≡ (seen vs n l).line → w ≡ result_unwrap_or y (Number 0) → Computed (value vs (expression (sheet_of d) i)) (Ok w) m
    computed_seen p s n (Ok y) l m w short k e f q = subst (λ z. Computed (value vs (expression (sheet_of d) i)) (Ok z) m) (sym q) (computed_variable p s n y l m short k e f)
    computed_seen p s n (Err y) l m w short k e f q = subst (λ z. Computed (value vs (expression (sheet_of d) i)) (Ok z) m) (sym q) (computed_no_entry p s n y l m k e)

    computed_text : (p s : ℕ) (l m : List ℕ) (r : Option ℕ) (w : Result Outcome Cause) → x ≡ V.Text p s → Spelled (value vs (expression (sheet_of d) i)) l m 0 r → w ≡ spelling r → Computed (value vs (expression (sheet_of d) i)) w m
    unfolding Texty
    computed_text p s l m r w k q e = subst (λ y. Computed (value vs (expression (sheet_of d) i)) y m) (sym e) (computed_spelled (value vs (expression (sheet_of d) i)) l m r (subst Texty (sym (value_as (V.Text p s) k)) tt) q)

    computed_conc : (a b : ℕ) (l m : List ℕ) (r : Option ℕ) (w : Result Outcome Cause) → x ≡ V.Conc a b → Spelled (value vs (expression (sheet_of d) i)) l m 0 r → w ≡ spelling r → Computed (value vs (expression (sheet_of d) i)) w m
    unfolding Texty
    computed_conc a b l m r w k q e = subst (λ y. Computed (value vs (expression (sheet_of d) i)) y m) (sym e) (computed_spelled (value vs (expression (sheet_of d) i)) l m r (subst Texty (sym (value_as (V.Conc a b) k)) (joined_texty (value vs (expression (sheet_of d) a)) (value vs (expression (sheet_of d) b)))) q)

    pub computed_joins : Joins → (l m : List ℕ) (r : Option ℕ) (w : Result Outcome Cause) → Spelled (value vs (expression (sheet_of d) i)) l m 0 r → w ≡ spelling r → Computed (value vs (expression (sheet_of d) i)) w m
    computed_joins t l m r w q e = ⊎_elim (λ h. computed_text h.0 h.1 l m r w h.2 q e) (λ h. computed_conc h.0 h.1 l m r w h.2 q e) t

    numeric_as : (w : View) → x ≡ w → ((p s n : ℕ) → x ≡ V.Variable p s n → ⊥) → ((p s : ℕ) → x ≡ V.Text p s → ⊥) → ((a b : ℕ) → x ≡ V.Conc a b → ⊥) → Numeric (value vs (build (sheet_of d).letters (expression (sheet_of d)) w))
    unfolding Numeric
    numeric_as (V.Variable p s n) e hv ht hc = absurd (hv p s n e)
    numeric_as (V.Text p s) e hv ht hc = absurd (ht p s e)
    numeric_as (V.Conc a b) e hv ht hc = absurd (hc a b e)
    numeric_as (V.Plus a b) e hv ht hc = numeric_added (value vs (expression (sheet_of d) a)) (value vs (expression (sheet_of d) b))
    numeric_as (V.Number n) e hv ht hc = tt
    numeric_as (V.Declaration p s k) e hv ht hc = tt
    numeric_as (V.Assign a b) e hv ht hc = tt
    numeric_as (V.If a b c) e hv ht hc = tt
    numeric_as (V.While a b) e hv ht hc = tt
    numeric_as (V.Series a b) e hv ht hc = tt
    numeric_as V.Empty e hv ht hc = tt
    numeric_as V.Unknown e hv ht hc = tt

    pub computed_number : (a : Result ℕ Cause) (w : Result Outcome Cause) (m : List ℕ) → ((p s n : ℕ) → x ≡ V.Variable p s n → ⊥) → ((p s : ℕ) → x ≡ V.Text p s → ⊥) → ((a b : ℕ) → x ≡ V.Conc a b → ⊥) → a ≡ numbered (value vs (expression (sheet_of d) i)) → MatchResult a (λ n. IsOkAnd w (λ y. y ≡ Number n)) (λ c. w ≡ Err c) → Computed (value vs (expression (sheet_of d) i)) w m
    computed_number (Ok n) (Ok y) m hv ht hc e h =
        subst (λ z. Computed (value vs (expression (sheet_of d) i)) (Ok z) m) (sym h) (numeric_by (value vs (expression (sheet_of d) i)) n m (subst Numeric (sym (value_as x refl)) (numeric_as x refl hv ht hc)) e)
    computed_number (Ok n) (Err c) m hv ht hc e h = absurd h
    computed_number (Err c) w m hv ht hc e h = subst (λ z. Computed (value vs (expression (sheet_of d) i)) z m) (sym h) (computed_stopped (value vs (expression (sheet_of d) i)) c m e)
