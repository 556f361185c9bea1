-- The laws of the scanner, from word to word.
use Rattle.std.proofs.Common.{◌≡◌, ℕ, zero, suc, ◌-◌, ◌<◌, ◌≤◌, min, true, false, not, ◌&&◌, ◌⊎◌, List, [], ◌∷◌, ◌++◌, length, drop, is_some, IfOk, Some, None, Ok, Err, Option, sym, refl, ap, ◌∙◌, subst, inl, inr, ⊎_elim, arith}
use Rattle.std.proofs.lemmas.List.{append-nil, drop_all}
use Rattle.std.proofs.lemmas.Bool.{and_parts, not-true, cases_lt, true≢false}
use Rattle.words.specs.Bytes.{alnum, layout, every, runs_to, cut}
use Rattle.words.specs.Words.{Lex, name, number, text, fixed, end, Spelt, Scanned, moves, keyword, begins, word_at, after}
use Rattle.words.specs.Laws.{Spells, a_name, a_number, a_text, a_fixed, Taken, Longest, NoKeyword, Last, stop, bad, Reading, finished, refused, then, MadeOf, gap, word, MakesUp, Ends}
use Rattle.words.proofs.Runs.{run_every, run_le, cut_drop}
use Rattle.words.proofs.Spelled.{Right, word_right, word_none}
use Rattle.words.proofs.Longest.{Reaches, reach}

abbrev moved : Scanned → ℕ
moved (Ok s) = moves s.lex
moved (Err f) = 0

module _ (t : List ℕ) (p : ℕ) (s : Spelt) (h : p ≤ length t) (e : after t p ≡ Ok s) where
  here : word_at t (runs_to layout t p) ≡ Ok s
  here = let z : min p (length t) ≡ p = omega arith in ap (λ n. word_at t (runs_to layout t n)) (sym z) ∙ e

  pub taken : moves s.lex ≡ 1 → Taken t p s
  taken m =
      let q = runs_to layout t p in
      elim (cases_lt q (length t)) [
        | inl l ↦ (let r : Right t q s = subst (λ x. IfOk x (Right t q)) here (word_right t q l) in
            record {
              from = omega arith;
              on = omega arith;
              within = r.3;
              skips = subst (λ n. every layout (cut t p n) ≡ true) (sym r.0) (run_every layout t p);
              spells = subst (λ n. Spells (cut t n s.next) s.lex) (sym r.0) r.4;
              longest = λ u v x d w. let g : Reaches (length u) q s = subst (λ x. IfOk x (Reaches (length u) q)) here (reach t q v w (ap (λ n. drop n t) (sym r.0) ∙ d)) in omega arith;
            })
        | inr l ↦ absurd (let x : moves s.lex ≡ 0 = ap moved (sym here ∙ word_none t q l) in omega arith)
      ]

pub longest : Longest
longest t p s h e m = taken t p s h e m

none_from : {A : Type 0} (o : Option A) → is_some o ≡ false → o ≡ None
none_from (Some x) e = absurd (true≢false e)
none_from None e = refl

name_spelled : (u w : List ℕ) (x : Lex) → Spells u x → x ≡ name w → keyword w ≡ None
name_spelled u w x (a_name v n) e =
    let q : v ≡ w = cc in
    let h = (and_parts (begins v) (every alnum v && not (is_some (keyword v))) n).1 in
    subst (λ y. keyword y ≡ None) q (none_from (keyword v) (not-true (is_some (keyword v)) (and_parts (every alnum v) (not (is_some (keyword v))) h).1))
name_spelled u w x (a_number d ds a) e = absurd (let z : ◌≡◌ {A = ℕ} 0 1 = cc in omega arith)
name_spelled u w x (a_text v a) e = absurd (let z : ◌≡◌ {A = ℕ} 0 1 = cc in omega arith)
name_spelled u w x (a_fixed k) e = absurd (let z : ◌≡◌ {A = ℕ} 0 1 = cc in omega arith)

-- from any place, the same as from the text's end where it lies behind that
after_min : (t : List ℕ) (p : ℕ) → after t p ≡ after t (min p (length t))
after_min t p = let z : min p (length t) ≡ min (min p (length t)) (length t) = omega arith in ap (λ n. word_at t (runs_to layout t n)) z

pub no_keyword : NoKeyword
no_keyword t w p q r e =
    let k = taken t (min p (length t)) _ (omega arith) (sym (after_min t p) ∙ e) refl in
    name_spelled _ w _ k.spells refl

-- the rest of a text that has no word any more is layout
rest_is_layout : (t : List ℕ) (p q r : ℕ) → p ≤ length t → after t p ≡ Ok (record { lex = end; place = q; next = r }) → every layout (drop p t) ≡ true
rest_is_layout t p q r h e =
    let n = runs_to layout t p in
    elim (cases_lt n (length t)) [
      | inl l ↦ absurd (let x : Right t n (record { lex = end; place = q; next = r }) = subst (λ x. IfOk x (Right t n)) (here t p _ h e) (word_right t n l) in omega (arith, x.1))
      | inr l ↦ (let b = run_le layout t p h in
          let m : n ≡ length t = omega arith in
          let d : drop p t ≡ cut t p n = cut_drop t p n (omega arith) ∙ (ap (λ xs. cut t p n ++ xs) (drop_all n t l) ∙ append-nil (cut t p n)) in
          subst (λ xs. every layout xs ≡ true) (sym d) (run_every layout t p))
    ]

makes_up_from : (t : List ℕ) (p : ℕ) (ws : List Lex) (z : Last) → z ≡ stop → p ≤ length t → Reading t p ws z → MadeOf (drop p t) ws
makes_up_from t p ws z y h (finished {q = q} {r = r} e) = gap (drop p t) (rest_is_layout t p q r h e)
makes_up_from t p ws z y h (refused e) = absurd (let n : ◌≡◌ {A = ℕ} 0 1 = cc in omega arith)
makes_up_from t p ws z y h (then {s = s} {ws = vs} e m r) =
    let k = taken t p s h e m in
    let rest = makes_up_from t s.next vs z y k.within r in
    let a = cut_drop t p s.place k.from in
    let b = cut_drop t s.place s.next (let o = k.on in omega arith) in
    subst (λ xs. MadeOf xs (s.lex ∷ vs)) (sym (a ∙ ap (λ xs. cut t p s.place ++ xs) b)) (word (cut t p s.place) (cut t s.place s.next) s.lex k.skips k.spells rest)

pub makes_up : MakesUp
makes_up t ws r = makes_up_from t 0 ws stop refl (omega arith) r

word_or_end : (x : Lex) → (moves x ≡ 1) ⊎ (x ≡ end)
word_or_end (name w) = inl refl
word_or_end (number w v) = inl refl
word_or_end (text w) = inl refl
word_or_end (fixed w) = inl refl
word_or_end end = inr refl

abbrev ToEnd : List ℕ → ℕ → Type 0
ToEnd t p = (ws : List Lex) × (z : Last) × (length ws ≤ length t - p) × Reading t p ws z

-- the reading from p on ends if that from every later place does
ends_by : (t : List ℕ) (p : ℕ) → p ≤ length t → ((q : ℕ) → p < q → q ≤ length t → ToEnd t q) → (r : Scanned) → after t p ≡ r → ToEnd t p
ends_by t p h f (Err x) e = ([], bad x, omega arith, refused e)
ends_by t p h f (Ok s) e =
    ⊎_elim
    (λ m. let k = taken t p s h e m in
    let r = f s.next (omega (arith, k.from, k.on)) k.within in
    (s.lex ∷ r.0, r.1, omega (arith, k.from, k.on, k.within, r.2), then e m r.3))
    (λ x. ([], stop, omega arith, finished {q = s.place} {r = s.next} (e ∙ ap (λ y. Ok (record { lex = y; place = s.place; next = s.next })) x)))
    (word_or_end s.lex)

ends_from : (k : ℕ) (t : List ℕ) (p : ℕ) → p ≤ length t → length t - p ≤ k → ToEnd t p
ends_from zero t p h b = ends_by t p h (λ q l m. absurd (omega arith)) (after t p) refl
ends_from (suc k) t p h b = ends_by t p h (λ q l m. ends_from k t q m (omega arith)) (after t p) refl

pub ends : Ends
ends t = let r = ends_from (length t) t 0 (omega arith) (omega arith) in (r.0, r.1, omega (arith, r.2), r.3)
