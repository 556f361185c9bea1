-- What the scanner hands out is spelled as its word is.
use Rattle.std.proofs.Common.{◌≡◌, ℕ, ◌+◌, ◌-◌, ◌<◌, ◌≤◌, Bool, true, false, cond, not, ◌&&◌, eqb, ltb, ◌⊎◌, List, [], ◌∷◌, ◌++◌, length, get_or, is_some, IfOk, Some, None, Option, sym, refl, ap, ◌∙◌, subst, inl, inr, ⊎_elim, arith}
use Rattle.std.specs.Str.{bytes_eq}
use Rattle.std.proofs.lemmas.Slice.Eq.{bytes_eq-Decides}
use Rattle.std.proofs.lemmas.List.{get_or_past}
use Rattle.std.proofs.lemmas.List.Sums.{prefix_len-drop_yes}
use Rattle.std.proofs.lemmas.Bool.{cases_lt, both_ways, cond_both, cases_Bool, cond-true, cond-false, and_from, or_left, eqb-true, ltb-true, lt-ltb, le-ltb}
use Rattle.words.specs.declared.word.Fixed.{Fixed}
use Rattle.words.specs.declared.word.Fixed.TheVariants as F
use Rattle.words.specs.Bytes.{letter, digit, alnum, allowed, every, runs_to, cut}
use Rattle.words.specs.Words.{number, text, fixed, end, Spelt, Scanned, hit, moves, keyword, begins, named, name_at, value, limited, numbered, number_at, text_at, begun, word_at}
use Rattle.words.specs.Laws.{spelling_of, Spells, a_name, a_number, a_text, a_fixed}
use Rattle.words.proofs.Value.{limited_some}
use Rattle.words.proofs.Runs.{run_every, run_le, cut_cons, cut_more, cut_none}

-- one entry of the chain of keywords
pick : (w : List ℕ) (j k : Fixed) (r : Option Fixed) → cond (bytes_eq (spelling_of j) w) (Some j) r ≡ Some k → (spelling_of k ≡ w) ⊎ (r ≡ Some k)
pick w j k r e =
    ⊎_elim
    (λ y. let m : j ≡ k = (let c = sym (cond-true (bytes_eq (spelling_of j) w) (Some j) r y) ∙ e in cc) in inl (subst (λ i. spelling_of i ≡ w) m ((bytes_eq-Decides (spelling_of j) w).0 y)))
    (λ n. inr (sym (cond-false (bytes_eq (spelling_of j) w) (Some j) r n) ∙ e))
    (cases_Bool (bytes_eq (spelling_of j) w))

pub keyword_spelled : (w : List ℕ) (k : Fixed) → keyword w ≡ Some k → spelling_of k ≡ w
keyword_spelled w k e =
    ⊎_elim (λ h. h) (λ e. ⊎_elim (λ h. h) (λ e. ⊎_elim (λ h. h) (λ e. ⊎_elim (λ h. h) (λ e.
    ⊎_elim (λ h. h) (λ e. ⊎_elim (λ h. h) (λ e. ⊎_elim (λ h. h) (λ e. ⊎_elim (λ h. h) (λ e.
    ⊎_elim (λ h. h) (λ e. ⊎_elim (λ h. h) (λ e. ⊎_elim (λ h. h) (λ e. ⊎_elim (λ h. h) (λ e. absurd (never k e))
    (pick w F.Od k _ e)) (pick w F.Do k _ e)) (pick w F.While k _ e)) (pick w F.Fi k _ e))
    (pick w F.Else k _ e)) (pick w F.Then k _ e)) (pick w F.If k _ e)) (pick w F.String k _ e))
    (pick w F.Integer k _ e)) (pick w F.Declare k _ e)) (pick w F.End k _ e)) (pick w F.Begin k _ e)
  where
    never : (k : Fixed) → ◌≡◌ {A = Option Fixed} None (Some k) → ⊥
    never k e = let z : ◌≡◌ {A = ℕ} 0 1 = cc in omega arith

named_spelled : (w : List ℕ) (o : Option Fixed) → keyword w ≡ o → begins w ≡ true → every alnum w ≡ true → Spells w (named w o)
named_spelled w (Some k) e b a = subst (λ u. Spells u (fixed k)) (keyword_spelled w k e) (a_fixed k)
named_spelled w None e b a = a_name w (and_from (begins w) (every alnum w && not (is_some (keyword w))) b (and_from (every alnum w) (not (is_some (keyword w))) a (ap (λ o. not (is_some o)) e)))

-- the word stands at p, is not the end, and is spelled as it should be
abbrev pub Right : List ℕ → ℕ → Spelt → Type 0
Right t p s = (s.place ≡ p) × (moves s.lex ≡ 1) × (p < s.next) × (s.next ≤ length t) × Spells (cut t p s.next) s.lex

pub within : (p : ℕ → Bool) → p 0 ≡ false → (t : List ℕ) (i : ℕ) → p (get_or t i 0) ≡ true → i < length t
within p z t i e = ⊎_elim (λ h. h) (λ h. absurd (both_ways (p (get_or t i 0)) (ap p (get_or_past t i 0 h) ∙ z) e)) (cases_lt i (length t))

pub run_some : (p : ℕ → Bool) (t : List ℕ) (q : ℕ) → q < length t → p (get_or t q 0) ≡ true → q + 1 ≤ runs_to p t q
run_some p t q h y = omega (arith, prefix_len-drop_yes p t q 0 h y)

named_moves : (w : List ℕ) (o : Option Fixed) → moves (named w o) ≡ 1
named_moves w (Some k) = refl
named_moves w None = refl

module _ (t : List ℕ) (p : ℕ) (h : p < length t) where
  name_right : letter (get_or t p 0) ≡ true → IfOk (name_at t p) (Right t p)
  name_right e =
      let q = runs_to alnum t p in
      let w = cut t p q in
      let some = run_some alnum t p h (or_left (letter (get_or t p 0)) (digit (get_or t p 0)) e) in
      let c = cut_cons t p q (omega arith) h in
      (refl, named_moves w (keyword w), omega arith, run_le alnum t p (omega arith), named_spelled w (keyword w) refl (ap begins c ∙ e) (run_every alnum t p))

  numbered_right : (q : ℕ) (d : ℕ) (ds : List ℕ) (o : Option ℕ) → cut t p q ≡ d ∷ ds → every digit (cut t p q) ≡ true → limited (value 0 (cut t p q)) ≡ o → p + 1 ≤ q → q ≤ length t →
      IfOk (numbered (cut t p q) p q o) (Right t p)
  numbered_right q d ds (Some v) c a e s l =
      (refl, refl, omega arith, l, subst (λ n. Spells (cut t p q) (number (cut t p q) n)) (sym (limited_some (value 0 (cut t p q)) v (sym e)).0) (subst (λ u. Spells u (number u (value 0 u))) (sym c) (a_number d ds (subst (λ u. every digit u ≡ true) c a))))
  numbered_right q d ds None c a e s l = tt

  number_right : digit (get_or t p 0) ≡ true → IfOk (number_at t p) (Right t p)
  number_right e =
      let q = runs_to digit t p in
      let some = run_some digit t p h e in
      numbered_right q (get_or t p 0) (cut t (p + 1) q) (limited (value 0 (cut t p q))) (cut_cons t p q (omega arith) h) (run_every digit t p) refl some (run_le digit t p (omega arith))

  text_right : eqb (get_or t p 0) 34 ≡ true → IfOk (text_at t p) (Right t p)
  text_right b =
      let P : Scanned → Type 0 = λ r. IfOk r (Right t p) in
      let q = runs_to allowed t (p + 1) in
      cond_both (ltb q (length t)) _ _ P
      (λ i. cond_both (eqb (get_or t q 0) 34) _ _ P
      (λ c. cond_both (ltb 80 (q - (p + 1))) _ _ P (λ _. tt) (λ _. (refl, refl, omega arith, omega (arith, ltb-true q (length t) i), spelled (ltb-true q (length t) i) (eqb-true (get_or t q 0) 34 c))))
      (λ _. tt))
      (λ _. tt)
    where
      spelled : runs_to allowed t (p + 1) < length t → get_or t (runs_to allowed t (p + 1)) 0 ≡ 34 → Spells (cut t p (runs_to allowed t (p + 1) + 1)) (text (cut t (p + 1) (runs_to allowed t (p + 1))))
      spelled i c =
          let q = runs_to allowed t (p + 1) in
          let w = cut t (p + 1) q in
          let front : cut t p (q + 1) ≡ get_or t p 0 ∷ cut t (p + 1) (q + 1) = cut_cons t p (q + 1) (omega arith) h in
          subst (λ u. Spells u (text w)) (sym (front ∙ (ap (λ x. x ∷ cut t (p + 1) (q + 1)) (eqb-true (get_or t p 0) 34 b) ∙ ap (λ u. 34 ∷ u) (cut_more t (p + 1) q (omega arith) i ∙ ap (λ x. w ++ (x ∷ [])) c)))) (a_text w (run_every allowed t (p + 1)))

  mark_right : (k : Fixed) (b : ℕ) → spelling_of k ≡ b ∷ [] → eqb (get_or t p 0) b ≡ true → Right t p (record { lex = fixed k; place = p; next = p + 1 })
  mark_right k b s e =
      let c = cut_cons t p (p + 1) (omega arith) h in
      (refl, refl, omega arith, omega arith, subst (λ u. Spells u (fixed k)) (s ∙ sym (c ∙ (ap (λ x. x ∷ cut t (p + 1) (p + 1)) (eqb-true (get_or t p 0) b e) ∙ ap (λ u. b ∷ u) (cut_none t (p + 1))))) (a_fixed k))

  pair_right : (k : Fixed) (b c : ℕ) → spelling_of k ≡ b ∷ c ∷ [] → eqb (get_or t p 0) b ≡ true → p + 1 < length t → eqb (get_or t (p + 1) 0) c ≡ true → Right t p (record { lex = fixed k; place = p; next = p + 2 })
  pair_right k b c s e i f =
      let x = cut_cons t p (p + 2) (omega arith) h in
      let y = cut_cons t (p + 1) (p + 2) (omega arith) i in
      let n : (p + 1) + 1 ≡ p + 2 = omega arith in
      let z : cut t ((p + 1) + 1) (p + 2) ≡ [] = ap (λ m. cut t m (p + 2)) n ∙ cut_none t (p + 2) in
      (refl, refl, omega arith, omega arith, subst (λ u. Spells u (fixed k)) (s ∙ sym (x ∙ (ap (λ v. v ∷ cut t (p + 1) (p + 2)) (eqb-true (get_or t p 0) b e) ∙ ap (λ u. b ∷ u) (y ∙ (ap (λ v. v ∷ cut t ((p + 1) + 1) (p + 2)) (eqb-true (get_or t (p + 1) 0) c f) ∙ ap (λ u. c ∷ u) z))))) (a_fixed k))

  begun_right : IfOk (begun (get_or t p 0) t p) (Right t p)
  begun_right =
      let b : ℕ = get_or t p 0 in
      let P : Scanned → Type 0 = λ r. IfOk r (Right t p) in
      cond_both (letter b) _ _ P name_right
      (λ _. cond_both (digit b) _ _ P number_right
      (λ _. cond_both (eqb b 34) _ _ P text_right
      (λ _. cond_both (eqb b 40) _ _ P (mark_right F.Open 40 refl)
      (λ _. cond_both (eqb b 41) _ _ P (mark_right F.Close 41 refl)
      (λ _. cond_both (eqb b 43) _ _ P (mark_right F.Plus 43 refl)
      (λ _. cond_both (eqb b 45) _ _ P (mark_right F.Minus 45 refl)
      (λ _. cond_both (eqb b 59) _ _ P (mark_right F.Semicolon 59 refl)
      (λ _. cond_both (eqb b 44) _ _ P (mark_right F.Comma 44 refl)
      (λ _. cond_both (eqb b 124) _ _ P
      (λ e. cond_both (eqb (get_or t (p + 1) 0) 124) _ _ P (λ f. pair_right F.Join 124 124 refl e (within (λ x. eqb x 124) refl t (p + 1) f) f) (λ _. tt))
      (λ _. cond_both (eqb b 58) _ _ P
      (λ e. cond_both (eqb (get_or t (p + 1) 0) 61) _ _ P (λ f. pair_right F.Becomes 58 61 refl e (within (λ x. eqb x 61) refl t (p + 1) f) f) (λ _. mark_right F.Colon 58 refl e))
      (λ _. tt)))))))))))

pub word_right : (t : List ℕ) (p : ℕ) → p < length t → IfOk (word_at t p) (Right t p)
word_right t p h = subst (λ r. IfOk r (Right t p)) (sym (cond-true (ltb p (length t)) _ _ (lt-ltb p (length t) h))) (begun_right t p h)

pub word_none : (t : List ℕ) (p : ℕ) → length t ≤ p → word_at t p ≡ hit end p p
word_none t p h = cond-false (ltb p (length t)) _ _ (le-ltb p (length t) h)
