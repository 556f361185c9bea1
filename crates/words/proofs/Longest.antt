-- A word that begins at a place is no longer than the one that the scanner takes there.
use Rattle.std.proofs.Common.{◌≡◌, ℕ, ◌+◌, ◌-◌, ◌≤◌, true, false, not, ◌&&◌, eqb, ltb, List, [], ◌∷◌, ◌++◌, length, get_or, drop, is_some, IfOk, Some, None, Option, sym, refl, ap, ◌∙◌, subst, append_assoc, arith, length-append}
use Rattle.std.proofs.lemmas.Bool.Decides.{nat_tests}
use Rattle.std.specs.List.{prefix_len}
use Rattle.std.proofs.lemmas.Bool.{cond_both, cond-true, cond-false, and_parts, lt-ltb, eq-eqb}
use Rattle.words.specs.declared.word.Fixed.{Fixed}
use Rattle.words.specs.declared.word.Fixed.TheVariants as F
use Rattle.words.specs.Bytes.{letter, digit, alnum, allowed, every, runs_to, cut}
use Rattle.words.specs.Words.{Lex, Spelt, Scanned, keyword, begins, name_at, value, limited, numbered, number_at, begun, word_at}
use Rattle.words.specs.Laws.{spelling_of, Spells, a_name, a_number, a_text, a_fixed}
use Rattle.words.proofs.Runs.{leading_reaches, leading_stops, head_within, head_is, tail_is}

abbrev pub Reaches : ℕ → ℕ → Spelt → Type 0
Reaches n p s = n ≤ s.next - p

begun_is : (t : List ℕ) (p b : ℕ) (r : List ℕ) → drop p t ≡ b ∷ r → word_at t p ≡ begun b t p
begun_is t p b r e = cond-true (ltb p (length t)) _ _ (lt-ltb p (length t) (head_within t p b r e)) ∙ ap (λ x. begun x t p) (head_is t p b r e)

digit_no_letter : (b : ℕ) → digit b ≡ true → letter b ≡ false
digit_no_letter b e = grind (arith, nat_tests)

module _ (t : List ℕ) (p : ℕ) (v : List ℕ) where
  reach_at : (b : ℕ) (r : List ℕ) (n : ℕ) → drop p t ≡ b ∷ r → IfOk (begun b t p) (Reaches n p) → IfOk (word_at t p) (Reaches n p)
  reach_at b r n e m = subst (λ x. IfOk x (Reaches n p)) (sym (begun_is t p b r e)) m

  letters_reach : (u : List ℕ) → begins u ≡ true → every alnum u ≡ true → drop p t ≡ u ++ v → IfOk (word_at t p) (Reaches (length u) p)
  letters_reach [] b a e = absurd (let z : ◌≡◌ {A = ℕ} 0 1 = cc in omega arith)
  letters_reach (x ∷ u) b a e =
      let l = leading_reaches alnum (x ∷ u) v a in
      let i : prefix_len alnum (drop p t) ≡ prefix_len alnum ((x ∷ u) ++ v) = ap (prefix_len alnum) e in
      reach_at x (u ++ v) (length (x ∷ u)) e (subst (λ r. IfOk r (Reaches (length (x ∷ u)) p)) (sym (cond-true (letter x) (name_at t p) _ b)) (omega arith))

  numbered_reach : (w : List ℕ) (q n : ℕ) (o : Option ℕ) → n ≤ q - p → IfOk (numbered w p q o) (Reaches n p)
  numbered_reach w q n (Some x) h = h
  numbered_reach w q n None h = tt

  digits_reach : (d : ℕ) (ds : List ℕ) → every digit (d ∷ ds) ≡ true → drop p t ≡ (d ∷ ds) ++ v → IfOk (word_at t p) (Reaches (length (d ∷ ds)) p)
  digits_reach d ds a e =
      let l = leading_reaches digit (d ∷ ds) v a in
      let i : prefix_len digit (drop p t) ≡ prefix_len digit ((d ∷ ds) ++ v) = ap (prefix_len digit) e in
      let y = (and_parts (digit d) (every digit ds) a).0 in
      let q = runs_to digit t p in
      let is : begun d t p ≡ number_at t p = cond-false (letter d) _ _ (digit_no_letter d y) ∙ cond-true (digit d) _ _ y in
      reach_at d (ds ++ v) (length (d ∷ ds)) e (subst (λ r. IfOk r (Reaches (length (d ∷ ds)) p)) (sym is) (numbered_reach (cut t p q) q (length (d ∷ ds)) (limited (value 0 (cut t p q))) (omega arith)))

  text_reach : (w : List ℕ) → every allowed w ≡ true → drop p t ≡ (34 ∷ (w ++ (34 ∷ []))) ++ v → IfOk (word_at t p) (Reaches (length (34 ∷ (w ++ (34 ∷ [])))) p)
  text_reach w a e =
      let n = length (34 ∷ (w ++ (34 ∷ []))) in
      let P : Scanned → Type 0 = λ r. IfOk r (Reaches n p) in
      let q = runs_to allowed t (p + 1) in
      let rest : drop (p + 1) t ≡ w ++ (34 ∷ v) = tail_is t p 34 ((w ++ (34 ∷ [])) ++ v) e ∙ append_assoc w (34 ∷ []) v in
      let l : prefix_len allowed (drop (p + 1) t) ≡ length w = ap (prefix_len allowed) rest ∙ leading_stops allowed w 34 v a refl in
      let m = length-append w (34 ∷ []) in
      reach_at 34 ((w ++ (34 ∷ [])) ++ v) n e
      (cond_both (ltb q (length t)) _ _ P
      (λ _. cond_both (eqb (get_or t q 0) 34) _ _ P (λ _. cond_both (ltb 80 (q - (p + 1))) _ _ P (λ _. tt) (λ _. omega arith)) (λ _. tt))
      (λ _. tt))

  becomes_reach : drop p t ≡ (58 ∷ 61 ∷ []) ++ v → IfOk (word_at t p) (Reaches 2 p)
  becomes_reach e =
      let f : eqb (get_or t (p + 1) 0) 61 ≡ true = eq-eqb (get_or t (p + 1) 0) 61 (head_is t (p + 1) 61 v (tail_is t p 58 (61 ∷ v) e)) in
      reach_at 58 (61 ∷ v) 2 e (subst (λ r. IfOk r (Reaches 2 p)) (sym (cond-true (eqb (get_or t (p + 1) 0) 61) _ _ f)) (omega arith))

  fixed_reach : (k : Fixed) → drop p t ≡ spelling_of k ++ v → IfOk (word_at t p) (Reaches (length (spelling_of k)) p)
  fixed_reach F.Begin e = letters_reach (spelling_of F.Begin) refl refl e
  fixed_reach F.End e = letters_reach (spelling_of F.End) refl refl e
  fixed_reach F.Declare e = letters_reach (spelling_of F.Declare) refl refl e
  fixed_reach F.Integer e = letters_reach (spelling_of F.Integer) refl refl e
  fixed_reach F.String e = letters_reach (spelling_of F.String) refl refl e
  fixed_reach F.If e = letters_reach (spelling_of F.If) refl refl e
  fixed_reach F.Then e = letters_reach (spelling_of F.Then) refl refl e
  fixed_reach F.Else e = letters_reach (spelling_of F.Else) refl refl e
  fixed_reach F.Fi e = letters_reach (spelling_of F.Fi) refl refl e
  fixed_reach F.While e = letters_reach (spelling_of F.While) refl refl e
  fixed_reach F.Do e = letters_reach (spelling_of F.Do) refl refl e
  fixed_reach F.Od e = letters_reach (spelling_of F.Od) refl refl e
  fixed_reach F.Open e = reach_at 40 v 1 e (omega arith)
  fixed_reach F.Close e = reach_at 41 v 1 e (omega arith)
  fixed_reach F.Plus e = reach_at 43 v 1 e (omega arith)
  fixed_reach F.Minus e = reach_at 45 v 1 e (omega arith)
  fixed_reach F.Semicolon e = reach_at 59 v 1 e (omega arith)
  fixed_reach F.Comma e = reach_at 44 v 1 e (omega arith)
  fixed_reach F.Join e =
      reach_at 124 (124 ∷ v) 2 e (cond_both (eqb (get_or t (p + 1) 0) 124) _ _ (λ r. IfOk r (Reaches 2 p)) (λ _. omega arith) (λ _. tt))
  fixed_reach F.Colon e =
      reach_at 58 v 1 e (cond_both (eqb (get_or t (p + 1) 0) 61) _ _ (λ r. IfOk r (Reaches 1 p)) (λ _. omega arith) (λ _. omega arith))
  fixed_reach F.Becomes e = becomes_reach e

  pub reach : {u : List ℕ} {x : Lex} → Spells u x → drop p t ≡ u ++ v → IfOk (word_at t p) (Reaches (length u) p)
  reach (a_name w n) e =
      let h = and_parts (begins w) (every alnum w && not (is_some (keyword w))) n in
      letters_reach w h.0 (and_parts (every alnum w) (not (is_some (keyword w))) h.1).0 e
  reach (a_number d ds a) e = digits_reach d ds a e
  reach (a_text w a) e = text_reach w a e
  reach (a_fixed k) e = fixed_reach k e
