-- Runs of bytes, and the parts of a text.
use Rattle.std.proofs.Common.{◌≡◌, ℕ, suc, ◌+◌, ◌-◌, ◌<◌, ◌≤◌, Bool, true, false, List, [], ◌∷◌, ◌++◌, length, get_or, take, drop, sym, refl, ap, ◌∙◌, arith, length-drop, get_or-drop, drop-drop}
use Rattle.std.specs.List.{prefix_len}
use Rattle.std.proofs.lemmas.List.{take-append-drop, take_more, drop_more}
use Rattle.std.proofs.lemmas.List.Sums.{prefix_len-le-length}
use Rattle.std.proofs.lemmas.Bool.{and_parts, and_from, cond_both, cond-true, cond-false}
use Rattle.words.specs.Bytes.{every, runs_to, cut}

module _ (f : ℕ → Bool) where
  every_leading : (xs : List ℕ) → every f (take (prefix_len f xs) xs) ≡ true
  every_leading [] = refl
  every_leading (x ∷ xs) =
      cond_both (f x) (1 + prefix_len f xs) 0 (λ n. every f (take n (x ∷ xs)) ≡ true) (λ e. let o : 1 + prefix_len f xs ≡ suc (prefix_len f xs) = omega arith in rw o (and_from (f x) (every f (take (prefix_len f xs) xs)) e (every_leading xs))) (λ _. refl)

  pub leading_reaches : (u v : List ℕ) → every f u ≡ true → length u ≤ prefix_len f (u ++ v)
  leading_reaches [] v e = omega arith
  leading_reaches (x ∷ u) v e =
      let p = and_parts (f x) (every f u) e in
      let r = leading_reaches u v p.1 in
      omega (arith, r, cond-true (f x) (1 + prefix_len f (u ++ v)) 0 p.0)

  pub leading_stops : (u : List ℕ) (c : ℕ) (v : List ℕ) → every f u ≡ true → f c ≡ false → prefix_len f (u ++ (c ∷ v)) ≡ length u
  leading_stops [] c v e n = cond-false (f c) (1 + prefix_len f v) 0 n
  leading_stops (x ∷ u) c v e n =
      let p = and_parts (f x) (every f u) e in
      let r = leading_stops u c v p.1 n in
      omega (arith, r, cond-true (f x) (1 + prefix_len f (u ++ (c ∷ v))) 0 p.0)

  pub run_every : (t : List ℕ) (p : ℕ) → every f (cut t p (runs_to f t p)) ≡ true
  run_every t p =
      let e : (p + prefix_len f (drop p t)) - p ≡ prefix_len f (drop p t) = omega arith in
      ap (λ n. every f (take n (drop p t))) e ∙ every_leading (drop p t)

  pub run_le : (t : List ℕ) (q : ℕ) → q ≤ length t → runs_to f t q ≤ length t
  run_le t q h = omega (arith, prefix_len-le-length f (drop q t), length-drop q t)

-- a text from p on is the part up to q, and what follows that
pub cut_drop : (t : List ℕ) (p q : ℕ) → p ≤ q → drop p t ≡ cut t p q ++ drop q t
cut_drop t p q h =
    let e : p + (q - p) ≡ q = omega arith in
    sym (take-append-drop (q - p) (drop p t)) ∙ ap (λ r. cut t p q ++ r) (drop-drop (q - p) p t ∙ ap (λ n. drop n t) e)

pub cut_cons : (t : List ℕ) (p q : ℕ) → p < q → p < length t → cut t p q ≡ get_or t p 0 ∷ cut t (p + 1) q
cut_cons t p q h l =
    let e : q - p ≡ suc (q - (p + 1)) = omega arith in
    ap (λ n. take n (drop p t)) e ∙ ap (take (suc (q - (p + 1)))) (drop_more t p 0 l)

pub cut_none : (t : List ℕ) (p : ℕ) → cut t p p ≡ []
cut_none t p = let e : p - p ≡ 0 = omega arith in ap (λ n. take n (drop p t)) e

-- what the head of the rest of a text says of the text
pub head_within : (t : List ℕ) (p b : ℕ) (r : List ℕ) → drop p t ≡ b ∷ r → p < length t
head_within t p b r e = omega (arith, length-drop p t, ap length e)

pub head_is : (t : List ℕ) (p b : ℕ) (r : List ℕ) → drop p t ≡ b ∷ r → get_or t p 0 ≡ b
head_is t p b r e =
    let z : p + 0 ≡ p = omega arith in
    ap (λ n. get_or t n 0) (sym z) ∙ (sym (get_or-drop p t 0 0) ∙ ap (λ xs. get_or xs 0 0) e)

pub tail_is : (t : List ℕ) (p b : ℕ) (r : List ℕ) → drop p t ≡ b ∷ r → drop (p + 1) t ≡ r
tail_is t p b r e = sym (drop-drop 1 p t) ∙ ap (drop 1) e

pub cut_more : (t : List ℕ) (p q : ℕ) → p ≤ q → q < length t → cut t p (q + 1) ≡ cut t p q ++ (get_or t q 0 ∷ [])
cut_more t p q h l =
    let e : (q + 1) - p ≡ (q - p) + 1 = omega arith in
    let i : q - p < length (drop p t) = omega (arith, length-drop p t) in
    let z : p + (q - p) ≡ q = omega arith in
    ap (λ n. take n (drop p t)) e ∙ (take_more (drop p t) (q - p) 0 i ∙ ap (λ x. cut t p q ++ (x ∷ [])) (get_or-drop p t (q - p) 0 ∙ ap (λ n. get_or t n 0) z))
