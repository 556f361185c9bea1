-- The reader goes from word to word.
use Rattle.std.proofs.Common.{◌≡◌, ℕ, zero, suc, ◌-◌, ◌<◌, ◌≤◌, [], ◌∷◌, refl, ap, ◌∙◌, arith}
use Rattle.words.specs.declared.word.Refusal.{Refusal}
use Rattle.grammar.specs.Grammar.{Token}
use Rattle.grammar.specs.Machine.{stop, bad, State, Move, go, no, feed, refused, ended, whole_of, place, run, Answer, fault}
use Rattle.grammar.specs.Scan.{Found, word, nothing_left, wrong, words_by, last_by, words_from, last_from}

module _ (find : ℕ → Found) (n : ℕ) (ahead : (p : ℕ) (x : Token) (q : ℕ) → find p ≡ word x q → (p < q) × (q ≤ n)) where
  -- reading with k words at most
  abbrev By : ℕ → State → ℕ → Answer
  By k s p = run s (words_by find k p) (last_by find k p)

  enough : (k j : ℕ) (s : State) (p : ℕ) → n - p < k → n - p < j → By k s p ≡ By j s p
  enough zero j s p h g = absurd (omega arith)
  enough (suc k) zero s p h g = absurd (omega arith)
  enough (suc k) (suc j) s p h g = at (find p) refl (λ y q lt le. enough k j y q (omega arith) (omega arith))
    where
      fed : (m : Move) (x : Token) (q : ℕ) → ((y : State) → By k y q ≡ By j y q) →
          ◌≡◌ {A = Answer} (elim m [ go y ↦ By k y q | no ↦ refused (whole_of s) (place x) ]) (elim m [ go y ↦ By j y q | no ↦ refused (whole_of s) (place x) ])
      fed (go y) x q i = i y
      fed no x q i = refl

      at : (f : Found) → find p ≡ f → ((y : State) (q : ℕ) → p < q → q ≤ n → By k y q ≡ By j y q) →
          run s (elim f [ word x q ↦ x ∷ words_by find k q | nothing_left z ↦ [] | wrong m z ↦ [] ]) (elim f [ word x q ↦ last_by find k q | nothing_left z ↦ stop z | wrong m z ↦ bad m z ])
          ≡ run s (elim f [ word x q ↦ x ∷ words_by find j q | nothing_left z ↦ [] | wrong m z ↦ [] ]) (elim f [ word x q ↦ last_by find j q | nothing_left z ↦ stop z | wrong m z ↦ bad m z ])
      at (word x q) e i = let h = ahead p x q e in fed (feed s x) x q (λ y. i y q h.0 h.1)
      at (nothing_left z) e i = refl
      at (wrong m z) e i = refl

  -- reading from p on
  abbrev pub From : State → ℕ → Answer
  From s p = run s (words_from find n p) (last_from find n p)

  pub at_word : (s y : State) (p : ℕ) (x : Token) (q : ℕ) → find p ≡ word x q → feed s x ≡ go y → From s p ≡ From y q
  unfolding words_from last_from
  at_word s y p x q e f =
      let h = ahead p x q e in
      ap (λ (g : Found). run s (elim g [ word x q ↦ x ∷ words_by find (n - p) q | nothing_left z ↦ [] | wrong m z ↦ [] ]) (elim g [ word x q ↦ last_by find (n - p) q | nothing_left z ↦ stop z | wrong m z ↦ bad m z ])) e
      ∙ ap (λ (m : Move). elim m [ go y ↦ By (n - p) y q | no ↦ refused (whole_of s) (place x) ]) f
      ∙ enough (n - p) (suc (n - q)) y q (omega arith) (omega arith)

  pub at_refused : (s : State) (p : ℕ) (x : Token) (q : ℕ) → find p ≡ word x q → feed s x ≡ no → From s p ≡ refused (whole_of s) (place x)
  unfolding words_from last_from
  at_refused s p x q e f =
      ap (λ (g : Found). run s (elim g [ word x q ↦ x ∷ words_by find (n - p) q | nothing_left z ↦ [] | wrong m z ↦ [] ]) (elim g [ word x q ↦ last_by find (n - p) q | nothing_left z ↦ stop z | wrong m z ↦ bad m z ])) e
      ∙ ap (λ (m : Move). elim m [ go y ↦ By (n - p) y q | no ↦ refused (whole_of s) (place x) ]) f

  pub at_stop : (s : State) (p z : ℕ) → find p ≡ nothing_left z → From s p ≡ ended (whole_of s) (stop z)
  unfolding words_from last_from
  at_stop s p z e = ap (λ (g : Found). run s (elim g [ word x q ↦ x ∷ words_by find (n - p) q | nothing_left z ↦ [] | wrong m z ↦ [] ]) (elim g [ word x q ↦ last_by find (n - p) q | nothing_left z ↦ stop z | wrong m z ↦ bad m z ])) e

  pub at_wrong : (s : State) (p : ℕ) (m : Refusal) (z : ℕ) → find p ≡ wrong m z → From s p ≡ fault m z
  unfolding words_from last_from
  at_wrong s p m z e = ap (λ (g : Found). run s (elim g [ word x q ↦ x ∷ words_by find (n - p) q | nothing_left z ↦ [] | wrong m z ↦ [] ]) (elim g [ word x q ↦ last_by find (n - p) q | nothing_left z ↦ stop z | wrong m z ↦ bad m z ])) e
