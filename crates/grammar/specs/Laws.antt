-- What reading has to do with the grammar.
use Rattle.std.specs.Prelude.{◌≡◌, ℕ, List, [], ◌∷◌, ◌++◌}
use Rattle.words.specs.declared.word.Refusal.{Refusal}
use Rattle.words.specs.declared.word.Refusal.TheVariants as R
use Rattle.grammar.specs.Grammar.{Token, Tree, Derives, Sheet}
use Rattle.grammar.specs.Machine.{Last, stop, bad, read, fault, reading, place}

abbrev pub Sound : Type 0
Sound = (ts : List Token) (z : Last) (t : Tree) → reading ts z ≡ read t → Derives Sheet ts t

abbrev pub Complete : Type 0
Complete = (ts : List Token) (t : Tree) (p : ℕ) → Derives Sheet ts t → reading ts (stop p) ≡ read t

abbrev pub Unambiguous : Type 0
Unambiguous = (ts : List Token) (t u : Tree) → Derives Sheet ts t → Derives Sheet ts u → t ≡ u

-- some sheet begins with these words; none does
abbrev pub Begins : List Token → Type 0
Begins us = (vs : List Token) × (t : Tree) × Derives Sheet (us ++ vs) t

abbrev pub Never : List Token → Type 0
Never us = (vs : List Token) (t : Tree) → Derives Sheet (us ++ vs) t → ⊥

-- they are no whole sheet
abbrev pub Unfinished : List Token → Type 0
Unfinished us = (t : Tree) → Derives Sheet us t → ⊥

-- what a refusal says of the words ts that end by z
pub data Means (ts : List Token) (z : Last) : Refusal → ℕ → Type 0 where
  not_allowed : (us vs : List Token) (k : Token) → ts ≡ us ++ (k ∷ vs) → Begins us → Unfinished us → Never (us ++ (k ∷ [])) → Means ts z R.Unexpected (place k)
  ends_early : {p : ℕ} → z ≡ stop p → Begins ts → Unfinished ts → Means ts z R.EndsEarly p
  more_after : (us vs : List Token) (k : Token) (t : Tree) → ts ≡ us ++ (k ∷ vs) → Derives Sheet us t → Means ts z R.AfterEnd (place k)
  bad_word : {n : Refusal} {p : ℕ} → z ≡ bad n p → Begins ts → Means ts z n p

abbrev pub Faults : Type 0
Faults = (ts : List Token) (z : Last) (n : Refusal) (p : ℕ) → reading ts z ≡ fault n p → Means ts z n p

-- and nothing else is answered where that holds
abbrev pub Exact : Type 0
Exact = (ts : List Token) (z : Last) (n : Refusal) (p : ℕ) → Means ts z n p → reading ts z ≡ fault n p
