-- Some texts, with the words that they begin with.
use Rattle.std.specs.Prelude.{◌≡◌, ℕ, List, [], ◌∷◌, ◌++◌, replicate, codes}
use Rattle.words.specs.declared.word.Fixed.TheVariants as F
use Rattle.words.specs.declared.word.Refusal.TheVariants as R
use Rattle.words.specs.Words.{name, number, text, fixed, end, hit, fault, after}

abbrev pub quoted : List ℕ → List ℕ
quoted w = 34 ∷ (w ++ (34 ∷ []))

pub record Examples : Type 0 where
  pub longest_name : after (codes "fin") 0 ≡ hit (name (codes "fin")) 0 3
  pub number_first : after (codes "12ab") 0 ≡ hit (number (codes "12") 12) 0 2
  pub then_name : after (codes "12ab") 2 ≡ hit (name (codes "ab")) 2 4
  pub keyword : after (codes "  fi") 0 ≡ hit (fixed F.Fi) 2 4
  pub becomes : after (codes "a:=1") 1 ≡ hit (fixed F.Becomes) 1 3
  pub the_end : after (codes "a  ") 1 ≡ hit end 3 3
  pub behind : after (codes "a") 7 ≡ hit end 1 1
  pub text_of_80 : after (quoted (replicate 80 97)) 0 ≡ hit (text (replicate 80 97)) 0 82
  pub text_of_81 : after (quoted (replicate 81 97)) 0 ≡ fault R.LongText 0
  pub largest_number : after (codes "4294967295") 0 ≡ hit (number (codes "4294967295") 4294967295) 0 10
  pub too_large : after (codes "4294967296") 0 ≡ fault R.LargeNumber 0
  pub lone_bar : after (codes "| ") 0 ≡ fault R.NoWord 0
  pub not_allowed_first : after (codes "\"ab.c") 0 ≡ fault R.NotAllowed 3
  pub unclosed : after (codes "\"abc") 0 ≡ fault R.Unclosed 0
