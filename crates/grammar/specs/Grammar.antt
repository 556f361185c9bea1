-- The grammar of sheets as rules: which words spell which tree.
use Rattle.std.specs.Prelude.{ℕ, List, [], ◌∷◌, ◌++◌}
pub use Rattle.words.specs.declared.word.Fixed.{Fixed}
pub use Rattle.words.specs.declared.word.Fixed.TheVariants.{Begin, End, Declare, Integer, String, If, Then, Else, Fi, While, Do, Od, Open, Close, Plus, Minus, Semicolon, Comma, Join, Colon, Becomes}

-- a part of the text: where a name, or what stands between the quotes of a text constant, begins, and its length
pub record Part : Type 0 where
  pub place : ℕ
  pub size : ℕ

-- a word as the grammar sees it: a fixed word or a number with its place, a name or a text constant by its part
pub data Token : Type 0 where
  fixed : Fixed → ℕ → Token
  name : Part → Token
  number : ℕ → ℕ → Token
  text : Part → Token

pub data Sort : Type 0 where
  integer : Sort
  string : Sort

abbrev pub word_of : Sort → Fixed
word_of integer = Integer
word_of string = String

-- what a sheet says
pub data Tree : Type 0 where
  variable : Part → Tree
  constant : ℕ → Tree
  letters : Part → Tree
  plus : Tree → Tree → Tree
  join : Tree → Tree → Tree
  assign : Part → Tree → Tree
  choose : Tree → Tree → Tree → Tree
  loop : Tree → Tree → Tree
  none : Tree
  more : Tree → Tree → Tree
  first : Part → Sort → Tree
  also : Tree → Part → Sort → Tree
  sheet : Tree → Tree → Tree

pub data Goal : Type 0 where
  Sheet : Goal
  Declarations : Goal
  Series : Goal
  Statement : Goal
  Expression : Goal
  Term : Goal

pub data Derives : Goal → List Token → Tree → Type 0 where
  whole : (p q r s : ℕ) {us vs : List Token} {d a : Tree} → Derives Declarations us d → Derives Series vs a →
      Derives Sheet (fixed Begin p ∷ (fixed Declare q ∷ (us ++ (fixed Semicolon r ∷ (vs ++ (fixed End s ∷ [])))))) (sheet d a)
  one_name : (n : Part) (s : Sort) (p q : ℕ) → Derives Declarations (name n ∷ (fixed Colon p ∷ (fixed (word_of s) q ∷ []))) (first n s)
  more_names : (n : Part) (s : Sort) (p q r : ℕ) {us : List Token} {d : Tree} → Derives Declarations us d →
      Derives Declarations (us ++ (fixed Comma p ∷ (name n ∷ (fixed Colon q ∷ (fixed (word_of s) r ∷ []))))) (also d n s)
  nothing : Derives Series [] none
  one : {us : List Token} {a : Tree} → Derives Statement us a → Derives Series us (more a none)
  several : (p : ℕ) {us vs : List Token} {a b : Tree} → Derives Statement us a → Derives Series vs b → Derives Series (us ++ (fixed Semicolon p ∷ vs)) (more a b)
  assigns : (n : Part) (p : ℕ) {us : List Token} {e : Tree} → Derives Expression us e → Derives Statement (name n ∷ (fixed Becomes p ∷ us)) (assign n e)
  chooses : (p q r s : ℕ) {us vs ws : List Token} {e a b : Tree} → Derives Expression us e → Derives Series vs a → Derives Series ws b →
      Derives Statement (fixed If p ∷ (us ++ (fixed Then q ∷ (vs ++ (fixed Else r ∷ (ws ++ (fixed Fi s ∷ []))))))) (choose e a b)
  loops : (p q r : ℕ) {us vs : List Token} {e a : Tree} → Derives Expression us e → Derives Series vs a →
      Derives Statement (fixed While p ∷ (us ++ (fixed Do q ∷ (vs ++ (fixed Od r ∷ []))))) (loop e a)
  a_term : {us : List Token} {e : Tree} → Derives Term us e → Derives Expression us e
  adds : (p : ℕ) {us vs : List Token} {a b : Tree} → Derives Expression us a → Derives Term vs b → Derives Expression (us ++ (fixed Plus p ∷ vs)) (plus a b)
  joins : (p : ℕ) {us vs : List Token} {a b : Tree} → Derives Expression us a → Derives Term vs b → Derives Expression (us ++ (fixed Join p ∷ vs)) (join a b)
  a_name : (n : Part) → Derives Term (name n ∷ []) (variable n)
  a_number : (v p : ℕ) → Derives Term (number v p ∷ []) (constant v)
  a_text : (n : Part) → Derives Term (text n ∷ []) (letters n)
  grouped : (p q : ℕ) {us : List Token} {e : Tree} → Derives Expression us e → Derives Term (fixed Open p ∷ (us ++ (fixed Close q ∷ []))) e
