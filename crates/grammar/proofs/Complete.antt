-- What the rules derive is read.
use Rattle.std.proofs.Common.{◌≡◌, ℕ, List, [], ◌∷◌, ◌++◌, sym, refl, ap, ◌∙◌, append_assoc}
use Rattle.grammar.specs.Grammar.{Fixed, Begin, End, Declare, Integer, String, If, Then, Else, Fi, While, Do, Od, Open, Close, Plus, Minus, Semicolon, Comma, Join, Colon, Becomes, Part, Token, fixed, name, number, text, Sort, integer, string, word_of, Tree, variable, constant, letters, plus, join, assign, choose, loop, none, more, first, also, sheet, Goal, Sheet, Declarations, Series, Statement, Expression, Term, Derives, one_name, more_names, nothing, one, several, assigns, chooses, loops, a_term, adds, joins, a_name, a_number, a_text, grouped}
use Rattle.grammar.specs.Grammar as G
use Rattle.grammar.specs.Machine.{Around, whole, after, taken, left, body, Before, start, sum, chain, For, value, test, guard, group, Given, nothing_yet, given, declare, State, empty, naming, sorting, declared, series, closing, done, term, tail, with, Last, stop, read, is, ended, run}
use Rattle.grammar.specs.Laws.{Complete, Unambiguous}

-- the words that close a series
pub data Closer : Fixed → Type 0 where
  an_end : Closer End
  an_else : Closer Else
  a_fi : Closer Fi
  an_od : Closer Od

-- the words that end a statement
pub data Ender : Fixed → Type 0 where
  semi : Ender Semicolon
  closer : {w : Fixed} → Closer w → Ender w

module _ (z : Last) where
  pub no_more : {w : Fixed} (o : Around) (p : ℕ) (rest : List Token) → Closer w → run (series o) (fixed w p ∷ rest) z ≡ run (closing o none) (fixed w p ∷ rest) z
  no_more o p rest an_end = refl
  no_more o p rest an_else = refl
  no_more o p rest a_fi = refl
  no_more o p rest an_od = refl

  pub last_one : {w : Fixed} (o : Around) (s : Tree) (p : ℕ) (rest : List Token) → Closer w → run (done o s) (fixed w p ∷ rest) z ≡ run (closing o (more s none)) (fixed w p ∷ rest) z
  last_one o s p rest an_end = refl
  last_one o s p rest an_else = refl
  last_one o s p rest a_fi = refl
  last_one o s p rest an_od = refl

  pub assigned : {w : Fixed} (o : Around) (n : Part) (e : Tree) (p : ℕ) (rest : List Token) → Ender w → run (tail (value n o) e) (fixed w p ∷ rest) z ≡ run (done o (assign n e)) (fixed w p ∷ rest) z
  assigned o n e p rest semi = refl
  assigned o n e p rest (closer an_end) = refl
  assigned o n e p rest (closer an_else) = refl
  assigned o n e p rest (closer a_fi) = refl
  assigned o n e p rest (closer an_od) = refl

  -- what the words us of a tree do to a state
  abbrev Claim : Goal → List Token → Tree → Type 0
  Claim Sheet us t = run empty us z ≡ ended (is t) z
  Claim Declarations us d = (rest : List Token) → run (naming nothing_yet) (us ++ rest) z ≡ run (declared d) rest z
  Claim Series us a = (w : Fixed) (o : Around) (p : ℕ) (rest : List Token) → Closer w → run (series o) (us ++ (fixed w p ∷ rest)) z ≡ run (closing o a) (fixed w p ∷ rest) z
  Claim Statement us s = (w : Fixed) (o : Around) (p : ℕ) (rest : List Token) → Ender w → run (series o) (us ++ (fixed w p ∷ rest)) z ≡ run (done o s) (fixed w p ∷ rest) z
  Claim Expression us e = (f : For) (rest : List Token) → run (term start f) (us ++ rest) z ≡ run (tail f e) rest z
  Claim Term us e = (b : Before) (f : For) (rest : List Token) → run (term b f) (us ++ rest) z ≡ run (tail f (with b e)) rest z

  shift : (s : State) (us vs rest : List Token) → run s ((us ++ vs) ++ rest) z ≡ run s (us ++ (vs ++ rest)) z
  shift s us vs rest = ap (λ (l : List Token). run s l z) (append_assoc us vs rest)

  by_sort : (s : Sort) (g : Given) (n : Part) (p : ℕ) (rest : List Token) → run (sorting g n) (fixed (word_of s) p ∷ rest) z ≡ run (declared (declare g n s)) rest z
  by_sort integer g n p rest = refl
  by_sort string g n p rest = refl

  pub reads : {g : Goal} {us : List Token} {t : Tree} → Derives g us t → Claim g us t
  reads (G.whole p q r s {us} {vs} {d} {a} h k) = reads h (fixed Semicolon r ∷ (vs ++ (fixed End s ∷ []))) ∙ reads k End (whole d) s [] an_end
  reads (one_name n s p q) = λ rest. by_sort s nothing_yet n q rest
  reads (more_names n s p q r {us} {d} h) = λ rest. shift (naming nothing_yet) us _ rest ∙ reads h _ ∙ by_sort s (given d) n r rest
  reads nothing = λ w o p rest c. no_more o p rest c
  reads (one {us} {a} h) = λ w o p rest c. reads h w o p rest (closer c) ∙ last_one o a p rest c
  reads (several q {us} {vs} {a} {b} h k) = λ w o p rest c. shift (series o) us (fixed Semicolon q ∷ vs) _ ∙ reads h Semicolon o q _ semi ∙ reads k w (after a o) p rest c
  reads (assigns n q {us} {e} h) = λ w o p rest c. reads h (value n o) _ ∙ assigned o n e p rest c
  reads (chooses q r s t {us} {vs} {ws} {e} {a} {b} h k l) = λ w o p rest c.
      shift (term start (test o)) us _ _ ∙ reads h (test o) _ ∙ shift (series (taken e o)) vs _ _ ∙ reads k Else (taken e o) s _ an_else
      ∙ shift (series (left e a o)) ws _ _ ∙ reads l Fi (left e a o) t _ a_fi
  reads (loops q r s {us} {vs} {e} {a} h k) = λ w o p rest c.
      shift (term start (guard o)) us _ _ ∙ reads h (guard o) _ ∙ shift (series (body e o)) vs _ _ ∙ reads k Od (body e o) s _ an_od
  reads (a_term h) = λ f rest. reads h start f rest
  reads (adds p {us} {vs} {a} {b} h k) = λ f rest. shift (term start f) us _ _ ∙ reads h f _ ∙ reads k (sum a) f rest
  reads (joins p {us} {vs} {a} {b} h k) = λ f rest. shift (term start f) us _ _ ∙ reads h f _ ∙ reads k (chain a) f rest
  reads (a_name n) = λ b f rest. refl
  reads (a_number v p) = λ b f rest. refl
  reads (a_text n) = λ b f rest. refl
  reads (grouped p q {us} {e} h) = λ b f rest. shift (term start (group b f)) us _ _ ∙ reads h (group b f) _

pub complete : Complete
complete ts t p h = reads (stop p) h

read_inj : {t u : Tree} → read t ≡ read u → t ≡ u
read_inj e = cc

pub unambiguous : Unambiguous
unambiguous ts t u h k = read_inj (sym (complete ts t 0 h) ∙ complete ts u 0 k)
