-- Read, in the words of the grammar.
use Rattle.std.proofs.Common.{◌≡◌, ℕ, ◌≤◌, ltb, leb, List, length, Ok, Result, sym, refl, ap, ◌∙◌, subst, ⊎_elim}
use Rattle.std.proofs.lemmas.Bool.{cases_lt, cond-true, cond_both, lt-ltb, le-leb, leb-true, leb-false}
use Rattle.words.specs.declared.word.Fault.{Fault}
use Rattle.nodes.specs.Limits.{most_letters}
use Rattle.grammar.specs.Grammar.{Tree}
use Rattle.grammar.specs.Machine.{Answer}
use Rattle.grammar.specs.Machine as M
use Rattle.grammar.proofs.Sound.{sound}
use Rattle.grammar.proofs.Complete.{complete}
use Rattle.grammar.proofs.Meaning.{faults, exact}
use Rattle.reader.specs.declared.read.Sizes.{Sizes}
use Rattle.cursor.specs.Text.{words_of, last_of, parsed}
use Rattle.cursor.specs.Layout.{size}
use Rattle.reader.specs.Read.{judged, sheet_in, places, counted, filled}
use Rattle.reader.specs.Laws.{too_long, by_words, too_many, StandsFor, Meant, Complete, Exact}
use Rattle.reader.proofs.Whole.{short}

meant_short : (t : List ℕ) (g : ℕ) → length t ≤ most_letters → (a : Answer) → parsed t ≡ a → StandsFor t g (counted g (judged a))
meant_short t g h (M.read s) e =
    let d = sound (words_of t) (last_of t) s e in
    cond_both (leb (size s) (places g)) _ _ (λ (r : Result Sizes Fault). StandsFor t g r)
    (λ i. record { short = h; tree = s; derived = d; fits = leb-true (size s) (places g) i; nodes = refl; variables = refl })
    (λ i. too_many h s d (leb-false (size s) (places g) i))
meant_short t g h (M.fault m p) e = by_words h (faults (words_of t) (last_of t) m p e)

pub meant : Meant
meant t g =
    ⊎_elim
    (λ l. subst (λ (r : Result Tree Fault). StandsFor t g (counted g r)) (sym (cond-true (ltb most_letters (length t)) _ _ (lt-ltb most_letters (length t) l))) (too_long l))
    (λ h. subst (λ (r : Result Tree Fault). StandsFor t g (counted g r)) (sym (short t h)) (meant_short t g h (parsed t) refl))
    (cases_lt most_letters (length t))

pub complete_read : Complete
complete_read t g s z h l d f =
    let e : parsed t ≡ M.read s = ap (λ (x : M.Last). M.reading (words_of t) x) l ∙ complete (words_of t) s z d in
    let says : sheet_in t ≡ Ok s = short t h ∙ ap judged e in
    let fits = le-leb (size s) (places g) f in
    (ap (counted g) says ∙ cond-true _ _ _ fits, ap (filled t g) says ∙ cond-true _ _ _ fits)

pub exact_read : Exact
exact_read t g m p h n = ap (counted g) (short t h ∙ ap judged (exact (words_of t) (last_of t) m p n))
