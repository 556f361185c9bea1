-- How a statement begins.
use Rattle.std.proofs.Common.{◌≡◌, ℕ, ◌-◌, Bool, true, false, cond, List, Some, None, sym, refl, ap, ◌∙◌}
use Rattle.words.specs.Words.{Lex}
use Rattle.words.specs.Words as L
use Rattle.grammar.specs.Grammar.{Fixed, If, While, Part, fixed, name, number, text, none}
use Rattle.grammar.specs.Machine.{same, Around, test, guard, start, series, closing, becoming, term}
use Rattle.grammar.specs.Scan.{Found, word, nothing_left, wrong}
use Rattle.cursor.specs.declared.start.Start.TheVariants as S
use Rattle.cursor.specs.Text.{seen_as, found, at}
use Rattle.cursor.specs.InHand.{is_word, unexpected, behind, expected}
use Rattle.cursor.specs.Starts.{start_of}
use Rattle.cursor.proofs.Steps.{apart, if_at, while_at, name_at, no_statement}

expected_is : (t : List ℕ) (w : Fixed) (f : Found) → is_word w f ≡ true → expected t w f ≡ behind t f
expected_is t w f e = ap (λ (b : Bool). elim b [ true ↦ behind t f | false ↦ unexpected f ]) e

if_true : (a b : Bool) → cond a (Some S.Choice) (cond b (Some S.Repeat) None) ≡ Some S.Choice → a ≡ true
if_true true b e = refl
if_true false true e = apart (cc)
if_true false false e = apart (cc)

while_true : (a b : Bool) → cond a (Some S.Choice) (cond b (Some S.Repeat) None) ≡ Some S.Repeat → b ≡ true
while_true true b e = apart (cc)
while_true false true e = refl
while_true false false e = apart (cc)

both_false : (a b : Bool) → cond a (Some S.Choice) (cond b (Some S.Repeat) None) ≡ None → (a ≡ false) × (b ≡ false)
both_false true b e = apart (cc)
both_false false true e = apart (cc)
both_false false false e = (refl, refl)

no_name : (a b : Bool) → cond a (Some S.Choice) (cond b (Some S.Repeat) None) ≡ Some S.Assignment → ◌≡◌ {A = ℕ} 0 1
no_name true b e = cc
no_name false true e = cc
no_name false false e = cc

choice_word : (f : Found) → start_of f ≡ Some S.Choice → is_word If f ≡ true
choice_word (word (fixed v p) q) e = if_true (same v If) (same v While) e
choice_word (word (name n) q) e = apart (cc)
choice_word (word (number v p) q) e = apart (cc)
choice_word (word (text n) q) e = apart (cc)
choice_word (nothing_left z) e = apart (cc)
choice_word (wrong m z) e = apart (cc)

repeat_word : (f : Found) → start_of f ≡ Some S.Repeat → is_word While f ≡ true
repeat_word (word (fixed v p) q) e = while_true (same v If) (same v While) e
repeat_word (word (name n) q) e = apart (cc)
repeat_word (word (number v p) q) e = apart (cc)
repeat_word (word (text n) q) e = apart (cc)
repeat_word (nothing_left z) e = apart (cc)
repeat_word (wrong m z) e = apart (cc)

pub if_reads : (t : List ℕ) (f : Found) → start_of f ≡ Some S.Choice → (o : Around) → at t (series o) f ≡ at t (term start (test o)) (expected t If f)
if_reads t f e o = let w = choice_word f e in if_at t o f w ∙ ap (at t (term start (test o))) (sym (expected_is t If f w))

pub while_reads : (t : List ℕ) (f : Found) → start_of f ≡ Some S.Repeat → (o : Around) → at t (series o) f ≡ at t (term start (guard o)) (expected t While f)
while_reads t f e o = let w = repeat_word f e in while_at t o f w ∙ ap (at t (term start (guard o))) (sym (expected_is t While f w))

-- a name in hand
abbrev pub part : ℕ → ℕ → Part
part p q = record { place = p; size = q - p }

pub name_reads : (t : List ℕ) (k : Lex) (p q : ℕ) → start_of (seen_as k p q) ≡ Some S.Assignment → (o : Around) → at t (series o) (seen_as k p q) ≡ at t (becoming (part p q) o) (found t q)
name_reads t (L.name w) p q e o = name_at t o (part p q) q
name_reads t (L.number w v) p q e o = apart (cc)
name_reads t (L.text w) p q e o = apart (cc)
name_reads t (L.fixed w) p q e o = apart (no_name (same w If) (same w While) e)
name_reads t L.end p q e o = apart (cc)

pub nothing_reads : (t : List ℕ) (f : Found) → start_of f ≡ None → (o : Around) → at t (series o) f ≡ at t (closing o none) f
nothing_reads t (word (fixed v p) q) e o = let b = both_false (same v If) (same v While) e in no_statement t o (word (fixed v p) q) b.0 b.1 (λ n r i. apart (cc))
nothing_reads t (word (name n) q) e o = apart (cc)
nothing_reads t (word (number v p) q) e o = no_statement t o (word (number v p) q) refl refl (λ n r i. apart (cc))
nothing_reads t (word (text n) q) e o = no_statement t o (word (text n) q) refl refl (λ m r i. apart (cc))
nothing_reads t (nothing_left z) e o = no_statement t o (nothing_left z) refl refl (λ n r i. apart (cc))
nothing_reads t (wrong m z) e o = no_statement t o (wrong m z) refl refl (λ n r i. apart (cc))

pub behind_word : (t : List ℕ) (w : Fixed) (k : Lex) (p q : ℕ) → is_word w (seen_as k p q) ≡ true → behind t (seen_as k p q) ≡ found t q
behind_word t w (L.name v) p q e = refl
behind_word t w (L.number v n) p q e = refl
behind_word t w (L.text v) p q e = refl
behind_word t w (L.fixed v) p q e = refl
behind_word t w L.end p q e = apart (cc)
