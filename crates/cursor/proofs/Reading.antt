-- Reading goes on from cursor to cursor.
use Rattle.std.proofs.Common.{◌≡◌, ℕ, true, List, sym, refl, ap, ◌∙◌}
use Rattle.words.specs.declared.word.Fixed.{Fixed}
use Rattle.words.specs.declared.word.Fault.{Fault}
use Rattle.words.specs.Words.{meant}
use Rattle.grammar.specs.Machine.{State, fault}
use Rattle.grammar.specs.Scan.{Found, wrong}
use Rattle.cursor.specs.declared.cursor.Cursor.{Cursor}
use Rattle.cursor.specs.Text.{found, token, at}
use Rattle.cursor.specs.Layout.{number_in}
use Rattle.cursor.specs.InHand.{is_word, behind, expected, Only}
use Rattle.cursor.specs.Reading.{in_hand, numbers, says, SameSheet, Takes}
use Rattle.cursor.proofs.Steps.{pass}
use Rattle.cursor.proofs.Starts.{behind_word}

pub same_sheet : (c : Cursor) → SameSheet c c
same_sheet c = record { text = refl; names = refl }

pub onward : {a b c : Cursor} → SameSheet a b → SameSheet b c → SameSheet a c
onward p q = record { text = q.text ∙ p.text; names = q.names ∙ p.names }

pub numbers_stay : {a b : Cursor} → SameSheet a b → numbers b ≡ numbers a
numbers_stay {a} {b} s = ap (λ t. number_in t.now b.names.now) s.text ∙ ap (λ n. number_in a.text.now n.now) s.names

-- the word that came into the hand is read on
pub goes : {f : Found} {a b : Cursor} → Takes f a b → (x : State) → at a.text.now x f ≡ says x b
goes {f} {a} {b} h x = ap (at a.text.now x) (sym h.word) ∙ ap (λ t. at t.now x (in_hand b)) (sym h.sheet.text)

-- or it is refused
pub stops : {f : Found} (e : Fault) → wrong e.refusal e.place ≡ f → (t : List ℕ) (x : State) → at t x f ≡ fault e.refusal e.place
stops e h t x = ap (at t x) (sym h)

-- past the only word that is allowed
pub passes : {w : Fixed} {s x : State} → Only w s x → (a b : Cursor) → Takes (expected a.text.now w (in_hand a)) a b → says s a ≡ says x b
passes {x = x} o a b h = pass a.text.now o (in_hand a) ∙ goes h x

pub passes_not : {w : Fixed} {s x : State} → Only w s x → (a : Cursor) (e : Fault) → wrong e.refusal e.place ≡ expected a.text.now w (in_hand a) → says s a ≡ fault e.refusal e.place
passes_not {x = x} o a e h = pass a.text.now o (in_hand a) ∙ stops e h a.text.now x

-- past a word that is in hand
pub next_word : (w : Fixed) (a : Cursor) → is_word w (in_hand a) ≡ true → behind a.text.now (in_hand a) ≡ found a.text.now a.token.next
next_word w a = behind_word a.text.now w (meant a.token.word) a.token.place a.token.next

pub steps : (w : Fixed) (s x : State) (a b : Cursor) → is_word w (in_hand a) ≡ true → says s a ≡ at a.text.now x (behind a.text.now (in_hand a)) → Takes (found a.text.now a.token.next) a b → says s a ≡ says x b
steps w s x a b i e h = e ∙ (ap (at a.text.now x) (next_word w a i) ∙ goes h x)

pub steps_not : (w : Fixed) (s x : State) (a : Cursor) (e : Fault) → is_word w (in_hand a) ≡ true → says s a ≡ at a.text.now x (behind a.text.now (in_hand a)) → wrong e.refusal e.place ≡ found a.text.now a.token.next →
    says s a ≡ fault e.refusal e.place
steps_not w s x a e i k h = k ∙ (ap (at a.text.now x) (next_word w a i) ∙ stops e h a.text.now x)

-- a node more changes nothing that is read
pub same_word : {a b : Cursor} → SameSheet a b → b.token ≡ a.token → (x : State) → says x a ≡ says x b
same_word {a} {b} s e x = ap (λ w. at a.text.now x (token w)) (sym e) ∙ ap (λ t. at t.now x (in_hand b)) (sym s.text)

pub same_next : {a b : Cursor} → SameSheet a b → b.token ≡ a.token → (x : State) → at a.text.now x (found a.text.now a.token.next) ≡ at b.text.now x (found b.text.now b.token.next)
same_next {a} {b} s e x = ap (λ w. at a.text.now x (found a.text.now w.next)) (sym e) ∙ ap (λ t. at t.now x (found t.now b.token.next)) (sym s.text)
