-- Parts of a sheet read one after another.
use Rattle.std.proofs.Common.{◌≡◌, ℕ, ◌+◌, List, Ok, Err, Result, sym, ap, ◌∙◌, subst}
use Rattle.words.specs.declared.word.Fault.{Fault}
use Rattle.words.specs.declared.word.Fixed.{Fixed}
use Rattle.nodes.specs.declared.node.Node.{Node}
use Rattle.nodes.specs.declared.kind.Kind.{Kind}
use Rattle.nodes.specs.declared.binding.Binding.{Binding}
use Rattle.spelling.specs.declared.Entry.{Entry}
use Rattle.grammar.specs.Grammar.{Part, Tree}
use Rattle.grammar.specs.Scan.{Found}
use Rattle.grammar.specs.Machine.{State, Given, naming, sorting, declared, fault}
use Rattle.cursor.specs.declared.cursor.Cursor.{Cursor}
use Rattle.cursor.specs.Text.{at}
use Rattle.cursor.specs.Layout.{size, lay, write}
use Rattle.cursor.specs.InHand.{expected, Only}
use Rattle.cursor.specs.Reading.{in_hand, numbers, says, SameSheet, Comes}
use Rattle.cursor.proofs.Steps.{pass}
use Rattle.cursor.proofs.Reading.{numbers_stay, goes, stops}
use Rattle.parser.specs.Parts.{Reads, ReadAs, TypedAs, DeclaredAs, ListedAs}

-- a part that is refused
pub refused : {C : Type 0} (before : C → State) (after : C → Tree → State) (n : ℕ) (xs ys : List Node) (r : Result (Unit {0}) Fault) (a b : Cursor) (e : Fault) → r ≡ Err e → ((c : C) → says (before c) a ≡ fault e.refusal e.place) →
    ReadAs before after n xs ys r a b
refused before after n xs ys r a b e i h = subst (λ (x : Result (Unit {0}) Fault). ReadAs before after n xs ys x a b) (sym i) h

-- the nodes of a part, from an earlier cursor on
pub renumbered : {C : Type 0} {before : C → State} {after : C → Tree → State} {k n : ℕ} {xs ys : List Node} {a m b : Cursor} → SameSheet a m → k ≡ n → (h : Reads before after k xs ys m b) → ys ≡ write xs n (lay (numbers a) n h.tree)
renumbered {k = k} {xs = xs} {a = a} s e h = h.nodes ∙ (ap (λ f. write xs k (lay f k h.tree)) (numbers_stay s) ∙ ap (λ i. write xs i (lay (numbers a) i h.tree)) e)

-- the same nodes, from a later cursor on
pub numbered : (n : ℕ) (xs : List Node) {ys : List Node} (x : Tree) {a b : Cursor} → SameSheet a b → ys ≡ write xs n (lay (numbers a) n x) → ys ≡ write xs n (lay (numbers b) n x)
numbered n xs x s h = h ∙ ap (λ f. write xs n (lay f n x)) (sym (numbers_stay s))

-- a part that ends by another, with the nodes of both
pub ends_by : {C D : Type 0} (before : C → State) (after : C → Tree → State) (before' : D → State) (after' : D → Tree → State) (k n : ℕ) (xs ys : List Node) (r : Result (Unit {0}) Fault) (a m b : Cursor) →
    SameSheet a m → k ≡ n → ReadAs before' after' k xs ys r m b → (g : C → D) → ((c : C) → says (before c) a ≡ says (before' (g c)) m) → ((c : C) (x : Tree) (v : Cursor) → says (after' (g c) x) v ≡ says (after c x) v) →
    ReadAs before after n xs ys r a b
ends_by before after before' after' k n xs ys (Ok u) a m b s e h g i j =
    record { tree = h.tree; count = h.count ∙ ap (λ i. i + size h.tree) e; nodes = renumbered s e h; goes_on = λ c. i c ∙ (h.goes_on (g c) ∙ j c h.tree b) }
ends_by before after before' after' k n xs ys (Err x) a m b s e h g i j = λ c. i c ∙ h (g c)

-- a part that ends by a word, with the tree x already laid out
pub ends_at : {C : Type 0} (before : C → State) (after : C → Tree → State) (n : ℕ) (xs ys : List Node) (r : Result (Unit {0}) Fault) (a m b : Cursor) (x : Tree) (f : Found) →
    m.count ≡ n + size x → ys ≡ write xs n (lay (numbers a) n x) → ((c : C) → says (before c) a ≡ at m.text.now (after c x) f) → Comes f r m b → ReadAs before after n xs ys r a b
ends_at before after n xs ys (Ok u) a m b x f e h i k = record { tree = x; count = k.count ∙ e; nodes = h; goes_on = λ c. i c ∙ goes k (after c x) }
ends_at before after n xs ys (Err y) a m b x f e h i k = λ c. i c ∙ stops y k m.text.now (after c x)

-- a part that ends by a word behind another part, the only one that is allowed there
pub closes : {C D : Type 0} (before : C → State) (after : C → Tree → State) (before' : D → State) (after' : D → Tree → State) (k n : ℕ) (xs ys : List Node) (w : Fixed) (r : Result (Unit {0}) Fault) (a m l b : Cursor) →
    SameSheet a m → k ≡ n → (h : Reads before' after' k xs ys m l) → (g : C → D) → ((c : C) → says (before c) a ≡ says (before' (g c)) m) → ((c : C) (x : Tree) → Only w (after' (g c) x) (after c x)) → Comes (expected l.text.now w (in_hand l)) r l b →
    ReadAs before after n xs ys r a b
closes before after before' after' k n xs ys w r a m l b s e h g i j q =
    ends_at before after n xs ys r a l b h.tree (expected l.text.now w (in_hand l)) (h.count ∙ ap (λ i. i + size h.tree) e) (renumbered s e h) (λ c. i c ∙ (h.goes_on (g c) ∙ pass l.text.now (j c h.tree) (in_hand l))) q

-- the same for types, declarations, and several of them
pub type_refused : (r : Result Kind Fault) (a b : Cursor) (e : Fault) → r ≡ Err e → ((g : Given) (n : Part) → says (sorting g n) a ≡ fault e.refusal e.place) → TypedAs r a b
type_refused r a b e i h = subst (λ (x : Result Kind Fault). TypedAs x a b) (sym i) h

pub declaration_refused : (xs ys : List Node) (es ds : List (Entry Binding)) (r : Result (Unit {0}) Fault) (a b : Cursor) (e : Fault) → r ≡ Err e → ((g : Given) → says (naming g) a ≡ fault e.refusal e.place) → DeclaredAs xs ys es ds r a b
declaration_refused xs ys es ds r a b e i h = subst (λ (x : Result (Unit {0}) Fault). DeclaredAs xs ys es ds x a b) (sym i) h

pub list_refused : (d : Tree) (xs ys : List Node) (ds : List (Entry Binding)) (r : Result (Unit {0}) Fault) (a b : Cursor) (e : Fault) → r ≡ Err e → says (declared d) a ≡ fault e.refusal e.place → ListedAs d xs ys ds r a b
list_refused d xs ys ds r a b e i h = subst (λ (x : Result (Unit {0}) Fault). ListedAs d xs ys ds x a b) (sym i) h
