use Rattle.std.proofs.Common.{◌≡◌, ℕ, ◌+◌, List, [], ◌∷◌, Ok, Err, Result, sym, ap, ◌∙◌, subst, arith, rules}
use Rattle.spelling.specs.declared.Entry.{Entry}
use Rattle.nodes.specs.declared.node.Node.{Node}
use Rattle.nodes.specs.declared.binding.Binding.{Binding}
use Rattle.words.specs.declared.word.Fault.{Fault}
use Rattle.grammar.specs.Grammar.{Tree, Comma, also}
use Rattle.grammar.specs.Machine as M
use Rattle.grammar.specs.Scan.{Found}
use Rattle.cursor.specs.declared.cursor.Cursor.{Cursor}
use Rattle.cursor.specs.Text.{at}
use Rattle.cursor.specs.Layout.{declaration, entry, write}
use Rattle.cursor.specs.Reading.{in_hand, says, Comes}
use Rattle.cursor.proofs.Steps.{comma_at, no_comma_at}
use Rattle.cursor.proofs.Reading.{goes, stops, steps, steps_not}
use Rattle.parser.specs.Parts.{noted, Listed, ListedAs}
use Rattle.parser.proofs.Laid.{listed_more}
use Rattle.parser.proofs.Chains.{list_refused}
use Rattle.parser.proofs.declarations.+others.Goals as goal

-- the declarations after one more
onward : (d x : Tree) (xs ys : List Node) (ds : List (Entry Binding)) (r : Result (Unit {0}) Fault) (a m b : Cursor) → ListedAs x xs ys ds r m b → says (M.declared d) a ≡ says (M.declared x) m → ListedAs d xs ys ds r a b
onward d x xs ys ds (Ok u) a m b h e = record { tree = h.tree; listed = h.listed; goes_on = e ∙ h.goes_on }
onward d x xs ys ds (Err f) a m b h e = e ∙ h

-- the declarations end with the word in hand
ends : (d : Tree) (f : Found) (xs ys : List Node) (ds : List (Entry Binding)) (r : Result (Unit {0}) Fault) (a b : Cursor) → Listed d a.count xs ys ds → says (M.declared d) a ≡ at a.text.now (M.series (M.whole d)) f → Comes f r a b → ListedAs d xs ys ds r a b
ends d f xs ys ds (Ok u) a b l e k = record { tree = d; listed = subst (λ (k : ℕ). Listed d k xs ys ds) (sym k.count) l; goes_on = e ∙ goes k (M.series (M.whole d)) }
ends d f xs ys ds (Err y) a b l e k = e ∙ stops y k a.text.now (M.series (M.whole d))

pub returns-in_err-step-clause-is : goal.returns-in_err-step-clause-is
returns-in_err-step-clause-is r c =
    let a = c.args.cursor.now in
    let i = sym c.if-is.ensures in
    λ d xs l. list_refused _ _ _ _ _ _ _ c.in_err-step.field-0.0 (search rules) (steps_not Comma (M.declared d) (M.naming (M.given d)) a c.in_err-step.field-0.0 i (comma_at a.text.now d (in_hand a) i) c.in_err-step.ensures.is)

pub returns-in_err-declaration-clause-is : goal.returns-in_err-declaration-clause-is
returns-in_err-declaration-clause-is r c =
    let a = c.args.cursor.now in
    let i = sym c.if-is.ensures in
    λ d xs l. list_refused _ _ _ _ _ _ _ c.in_err-declaration.field-0.0 (search rules)
    (steps Comma (M.declared d) (M.naming (M.given d)) a c.step.new.self i (comma_at a.text.now d (in_hand a) i) c.in_ok-step.ensures.is ∙ c.in_err-declaration.ensures.is (M.given d))

pub returns-in_ok-declaration-clause-is : goal.returns-in_ok-declaration-clause-is
returns-in_ok-declaration-clause-is r c =
    let a = c.args.cursor.now in
    let i = sym c.if-is.ensures in
    let taken = c.in_ok-step.ensures.is in
    let one = c.in_ok-declaration.ensures.is in
    let nodes = one.nodes ∙ ap (λ (i : ℕ). write c.args.out.now i (declaration one.part one.sort ∷ [])) taken.count in
    let names = one.names ∙ ap (λ (i : ℕ). noted c.args.names.now.items (entry one.part one.sort i)) taken.count in
    let count : a.count + 1 ≡ c.declaration.new.cursor.count = omega (arith, taken.count, c.in_ok-declaration.ensures.on) in
    λ d xs l.
    let d2 = also d one.part one.sort in
    onward d d2 xs _ _ c.others.result a c.declaration.new.cursor c.others.new.cursor
    (c.others.ensures.is d2 xs (subst (λ (i : ℕ). Listed d2 i xs c.declaration.new.out c.declaration.new.names.items) count (listed_more d a.count xs c.args.out.now _ c.args.names.now.items _ one.part one.sort l nodes names)))
    (steps Comma (M.declared d) (M.naming (M.given d)) a c.step.new.self i (comma_at a.text.now d (in_hand a) i) taken ∙ one.goes_on (M.given d))

pub returns-else-is-clause-is : goal.returns-else-is-clause-is
returns-else-is-clause-is r c =
    let a = c.args.cursor.now in
    λ d xs l. ends d _ xs _ _ c.expect.result a c.expect.new.self l (no_comma_at a.text.now d (in_hand a) (sym c.if-is.ensures)) c.expect.ensures.is
