use Rattle.std.proofs.Common.{◌≡◌, ℕ, List, [], ◌∷◌, sym, ap, ◌∙◌, subst, arith, rules}
use Rattle.words.specs.Words.{Lex, meant}
use Rattle.nodes.specs.declared.node.Node.{Node}
use Rattle.nodes.specs.Nodes.{node}
use Rattle.grammar.specs.Machine as M
use Rattle.cursor.specs.Text.{seen_as, found, at}
use Rattle.cursor.specs.Layout.{kind_of, entry, write}
use Rattle.cursor.proofs.Steps.{colon_word, name_word}
use Rattle.cursor.proofs.Starts.{part}
use Rattle.cursor.proofs.Reading.{goes, stops, passes, passes_not, same_word}
use Rattle.parser.specs.Parts.{noted}
use Rattle.parser.proofs.Chains.{declaration_refused}
use Rattle.parser.proofs.declarations.declaration.Goals as goal

-- a name in hand
name_in_hand : (t : List ℕ) (k w : Lex) (p q : ℕ) → k ≡ w → ((g : M.Given) → at t (M.naming g) (seen_as w p q) ≡ at t (M.typing g (part p q)) (found t q)) → (g : M.Given) → at t (M.naming g) (seen_as k p q) ≡ at t (M.typing g (part p q)) (found t q)
name_in_hand t k w p q e h g = subst (λ (k : Lex). at t (M.naming g) (seen_as k p q) ≡ at t (M.typing g (part p q)) (found t q)) (sym e) (h g)

pub returns-in_err-step-in-Name-clause-is : goal.returns-in_err-step-in-Name-clause-is
returns-in_err-step-in-Name-clause-is c =
    let a = c.args.cursor.now in
    let t = a.text.now in
    let n = part a.token.place a.token.next in
    declaration_refused _ _ _ _ _ _ _ c.in_err-step-in-Name.field-0.0 (search rules)
    (λ g. name_in_hand t _ _ a.token.place a.token.next (ap meant c.in-Name.is) (λ g. name_word t g n a.token.next) g ∙ stops c.in_err-step-in-Name.field-0.0 c.in_err-step-in-Name.ensures.is t (M.typing g n))

pub returns-in_err-expect-in-Name-clause-is : goal.returns-in_err-expect-in-Name-clause-is
returns-in_err-expect-in-Name-clause-is c =
    let a = c.args.cursor.now in
    let t = a.text.now in
    let n = part a.token.place a.token.next in
    declaration_refused _ _ _ _ _ _ _ c.in_err-expect-in-Name.field-0.0 (search rules)
    (λ g. name_in_hand t _ _ a.token.place a.token.next (ap meant c.in-Name.is) (λ g. name_word t g n a.token.next) g ∙ (goes c.in_ok-step-in-Name.ensures.is (M.typing g n)
    ∙ passes_not (colon_word g n) c.step.new.self c.in_err-expect-in-Name.field-0.0 c.in_err-expect-in-Name.ensures.is))

pub returns-in_err-kind-in-Name-clause-is : goal.returns-in_err-kind-in-Name-clause-is
returns-in_err-kind-in-Name-clause-is c =
    let a = c.args.cursor.now in
    let t = a.text.now in
    let n = part a.token.place a.token.next in
    declaration_refused _ _ _ _ _ _ _ c.in_err-kind-in-Name.field-0.0 (search rules)
    (λ g. name_in_hand t _ _ a.token.place a.token.next (ap meant c.in-Name.is) (λ g. name_word t g n a.token.next) g ∙ (goes c.in_ok-step-in-Name.ensures.is (M.typing g n)
    ∙ (passes (colon_word g n) c.step.new.self c.expect.new.self c.in_ok-expect-in-Name.ensures.is ∙ c.in_err-kind-in-Name.ensures.is g n)))

pub returns-in_ok-kind-in-Name-clause-is : goal.returns-in_ok-kind-in-Name-clause-is
returns-in_ok-kind-in-Name-clause-is c =
    let a = c.args.cursor.now in
    let t = a.text.now in
    let n = part a.token.place a.token.next in
    let stepped = c.in_ok-step-in-Name.ensures.is in
    let passed = c.in_ok-expect-in-Name.ensures.is in
    let typed = c.in_ok-kind-in-Name.ensures.is in
    let m = c.kind.new.cursor in
    let same : m.count ≡ a.count = omega (arith, stepped.count, passed.count, c.in_ok-kind-in-Name.ensures.on) in
    let number : c.from-kind.result ≡ kind_of typed.sort = search rules in
    let above : c.into.result ≡ node 1 n.place n.size (kind_of typed.sort) = c.into.ensures ∙ ap (node 1 n.place n.size) number in
    record {
      part = n;
      sort = typed.sort;
      nodes = c.push.ensures.nodes ∙ (ap (λ (b : Node). write c.args.out.now m.count (b ∷ [])) above ∙ ap (λ (i : ℕ). write c.args.out.now i (node 1 n.place n.size (kind_of typed.sort) ∷ [])) same);
      names = c.note.ensures ∙ (ap (λ (k : ℕ). noted c.args.names.now.items (record { place = n.place; size = n.size; value = record { kind = k; number = m.count } })) number ∙ ap (λ (i : ℕ). noted c.args.names.now.items (entry n typed.sort i)) same);
      goes_on = λ g. name_in_hand t _ _ a.token.place a.token.next (ap meant c.in-Name.is) (λ g. name_word t g n a.token.next) g ∙ (goes stepped (M.typing g n) ∙ (passes (colon_word g n) c.step.new.self c.expect.new.self passed
          ∙ (typed.goes_on g n ∙ same_word c.push.ensures.sheet c.push.ensures.token (M.declared (M.declare g n typed.sort)))));
    }
