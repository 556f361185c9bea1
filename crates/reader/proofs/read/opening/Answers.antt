use Rattle.std.proofs.Common.{◌≡◌, ℕ, List, [], ◌∷◌, ap, ◌∙◌, subst, arith, rules}
use Rattle.grammar.specs.Grammar.{first as first_of}
use Rattle.grammar.specs.Machine as M
use Rattle.cursor.specs.Layout.{declaration, entry, write}
use Rattle.cursor.specs.declared.cursor.Cursor.{Cursor}
use Rattle.cursor.proofs.Steps.{begin_word, declare_word}
use Rattle.cursor.proofs.Reading.{passes, passes_not}
use Rattle.parser.specs.Parts.{noted, Declares, Listed}
use Rattle.nodes.specs.declared.node.Node.{Node}
use Rattle.nodes.specs.declared.binding.Binding.{Binding}
use Rattle.spelling.specs.declared.Entry.{Entry}
use Rattle.parser.proofs.Laid.{listed_first}
use Rattle.reader.proofs.Whole.{opening_refused, opened, not_opened}
use Rattle.reader.proofs.read.opening.Goals as goal

-- the first declaration, in a list
begun_list : {xs ys : List Node} {es ds : List (Entry Binding)} {a b : Cursor} → es ≡ [] → 1 ≡ b.count → a.count ≡ 0 → (one : Declares xs ys es ds a b) → Listed (first_of one.part one.sort) b.count xs ys ds
begun_list {xs} {ys} {es} {ds} {a} {b} n e z one =
    subst (λ (i : ℕ). Listed (first_of one.part one.sort) i xs ys ds) e
    (listed_first xs ys ds one.part one.sort (one.nodes ∙ ap (λ (i : ℕ). write xs i (declaration one.part one.sort ∷ [])) z) (one.names ∙ (ap (λ (l : List (Entry Binding)). noted l (entry one.part one.sort a.count)) n ∙ ap (λ (i : ℕ). noted [] (entry one.part one.sort i)) z)))

pub returns-in_err-cursor-clause-is : goal.returns-in_err-cursor-clause-is
returns-in_err-cursor-clause-is c = opening_refused _ _ _ _ _ c.in_err-cursor.field-0.0 (search rules) (not_opened c.args.text.now c.in_err-cursor.field-0.0 c.in_err-cursor.ensures)

pub returns-in_err-expect-clause-is : goal.returns-in_err-expect-clause-is
returns-in_err-expect-clause-is c =
    opening_refused _ _ _ _ _ c.in_err-expect.field-0.0 (search rules) (opened c.in_ok-cursor.ensures ∙ passes_not begin_word c.in_ok-cursor.cursor c.in_err-expect.field-0.0 c.in_err-expect.ensures.is)

pub returns-in_err-expect-2-clause-is : goal.returns-in_err-expect-2-clause-is
returns-in_err-expect-2-clause-is c =
    opening_refused _ _ _ _ _ c.in_err-expect-2.field-0.0 (search rules)
    (opened c.in_ok-cursor.ensures ∙ (passes begin_word c.in_ok-cursor.cursor c.expect.new.self c.in_ok-expect.ensures.is ∙ passes_not declare_word c.expect.new.self c.in_err-expect-2.field-0.0 c.in_err-expect-2.ensures.is))

pub returns-in_err-declaration-clause-is : goal.returns-in_err-declaration-clause-is
returns-in_err-declaration-clause-is c =
    opening_refused _ _ _ _ _ c.in_err-declaration.field-0.0 (search rules)
    (opened c.in_ok-cursor.ensures ∙ (passes begin_word c.in_ok-cursor.cursor c.expect.new.self c.in_ok-expect.ensures.is ∙ (passes declare_word c.expect.new.self c.expect-2.new.self c.in_ok-expect-2.ensures.is
    ∙ c.in_err-declaration.ensures.is M.nothing_yet)))

pub returns-in_err-others-clause-is : goal.returns-in_err-others-clause-is
returns-in_err-others-clause-is c =
    let first = c.in_ok-expect.ensures.is in
    let second = c.in_ok-expect-2.ensures.is in
    let one = c.in_ok-declaration.ensures.is in
    let none : c.expect-2.new.self.count ≡ 0 = second.count ∙ (first.count ∙ c.in_ok-cursor.ensures.count) in
    let count : 1 ≡ c.declaration.new.cursor.count = omega (arith, none, c.in_ok-declaration.ensures.on) in
    opening_refused _ _ _ _ _ c.in_err-others.field-0.0 (search rules)
    (opened c.in_ok-cursor.ensures ∙ (passes begin_word c.in_ok-cursor.cursor c.expect.new.self first ∙ (passes declare_word c.expect.new.self c.expect-2.new.self second
    ∙ (one.goes_on M.nothing_yet ∙ c.in_err-others.ensures.is (first_of one.part one.sort) c.args.out.now (begun_list c.requires.1 count none one)))))

pub returns-clause-is : goal.returns-clause-is
returns-clause-is c =
    let first = c.in_ok-expect.ensures.is in
    let second = c.in_ok-expect-2.ensures.is in
    let one = c.in_ok-declaration.ensures.is in
    let none : c.expect-2.new.self.count ≡ 0 = second.count ∙ (first.count ∙ c.in_ok-cursor.ensures.count) in
    let count : 1 ≡ c.declaration.new.cursor.count = omega (arith, none, c.in_ok-declaration.ensures.on) in
    let all = c.in_ok-others.ensures.is (first_of one.part one.sort) c.args.out.now (begun_list c.requires.1 count none one) in
    record {
      tree = all.tree;
      listed = all.listed;
      goes_on = opened c.in_ok-cursor.ensures ∙ (passes begin_word c.in_ok-cursor.cursor c.expect.new.self first ∙ (passes declare_word c.expect.new.self c.expect-2.new.self second
          ∙ (one.goes_on M.nothing_yet ∙ all.goes_on)));
    }
