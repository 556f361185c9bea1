use Rattle.std.proofs.Common.{◌≡◌, ◌+◌, ◌-◌, List, [], ◌∷◌, ap, ◌∙◌, arith, rules}
use Rattle.words.specs.Words.{meant}
use Rattle.nodes.specs.declared.node.Node.{Node}
use Rattle.nodes.specs.Nodes.{node}
use Rattle.grammar.specs.Grammar.{assign}
use Rattle.grammar.specs.Machine as M
use Rattle.cursor.specs.Layout.{size, lay, write}
use Rattle.cursor.specs.Reading.{in_hand, numbers}
use Rattle.cursor.proofs.Steps.{becomes_word, assigned_too}
use Rattle.cursor.proofs.Starts.{part, name_reads}
use Rattle.cursor.proofs.Reading.{onward, goes, stops, passes, passes_not, same_word, same_next}
use Rattle.parser.proofs.Laid.{laid_assign}
use Rattle.parser.proofs.Chains.{refused, renumbered}
use Rattle.parser.proofs.statement.assignment.Goals as goal

pub returns-in_err-step-clause-is : goal.returns-in_err-step-clause-is
returns-in_err-step-clause-is c =
    let a = c.args.cursor.now in
    let m = c.push.new.self in
    let n = part a.token.place a.token.next in
    refused _ _ _ _ _ _ _ _ c.in_err-step.field-0.0 (search rules)
    (λ o. name_reads a.text.now (meant a.token.word) a.token.place a.token.next c.requires.1 o ∙ (same_next c.push.ensures.sheet c.push.ensures.token (M.becoming n o)
    ∙ stops c.in_err-step.field-0.0 c.in_err-step.ensures.is m.text.now (M.becoming n o)))

pub returns-in_err-expect-clause-is : goal.returns-in_err-expect-clause-is
returns-in_err-expect-clause-is c =
    let a = c.args.cursor.now in
    let n = part a.token.place a.token.next in
    refused _ _ _ _ _ _ _ _ c.in_err-expect.field-0.0 (search rules)
    (λ o. name_reads a.text.now (meant a.token.word) a.token.place a.token.next c.requires.1 o ∙ (same_next c.push.ensures.sheet c.push.ensures.token (M.becoming n o)
    ∙ (goes c.in_ok-step.ensures.is (M.becoming n o) ∙ passes_not (becomes_word n o) c.step.new.self c.in_err-expect.field-0.0 c.in_err-expect.ensures.is)))

pub returns-in_err-expression-clause-is : goal.returns-in_err-expression-clause-is
returns-in_err-expression-clause-is c =
    let a = c.args.cursor.now in
    let n = part a.token.place a.token.next in
    refused _ _ _ _ _ _ _ _ c.in_err-expression.field-0.0 (search rules)
    (λ o. name_reads a.text.now (meant a.token.word) a.token.place a.token.next c.requires.1 o ∙ (same_next c.push.ensures.sheet c.push.ensures.token (M.becoming n o)
    ∙ (goes c.in_ok-step.ensures.is (M.becoming n o) ∙ (passes (becomes_word n o) c.step.new.self c.expect.new.self c.in_ok-expect.ensures.is ∙ c.in_err-expression.ensures.is (M.value n o)))))

pub returns-clause-is : goal.returns-clause-is
returns-clause-is c =
    let a = c.args.cursor.now in
    let f = numbers a in
    let out = c.args.out.now in
    let last = c.expression.new.cursor.count in
    let n = part a.token.place a.token.next in
    let value = c.in_ok-expression.ensures.is in
    let stepped = c.in_ok-step.ensures.is in
    let passed = c.in_ok-expect.ensures.is in
    let sheet = onward (onward c.push.ensures.sheet stepped.sheet) passed.sheet in
    let from : c.expect.new.self.count ≡ a.count + 1 = omega (arith, c.push.ensures.count, stepped.count, passed.count) in
    let count : last ≡ a.count + 1 + size value.tree = omega (arith, value.count) in
    let target : c.variable-name.result ≡ node 2 n.place n.size (f n) = c.variable-name.ensures in
    let above : c.into.result ≡ node 7 a.count (last - 1) 0 = search rules in
    record {
      tree = assign n value.tree;
      count = omega (arith, c.push-2.ensures.count);
      nodes = laid_assign f out _ a.count n value.tree last count
          (c.push-2.ensures.nodes ∙ (ap (λ (b : Node). write c.expression.new.out last (b ∷ [])) above ∙ ap (λ (ys : List Node). write ys last (node 7 a.count (last - 1) 0 ∷ []))
          (renumbered sheet from value ∙ ap (λ (ys : List Node). write ys (a.count + 1) (lay f (a.count + 1) value.tree)) (c.push.ensures.nodes ∙ ap (λ (b : Node). write out a.count (b ∷ [])) target))));
      goes_on = λ o. name_reads a.text.now (meant a.token.word) a.token.place a.token.next c.requires.1 o ∙ (same_next c.push.ensures.sheet c.push.ensures.token (M.becoming n o)
          ∙ (goes stepped (M.becoming n o) ∙ (passes (becomes_word n o) c.step.new.self c.expect.new.self passed ∙ (value.goes_on (M.value n o)
          ∙ (assigned_too c.expression.new.cursor.text.now n o value.tree (in_hand c.expression.new.cursor) ∙ same_word c.push-2.ensures.sheet c.push-2.ensures.token (M.done o (assign n value.tree)))))));
    }
