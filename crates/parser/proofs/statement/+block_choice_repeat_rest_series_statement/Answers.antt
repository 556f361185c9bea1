use Rattle.std.proofs.Common.{◌≡◌, ◌+◌, ◌-◌, List, [], ◌∷◌, sym, refl, ap, ◌∙◌, arith, rules}
use Rattle.nodes.specs.declared.node.Node.{Node}
use Rattle.nodes.specs.Nodes.{node}
use Rattle.grammar.specs.Grammar.{Semicolon, choose, loop, none, more}
use Rattle.grammar.specs.Machine as M
use Rattle.cursor.specs.Layout.{size, lay, write}
use Rattle.cursor.specs.Reading.{in_hand, numbers}
use Rattle.cursor.proofs.Steps.{then_word, else_word, fi_word, do_word, od_word, semicolon_at, no_semicolon_at, closing_after}
use Rattle.cursor.proofs.Starts.{if_reads, while_reads, nothing_reads}
use Rattle.cursor.proofs.Reading.{same_sheet, onward, goes, stops, steps, steps_not, same_word}
use Rattle.parser.proofs.Laid.{laid_two, laid_choice}
use Rattle.parser.proofs.Chains.{refused, renumbered, ends_by, closes}
use Rattle.parser.proofs.statement.+block_choice_repeat_rest_series_statement.Goals as goal

pub block-returns-in_err-series-clause-is : goal.block-returns-in_err-series-clause-is
block-returns-in_err-series-clause-is r c = λ k next only. refused _ _ _ _ _ _ _ _ c.in_err-series.field-0.0 (search rules) (λ o. c.in_err-series.ensures.is (k o))

pub block-returns-clause-is : goal.block-returns-clause-is
block-returns-clause-is r c =
    let a = c.args.cursor.now in
    λ k next only. closes (λ o. M.series (k o)) next M.series M.closing a.count a.count c.args.out.now _ c.args.word c.expect.result a a c.series.new.cursor c.expect.new.self
    (same_sheet a) refl c.in_ok-series.ensures.is k (λ o. refl) only c.expect.ensures.is

pub choice-returns-in_err-expect-clause-is : goal.choice-returns-in_err-expect-clause-is
choice-returns-in_err-expect-clause-is r c =
    let a = c.args.cursor.now in
    refused _ _ _ _ _ _ _ _ c.in_err-expect.field-0.0 (search rules) (λ o. if_reads a.text.now (in_hand a) c.requires.1 o ∙ stops c.in_err-expect.field-0.0 c.in_err-expect.ensures.is a.text.now (M.term M.start (M.test o)))

pub choice-returns-in_err-test-clause-is : goal.choice-returns-in_err-test-clause-is
choice-returns-in_err-test-clause-is r c =
    let a = c.args.cursor.now in
    refused _ _ _ _ _ _ _ _ c.in_err-test.field-0.0 (search rules)
    (λ o. if_reads a.text.now (in_hand a) c.requires.1 o ∙ (goes c.in_ok-expect.ensures.is (M.term M.start (M.test o)) ∙ c.in_err-test.ensures.is M.test (λ o e. M.series (M.taken e o)) then_word o))

pub choice-returns-in_err-block-clause-is : goal.choice-returns-in_err-block-clause-is
choice-returns-in_err-block-clause-is r c =
    let a = c.args.cursor.now in
    let tested = c.in_ok-test.ensures.is M.test (λ o e. M.series (M.taken e o)) then_word in
    refused _ _ _ _ _ _ _ _ c.in_err-block.field-0.0 (search rules)
    (λ o. if_reads a.text.now (in_hand a) c.requires.1 o ∙ (goes c.in_ok-expect.ensures.is (M.term M.start (M.test o)) ∙ (tested.goes_on o
    ∙ c.in_err-block.ensures.is (M.taken tested.tree) (λ o a. M.series (M.left tested.tree a o)) (λ o a. else_word o tested.tree a) o)))

pub choice-returns-in_err-block-2-clause-is : goal.choice-returns-in_err-block-2-clause-is
choice-returns-in_err-block-2-clause-is r c =
    let a = c.args.cursor.now in
    let tested = c.in_ok-test.ensures.is M.test (λ o e. M.series (M.taken e o)) then_word in
    let first = c.in_ok-block.ensures.is (M.taken tested.tree) (λ o a. M.series (M.left tested.tree a o)) (λ o a. else_word o tested.tree a) in
    refused _ _ _ _ _ _ _ _ c.in_err-block-2.field-0.0 (search rules)
    (λ o. if_reads a.text.now (in_hand a) c.requires.1 o ∙ (goes c.in_ok-expect.ensures.is (M.term M.start (M.test o)) ∙ (tested.goes_on o ∙ (first.goes_on o
    ∙ c.in_err-block-2.ensures.is (M.left tested.tree first.tree) (λ o a. M.done o (choose tested.tree first.tree a)) (λ o a. fi_word o tested.tree first.tree a) o))))

pub choice-returns-clause-is : goal.choice-returns-clause-is
choice-returns-clause-is r c =
    let a = c.args.cursor.now in
    let f = numbers a in
    let out = c.args.out.now in
    let passed = c.in_ok-expect.ensures.is in
    let tested = c.in_ok-test.ensures.is M.test (λ o e. M.series (M.taken e o)) then_word in
    let first = c.in_ok-block.ensures.is (M.taken tested.tree) (λ o a. M.series (M.left tested.tree a o)) (λ o a. else_word o tested.tree a) in
    let second = c.in_ok-block-2.ensures.is (M.left tested.tree first.tree) (λ o a. M.done o (choose tested.tree first.tree a)) (λ o a. fi_word o tested.tree first.tree a) in
    let c1 = c.test.new.cursor.count in
    let c2 = c.block.new.cursor.count in
    let c3 = c.block-2.new.cursor.count in
    let sheet1 = onward passed.sheet c.in_ok-test.ensures.on.0 in
    let sheet2 = onward sheet1 c.in_ok-block.ensures.on.0 in
    let one : c1 ≡ a.count + size tested.tree = omega (arith, tested.count, passed.count) in
    let above : c.into.result ≡ node 8 (c1 - 1) (c2 - 1) (c3 - 1) = search rules in
    record {
      tree = choose tested.tree first.tree second.tree;
      count = omega (arith, first.count, second.count, c.push.ensures.count);
      nodes = laid_choice f out _ a.count tested.tree first.tree second.tree c1 c2 c3 one first.count second.count
          (c.push.ensures.nodes ∙ (ap (λ (b : Node). write c.block-2.new.out c3 (b ∷ [])) above ∙ ap (λ (ys : List Node). write ys c3 (node 8 (c1 - 1) (c2 - 1) (c3 - 1) ∷ []))
          (renumbered sheet2 refl second ∙ ap (λ (ys : List Node). write ys c2 (lay f c2 second.tree))
          (renumbered sheet1 refl first ∙ ap (λ (ys : List Node). write ys c1 (lay f c1 first.tree)) (renumbered passed.sheet passed.count tested)))));
      goes_on = λ o. if_reads a.text.now (in_hand a) c.requires.1 o ∙ (goes passed (M.term M.start (M.test o)) ∙ (tested.goes_on o ∙ (first.goes_on o ∙ (second.goes_on o
          ∙ same_word c.push.ensures.sheet c.push.ensures.token (M.done o (choose tested.tree first.tree second.tree))))));
    }

pub repeat-returns-in_err-expect-clause-is : goal.repeat-returns-in_err-expect-clause-is
repeat-returns-in_err-expect-clause-is r c =
    let a = c.args.cursor.now in
    refused _ _ _ _ _ _ _ _ c.in_err-expect.field-0.0 (search rules) (λ o. while_reads a.text.now (in_hand a) c.requires.1 o ∙ stops c.in_err-expect.field-0.0 c.in_err-expect.ensures.is a.text.now (M.term M.start (M.guard o)))

pub repeat-returns-in_err-test-clause-is : goal.repeat-returns-in_err-test-clause-is
repeat-returns-in_err-test-clause-is r c =
    let a = c.args.cursor.now in
    refused _ _ _ _ _ _ _ _ c.in_err-test.field-0.0 (search rules)
    (λ o. while_reads a.text.now (in_hand a) c.requires.1 o ∙ (goes c.in_ok-expect.ensures.is (M.term M.start (M.guard o)) ∙ c.in_err-test.ensures.is M.guard (λ o e. M.series (M.body e o)) do_word o))

pub repeat-returns-in_err-block-clause-is : goal.repeat-returns-in_err-block-clause-is
repeat-returns-in_err-block-clause-is r c =
    let a = c.args.cursor.now in
    let tested = c.in_ok-test.ensures.is M.guard (λ o e. M.series (M.body e o)) do_word in
    refused _ _ _ _ _ _ _ _ c.in_err-block.field-0.0 (search rules)
    (λ o. while_reads a.text.now (in_hand a) c.requires.1 o ∙ (goes c.in_ok-expect.ensures.is (M.term M.start (M.guard o)) ∙ (tested.goes_on o
    ∙ c.in_err-block.ensures.is (M.body tested.tree) (λ o a. M.done o (loop tested.tree a)) (λ o a. od_word o tested.tree a) o)))

pub repeat-returns-clause-is : goal.repeat-returns-clause-is
repeat-returns-clause-is r c =
    let a = c.args.cursor.now in
    let f = numbers a in
    let passed = c.in_ok-expect.ensures.is in
    let tested = c.in_ok-test.ensures.is M.guard (λ o e. M.series (M.body e o)) do_word in
    let body = c.in_ok-block.ensures.is (M.body tested.tree) (λ o a. M.done o (loop tested.tree a)) (λ o a. od_word o tested.tree a) in
    let c1 = c.test.new.cursor.count in
    let c2 = c.block.new.cursor.count in
    let sheet1 = onward passed.sheet c.in_ok-test.ensures.on.0 in
    let one : c1 ≡ a.count + size tested.tree = omega (arith, tested.count, passed.count) in
    let above : c.into.result ≡ node 9 (c1 - 1) (c2 - 1) 0 = search rules in
    record {
      tree = loop tested.tree body.tree;
      count = omega (arith, body.count, c.push.ensures.count);
      nodes = laid_two f c.args.out.now _ a.count tested.tree body.tree (λ l r. node 9 l r 0) c1 c2 one body.count
          (c.push.ensures.nodes ∙ (ap (λ (b : Node). write c.block.new.out c2 (b ∷ [])) above ∙ ap (λ (ys : List Node). write ys c2 (node 9 (c1 - 1) (c2 - 1) 0 ∷ []))
          (renumbered sheet1 refl body ∙ ap (λ (ys : List Node). write ys c1 (lay f c1 body.tree)) (renumbered passed.sheet passed.count tested))));
      goes_on = λ o. while_reads a.text.now (in_hand a) c.requires.1 o ∙ (goes passed (M.term M.start (M.guard o)) ∙ (tested.goes_on o ∙ (body.goes_on o
          ∙ same_word c.push.ensures.sheet c.push.ensures.token (M.done o (loop tested.tree body.tree)))));
    }

pub rest-returns-in_err-step-clause-is : goal.rest-returns-in_err-step-clause-is
rest-returns-in_err-step-clause-is r c =
    let a = c.args.cursor.now in
    let i = sym c.if-is.ensures in
    λ s. refused _ _ _ _ _ _ _ _ c.in_err-step.field-0.0 (search rules)
    (λ o. steps_not Semicolon (M.done o s) (M.series (M.after s o)) a c.in_err-step.field-0.0 i (semicolon_at a.text.now o s (in_hand a) i) c.in_err-step.ensures.is)

pub rest-returns-in_ok-step-clause-is : goal.rest-returns-in_ok-step-clause-is
rest-returns-in_ok-step-clause-is r c =
    let a = c.args.cursor.now in
    let i = sym c.if-is.ensures in
    let taken = c.in_ok-step.ensures.is in
    λ s. ends_by (λ o. M.done o s) (λ o a. M.closing o (more s a)) M.series M.closing _ a.count c.args.out.now _ c.series.result a c.step.new.self c.series.new.cursor
    taken.sheet taken.count c.series.ensures.is (M.after s)
    (λ o. steps Semicolon (M.done o s) (M.series (M.after s o)) a c.step.new.self i (semicolon_at a.text.now o s (in_hand a) i) taken)
    (λ o x v. closing_after v.text.now o s x (in_hand v))

pub rest-returns-else-is-clause-is : goal.rest-returns-else-is-clause-is
rest-returns-else-is-clause-is r c =
    let a = c.args.cursor.now in
    let above : c.into.result ≡ node 11 0 0 0 = search rules in
    λ s. record {
      tree = none;
      count = c.push.ensures.count;
      nodes = c.push.ensures.nodes ∙ ap (λ (b : Node). write c.args.out.now a.count (b ∷ [])) above;
      goes_on = λ o. no_semicolon_at a.text.now o s (in_hand a) (sym c.if-is.ensures) ∙ same_word c.push.ensures.sheet c.push.ensures.token (M.closing o (more s none));
    }

pub series-returns-in-None-clause-is : goal.series-returns-in-None-clause-is
series-returns-in-None-clause-is r c =
    let a = c.args.cursor.now in
    let above : c.into.result ≡ node 11 0 0 0 = search rules in
    record {
      tree = none;
      count = c.push.ensures.count;
      nodes = c.push.ensures.nodes ∙ ap (λ (b : Node). write c.args.out.now a.count (b ∷ [])) above;
      goes_on = λ o. nothing_reads a.text.now (in_hand a) (sym c.in-None.ensures) o ∙ same_word c.push.ensures.sheet c.push.ensures.token (M.closing o none);
    }

pub series-returns-in_err-rest-in-Some-clause-is : goal.series-returns-in_err-rest-in-Some-clause-is
series-returns-in_err-rest-in-Some-clause-is r c =
    let first = c.in_ok-statement-in-Some.ensures.is in
    refused _ _ _ _ _ _ _ _ c.in_err-rest-in-Some.field-0.0 (search rules) (λ o. first.goes_on o ∙ c.in_err-rest-in-Some.ensures.is first.tree o)

pub series-returns-in_ok-rest-in-Some-clause-is : goal.series-returns-in_ok-rest-in-Some-clause-is
series-returns-in_ok-rest-in-Some-clause-is r c =
    let a = c.args.cursor.now in
    let f = numbers a in
    let first = c.in_ok-statement-in-Some.ensures.is in
    let others = c.in_ok-rest-in-Some.ensures.is first.tree in
    let sheet1 = c.in_ok-statement-in-Some.ensures.on.0 in
    let c1 = c.statement.new.cursor.count in
    let c2 = c.rest.new.cursor.count in
    let above : c.into-in-Some.result ≡ node 10 (c1 - 1) (c2 - 1) 0 = search rules in
    record {
      tree = more first.tree others.tree;
      count = omega (arith, first.count, others.count, c.push-in-Some.ensures.count);
      nodes = laid_two f c.args.out.now _ a.count first.tree others.tree (λ l r. node 10 l r 0) c1 c2 first.count others.count
          (c.push-in-Some.ensures.nodes ∙ (ap (λ (b : Node). write c.rest.new.out c2 (b ∷ [])) above ∙ ap (λ (ys : List Node). write ys c2 (node 10 (c1 - 1) (c2 - 1) 0 ∷ []))
          (renumbered sheet1 refl others ∙ ap (λ (ys : List Node). write ys c1 (lay f c1 others.tree)) first.nodes)));
      goes_on = λ o. first.goes_on o ∙ (others.goes_on o ∙ same_word c.push-in-Some.ensures.sheet c.push-in-Some.ensures.token (M.closing o (more first.tree others.tree)));
    }
