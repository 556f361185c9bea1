use Rattle.std.proofs.Common.{◌≡◌, ◌+◌, ◌-◌, List, [], ◌∷◌, sym, refl, ap, ◌∙◌, arith, rules}
use Rattle.words.specs.Words.{meant}
use Rattle.nodes.specs.declared.node.Node.{Node}
use Rattle.nodes.specs.Nodes.{node_of}
use Rattle.grammar.specs.Grammar.{Close}
use Rattle.grammar.specs.Machine.{Before, For, term, tail, leaving, start, group, with}
use Rattle.cursor.specs.Text.{token, at}
use Rattle.cursor.specs.Layout.{size, lay, write}
use Rattle.cursor.specs.InHand.{joined}
use Rattle.cursor.specs.Reading.{in_hand, numbers, says}
use Rattle.cursor.proofs.Steps.{close_word}
use Rattle.cursor.proofs.Leaves.{leaf_reads, joint_reads, no_joint_reads, behind_leaf, behind_joint, group_reads}
use Rattle.cursor.proofs.Reading.{onward, goes, stops, same_word, same_next}
use Rattle.parser.proofs.Laid.{laid_joint}
use Rattle.parser.proofs.Chains.{refused, renumbered, numbered, ends_by, ends_at, closes}
use Rattle.parser.proofs.expression.+expression_more_operand_term.Goals as goal

pub expression-returns-in_err-term-clause-is : goal.expression-returns-in_err-term-clause-is
expression-returns-in_err-term-clause-is r c = refused _ _ _ _ _ _ _ _ c.in_err-term.field-0.0 (search rules) (λ g. c.in_err-term.ensures.is (start, g))

pub expression-returns-clause-is : goal.expression-returns-clause-is
expression-returns-clause-is r c =
    let first = c.in_ok-term.ensures.is in
    let sheet = c.in_ok-term.ensures.on.0 in
    let n = c.args.cursor.now.count in
    let nodes = numbered n c.args.out.now first.tree sheet first.nodes in
    ends_by (λ g. term start g) leaving (λ g. tail g first.tree) leaving n n c.args.out.now _ c.more.result c.args.cursor.now c.term.new.cursor c.more.new.cursor
    sheet refl (c.more.ensures.is first.tree n c.args.out.now first.count nodes) (λ g. g) (λ g. first.goes_on (start, g)) (λ g x v. refl)

pub more-returns-in-None-clause-is : goal.more-returns-in-None-clause-is
more-returns-in-None-clause-is r c = λ e n xs i k. record { tree = e; count = i; nodes = k; goes_on = λ g. no_joint_reads c.args.cursor.now.text.now (in_hand c.args.cursor.now) c.in-None.ensures e g }

pub more-returns-in_err-step-in-Some-clause-is : goal.more-returns-in_err-step-in-Some-clause-is
more-returns-in_err-step-in-Some-clause-is r c =
    let t = c.args.cursor.now.text.now in
    let w = c.args.cursor.now.token in
    let j = joint_reads t (token w) c.in-Some.joint c.in-Some.ensures in
    let past = behind_joint t (meant w.word) w.place w.next c.in-Some.joint c.in-Some.ensures in
    λ e n xs i k. refused _ _ _ _ _ _ _ _ c.in_err-step-in-Some.field-0.0 (search rules) (λ g. j.goes_on e g ∙ (ap (at t (term (j.before e) g)) past ∙ stops c.in_err-step-in-Some.field-0.0 c.in_err-step-in-Some.ensures.is t (term (j.before e) g)))

pub more-returns-in_err-operand-in-Some-clause-is : goal.more-returns-in_err-operand-in-Some-clause-is
more-returns-in_err-operand-in-Some-clause-is r c =
    let t = c.args.cursor.now.text.now in
    let w = c.args.cursor.now.token in
    let j = joint_reads t (token w) c.in-Some.joint c.in-Some.ensures in
    let past = behind_joint t (meant w.word) w.place w.next c.in-Some.joint c.in-Some.ensures in
    λ e n xs i k. refused _ _ _ _ _ _ _ _ c.in_err-operand-in-Some.field-0.0 (search rules)
    (λ g. j.goes_on e g ∙ (ap (at t (term (j.before e) g)) past ∙ (goes c.in_ok-step-in-Some.ensures.is (term (j.before e) g) ∙ c.in_err-operand-in-Some.ensures.is (j.before e, g))))

pub more-returns-in_ok-operand-in-Some-clause-is : goal.more-returns-in_ok-operand-in-Some-clause-is
more-returns-in_ok-operand-in-Some-clause-is r c =
    let a = c.args.cursor.now in
    let t = a.text.now in
    let w = a.token in
    let k = c.in-Some.joint in
    let f = numbers a in
    let out = c.args.out.now in
    let last = c.operand.new.cursor.count in
    let j = joint_reads t (token w) k c.in-Some.ensures in
    let past = behind_joint t (meant w.word) w.place w.next k c.in-Some.ensures in
    let taken = c.in_ok-step-in-Some.ensures.is in
    let right = c.in_ok-operand-in-Some.ensures.is in
    let sheet = onward (onward taken.sheet c.in_ok-operand-in-Some.ensures.on.0) c.push.ensures.sheet in
    let node : c.into.result ≡ node_of (joined k (a.count - 1) (last - 1)) = search rules in
    let sum : last ≡ a.count + size right.tree = omega (arith, right.count, taken.count) in
    λ e n xs i h.
    let whole = with (j.before e) right.tree in
    let count : c.push.new.self.count ≡ n + size whole = omega (arith, c.push.ensures.count, j.sized e right.tree) in
    let nodes : c.push.new.out ≡ write xs n (lay f n whole) =
    laid_joint t (token w) k j f xs out _ n e right.tree a.count last i sum h
    (c.push.ensures.nodes ∙ (ap (λ (b : Node). write c.operand.new.out last (b ∷ [])) node
    ∙ ap (λ (ys : List Node). write ys last (node_of (joined k (a.count - 1) (last - 1)) ∷ [])) (renumbered taken.sheet taken.count right))) in
    let on : (g : For) → says (tail g e) a ≡ says (tail g whole) c.push.new.self =
    λ g. j.goes_on e g ∙ (ap (at t (term (j.before e) g)) past ∙ (goes taken (term (j.before e) g) ∙ (right.goes_on (j.before e, g) ∙ same_word c.push.ensures.sheet c.push.ensures.token (tail g whole)))) in
    ends_by (λ g. tail g e) leaving (λ g. tail g whole) leaving n n xs _ c.more.result a c.push.new.self c.more.new.cursor
    sheet refl (c.more.ensures.is whole n xs count (numbered n xs whole sheet nodes)) (λ g. g) on (λ g x v. refl)

pub term-returns-in-Some-clause-is : goal.term-returns-in-Some-clause-is
term-returns-in-Some-clause-is r c =
    let a = c.args.cursor.now in
    let t = a.text.now in
    let w = a.token in
    let f = numbers a in
    let l = leaf_reads t f (token w) c.in-Some.node c.in-Some.ensures in
    let past = behind_leaf t f (meant w.word) w.place w.next c.in-Some.node c.in-Some.ensures in
    ends_at {C = Before × For} (λ k. term k.0 k.1) (λ k e. tail k.1 (with k.0 e)) a.count c.args.out.now _ c.step.result a c.push.new.self c.step.new.self l.tree _
    (omega (arith, l.one, c.push.ensures.count))
    (c.push.ensures.nodes ∙ ap (write c.args.out.now a.count) (sym (l.laid a.count)))
    (λ k. l.goes_on k.0 k.1 ∙ (ap (at t (tail k.1 (with k.0 l.tree))) past ∙ same_next c.push.ensures.sheet c.push.ensures.token (tail k.1 (with k.0 l.tree))))
    c.step.ensures.is

pub term-returns-in_err-expect-in-None-clause-is : goal.term-returns-in_err-expect-in-None-clause-is
term-returns-in_err-expect-in-None-clause-is r c =
    let a = c.args.cursor.now in
    refused _ _ _ _ _ _ _ _ c.in_err-expect-in-None.field-0.0 (search rules)
    (λ k. group_reads a.text.now (numbers a) (in_hand a) c.in-None.ensures k.0 k.1 ∙ stops c.in_err-expect-in-None.field-0.0 c.in_err-expect-in-None.ensures.is a.text.now (term start (group k.0 k.1)))

pub term-returns-in_err-expression-in-None-clause-is : goal.term-returns-in_err-expression-in-None-clause-is
term-returns-in_err-expression-in-None-clause-is r c =
    let a = c.args.cursor.now in
    refused _ _ _ _ _ _ _ _ c.in_err-expression-in-None.field-0.0 (search rules)
    (λ k. group_reads a.text.now (numbers a) (in_hand a) c.in-None.ensures k.0 k.1 ∙ (goes c.in_ok-expect-in-None.ensures.is (term start (group k.0 k.1)) ∙ c.in_err-expression-in-None.ensures.is (group k.0 k.1)))

pub term-returns-in_ok-expression-in-None-clause-is : goal.term-returns-in_ok-expression-in-None-clause-is
term-returns-in_ok-expression-in-None-clause-is r c =
    let a = c.args.cursor.now in
    let taken = c.in_ok-expect-in-None.ensures.is in
    closes {C = Before × For} (λ k. term k.0 k.1) (λ k e. tail k.1 (with k.0 e)) (λ g. term start g) leaving _ a.count c.args.out.now _ Close c.expect-in-None.result a c.expect.new.self c.expression.new.cursor c.expect-in-None.new.self
    taken.sheet taken.count c.in_ok-expression-in-None.ensures.is (λ k. group k.0 k.1)
    (λ k. group_reads a.text.now (numbers a) (in_hand a) c.in-None.ensures k.0 k.1 ∙ goes taken (term start (group k.0 k.1)))
    (λ k e. close_word k.0 k.1 e)
    c.expect-in-None.ensures.is
