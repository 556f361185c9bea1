use Rattle.std.proofs.Common.{sym, refl, ◌∙◌, rules}
use Rattle.grammar.specs.Grammar.{Integer, integer, string}
use Rattle.grammar.specs.Machine as M
use Rattle.cursor.specs.Reading.{in_hand}
use Rattle.cursor.proofs.Steps.{integer_at, string_at}
use Rattle.cursor.proofs.Reading.{goes, stops, steps, steps_not}
use Rattle.parser.proofs.Chains.{type_refused}
use Rattle.parser.proofs.declarations.kind.Goals as goal

pub returns-in_err-step-clause-is : goal.returns-in_err-step-clause-is
returns-in_err-step-clause-is c =
    let a = c.args.cursor.now in
    let i = sym c.if-is.ensures in
    type_refused _ _ _ c.in_err-step.field-0.0 (search rules)
    (λ g n. steps_not Integer (M.sorting g n) (M.declared (M.declare g n integer)) a c.in_err-step.field-0.0 i (integer_at a.text.now g n (in_hand a) i) c.in_err-step.ensures.is)

pub returns-in_ok-step-clause-is : goal.returns-in_ok-step-clause-is
returns-in_ok-step-clause-is c =
    let a = c.args.cursor.now in
    let i = sym c.if-is.ensures in
    record { sort = integer; kind = refl; goes_on = λ g n. steps Integer (M.sorting g n) (M.declared (M.declare g n integer)) a c.step.new.self i (integer_at a.text.now g n (in_hand a) i) c.in_ok-step.ensures.is }

pub returns-in_err-expect-clause-is : goal.returns-in_err-expect-clause-is
returns-in_err-expect-clause-is c =
    let a = c.args.cursor.now in
    type_refused _ _ _ c.in_err-expect.field-0.0 (search rules)
    (λ g n. string_at a.text.now g n (in_hand a) (sym c.if-is.ensures) ∙ stops c.in_err-expect.field-0.0 c.in_err-expect.ensures.is a.text.now (M.declared (M.declare g n string)))

pub returns-in_ok-expect-clause-is : goal.returns-in_ok-expect-clause-is
returns-in_ok-expect-clause-is c =
    let a = c.args.cursor.now in
    record { sort = string; kind = refl; goes_on = λ g n. string_at a.text.now g n (in_hand a) (sym c.if-is.ensures) ∙ goes c.in_ok-expect.ensures.is (M.declared (M.declare g n string)) }
