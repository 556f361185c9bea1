use Rattle.std.proofs.Common.{refl, rules}
use Rattle.grammar.specs.Machine.{term, start, leaving}
use Rattle.cursor.proofs.Reading.{same_sheet}
use Rattle.parser.proofs.Chains.{refused, closes}
use Rattle.parser.proofs.statement.test.Goals as goal

pub returns-clause-is : goal.returns-clause-is
returns-clause-is c =
    let a = c.args.cursor.now in
    λ k next only. closes (λ o. term start (k o)) next (λ g. term start g) leaving a.count a.count c.args.out.now _ c.args.word c.expect.result a a c.expression.new.cursor c.expect.new.self
    (same_sheet a) refl c.in_ok-expression.ensures.is k (λ o. refl) only c.expect.ensures.is

pub returns-in_err-expression-clause-is : goal.returns-in_err-expression-clause-is
returns-in_err-expression-clause-is c = λ k next only. refused _ _ _ _ _ _ _ _ c.in_err-expression.field-0.0 (search rules) (λ o. c.in_err-expression.ensures.is (k o))
