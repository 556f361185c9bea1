use Rattle.std.proofs.Common.{◌≡◌, ◌+◌, ◌-◌, length, drop, ap, ◌∙◌, rules, tests, arith, length-drop}
use Rattle.std.proofs.lemmas.Iterator.{YieldsList-from_slice}
use Rattle.std.proofs.lemmas.Iterator.Consumers.{count_from_yields_List}
use Rattle.std.proofs.lemmas.Iterator.Search.{YieldsList-from_take_while}
use Rattle.std.proofs.lemmas.List.{take_all}
use Rattle.std.proofs.lemmas.List.Folds.{length-prefix_len}
use Rattle.words.specs.Bytes.{member}
use Rattle.words.proofs.byte.run_end.Goals as goal

pub returns-clause-is : goal.returns-clause-is
returns-clause-is c =
    let t = c.args.text.now in
    let rest = drop c.args.at t in
    let all : c.iter.result.rest.now ≡ rest = c.iter.ensures.rest ∙ take_all (length t - c.args.at) rest (omega (arith, length-drop c.args.at t)) in
    ap (λ n. c.args.at + n)
    (count_from_yields_List c.take_while.result _ c.count-run.ensures.ran (YieldsList-from_take_while _ (member c.args.class) (YieldsList-from_slice rest cc) c.take_while.ensures.closure c.take_while.ensures.done (λ x b q k. search (rules, tests)))
    ∙ length-prefix_len (member c.args.class) rest)
