use Rattle.std.proofs.Common.{◌+◌, ◌-◌, ◌*◌, get_or, drop, sym, ap, ◌∙◌, arith, rules}
use Rattle.words.specs.Words.{value}
use Rattle.words.proofs.Value.{value_grows, value_more, value_all, limited_some, limited_none, limited_above}
use Rattle.words.proofs.scan.value_of.Goals as goal

pub returns-in_err-v : goal.returns-in_err-v
returns-in_err-v c =
    let n = c.loop-d.v * 10 + (get_or c.args.digits.now c.loop-d.d-index 0 - 48) in
    let step = value_more c.loop-d.v c.args.digits.now c.loop-d.d-index c.loop-d-test.true in
    let big = limited_none n c.in_err-v.ensures in
    let grows = value_grows n (drop (c.loop-d.d-index + 1) c.args.digits.now) in
    c.from_residual.ensures ∙ limited_above (value 0 c.args.digits.now) (omega arith)

pub loop-d-preserved : goal.loop-d-preserved
loop-d-preserved c =
    let n = c.loop-d.v * 10 + (get_or c.args.digits.now c.loop-d.d-index 0 - 48) in
    let step = value_more c.loop-d.v c.args.digits.now c.loop-d.d-index c.loop-d-test.true in
    let is = limited_some n c.in_ok-v.v c.in_ok-v.ensures in
    (omega arith, ap (λ m. value m (drop (c.loop-d.d-index + 1) c.args.digits.now)) is.0 ∙ (sym step ∙ c.loop-d.invariant.1))

pub returns : goal.returns
returns c = search (rules, value_all)
