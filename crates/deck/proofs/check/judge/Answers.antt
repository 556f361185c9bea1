use Rattle.std.proofs.Common.{◌≡◌, ◌+◌, length, Ok, Err, sym, ap, ◌∙◌, arith, rules}
use Rattle.deck.specs.Load.{first, judged, after, whole}
use Rattle.deck.specs.Rules.{taken}
use Rattle.deck.proofs.Scan.{first_on, refused_at}
use Rattle.deck.proofs.Clean.{names_given, judged_on}
use Rattle.std.specs.Result.{IsErrAnd}
use Rattle.deck.proofs.check.judge.Goals as goal

pub new-judgement-requires-clause-named : goal.new-judgement-requires-clause-named
new-judgement-requires-clause-named c = (names_given c.deref.result.now c.args.nodes.now c.args.v (omega arith) (search rules)).1

pub loop-i-init : goal.loop-i-init
loop-i-init c = record {
  sheet = c.new-judgement.ensures.sheet ∙ ap (λ k. record { letters = c.args.letters.now; nodes = c.args.nodes.now; variables = k }) (names_given c.deref.result.now c.args.nodes.now c.args.v (omega arith) (search rules)).0;
  rows = ap length c.new-judgement.ensures.none;
  passed = ap (λ k. first (judged c.args.letters.now c.args.nodes.now c.args.v) k 0) (omega arith);
}

pub returns-in_err-map_err : goal.returns-in_err-map_err
returns-in_err-map_err c =
    let i = c.loop-i.invariant in
    let w = whole c.args.nodes.now (taken c.args.nodes.now (length c.args.nodes.now)) (length c.args.nodes.now) c.args.v in
    let e : IsErrAnd c.judge.result (λ x. c.from_residual.result ≡ Err (record { refusal = x; node = c.loop-i.i-counter })) = search rules in
    refused_at (judged c.args.letters.now c.args.nodes.now c.args.v) (length c.args.nodes.now) c.loop-i.i-counter c.judge.result w c.from_residual.result c.loop-i-test.true
    (judged_on c.loop-i.judgement c.args.letters.now c.args.nodes.now c.args.v c.loop-i.i-counter c.judge.result i.sheet i.rows c.judge.ensures.says) e
    ∙ sym (ap (λ r. after r w) i.passed)

pub loop-i-preserved : goal.loop-i-preserved
loop-i-preserved c =
    let i = c.loop-i.invariant in
    let e : c.judge.result ≡ Ok tt = search rules in
    let n : length c.judge.new.self.rows.items ≡ length c.loop-i.judgement.rows.items + 1 = search rules in
    record {
      sheet = c.judge.ensures.sheet ∙ i.sheet;
      rows = omega arith;
      passed = i.passed ∙ first_on (judged c.args.letters.now c.args.nodes.now c.args.v) (length c.args.nodes.now) c.loop-i.i-counter c.loop-i-test.true
          (judged_on c.loop-i.judgement c.args.letters.now c.args.nodes.now c.args.v c.loop-i.i-counter (Ok tt) i.sheet i.rows (sym e ∙ c.judge.ensures.says));
    }
