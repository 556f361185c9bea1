use Rattle.std.proofs.Common.{◌≡◌, Ok, Err, sym, ap, ◌∙◌, rules}
use Rattle.nodes.specs.Limits.{most_nodes, most_letters}
use Rattle.card.specs.declared.flaw.Flaw.TheVariants.{Card, Sheet}
use Rattle.card.specs.Calls.{verdict_of, unpacked}
use Rattle.card.proofs.Judging.{ample, of_card, of_sheet}
use Rattle.card.proofs.judge.assess.Goals as goal

pub returns-in_err-n : goal.returns-in_err-n
returns-in_err-n c =
    let x = c.in_err-n.field-0.0 in
    let e : c.from_residual.result ≡ Err (Card x) = search rules in
    e ∙ of_card (unpacked c.args.card.now most_nodes most_letters) x c.in_err-n.ensures.says ∙ ap verdict_of (ample c.args.card.now)

pub returns-in_err-check : goal.returns-in_err-check
returns-in_err-check c =
    let x = c.in_err-check.field-0.0 in
    let e : c.from_residual-in_err-check.result ≡ Err (Sheet x.refusal) = search rules in
    e ∙ of_sheet (unpacked c.args.card.now most_nodes most_letters) c.in_ok-n.field-0 most_nodes most_letters c.unpack.new.nodes c.unpack.new.letters _ (Err x)
    c.in_ok-n.ensures.says c.unpack.ensures.nodes c.unpack.ensures.letters (search rules) (sym c.in_err-check.was ∙ c.check.ensures)
    ∙ ap verdict_of (ample c.args.card.now)

pub returns : goal.returns
returns c =
    of_sheet (unpacked c.args.card.now most_nodes most_letters) c.in_ok-n.field-0 most_nodes most_letters c.unpack.new.nodes c.unpack.new.letters _ (Ok tt)
    c.in_ok-n.ensures.says c.unpack.ensures.nodes c.unpack.ensures.letters (search rules) (sym c.in_ok-check.was ∙ c.check.ensures)
    ∙ ap verdict_of (ample c.args.card.now)
