use Rattle.std.proofs.Common.{◌≡◌, None, rules, ap, ◌∙◌}
use Rattle.deck.specs.Tied.{loose}
use Rattle.deck.proofs.Marks.{loose_none, loose_some}
use Rattle.deck.proofs.row.lowest_loose.Goals as goal

pub returns-in_err-place : goal.returns-in_err-place
returns-in_err-place c =
    let e : c.from_residual.result ≡ None = search rules in
    ap loose e ∙ loose_none c.args.rows.now c.args.from c.requires.order (search rules)

pub returns : goal.returns
returns c = loose_some c.args.rows.now c.args.from c.in_ok-place.place c.requires.order (search rules)
