use Rattle.std.proofs.Common.{◌≡◌, ◌<◌, ◌∙◌, arith, rules}
use Rattle.nodes.specs.Nodes.{kinds, view_at}
use Rattle.deck.specs.Sound.{kind_in}
use Rattle.deck.specs.Sheets.{sheet_of}
use Rattle.player.proofs.Evaluate.{plus_leads, sum_variable, sum_number, sum_plus, sum_rest}
use Rattle.player.proofs.eval.+sum_at.Goals as goal

pub sum_at-x-requires : goal.sum_at-x-requires
sum_at-x-requires g t c κs within =
    let p = plus_leads c.args.deck.now c.args.i c.view_at.result c.view_at.ensures c.in-Plus.left c.in-Plus.right c.in-Plus.is in
    let q : c.in-Plus.left < c.args.i = p.0.lower in
    let n : kind_in (kinds (sheet_of c.args.deck.now)) (view_at (sheet_of c.args.deck.now).nodes c.in-Plus.left) ≡ 2 → ⊥ = λ e. (let j = p.0.agrees in omega arith) in
    search rules

pub sum_at-y-requires : goal.sum_at-y-requires
sum_at-y-requires g t c κs within =
    let p = plus_leads c.args.deck.now c.args.i c.view_at.result c.view_at.ensures c.in-Plus.left c.in-Plus.right c.in-Plus.is in
    let q : c.in-Plus.right < c.args.i = p.1.lower in
    let n : kind_in (kinds (sheet_of c.args.deck.now)) (view_at (sheet_of c.args.deck.now).nodes c.in-Plus.right) ≡ 2 → ⊥ = λ e. (let j = p.1.agrees in omega arith) in
    search rules

pub returns-in-Variable : goal.returns-in-Variable
returns-in-Variable g t c = sum_variable c.args.deck.now c.args.i c.view_at.result c.view_at.ensures (g.S.Shelf.values c.args.shelf.now) _ _ c.in-Variable.number _ c.in-Variable.is (omega arith) (c.into.ensures ∙ c.number_at.ensures)

pub returns-in-Number : goal.returns-in-Number
returns-in-Number g t c = sum_number c.args.deck.now c.args.i c.view_at.result c.view_at.ensures (g.S.Shelf.values c.args.shelf.now) _ _ c.in-Number.is (omega arith) c.into-in-Number.ensures

pub returns-in-Plus : goal.returns-in-Plus
returns-in-Plus g t c = sum_plus c.args.deck.now c.args.i c.view_at.result c.view_at.ensures (g.S.Shelf.values c.args.shelf.now) c.in-Plus.left c.in-Plus.right _ _ _ c.in-Plus.is c.sum_at-x.ensures c.sum_at-y.ensures c.saturating_add.ensures

pub returns-in_default : goal.returns-in_default
returns-in_default g t c = sum_rest c.args.deck.now c.args.i c.view_at.result c.view_at.ensures (g.S.Shelf.values c.args.shelf.now) c.requires c.in_default.not-Variable c.in_default.not-Number c.in_default.not-Plus
