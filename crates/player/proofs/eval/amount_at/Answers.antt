use Rattle.std.proofs.Common.{refl}
use Rattle.player.proofs.Evaluate.{is_variable, is_number}
use Rattle.player.proofs.eval.amount_at.Goals as goal

pub returns-in-Variable : goal.returns-in-Variable
returns-in-Variable g c = is_variable c.args.deck.now c.args.i c.view_at.result c.view_at.ensures (g.S.Shelf.values c.args.shelf.now) _ _ c.in-Variable.number _ c.in-Variable.is c.number_at.ensures

pub returns-in-Number : goal.returns-in-Number
returns-in-Number g c = is_number c.args.deck.now c.args.i c.view_at.result c.view_at.ensures (g.S.Shelf.values c.args.shelf.now) _ _ c.in-Number.is refl
