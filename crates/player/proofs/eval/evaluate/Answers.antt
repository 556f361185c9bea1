use Rattle.std.proofs.Common.{◌∙◌, get_or, arith}
use Rattle.shelf.specs.Value.{number}
use Rattle.shelf.proofs.Values.{short_bytes}
use Rattle.player.proofs.Evaluate.{handed_on, spelling_ok, spelling_err, kind_joins, no_text, computed_seen, computed_joins, computed_number}
use Rattle.player.proofs.eval.evaluate.Goals as goal

pub spell_at-requires : goal.spell_at-requires
spell_at-requires g c = record { text = kind_joins c.args.deck.now c.args.i c.view_at.result c.view_at.ensures c.in-Text.is; place = omega arith }

pub amount_at-requires : goal.amount_at-requires
amount_at-requires g c = no_text c.args.deck.now c.args.i c.view_at.result c.view_at.ensures c.in_default.not-Variable c.in_default.not-Text c.in_default.not-Conc

pub returns-in-Variable : goal.returns-in-Variable
returns-in-Variable g c = computed_seen c.args.deck.now c.args.i c.view_at.result c.view_at.ensures (g.S.Shelf.values c.args.shelf.now) _ _ c.in-Variable.number c.seen.result c.args.line.now c.seen.new.line _ (short_bytes (get_or (g.S.Shelf.values c.args.shelf.now) c.in-Variable.number (number 0)) (g.S.Shelf.laws.within c.args.shelf.now c.in-Variable.number)) c.in-Variable.is c.seen.ensures.answer c.seen.ensures.line c.unwrap_or.ensures

pub returns-in_ok-end-in-Text : goal.returns-in_ok-end-in-Text
returns-in_ok-end-in-Text g c = computed_joins c.args.deck.now c.args.i c.view_at.result c.view_at.ensures (g.S.Shelf.values c.args.shelf.now) c.in-Text.is c.args.line.now c.spell_at.new.line c.spell_at.result _ c.spell_at.ensures (spelling_ok _ _ c.in_ok-end-in-Text.ensures.value)

pub returns-in_err-end-in-Text : goal.returns-in_err-end-in-Text
returns-in_err-end-in-Text g c = computed_joins c.args.deck.now c.args.i c.view_at.result c.view_at.ensures (g.S.Shelf.values c.args.shelf.now) c.in-Text.is c.args.line.now c.spell_at.new.line c.spell_at.result _ c.spell_at.ensures (handed_on _ _ c.from_residual.ensures.1 ∙ spelling_err _ _ c.in_err-end-in-Text.ensures.value)

pub returns-in_default : goal.returns-in_default
returns-in_default g c = computed_number c.args.deck.now c.args.i c.view_at.result c.view_at.ensures (g.S.Shelf.values c.args.shelf.now) c.amount_at.result c.map.result _ c.in_default.not-Variable c.in_default.not-Text c.in_default.not-Conc c.amount_at.ensures c.map.ensures.cases
