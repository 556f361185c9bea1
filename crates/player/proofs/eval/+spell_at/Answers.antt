use Rattle.std.proofs.Common.{◌≡◌, ◌+◌, ◌-◌, ◌<◌, ◌≤◌, length, get_or, take, drop, sym, ap, subst, arith, rules}
use Rattle.nodes.specs.Nodes.{kinds, view_at}
use Rattle.deck.specs.Sound.{kind_in}
use Rattle.deck.specs.Sheets.{sheet_of}
use Rattle.shelf.specs.Value.{number}
use Rattle.shelf.proofs.Values.{short_bytes}
use Rattle.player.proofs.Evaluate.{conc_leads, text_fits, spell_variable, spell_no_entry, spell_text, spell_conc, spell_conc_none, mid_fits, no_text}
use Rattle.semantics.specs.Syntax.{expression}
use Rattle.semantics.specs.Expressions.{value}
use Rattle.player.specs.Evaluation.{Spelled}
use Rattle.player.proofs.eval.+spell_at.Goals as goal

pub slice_bounds-append-end-in-Text : goal.slice_bounds-append-end-in-Text
slice_bounds-append-end-in-Text g t c =
    let p = text_fits c.args.deck.now c.args.i c.view_at.result c.view_at.ensures c.in-Text.place c.in-Text.size c.in-Text.is in
    let r = p.1 in
    let q = ap length c.letters-letters.ensures in
    omega arith

pub spell_at-requires : goal.spell_at-requires
spell_at-requires g t c κs within =
    let p = conc_leads c.args.deck.now c.args.i c.view_at.result c.view_at.ensures c.in-Conc.left c.in-Conc.right c.in-Conc.is in
    let q : c.in-Conc.left < c.args.i = p.0.lower in
    let n : kind_in (kinds (sheet_of c.args.deck.now)) (view_at (sheet_of c.args.deck.now).nodes c.in-Conc.left) ≡ 2 = p.0.agrees in
    let r : c.args.at ≤ 80 = c.requires.place in
    search rules

pub spell_at-requires-in-Conc : goal.spell_at-requires-in-Conc
spell_at-requires-in-Conc g t c κs within =
    let p = conc_leads c.args.deck.now c.args.i c.view_at.result c.view_at.ensures c.in-Conc.left c.in-Conc.right c.in-Conc.is in
    let q : c.in-Conc.right < c.args.i = p.1.lower in
    let n : kind_in (kinds (sheet_of c.args.deck.now)) (view_at (sheet_of c.args.deck.now).nodes c.in-Conc.right) ≡ 2 = p.1.agrees in
    let r : c.in_ok-mid-in-Conc.mid ≤ 80 = mid_fits _ _ _ _ _ c.in_ok-mid-in-Conc.ensures in
    search rules

pub returns-in_ok-mid-in-Conc : goal.returns-in_ok-mid-in-Conc
returns-in_ok-mid-in-Conc g t c = spell_conc c.args.deck.now c.args.i c.view_at.result c.view_at.ensures (g.S.Shelf.values c.args.shelf.now) c.in-Conc.left c.in-Conc.right c.args.line.now c.spell_at.new.line c.spell_at-in-Conc.new.line c.args.at c.in_ok-mid-in-Conc.mid _ c.in-Conc.is c.in_ok-mid-in-Conc.ensures c.spell_at-in-Conc.ensures

pub returns-in_err-mid-in-Conc : goal.returns-in_err-mid-in-Conc
returns-in_err-mid-in-Conc g t c =
    subst (Spelled (value (g.S.Shelf.values c.args.shelf.now) (expression (sheet_of c.args.deck.now) c.args.i)) c.args.line.now c.spell_at.new.line c.args.at) (sym c.from_residual.ensures)
    (spell_conc_none c.args.deck.now c.args.i c.view_at.result c.view_at.ensures (g.S.Shelf.values c.args.shelf.now) c.in-Conc.left c.in-Conc.right c.args.line.now c.spell_at.new.line c.args.at c.in-Conc.is c.in_err-mid-in-Conc.ensures)

pub returns-in-Ok : goal.returns-in-Ok
returns-in-Ok g t c =
    spell_variable c.args.deck.now c.args.i c.view_at.result c.view_at.ensures (g.S.Shelf.values c.args.shelf.now) _ _ c.in-Variable.number c.in-Ok.n _ c.text.new.line _ c.args.line.now c.append.new.line c.args.at _ (short_bytes (get_or (g.S.Shelf.values c.args.shelf.now) c.in-Variable.number (number 0)) (g.S.Shelf.laws.within c.args.shelf.now c.in-Variable.number)) c.in-Variable.is c.in-Ok.ensures.answer c.text.ensures.line (ap (λ n. take n c.text.new.line) (omega arith)) c.append.ensures

pub returns-in-Err : goal.returns-in-Err
returns-in-Err g t c = spell_no_entry c.args.deck.now c.args.i c.view_at.result c.view_at.ensures (g.S.Shelf.values c.args.shelf.now) _ _ c.in-Variable.number _ _ c.args.line.now c.args.at c.requires.place c.in-Variable.is c.in-Err.ensures.answer

pub returns-in-Text : goal.returns-in-Text
returns-in-Text g t c =
    spell_text c.args.deck.now c.args.i c.view_at.result c.view_at.ensures (g.S.Shelf.values c.args.shelf.now) c.in-Text.place c.in-Text.size _ _ c.args.line.now c.append-in-Text.new.line c.args.at _ c.in-Text.is (omega arith) (ap (λ l. take (c.in-Text.place + c.in-Text.size - c.in-Text.place) (drop c.in-Text.place l)) c.letters-letters.ensures) c.append-in-Text.ensures

pub returns-in_default : goal.returns-in_default
returns-in_default g t c = absurd (no_text c.args.deck.now c.args.i c.view_at.result c.view_at.ensures c.in_default.not-Variable c.in_default.not-Text c.in_default.not-Conc c.requires.text)
