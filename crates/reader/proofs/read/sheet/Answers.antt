use Rattle.std.proofs.Common.{ℕ, List, sym, ap, ◌∙◌, arith, rules}
use Rattle.words.specs.declared.word.Word.{Word}
use Rattle.words.specs.Words.{meant}
use Rattle.grammar.specs.Grammar.{sheet}
use Rattle.grammar.specs.Machine as M
use Rattle.cursor.specs.Text.{seen_as, token, at}
use Rattle.cursor.proofs.Steps.{end_word}
use Rattle.reader.specs.Read.{judged}
use Rattle.reader.proofs.Whole.{short, sheet_refused, past_word, laid_whole}
use Rattle.reader.proofs.read.sheet.Goals as goal

pub returns-in_err-block : goal.returns-in_err-block
returns-in_err-block c =
    let some = c.in_ok-opened.ensures.is in
    let from = ap (λ (t : List ℕ). at t (M.series (M.whole some.tree)) (token c.in_ok-opened.opened.token)) c.in_ok-opened.ensures.on.0 in
    sheet_refused c.args.text.now _ _ _ c.in_err-block.field-0.0 (search rules) c.if-text-gt-LETTERS.false
    (some.goes_on ∙ (from ∙ c.in_err-block.ensures.is (λ o. M.whole some.tree) (λ o a. M.over (sheet some.tree a)) (λ o a. end_word some.tree a) (M.whole some.tree)))

pub returns-in_default : goal.returns-in_default
returns-in_default c =
    let some = c.in_ok-opened.ensures.is in
    let from = ap (λ (t : List ℕ). at t (M.series (M.whole some.tree)) (token c.in_ok-opened.opened.token)) c.in_ok-opened.ensures.on.0 in
    let all = c.in_ok-block.ensures.is (λ o. M.whole some.tree) (λ o a. M.over (sheet some.tree a)) (λ o a. end_word some.tree a) in
    let b = c.block.new.cursor in
    short c.args.text.now c.if-text-gt-LETTERS.false
    ∙ ap judged (some.goes_on ∙ (from ∙ (all.goes_on (M.whole some.tree) ∙ past_word b.text.now (sheet some.tree all.tree) b.token.word b.token.place b.token.next c.in_default.not-End)))

pub returns-in-End : goal.returns-in-End
returns-in-End c =
    let t = c.args.text.now in
    let some = c.in_ok-opened.ensures.is in
    let from = ap (λ (t : List ℕ). at t (M.series (M.whole some.tree)) (token c.in_ok-opened.opened.token)) c.in_ok-opened.ensures.on.0 in
    let all = c.in_ok-block.ensures.is (λ o. M.whole some.tree) (λ o a. M.over (sheet some.tree a)) (λ o a. end_word some.tree a) in
    let b = c.block.new.cursor in
    record {
      tree = sheet some.tree all.tree;
      says = short t c.if-text-gt-LETTERS.false ∙ ap judged (some.goes_on ∙ (from ∙ (all.goes_on (M.whole some.tree) ∙ ap (λ (x : Word). at b.text.now (M.over (sheet some.tree all.tree)) (seen_as (meant x) b.token.place b.token.next)) c.in-End.is)));
      nodes = omega (arith, all.count, some.listed.count);
      variables = some.listed.count ∙ sym some.listed.sized;
      laid_out = λ h. laid_whole t some.tree all.tree c.in_ok-opened.opened.count c.args.out.now _ _ _ _ some.listed all.nodes c.as_slice.ensures.value h;
    }
