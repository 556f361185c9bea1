use Rattle.std.proofs.Common.{rules, tests}
use Rattle.std.proofs.lemmas.Iterator.{YieldsList-from_slice}
use Rattle.std.proofs.lemmas.Iterator.Search.{find_from_yields_List}
use Rattle.spelling.specs.Table.{spells}
use Rattle.spelling.proofs.Search.{found_from}
use Rattle.spelling.proofs.first.Goals as goal

pub returns : goal.returns
returns g c =
    let h = find_from_yields_List (λ e. spells c.args.letters.now c.args.spelling.now e.place e.size) _ _ c.find.result c.find.ensures.ran (YieldsList-from_slice c.args.entries.now cc) (λ x b q k. search (rules, tests)) in
    found_from c.args.letters.now c.args.spelling.now c.args.entries.now c.find.result c.map.result h c.map.ensures.cases (λ e v p. search (rules, tests))
