use Rattle.std.proofs.Common.{◌∙◌, rules, tests}
use Rattle.std.proofs.lemmas.Iterator.{YieldsList-from_slice}
use Rattle.std.proofs.lemmas.Iterator.Search.{all_from_yields_List}
use Rattle.words.specs.Bytes.{member}
use Rattle.words.proofs.Bytes.{list_all-every}
use Rattle.words.proofs.byte.all.Goals as goal

pub returns : goal.returns
returns c =
    all_from_yields_List (member c.args.class) _ _ c.all.result c.all.ensures.ran (YieldsList-from_slice c.args.bytes.now cc) (λ x b q k. search (rules, tests))
    ∙ list_all-every (member c.args.class) c.args.bytes.now
