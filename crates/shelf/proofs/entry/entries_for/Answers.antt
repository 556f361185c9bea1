use Rattle.std.proofs.Common.{◌≡◌, min, map, length, take, ap, ◌∙◌, arith, length-take}
use Rattle.shelf.specs.Limits.{most_slots}
use Rattle.shelf.specs.Entries.{entry_for}
use Rattle.shelf.proofs.Lists.{take_min}
use Rattle.shelf.proofs.entry.entries_for.Goals as goal

pub returns : goal.returns
returns c =
    let ks = c.args.kinds.now in
    let all : c.loop-kind.kind-index ≡ min (length ks) most_slots = omega (arith, length-take c.min.result ks) in
    c.loop-kind.invariant ∙ ap (map entry_for) (ap (λ n. take n ks) all ∙ take_min ks most_slots)
