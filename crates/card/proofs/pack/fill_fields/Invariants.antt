use Rattle.std.proofs.Common.{◌≡◌, ◌*◌, take}
use Rattle.std.specs.List.{flat_map}
use Rattle.card.specs.Card.{fields_of}
use Rattle.card.proofs.pack.fill_fields.Given as goal

abbrev pub invariant-loop-i : goal.invariant-loop-i
invariant-loop-i l = take (6 * l.i) l.out ≡ flat_map fields_of (take l.i l.nodes)
