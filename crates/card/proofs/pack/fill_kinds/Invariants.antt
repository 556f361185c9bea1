use Rattle.std.proofs.Common.{◌≡◌, map, take}
use Rattle.card.proofs.pack.fill_kinds.Given as goal

abbrev pub invariant-loop-i : goal.invariant-loop-i
invariant-loop-i l = take l.i l.out ≡ take l.i (map (λ x. x.kind) l.nodes)
