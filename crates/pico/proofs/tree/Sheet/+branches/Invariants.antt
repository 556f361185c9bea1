use Rattle.pico.proofs.tree.Sheet.+branches.Given as goal

abbrev pub decreases-branches : goal.decreases-branches
decreases-branches l = l.i
