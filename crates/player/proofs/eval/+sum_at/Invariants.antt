use Rattle.player.proofs.eval.+sum_at.Given as goal

abbrev pub decreases-sum_at : goal.decreases-sum_at
decreases-sum_at g l = l.i
