use Rattle.player.proofs.eval.+spell_at.Given as goal

abbrev pub decreases-spell_at : goal.decreases-spell_at
decreases-spell_at g l = l.i
