use Rattle.deck.proofs.Exactly.{exactly}
use Rattle.deck.proofs.laws.load_accepts_exactly.Goals as goal

pub returns : goal.returns
returns c = exactly
