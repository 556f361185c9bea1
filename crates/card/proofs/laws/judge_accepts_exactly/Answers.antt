use Rattle.card.proofs.Lawful.{judges as law}
use Rattle.card.proofs.laws.judge_accepts_exactly.Goals as goal

pub returns : goal.returns
returns c = law
