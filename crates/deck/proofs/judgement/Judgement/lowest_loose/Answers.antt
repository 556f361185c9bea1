use Rattle.std.proofs.Common.{◌-◌, length, take, ap, ◌∙◌}
use Rattle.deck.proofs.Marks.{loose_all}
use Rattle.deck.proofs.judgement.Judgement.lowest_loose.Goals as goal

pub returns : goal.returns
returns c =
    let j = c.args.self.now in
    c.lowest_loose.ensures ∙ loose_all j.nodes.now j.rows.items (take (length j.nodes.now - 1) c.deref.result.now) (length j.names.now) j.tied c.requires.all c.requires.some (ap (take (length j.nodes.now - 1)) c.deref.ensures.0)
