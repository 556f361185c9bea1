use Rattle.std.proofs.Common.{◌≡◌, length, rules, ap, ◌∙◌, sym}
use Rattle.nodes.specs.Nodes.{arrows_of, view_of, all_lead}
use Rattle.deck.specs.Load.{judged}
use Rattle.deck.proofs.Clean.{clean, said_is}
use Rattle.deck.proofs.judgement.Judgement.judge.Goals as goal

pub returns-in_err-say-clause-says : goal.returns-in_err-say-clause-says
returns-in_err-say-clause-says c =
    let j = c.args.self.now in
    let s : c.say.result ≡ judged j.letters.now j.nodes.now (length j.names.now) (length j.rows.items) = said_is j.letters.now j.names.now j.nodes.now j.rows.items c.args.x c.say.result j.tied j.named c.requires.here c.say.ensures in
    search rules

pub pass-requires : goal.pass-requires
pass-requires c =
    let j = c.args.self.now in
    let s : c.say.result ≡ judged j.letters.now j.nodes.now (length j.names.now) (length j.rows.items) = said_is j.letters.now j.names.now j.nodes.now j.rows.items c.args.x c.say.result j.tied j.named c.requires.here c.say.ensures in
    let k = clean j.letters.now j.nodes.now (length j.names.now) (length j.rows.items) (sym s ∙ c.in_ok-say.was) in
    record {
      some = c.requires.some;
      here = c.requires.here;
      led = ap (λ x. all_lead j.nodes.now (length j.rows.items) (arrows_of (view_of x))) c.requires.here ∙ k.led;
      level = k.level_few;
      nest = k.nest_few;
    }

pub returns-clause-says : goal.returns-clause-says
returns-clause-says c =
    let j = c.args.self.now in
    let s : c.say.result ≡ judged j.letters.now j.nodes.now (length j.names.now) (length j.rows.items) = said_is j.letters.now j.names.now j.nodes.now j.rows.items c.args.x c.say.result j.tied j.named c.requires.here c.say.ensures in
    sym c.in_ok-say.was ∙ s
