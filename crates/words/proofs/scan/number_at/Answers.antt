use Rattle.std.proofs.Common.{rules}
use Rattle.std.proofs.lemmas.List.Sums.{prefix_len-drop_yes}
use Rattle.words.proofs.scan.number_at.Goals as goal

pub returns-in-Some : goal.returns-in-Some
returns-in-Some c = record { is = search rules; on = search (rules, prefix_len-drop_yes); stays = search rules }
