use Rattle.std.proofs.Common.{refl}
use Rattle.player.proofs.Moves.{go_skip}
use Rattle.player.proofs.player.Player.beat.Goals as goal

pub returns-in_default : goal.returns-in_default
returns-in_default g c =
    record { deck = c.go_on.ensures.deck; capacity = refl; slots = refl; state = go_skip c.args.self.now.course c.requires c.coming-coming.result c.coming-coming.ensures (g.S.Shelf.capacity c.args.self.now.shelf) (g.S.Shelf.values c.args.self.now.shelf) c.in_default.not-Assign c.in_default.not-If c.in_default.not-While c.go_on.new.self c.go_on.ensures }
