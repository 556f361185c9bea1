use Rattle.std.proofs.Common.{◌-◌, length}
use Rattle.parser.proofs.declarations.+others.Given as goal

abbrev pub decreases-others : goal.decreases-others
decreases-others l = length l.cursor.now.text.now - l.cursor.now.token.place
