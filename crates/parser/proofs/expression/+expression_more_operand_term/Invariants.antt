use Rattle.std.proofs.Common.{◌+◌, ◌-◌, ◌*◌, length}
use Rattle.parser.proofs.expression.+expression_more_operand_term.Given as goal

abbrev pub decreases-expression : goal.decreases-expression
decreases-expression l = 2 * (length l.cursor.now.text.now - l.cursor.now.token.place) + 1

abbrev pub decreases-more : goal.decreases-more
decreases-more l = 2 * (length l.cursor.now.text.now - l.cursor.now.token.place)

abbrev pub decreases-term : goal.decreases-term
decreases-term l = 2 * (length l.cursor.now.text.now - l.cursor.now.token.place)

abbrev pub decreases-operand : goal.decreases-operand
decreases-operand l = 2 * (length l.cursor.now.text.now - l.cursor.now.token.place) + 1
