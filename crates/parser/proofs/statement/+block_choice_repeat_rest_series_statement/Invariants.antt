use Rattle.std.proofs.Common.{◌+◌, ◌-◌, ◌*◌, length}
use Rattle.parser.proofs.statement.+block_choice_repeat_rest_series_statement.Given as goal

abbrev pub decreases-choice : goal.decreases-choice
decreases-choice l = 4 * (length l.cursor.now.text.now - l.cursor.now.token.place)

abbrev pub decreases-repeat : goal.decreases-repeat
decreases-repeat l = 4 * (length l.cursor.now.text.now - l.cursor.now.token.place)

abbrev pub decreases-rest : goal.decreases-rest
decreases-rest l = 4 * (length l.cursor.now.text.now - l.cursor.now.token.place)

abbrev pub decreases-statement : goal.decreases-statement
decreases-statement l = 4 * (length l.cursor.now.text.now - l.cursor.now.token.place) + 1

abbrev pub decreases-series : goal.decreases-series
decreases-series l = 4 * (length l.cursor.now.text.now - l.cursor.now.token.place) + 2

abbrev pub decreases-block : goal.decreases-block
decreases-block l = 4 * (length l.cursor.now.text.now - l.cursor.now.token.place) + 3
