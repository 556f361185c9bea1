use Rattle.std.proofs.Common.{◌+◌, ◌≤◌, rules}
use Rattle.words.specs.Bytes.{alnum, runs_to}
use Rattle.words.proofs.Spelled.{run_some}
use Rattle.words.proofs.scan.name_at.Goals as goal

pub returns : goal.returns
returns c =
    let some : c.args.at + 1 ≤ runs_to alnum c.args.text.now c.args.at = run_some alnum c.args.text.now c.args.at c.requires.0 c.requires.1 in
    record { is = search rules; on = search rules }
