use Rattle.std.proofs.Common.{◌-◌, ◌≤◌, length, take, drop, ap, ◌∙◌, arith, length-drop}
use Rattle.packed.proofs.Moves.{paste_before, paste_here}
use Rattle.packed.proofs.packed.pool.shift.Goals as goal

pub returns-then-to-from : goal.returns-then-to-from
returns-then-to-from c =
    let m = c.args.pool.now in
    let n = c.args.end - c.args.from in
    let s = drop c.args.from m in
    let l : n ≤ length s = simp length-drop (omega arith) in
    let a = c.copy_within.ensures.after in
    record {
      before = ap (take c.args.to) a ∙ paste_before m s c.args.to n c.requires.2 l;
      moved = ap (λ z. take n (drop c.args.to z)) a ∙ paste_here m s c.args.to n c.requires.2 l;
    }
