use Rattle.std.proofs.Common.{◌≡◌, ◌+◌, ◌-◌, length, take, drop, sym, ap, ◌∙◌, arith}
use borrow.Rule.Slice.PartMut.{put_mid}
use Rattle.std.proofs.lemmas.List.{take-take}
use Rattle.std.proofs.lemmas.Slice.{take-put_mid_below, drop-put_mid, between-put_mid}
use Rattle.packed.proofs.packed.pool.splice.Goals as goal

pub returns : goal.returns
returns c =
    let from = c.args.from in
    let b = c.args.bytes.now in
    let to = from + length b in
    let k = c.shift.new.pool in
    let m = c.args.pool.now in
    let ys = c.copy_from_slice.new.self in
    let y = c.copy_from_slice.ensures.after in
    let d : to - from ≡ length b = omega arith in
    let yl = ap length y ∙ sym d in
    let t = c.args.end - c.args.to in
    let w = put_mid from (to - from) k ys in
    record {
      before = take-put_mid_below from (to - from) k ys from (omega arith) (omega arith) ∙ sym (take-take from to k (omega arith)) ∙ ap (take from) c.shift.ensures.before ∙ take-take from to m (omega arith);
      here = ap (λ n. take n (drop from w)) (sym d) ∙ between-put_mid from (to - from) k ys to (omega arith) yl ∙ y;
      behind = ap (take t) (drop-put_mid from (to - from) k ys to (omega arith) (omega arith) yl) ∙ c.shift.ensures.moved;
    }
