use Rattle.std.proofs.Common.{◌≡◌, ◌+◌, ◌-◌, [], ◌∷◌, ◌++◌, length, take, set, sym, ap, ◌∙◌, arith, length-set}
use Rattle.std.proofs.lemmas.List.{take_all, take_more_set}
use Rattle.arrayvec.specs.ArrayVec.{array_vec_len}
use Rattle.shelf.proofs.Lists.{items-set}
use Rattle.player.proofs.course.moves.replace.Goals as goal

pub returns : goal.returns
returns c =
    let v = c.args.todo.now in
    let x = c.args.series in
    let k = c.len-front.result in
    let e = c.len-front.ensures.value in
    let q = items-set v c.deref_mut.result.now (k - 1) x c.deref_mut.ensures.value in
    let l : length (set v.items (k - 1) x) ≡ array_vec_len v = length-set v.items (k - 1) x in
    let t = take_more_set v.items (k - 1) x (omega arith) in
    let a = take_all (k - 1 + 1) (set v.items (k - 1) x) (omega arith) in
    q ∙ sym a ∙ t ∙ ap (λ n. take (n - 1) v.items ++ x ∷ []) e
