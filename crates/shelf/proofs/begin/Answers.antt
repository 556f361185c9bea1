use Rattle.std.proofs.Common.{◌≡◌, ℕ, ◌-◌, List, ◌++◌, length, take, replicate, ap, ◌∙◌, arith, length-take}
use borrow.Rule.Slice.PartMut.{post_of}
use Rattle.std.proofs.lemmas.List.{drop-replicate, take_all}
use Rattle.shelf.specs.Limits.{longest}
use Rattle.shelf.specs.Calls.{line_of}
use Rattle.shelf.proofs.Lists.{take_min}
use Rattle.shelf.proofs.begin.Goals as goal

filled : (n : ℕ) (ys t line : List ℕ) → length t ≡ n → ys ≡ t → line ≡ replicate longest 0 → ys ++ post_of 0 (n - 0) line ≡ line_of t
filled n ys t line l e z =
    let d : n - 0 ≡ length t = omega arith in
    rw (e, z, d, drop-replicate {X = ℕ} (length t) longest 0)

pub returns : goal.returns
returns c =
    let n = c.min-n.result in
    let t = c.args.text.now in
    let ys = c.copy_from_slice.new.self in
    let line = c.args.line.now in
    let m = c.min-n.ensures in
    let z : n - 0 ≡ n = omega arith in
    let y : ys ≡ take n t = c.copy_from_slice.ensures.after ∙ ap (λ j. take j t) z in
    let l : length (take n t) ≡ n = simp length-take (omega arith) in
    let cut : take n t ≡ take longest t = ap (λ j. take j t) m ∙ take_min t longest in
    record {
      cut = λ zeros. filled n ys (take n t) line l y zeros ∙ ap line_of cut;
      whole = λ zeros short. filled n ys (take n t) line l y zeros ∙ ap line_of (cut ∙ take_all longest t short);
    }
