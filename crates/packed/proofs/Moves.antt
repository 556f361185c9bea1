-- What a copy into a list leaves before it, and holds.
use Rattle.std.proofs.Common.{◌≡◌, ℕ, ◌+◌, ◌≤◌, List, length, take, drop, sym, ap, ◌∙◌, append_assoc, arith, length-take}
use lib.Seq.{paste}
use Rattle.std.proofs.lemmas.List.{take-take, take-append-le, drop-take, drop_at, length-take-le}
use Rattle.std.proofs.lemmas.List.Edits.{take-paste}

module _ {A : Type 0} (d s : List A) (at n : ℕ) (h : at + n ≤ length d) (g : n ≤ length s) where
  pub paste_before : take at (paste d at s n) ≡ take at d
  paste_before =
      let b : at ≤ length (take at d) = simp length-take (omega arith) in
      let k : at ≤ at = omega arith in
      rw (append_assoc, take-append-le, take-take)

  pub paste_here : take n (drop at (paste d at s n)) ≡ take n s
  paste_here = sym (drop-take at n (paste d at s n)) ∙ ap (drop at) (take-paste d at s n (omega arith) g) ∙ drop_at (take at d) (take n s) at (length-take-le at d (omega arith))
