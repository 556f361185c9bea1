-- What writes to the front or the middle of a buffer leave.
use Rattle.std.proofs.Common.{◌≡◌, ℕ, ◌+◌, ◌-◌, ◌*◌, List, ◌++◌, map, length, drop, replicate, sym, ap, ◌∙◌, append_assoc, arith}
use borrow.Rule.Slice.PartMut.{post_of}
use Rattle.std.specs.List.{flat_map}
use Rattle.std.proofs.lemmas.List.{drop-replicate, drop-drop}
use Rattle.nodes.specs.Nodes.{Sheet}
use Rattle.card.specs.Calls.{padded}
use Rattle.card.specs.Card.{triple, fields_of, card_of}
use Rattle.card.proofs.Cards.{card_size}

-- the parts of a card, one behind the other, and what stands behind them
pub written : (sh : Sheet) (n t : ℕ) (o r1 r2 r3 a b c d : List ℕ) → n ≡ length sh.nodes → t ≡ length sh.letters
    → a ≡ triple n sh.variables t → b ≡ map (λ x. x.kind) sh.nodes → c ≡ flat_map fields_of sh.nodes → d ≡ sh.letters
    → r1 ≡ drop 6 o → r2 ≡ drop n r1 → r3 ≡ drop (6 * n) r2
    → a ++ (b ++ (c ++ (d ++ drop t r3))) ≡ card_of sh ++ drop (length (card_of sh)) o
written sh n t o r1 r2 r3 a b c d en et ea eb ec ed e1 e2 e3 =
    let K = map (λ x. x.kind) sh.nodes in
    let F = flat_map fields_of sh.nodes in
    let s = card_size sh in
    let all : 6 + (n + (6 * n + t)) ≡ length (card_of sh) = omega arith in
    let z : drop t r3 ≡ drop (length (card_of sh)) o =
    ap (drop t) (e3 ∙ ap (drop (6 * n)) (e2 ∙ ap (drop n) e1))
    ∙ drop-drop t (6 * n) (drop n (drop 6 o)) ∙ drop-drop (6 * n + t) n (drop 6 o) ∙ drop-drop (n + (6 * n + t)) 6 o ∙ ap (λ k. drop k o) all in
    let p : a ≡ triple (length sh.nodes) sh.variables (length sh.letters) = ea ∙ ap (λ j. triple j sh.variables t) en ∙ ap (λ j. triple (length sh.nodes) sh.variables j) et in
    ap (λ x. x ++ (b ++ (c ++ (d ++ drop t r3)))) p
    ∙ ap (λ x. triple (length sh.nodes) sh.variables (length sh.letters) ++ x)
    (ap (λ x. x ++ (c ++ (d ++ drop t r3))) eb
    ∙ ap (λ x. K ++ x) (ap (λ x. x ++ (d ++ drop t r3)) ec ∙ ap (λ x. F ++ x) (ap (λ x. x ++ drop t r3) ed ∙ ap (λ x. sh.letters ++ x) z) ∙ sym (append_assoc F sh.letters (drop (length (card_of sh)) o)))
    ∙ sym (append_assoc K (F ++ sh.letters) (drop (length (card_of sh)) o)))

-- the front of a wiped buffer
pub laid : {A : Type 0} (xs front ys : List A) (k : ℕ) (z : A) → front ≡ xs → k ≡ length xs → ys ≡ replicate (length ys) z → front ++ post_of 0 k ys ≡ padded xs (length ys) z
laid xs front ys k z e q w =
    ap (λ f. f ++ drop k ys) e ∙ ap (λ r. xs ++ drop k r) w ∙ ap (λ r. xs ++ r) (drop-replicate k (length ys) z) ∙ ap (λ j. xs ++ replicate (length ys - j) z) q
