-- What Judge finds in its buffers is the sheet of the card.
use Rattle.std.proofs.Common.{◌≡◌, ℕ, ◌-◌, ◌≤◌, ◌&&◌, leb, List, length, take, replicate, Ok, Err, Result, sym, refl, ap, ◌∙◌, arith, length-append, take_all}
use Rattle.std.proofs.lemmas.List.{take_at}
use Rattle.std.proofs.lemmas.Bool.{cond-true, and_from, le-leb}
use Rattle.nodes.specs.declared.node.Node.{Node}
use Rattle.nodes.specs.Limits.{most_nodes, most_letters}
use Rattle.nodes.specs.Nodes.{Sheet, blank}
use Rattle.deck.specs.declared.fault.Fault.{Fault}
use Rattle.deck.specs.Load.{load_says}
use Rattle.deck.proofs.Accepted.{same_load}
use Rattle.card.specs.declared.refusal.CardRefusal.{CardRefusal}
use Rattle.card.specs.declared.unpack.Sizes.{Sizes}
use Rattle.card.specs.declared.flaw.Flaw.TheVariants as F
use Rattle.card.specs.Calls.{roomy, unpacked, sizes_of, sizes_told, nodes_left, letters_left, loaded, verdict_of}
use Rattle.card.specs.Card.{sizes_in, sheet_from, sheet_in}
use Rattle.card.proofs.Opening.{right, room_is}

-- there is room for every card whose sizes are right
pub ample : (card : List ℕ) → unpacked card most_nodes most_letters ≡ sheet_in card
ample card = by (sizes_in card) refl
  where
    by : (x : Result Sizes CardRefusal) → x ≡ sizes_in card → unpacked card most_nodes most_letters ≡ sheet_in card
    by (Err e) q = ap (λ x. roomy most_nodes most_letters (sheet_from card x)) (sym q) ∙ ap (sheet_from card) q
    by (Ok s) q =
        let f = (right card s q).fitting in
        room_is card s most_nodes most_letters q
        ∙ cond-true (leb s.n most_nodes && leb s.t most_letters) _ _ (and_from (leb s.n most_nodes) (leb s.t most_letters) (le-leb _ _ f.n_few) (le-leb _ _ f.t_few))
        ∙ ap (sheet_from card) q

pub of_card : (x : Result Sheet CardRefusal) (e : CardRefusal) → Err e ≡ sizes_told x → Err (F.Card e) ≡ verdict_of x
of_card (Ok sh) e q = let z : ◌≡◌ {A = ℕ} 0 1 = cc in absurd (omega arith)
of_card (Err d) e q = let z : e ≡ d = cc in ap (λ y. Err (F.Card y)) z

-- the sheet in buffers that are filled from its front
pub of_sheet : (x : Result Sheet CardRefusal) (s : Sizes) (m l : ℕ) (ns : List Node) (ls ks : List ℕ) (r : Result (Unit {0}) Fault)
    → Ok s ≡ sizes_told x → ns ≡ nodes_left m x → ls ≡ letters_left l x → ks ≡ take s.t ls → r ≡ load_says ks ns s.n s.v → loaded r ≡ verdict_of x
of_sheet (Err d) s m l ns ls ks r e en el ek er = let z : ◌≡◌ {A = ℕ} 0 1 = cc in absurd (omega arith)
of_sheet (Ok sh) s m l ns ls ks r e en el ek er =
    let z : s ≡ sizes_of sh = cc in
    let k : ks ≡ sh.letters = ek ∙ ap (λ y. take y.t ls) z ∙ ap (take (length sh.letters)) el ∙ take_at sh.letters (replicate (l - length sh.letters) 0) (length sh.letters) refl in
    let n : take (length sh.nodes) ns ≡ take (length sh.nodes) sh.nodes =
    ap (take (length sh.nodes)) en ∙ take_at sh.nodes (replicate (m - length sh.nodes) blank) (length sh.nodes) refl ∙ sym (take_all (length sh.nodes) sh.nodes (omega arith)) in
    let h : length sh.nodes ≤ length ns = (let a = ap length en in let b = length-append sh.nodes (replicate (m - length sh.nodes) blank) in omega arith) in
    ap loaded (er ∙ ap (λ y. load_says ks ns y.n y.v) z ∙ ap (λ y. load_says y ns (length sh.nodes) sh.variables) k
    ∙ same_load sh.letters ns sh.nodes (length sh.nodes) sh.variables h (omega arith) n)
