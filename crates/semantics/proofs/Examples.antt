-- a := 1; while a do a := 0 od
use Rattle.std.proofs.Common.{◌≡◌, ℕ, List, [], ◌∷◌, refl, ap, arith}
use Rattle.nodes.specs.Nodes.{Sheet}
use Rattle.nodes.specs.declared.node.Node.{Node}
use Rattle.nodes.specs.Trees.{decode}
use Rattle.shelf.specs.Value.{Value, number, num_of}
use Rattle.semantics.specs.Syntax.{num, Statement, while_do}
use Rattle.semantics.specs.Expressions.{ideal}
use Rattle.semantics.specs.Evaluates.{Evaluates, Performs, empty, then, sets, first, second, leaves, again, idles, beats_in, whole, starting}

abbrev node : ℕ → ℕ → ℕ → ℕ → Node
node k a b c = record { kind = k; a = a; b = b; c = c }

abbrev turns : Sheet
turns =
    record {
      letters = [];
      nodes = node 1 0 1 1 ∷ node 2 0 1 0 ∷ node 3 1 0 0 ∷ node 3 0 0 0 ∷ node 7 1 2 0 ∷ node 7 1 3 0 ∷ node 11 0 0 0 ∷ node 10 5 6 0 ∷ node 9 1 7 0 ∷ node 10 8 6 0 ∷ node 10 4 9 0 ∷ [];
      variables = 1;
    }

turns_evaluates : Evaluates turns (whole turns) (starting turns) (number 0 ∷ [])
unfolding decode
turns_evaluates = then refl sets (then refl (again (λ e. omega arith) (then refl sets (empty refl)) (leaves refl)) (empty refl))

turns_beats : beats_in turns_evaluates ≡ 4
unfolding turns_evaluates beats_in decode
turns_beats = refl

-- while 1 do od: no evaluation
never : (sh : Sheet) {st : Statement} {vs ws : List Value} → Performs sh st vs ws → (p : ℕ) → st ≡ while_do (num 1) p → ⊥
never sh sets p q = let z : ◌≡◌ {A = ℕ} 0 1 = cc in omega arith
never sh (first h d) p q = let z : ◌≡◌ {A = ℕ} 0 1 = cc in omega arith
never sh (second h d) p q = let z : ◌≡◌ {A = ℕ} 0 1 = cc in omega arith
never sh (leaves {e = e} {vs = vs} h) p q = let r : e ≡ num 1 = cc in let s : num_of (ideal vs e) ≡ 1 = ap (λ x. num_of (ideal vs x)) r in omega arith
never sh (again h d r) p q = never sh r p q
never sh idles p q = let z : ◌≡◌ {A = ℕ} 0 1 = cc in omega arith
