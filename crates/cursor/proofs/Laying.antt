-- Trees laid out, written behind one another.
use Rattle.std.proofs.Common.{◌≡◌, ℕ, ◌+◌, List, [], ◌∷◌, ◌++◌, length, set, sym, refl, ap, ◌∙◌, arith, length-append}
use Rattle.nodes.specs.declared.node.Node.{Node}
use Rattle.grammar.specs.Grammar.{Part, Tree, variable, constant, letters, plus, join, assign, choose, loop, none, more, first, also, sheet}
use Rattle.cursor.specs.Layout.{size, lay, write}

pub write_append : {X : Type 0} (xs : List X) (i : ℕ) (us vs : List X) → write xs i (us ++ vs) ≡ write (write xs i us) (i + length us) vs
write_append xs i [] vs = ap (λ j. write xs j vs) (omega arith)
write_append xs i (u ∷ us) vs = write_append (set xs i u) (i + 1) us vs ∙ ap (λ j. write (write (set xs i u) (i + 1) us) j vs) (omega arith)

-- what is written behind what was written
pub write_on : {X : Type 0} (xs : List X) (n : ℕ) (us vs : List X) (m : ℕ) → m ≡ n + length us → write (write xs n us) m vs ≡ write xs n (us ++ vs)
write_on xs n us vs m e = ap (λ j. write (write xs n us) j vs) e ∙ sym (write_append xs n us vs)

pub length_lay : (f : Part → ℕ) (n : ℕ) (s : Tree) → length (lay f n s) ≡ size s
length_lay f n (variable p) = refl
length_lay f n (constant v) = refl
length_lay f n (letters p) = refl
length_lay f n (plus x y) = simp length-append (omega (arith, length_lay f n x, length_lay f (n + size x) y))
length_lay f n (join x y) = simp length-append (omega (arith, length_lay f n x, length_lay f (n + size x) y))
length_lay f n (assign p e) = simp length-append (omega (arith, length_lay f (n + 1) e))
length_lay f n (choose e x y) = simp length-append (omega (arith, length_lay f n e, length_lay f (n + size e) x, length_lay f (n + size e + size x) y))
length_lay f n (loop e x) = simp length-append (omega (arith, length_lay f n e, length_lay f (n + size e) x))
length_lay f n none = refl
length_lay f n (more s r) = simp length-append (omega (arith, length_lay f n s, length_lay f (n + size s) r))
length_lay f n (first p s) = refl
length_lay f n (also d p s) = simp length-append (omega (arith, length_lay f n d))
length_lay f n (sheet d a) = simp length-append (omega (arith, length_lay f n d, length_lay f (n + size d) a))

-- the nodes of two trees and then one more, written one after another
pub write_two : (f : Part → ℕ) (xs : List Node) (n : ℕ) (x y : Tree) (b : Node) (m k : ℕ) → m ≡ n + size x → k ≡ m + size y →
    write (write (write xs n (lay f n x)) m (lay f m y)) k (b ∷ []) ≡ write xs n (lay f n x ++ (lay f (n + size x) y ++ (b ∷ [])))
write_two f xs n x y b m k e d =
    write_on (write xs n (lay f n x)) m (lay f m y) (b ∷ []) k (omega (arith, length_lay f m y))
    ∙ (write_on xs n (lay f n x) (lay f m y ++ (b ∷ [])) m (omega (arith, length_lay f n x)) ∙ ap (λ j. write xs n (lay f n x ++ (lay f j y ++ (b ∷ [])))) e)
