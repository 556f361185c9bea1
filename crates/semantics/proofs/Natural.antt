-- Evaluations: what a last rule was, and that they are deterministic.
use Rattle.std.proofs.Common.{◌≡◌, ℕ, false, ◌⊎◌, List, set, sym, refl, ap, ◌∙◌, subst, inl, inr, ⊎_elim}
use Rattle.std.proofs.lemmas.Bool.{false≢true}
use Rattle.nodes.specs.Nodes.{Sheet, view_at}
use Rattle.shelf.specs.Value.{Value, num_of}
use Rattle.semantics.specs.Syntax.{Statement, assign, if_else, while_do, skip, statement}
use Rattle.semantics.specs.Expressions.{ideal}
use Rattle.semantics.specs.Semantics.{full}
use Rattle.semantics.specs.Evaluates.{Evaluates, Performs, empty, then, sets, first, second, leaves, again, idles}
use Rattle.semantics.specs.Report.{Deterministic}
use Rattle.nodes.specs.declared.view.View.TheVariants as V

module _ (sh : Sheet) where
  -- what the last rule of a statement's evaluation was
  abbrev pub Last : Statement → List Value → List Value → Type 0
  Last (assign n e) vs ws = ws ≡ set vs n (ideal vs e)
  Last (if_else e p q) vs ws = ((¬ (num_of (ideal vs e) ≡ 0)) × Evaluates sh p vs ws) ⊎ ((num_of (ideal vs e) ≡ 0) × Evaluates sh q vs ws)
  Last (while_do e p) vs xs = ((num_of (ideal vs e) ≡ 0) × (xs ≡ vs)) ⊎ ((ws : List Value) × (¬ (num_of (ideal vs e) ≡ 0)) × Evaluates sh p vs ws × Performs sh (while_do e p) ws xs)
  Last skip vs ws = ws ≡ vs

  pub last_rule : {st : Statement} {vs ws : List Value} → Performs sh st vs ws → Last st vs ws
  last_rule sets = refl
  last_rule (first h d) = inl (h, d)
  last_rule (second h d) = inr (h, d)
  last_rule (leaves h) = inl (h, refl)
  last_rule (again {ws = ws} h d r) = inr (ws, h, d, r)
  last_rule idles = refl

  pub of_empty : {i : ℕ} {vs ws : List Value} → Evaluates sh i vs ws → full (view_at sh.nodes i) ≡ false → ws ≡ vs
  of_empty (empty e) f = refl
  of_empty (then v p d) f = absurd (false≢true (sym f ∙ ap full v))

  pub of_series : {i : ℕ} {vs xs : List Value} → Evaluates sh i vs xs → (a b : ℕ) → view_at sh.nodes i ≡ V.Series a b → (ws : List Value) × Performs sh (statement sh a) vs ws × Evaluates sh b ws xs
  of_series (empty e) a b v = absurd (false≢true (sym e ∙ ap full v))
  of_series (then {a = a₁} {b = b₁} {vs = vs} {ws = ws} {xs = xs} v₁ p d) a b v =
      let s : V.Series a₁ b₁ ≡ V.Series a b = sym v₁ ∙ v in
      let e : a₁ ≡ a = cc in
      let f : b₁ ≡ b = cc in
      (ws, subst (λ z. Performs sh (statement sh z) vs ws) e p, subst (λ z. Evaluates sh z ws xs) f d)

  mutual
    pub one_end : {i : ℕ} {vs xs : List Value} → Evaluates sh i vs xs → (ys : List Value) → Evaluates sh i vs ys → xs ≡ ys
    one_end (empty e) ys d = sym (of_empty d e)
    one_end (then {a = a} {b = b} {ws = ws} v p r) ys d =
        let q = of_series d a b v in
        one_end r ys (subst (λ z. Evaluates sh b z ys) (sym (one_end_of p q.0 q.1)) q.2)

    pub one_end_of : {st : Statement} {vs xs : List Value} → Performs sh st vs xs → (ys : List Value) → Performs sh st vs ys → xs ≡ ys
    one_end_of sets ys d = sym (last_rule d)
    one_end_of (first h p) ys d = ⊎_elim (λ q. one_end p ys q.1) (λ q. absurd (h q.0)) (last_rule d)
    one_end_of (second h p) ys d = ⊎_elim (λ q. absurd (q.0 h)) (λ q. one_end p ys q.1) (last_rule d)
    one_end_of (leaves h) ys d = ⊎_elim (λ q. sym q.1) (λ q. absurd (q.1 h)) (last_rule d)
    one_end_of (again {e = e} {p = i} {ws = ws} h p r) ys d =
        ⊎_elim (λ q. absurd (h q.0))
        (λ q. one_end_of r ys (subst (λ z. Performs sh (while_do e i) z ys) (sym (one_end p q.0 q.2)) q.3)) (last_rule d)
    one_end_of idles ys d = sym (last_rule d)

pub deterministic : Deterministic
deterministic sh i vs xs ys d c = one_end sh d ys c
