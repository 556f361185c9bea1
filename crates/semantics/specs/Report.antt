-- That the semantics agrees with the language's own rules of evaluation.
use Rattle.std.specs.Prelude.{◌≡◌, ℕ, ◌⊎◌, List}
use Rattle.nodes.specs.Nodes.{Sheet}
use Rattle.deck.specs.Sound.{Sound}
use Rattle.shelf.specs.Value.{Value}
use Rattle.semantics.specs.declared.status.Status.TheVariants.{Ended}
use Rattle.semantics.specs.Semantics.{State, run, begun}
use Rattle.semantics.specs.Evaluates.{Evaluates, beats_in, whole, starting}
use Rattle.semantics.specs.Law.{IsStopped, Has, Endless}

-- the semantics after h granted beats
abbrev pub after_beats : Sheet → ℕ → ℕ → State
after_beats sh R h = run sh R h (begun sh)

-- two evaluations of one series from one list of values end in the same values
abbrev pub Deterministic : Type 0
Deterministic = (sh : Sheet) (i : ℕ) (vs xs ys : List Value) → Evaluates sh i vs xs → Evaluates sh i vs ys → xs ≡ ys

-- what a semantics ends with, the sheet evaluates to
abbrev pub Agreement : Type 0
Agreement = (sh : Sheet) (R : ℕ) → Sound sh → (h : ℕ) → (after_beats sh R h).status ≡ Ended → Evaluates sh (whole sh) (starting sh) (after_beats sh R h).values

-- the semantics ends with vs after h beats, and has no more
pub record Ends (sh : Sheet) (R h : ℕ) (vs : List Value) : Type 0 where
  pub ended : (after_beats sh R h).status ≡ Ended
  pub values : (after_beats sh R h).values ≡ vs
  pub has : Has sh R h

-- what a semantics of a sheet that evaluates to vs, in so many beats, comes to
pub record ComesTo (sh : Sheet) (R beats : ℕ) (vs : List Value) : Type 0 where
  pub never_others : (h : ℕ) → (after_beats sh R h).status ≡ Ended → (after_beats sh R h).values ≡ vs
  pub either : Ends sh R beats vs ⊎ IsStopped (after_beats sh R beats).status
  pub unless_stopped : ((h : ℕ) → ¬ (IsStopped (after_beats sh R h).status)) → Ends sh R beats vs
  pub not_endless : ¬ (Endless sh R)

abbrev pub Converse : Type 0
Converse = (sh : Sheet) (R : ℕ) → Sound sh → (vs : List Value) (d : Evaluates sh (whole sh) (starting sh) vs) → ComesTo sh R (beats_in d) vs
