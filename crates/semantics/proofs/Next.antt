-- The statement that comes next is the one that is told, and a beat that stops stops there.
use Rattle.std.proofs.Common.{◌≡◌, ℕ, cond, eqb, List, [], ◌∷◌, Some, None, Ok, Err, Option, Result, sym, refl, ap, ◌∙◌, arith}
use Rattle.std.proofs.lemmas.Bool.{cond_both}
use Rattle.nodes.specs.Nodes.{Sheet, view_at}
use Rattle.nodes.specs.declared.view.View.{View}
use Rattle.nodes.specs.declared.view.View.TheVariants as V
use Rattle.shelf.specs.Value.{Value, num_of}
use Rattle.semantics.specs.declared.status.Cause.{Cause}
use Rattle.semantics.specs.declared.status.Status.{Status}
use Rattle.semantics.specs.declared.status.Status.TheVariants.{Ready, Ended, Stopped}
use Rattle.semantics.specs.Syntax.{Statement, assign, if_else, while_do, skip, own, statement}
use Rattle.semantics.specs.Expressions.{value}
use Rattle.semantics.specs.Semantics.{State, settle, status_of, crowded, act, done, taken, beat}
use Rattle.semantics.specs.Law.{first_of}
use Rattle.semantics.specs.Next.{statement_in, next_by, Told, NextIsTold}

-- the node at which a status stops, if it does
abbrev StopsAt : ℕ → Status → Type 0
StopsAt a st = (n : ℕ) (c : Cause) → st ≡ Stopped c n → n ≡ a

goes_on : (a : ℕ) (ts : List ℕ) → StopsAt a (status_of ts)
goes_on a [] n c e = absurd (let z : ◌≡◌ {A = ℕ} 0 1 = cc in omega arith)
goes_on a (t ∷ ts) n c e = absurd (let z : ◌≡◌ {A = ℕ} 0 1 = cc in omega arith)

stops : (a : ℕ) (c : Cause) → StopsAt a (Stopped c a)
stops a c n d e = cc

module _ (sh : Sheet) (R : ℕ) (vs : List Value) (f : ℕ) (ts : List ℕ) (a b : ℕ) where
  act_stops : (st : Statement) (w : Value) → StopsAt a (act sh R vs f ts a b st w).status
  act_stops (assign n e) w = cond_both (crowded R vs n w) _ _ (λ (s : State). StopsAt a s.status) (λ _. stops a _) (λ _. goes_on a (settle sh (b ∷ ts)))
  act_stops (if_else e p q) w = goes_on a (settle sh (cond (eqb (num_of w) 0) q p ∷ b ∷ ts))
  act_stops (while_do e p) w = cond_both (eqb (num_of w) 0) _ _ (λ (s : State). StopsAt a s.status) (λ _. goes_on a (settle sh (b ∷ ts))) (λ _. goes_on a (settle sh (p ∷ f ∷ ts)))
  act_stops skip w = goes_on a (settle sh (b ∷ ts))

  done_stops : (st : Statement) (r : Result Value Cause) → StopsAt a (done sh R vs f ts a b st r).status
  done_stops st (Ok w) = act_stops st w
  done_stops st (Err c) = stops a c

nothing : {X : Type 0} (a : ℕ) → ◌≡◌ {A = Option ℕ} None (Some a) → X
nothing a e = absurd (let z : ◌≡◌ {A = ℕ} 0 1 = cc in omega arith)

told_at : (sh : Sheet) (vs : List Value) (ts : List ℕ) (st : Status) (a : ℕ) → next_by sh ts st ≡ Some a → Told sh (record { values = vs; todo = ts; status = st }) a
unfolding beat
told_at sh vs ts Ended a e = nothing a e
told_at sh vs ts (Stopped c n) a e = nothing a e
told_at sh vs [] Ready a e = nothing a e
told_at sh vs (f ∷ ts) Ready a e = by (view_at sh.nodes f) refl e
  where
    by : (v : View) → view_at sh.nodes f ≡ v → statement_in v ≡ Some a → Told sh (record { values = vs; todo = f ∷ ts; status = Ready }) a
    by (V.Series x b) i e =
        let k : x ≡ a = cc in
        record {
          ready = refl;
          comes = ap (first_of sh) i ∙ ap (statement sh) k;
          stops_there = λ R n c h. done_stops sh R vs f ts x b (statement sh x) (value vs (own (statement sh x))) n c (sym (ap (λ (v : View). (taken sh R vs f ts v).status) i) ∙ h) ∙ k;
        }
    by (V.Variable p s c) i e = nothing a e
    by (V.Number n) i e = nothing a e
    by (V.Text p s) i e = nothing a e
    by (V.Plus p s) i e = nothing a e
    by (V.Conc p s) i e = nothing a e
    by (V.Assign p s) i e = nothing a e
    by (V.If p s c) i e = nothing a e
    by (V.While p s) i e = nothing a e
    by (V.Declaration p s k) i e = nothing a e
    by V.Empty i e = nothing a e
    by V.Unknown i e = nothing a e

pub next_is_told : NextIsTold
next_is_told sh s a e = told_at sh s.values s.todo s.status a e
