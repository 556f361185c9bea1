-- The semantics of a sheet: values, series still to do, and beats.
use Rattle.std.specs.Prelude.{ℕ, zero, suc, ◌+◌, ◌-◌, Bool, true, false, cond, List, [], ◌∷◌, map, length, Ok, Err, Result, ◌==◌, nat_lt, slice_set}
use Rattle.nodes.specs.Nodes.{Sheet, view_at, kinds}
use Rattle.nodes.specs.declared.view.View.{View}
use Rattle.shelf.specs.Value.{Value, number, text, num_of, total}
use Rattle.shelf.specs.Calls.{fresh}
use Rattle.shelf.specs.declared.refusal.Refusal.TheVariants.{NoCapacity}
use Rattle.semantics.specs.declared.status.Cause.{Cause}
use Rattle.semantics.specs.declared.status.Cause.TheVariants.{NoRoom}
use Rattle.semantics.specs.declared.status.Status.{Status}
use Rattle.semantics.specs.declared.status.Status.TheVariants.{Ready, Ended, Stopped}
use Rattle.semantics.specs.Syntax.{Statement, assign, if_else, while_do, skip, own, statement}
use Rattle.semantics.specs.Expressions.{value}
use Rattle.nodes.specs.declared.view.View.TheVariants as V

pub record State : Type 0 where
  pub values : List Value
  pub todo : List ℕ
  pub status : Status

-- a series with a statement in it
abbrev pub full : View → Bool
full (V.Series a b) = true
full (V.Variable p s c) = false
full (V.Number n) = false
full (V.Text a b) = false
full (V.Plus a b) = false
full (V.Conc a b) = false
full (V.Assign a b) = false
full (V.If a b c) = false
full (V.While a b) = false
full (V.Declaration p s k) = false
full V.Empty = false
full V.Unknown = false

-- empty series at the front are dropped without a beat
unfoldable pub settle : Sheet → List ℕ → List ℕ
settle sh [] = []
settle sh (i ∷ is) = cond (full (view_at sh.nodes i)) (i ∷ is) (settle sh is)

abbrev pub status_of : List ℕ → Status
status_of [] = Ended
status_of (i ∷ is) = Ready

abbrev pub settled : Sheet → List Value → List ℕ → State
settled sh vs ts = record { values = vs; todo = settle sh ts; status = status_of (settle sh ts) }

abbrev pub halted : List Value → List ℕ → Cause → ℕ → State
halted vs ts c a = record { values = vs; todo = ts; status = Stopped c a }

-- whether an assigned text takes all texts together above the capacity
abbrev pub crowded : ℕ → List Value → ℕ → Value → Bool
crowded R vs n (number x) = false
crowded R vs n (text t) = nat_lt R (total (slice_set vs n (text t)))

-- statement a, worth w, of the front series f with the rest b
abbrev pub act : Sheet → ℕ → List Value → ℕ → List ℕ → ℕ → ℕ → Statement → Value → State
act sh R vs f ts a b (assign n e) w = cond (crowded R vs n w) (halted vs (f ∷ ts) (NoRoom NoCapacity) a) (settled sh (slice_set vs n w) (b ∷ ts))
act sh R vs f ts a b (if_else e p q) w = settled sh vs (cond (num_of w == 0) q p ∷ b ∷ ts)
act sh R vs f ts a b (while_do e p) w = cond (num_of w == 0) (settled sh vs (b ∷ ts)) (settled sh vs (p ∷ f ∷ ts))
act sh R vs f ts a b skip w = settled sh vs (b ∷ ts)

abbrev pub done : Sheet → ℕ → List Value → ℕ → List ℕ → ℕ → ℕ → Statement → Result Value Cause → State
done sh R vs f ts a b st (Ok w) = act sh R vs f ts a b st w
done sh R vs f ts a b st (Err c) = halted vs (f ∷ ts) c a

abbrev pub taken : Sheet → ℕ → List Value → ℕ → List ℕ → View → State
taken sh R vs f ts (V.Series a b) = done sh R vs f ts a b (statement sh a) (value vs (own (statement sh a)))
taken sh R vs f ts (V.Variable p s c) = settled sh vs ts
taken sh R vs f ts (V.Number n) = settled sh vs ts
taken sh R vs f ts (V.Text a b) = settled sh vs ts
taken sh R vs f ts (V.Plus a b) = settled sh vs ts
taken sh R vs f ts (V.Conc a b) = settled sh vs ts
taken sh R vs f ts (V.Assign a b) = settled sh vs ts
taken sh R vs f ts (V.If a b c) = settled sh vs ts
taken sh R vs f ts (V.While a b) = settled sh vs ts
taken sh R vs f ts (V.Declaration p s k) = settled sh vs ts
taken sh R vs f ts V.Empty = settled sh vs ts
taken sh R vs f ts V.Unknown = settled sh vs ts

abbrev pub fronted : Sheet → ℕ → List Value → List ℕ → State
fronted sh R vs [] = record { values = vs; todo = []; status = Ended }
fronted sh R vs (f ∷ ts) = taken sh R vs f ts (view_at sh.nodes f)

abbrev pub beat_at : Sheet → ℕ → List Value → List ℕ → Status → State
beat_at sh R vs ts Ready = fronted sh R vs ts
beat_at sh R vs ts Ended = record { values = vs; todo = ts; status = Ended }
beat_at sh R vs ts (Stopped c a) = record { values = vs; todo = ts; status = Stopped c a }

-- one granted beat: nothing happens where the semantics is not ready
unfoldable pub beat : Sheet → ℕ → State → State
beat sh R s = beat_at sh R s.values s.todo s.status

-- a beat is made where the semantics is ready and does not stop
abbrev pub made_by : Status → Status → ℕ
made_by Ready Ready = 1
made_by Ready Ended = 1
made_by Ready (Stopped c a) = 0
made_by Ended t = 0
made_by (Stopped c a) t = 0

abbrev pub made : Sheet → ℕ → State → ℕ
made sh R s = made_by s.status (beat sh R s).status

unfoldable pub run : Sheet → ℕ → ℕ → State → State
run sh R zero s = s
run sh R (suc n) s = run sh R n (beat sh R s)

-- how many of n granted beats are made
unfoldable pub beats : Sheet → ℕ → ℕ → State → ℕ
beats sh R zero s = 0
beats sh R (suc n) s = made sh R s + beats sh R n (beat sh R s)

-- as Start and Rewind leave it
abbrev pub begun : Sheet → State
begun sh = settled sh (map fresh (kinds sh)) ((length sh.nodes - 1) ∷ [])
