-- The statement whose beat comes next, by its node.
use Rattle.std.specs.Prelude.{◌≡◌, ℕ, List, [], ◌∷◌, Some, None, Option}
use Rattle.nodes.specs.Nodes.{Sheet, view_at}
use Rattle.nodes.specs.declared.view.View.{View}
use Rattle.nodes.specs.declared.view.View.TheVariants as V
use Rattle.semantics.specs.declared.status.Cause.{Cause}
use Rattle.semantics.specs.declared.status.Status.{Status}
use Rattle.semantics.specs.declared.status.Status.TheVariants.{Ready, Ended, Stopped}
use Rattle.semantics.specs.Syntax.{statement}
use Rattle.semantics.specs.Semantics.{State, beat}
use Rattle.semantics.specs.Law.{coming}

abbrev pub statement_in : View → Option ℕ
statement_in (V.Series a b) = Some a
statement_in (V.Variable p s c) = None
statement_in (V.Number n) = None
statement_in (V.Text a b) = None
statement_in (V.Plus a b) = None
statement_in (V.Conc a b) = None
statement_in (V.Assign a b) = None
statement_in (V.If a b c) = None
statement_in (V.While a b) = None
statement_in (V.Declaration p s k) = None
statement_in V.Empty = None
statement_in V.Unknown = None

abbrev pub next_of : Sheet → List ℕ → Option ℕ
next_of sh [] = None
next_of sh (f ∷ ts) = statement_in (view_at sh.nodes f)

abbrev pub next_by : Sheet → List ℕ → Status → Option ℕ
next_by sh ts Ready = next_of sh ts
next_by sh ts Ended = None
next_by sh ts (Stopped c a) = None

-- the node of the statement that comes next; none where the semantics is not ready
abbrev pub next : Sheet → State → Option ℕ
next sh s = next_by sh s.todo s.status

-- the node that is told is that of the statement that comes, and a beat that stops stops there
pub record Told (sh : Sheet) (s : State) (a : ℕ) : Type 0 where
  pub ready : s.status ≡ Ready
  pub comes : coming sh s.todo ≡ statement sh a
  pub stops_there : (R n : ℕ) (c : Cause) → (beat sh R s).status ≡ Stopped c n → n ≡ a

abbrev pub NextIsTold : Type 0
NextIsTold = (sh : Sheet) (s : State) (a : ℕ) → next sh s ≡ Some a → Told sh s a
