-- What a cursor has in hand, what is read from there on, and where it comes to.
use Rattle.std.specs.Prelude.{◌≡◌, ℕ, List, [], Ok, Err, Result}
use Rattle.words.specs.declared.word.Fault.{Fault}
use Rattle.grammar.specs.Grammar.{Part}
use Rattle.grammar.specs.Machine.{Answer, State}
use Rattle.grammar.specs.Scan.{Found, wrong}
use Rattle.cursor.specs.declared.cursor.Cursor.{Cursor}
use Rattle.cursor.specs.Text.{found, token, at}
use Rattle.cursor.specs.Layout.{number_in}

-- the word in hand
abbrev pub in_hand : Cursor → Found
in_hand c = token c.token

-- how variables are numbered
abbrev pub numbers : Cursor → Part → ℕ
numbers c = number_in c.text.now c.names.now

-- what reading answers in the state s, from the word in hand on
abbrev pub says : State → Cursor → Answer
says s c = at c.text.now s (in_hand c)

-- the first word of the text t comes into the hand, or it is refused
pub record Opens (t : List ℕ) (c : Cursor) : Type 0 where
  pub text : c.text.now ≡ t
  pub names : c.names.now ≡ []
  pub word : in_hand c ≡ found t 0
  pub count : c.count ≡ 0

abbrev pub Begins : List ℕ → Result Cursor Fault → Type 0
Begins t (Ok c) = Opens t c
Begins t (Err e) = wrong e.refusal e.place ≡ found t 0

-- the same text is read, with the same names
pub record SameSheet (old new : Cursor) : Type 0 where
  pub text : new.text ≡ old.text
  pub names : new.names ≡ old.names

-- nothing is another
abbrev pub Stays : Cursor → Cursor → Type 0
Stays old new = SameSheet old new × (new.token ≡ old.token) × (new.count ≡ old.count)

-- the word f comes into the hand, with no node more, or it is refused
pub record Takes (f : Found) (old new : Cursor) : Type 0 where
  pub sheet : SameSheet old new
  pub count : new.count ≡ old.count
  pub word : in_hand new ≡ f

abbrev pub Comes : Found → Result (Unit {0}) Fault → Cursor → Cursor → Type 0
Comes f (Ok u) old new = Takes f old new
Comes f (Err e) old new = wrong e.refusal e.place ≡ f
