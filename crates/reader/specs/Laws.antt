-- What Read says of a text, in the words of the grammar.
use Rattle.std.specs.Prelude.{◌≡◌, ℕ, ◌-◌, ◌<◌, ◌≤◌, List, ◌++◌, length, replicate, Ok, Err, Result}
use Rattle.words.specs.declared.word.Fault.{Fault}
use Rattle.words.specs.declared.word.Refusal.{Refusal}
use Rattle.words.specs.declared.word.Refusal.TheVariants as R
use Rattle.nodes.specs.Limits.{most_letters}
use Rattle.grammar.specs.Grammar.{Tree, Derives, Sheet}
use Rattle.nodes.specs.Nodes.{blank}
use Rattle.grammar.specs.Machine.{stop}
use Rattle.grammar.specs.Laws.{Means}
use Rattle.reader.specs.declared.read.Sizes.{Sizes}
use Rattle.cursor.specs.Text.{words_of, last_of}
use Rattle.cursor.specs.Layout.{size, entries}
use Rattle.reader.specs.Read.{fault, places, laid, read_says, read_nodes}

-- a text within the limits whose words the grammar derives
pub record Accepted (t : List ℕ) (given : ℕ) (z : Sizes) : Type 0 where
  pub short : length t ≤ most_letters
  pub tree : Tree
  pub derived : Derives Sheet (words_of t) tree
  pub fits : size tree ≤ places given
  pub nodes : z.nodes ≡ size tree
  pub variables : z.variables ≡ length (entries tree)

-- what a refusal stands for
pub data Refused (t : List ℕ) (given : ℕ) : Refusal → ℕ → Type 0 where
  too_long : most_letters < length t → Refused t given R.LongSheet most_letters
  by_words : {m : Refusal} {p : ℕ} → length t ≤ most_letters → Means (words_of t) (last_of t) m p → Refused t given m p
  too_many : length t ≤ most_letters → (s : Tree) → Derives Sheet (words_of t) s → places given < size s → Refused t given R.ManyNodes 0

abbrev pub StandsFor : List ℕ → ℕ → Result Sizes Fault → Type 0
StandsFor t given (Ok z) = Accepted t given z
StandsFor t given (Err e) = Refused t given e.refusal e.place

-- what Read accepts is derived, and what it refuses is meant
abbrev pub Meant : Type 0
Meant = (t : List ℕ) (given : ℕ) → StandsFor t given (read_says t given)

-- what is derived, within the limits, is accepted, with the nodes of that tree
abbrev pub Complete : Type 0
Complete = (t : List ℕ) (given : ℕ) (s : Tree) (z : ℕ) → length t ≤ most_letters → last_of t ≡ stop z → Derives Sheet (words_of t) s → size s ≤ places given →
    (read_says t given ≡ Ok (record { nodes = size s; variables = length (entries s) })) × (read_nodes t given ≡ laid t s ++ replicate (given - size s) blank)

-- where a refusal is meant, it is told
abbrev pub Exact : Type 0
Exact = (t : List ℕ) (given : ℕ) (m : Refusal) (p : ℕ) → length t ≤ most_letters → Means (words_of t) (last_of t) m p → read_says t given ≡ fault m p
