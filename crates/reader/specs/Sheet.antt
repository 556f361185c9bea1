-- What reading a whole sheet answers and writes.
use Rattle.std.specs.Prelude.{◌≡◌, ℕ, ◌<◌, ◌≤◌, List, length, replicate, Ok, Err, Result}
use Rattle.words.specs.declared.word.Fault.{Fault}
use Rattle.nodes.specs.declared.node.Node.{Node}
use Rattle.spelling.specs.declared.Entry.{Entry}
use Rattle.grammar.specs.Grammar.{Tree}
use Rattle.grammar.specs.Machine.{series, whole, fault}
use Rattle.nodes.specs.declared.binding.Binding.{Binding}
use Rattle.cursor.specs.declared.cursor.Cursor.{Cursor}
use Rattle.cursor.specs.Text.{parsed}
use Rattle.cursor.specs.Reading.{says}
use Rattle.parser.specs.Parts.{Listed}
use Rattle.reader.specs.declared.read.Sizes.{Sizes}
use Rattle.cursor.specs.Layout.{size, entries, write}
use Rattle.nodes.specs.Limits.{most_nodes}
use Rattle.nodes.specs.Nodes.{blank}
use Rattle.reader.specs.Read.{sheet_in, laid, places, too_many, read_says, read_nodes}

-- the declarations of t were read, up to the cursor a
pub record Opened (t : List ℕ) (xs ys : List Node) (ds : List (Entry Binding)) (a : Cursor) : Type 0 where
  pub tree : Tree
  pub listed : Listed tree a.count xs ys ds
  pub goes_on : parsed t ≡ says (series (whole tree)) a

abbrev pub OpenedAs : List ℕ → List Node → List Node → List (Entry Binding) → Result Cursor Fault → Type 0
OpenedAs t xs ys ds (Ok a) = Opened t xs ys ds a
OpenedAs t xs ys ds (Err e) = parsed t ≡ fault e.refusal e.place

-- the sheet of t was read; its nodes stand in ys, if there was a place for every name
pub record Said (t : List ℕ) (xs ys : List Node) (z : Sizes) : Type 0 where
  pub tree : Tree
  pub says : sheet_in t ≡ Ok tree
  pub nodes : z.nodes ≡ size tree
  pub variables : z.variables ≡ length (entries tree)
  pub laid_out : size tree ≤ most_nodes → ys ≡ write xs 0 (laid t tree)

abbrev pub SheetAs : List ℕ → List Node → List Node → Result Sizes Fault → Type 0
SheetAs t xs ys (Ok z) = Said t xs ys z
SheetAs t xs ys (Err e) = sheet_in t ≡ Err e

-- what is left to do with an answer, where so many nodes were given: is it too large? After a refusal the nodes are wiped.
pub record Sized (t : List ℕ) (given : ℕ) (ys : List Node) (z : Sizes) : Type 0 where
  pub fits : z.nodes ≤ places given → (◌≡◌ {A = Result Sizes Fault} (Ok z) (read_says t given)) × (ys ≡ read_nodes t given)
  pub too_large : places given < z.nodes → (too_many ≡ read_says t given) × (replicate given blank ≡ read_nodes t given)

abbrev pub FilledAs : List ℕ → ℕ → List Node → Result Sizes Fault → Type 0
FilledAs t given ys (Ok z) = Sized t given ys z
FilledAs t given ys (Err e) = (◌≡◌ {A = Result Sizes Fault} (Err e) (read_says t given)) × (replicate given blank ≡ read_nodes t given)
