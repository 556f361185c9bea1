-- What Read answers, and what the nodes given then hold: from the words of a text to a tree, and to the tree laid out.
use Rattle.std.specs.Prelude.{ℕ, ◌-◌, min, cond, List, ◌++◌, length, replicate, Ok, Err, Result, nat_le, nat_lt}
use Rattle.words.specs.declared.word.Fault.{Fault}
use Rattle.words.specs.declared.word.Refusal.{Refusal}
use Rattle.words.specs.declared.word.Refusal.TheVariants as R
use Rattle.nodes.specs.declared.node.Node.{Node}
use Rattle.nodes.specs.Nodes.{blank}
use Rattle.nodes.specs.Limits.{most_nodes, most_letters}
use Rattle.grammar.specs.Grammar.{Tree}
use Rattle.grammar.specs.Machine.{Answer}
use Rattle.grammar.specs.Machine as M
use Rattle.reader.specs.declared.read.Sizes.{Sizes}
use Rattle.cursor.specs.Text.{parsed}
use Rattle.cursor.specs.Layout.{size, entries, number_in, lay}

abbrev pub fault : {X : Type 0} → Refusal → ℕ → Result X Fault
fault m p = Err (record { refusal = m; place = p })

abbrev pub judged : Answer → Result Tree Fault
judged (M.read s) = Ok s
judged (M.fault m p) = fault m p

-- the sheet that a text says
abbrev pub sheet_in : List ℕ → Result Tree Fault
sheet_in t = cond (nat_lt most_letters (length t)) (fault R.LongSheet most_letters) (judged (parsed t))

-- how many nodes a sheet may have, where so many are given
abbrev pub places : ℕ → ℕ
places given = min most_nodes given

abbrev pub too_many : Result Sizes Fault
too_many = fault R.ManyNodes 0

abbrev pub counted : ℕ → Result Tree Fault → Result Sizes Fault
counted given (Ok s) = cond (nat_le (size s) (places given)) (Ok (record { nodes = size s; variables = length (entries s) })) too_many
counted given (Err e) = Err e

-- the nodes of a sheet, whose names are spelled in t
abbrev pub laid : List ℕ → Tree → List Node
laid t s = lay (number_in t (entries s)) 0 s

abbrev pub filled : List ℕ → ℕ → Result Tree Fault → List Node
filled t given (Ok s) = cond (nat_le (size s) (places given)) (laid t s ++ replicate (given - size s) blank) (replicate given blank)
filled t given (Err e) = replicate given blank

-- what Read answers
abbrev pub read_says : List ℕ → ℕ → Result Sizes Fault
read_says t given = counted given (sheet_in t)

-- what the nodes given then hold
abbrev pub read_nodes : List ℕ → ℕ → List Node
read_nodes t given = filled t given (sheet_in t)
