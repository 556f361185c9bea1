-- What Load says: the first rule that is broken, at the first node that breaks one.
use Rattle.std.specs.Prelude.{ℕ, zero, suc, ◌-◌, Bool, cond, not, ◌&&◌, List, length, take, Ok, Err, Result, nat_le, nat_lt}
use Rattle.spelling.specs.declared.Entry.{Entry}
use Rattle.nodes.specs.declared.node.Node.{Node}
use Rattle.nodes.specs.declared.view.Sort.TheVariants as S
use Rattle.nodes.specs.Limits.{most_nodes, most_letters, most_variables}
use Rattle.nodes.specs.Nodes.{node_at, view_of, arrows_of, of_sort, all_lead}
use Rattle.nodes.specs.Trees.{tree, level, nest}
use Rattle.deck.specs.declared.fault.Fault.{Fault}
use Rattle.deck.specs.declared.fault.Refusal.{Refusal}
use Rattle.deck.specs.declared.fault.Refusal.TheVariants as R
use Rattle.nodes.specs.declared.binding.Binding.{Binding}
use Rattle.deck.specs.Rules.{placed, formed, again, taken, leading_to, names, original, declared, numbered, agree, shallow, ensured}

-- a first judgement, and where it refuses nothing a second
abbrev pub after : {E : Type 0} → Result (Unit {0}) E → Result (Unit {0}) E → Result (Unit {0}) E
after (Ok u) r = r
after (Err e) r = Err e

-- by place, fields and arrows: f tells the nodes that have an arrow already
abbrev pub shape : List ℕ → List Node → ℕ → ℕ → Node → (ℕ → Bool) → Result (Unit {0}) Refusal
shape ls ns v i x f =
    after (ensured (placed v i x.kind) R.Misplaced)
    (after (ensured (formed ls x) R.Malformed)
    (after (ensured (all_lead ns i (arrows_of (view_of x))) R.Astray)
    (ensured (not (again f (leading_to x))) R.SecondArrow)))

-- by its name, where es are the names declared
abbrev pub naming : List ℕ → List (Entry Binding) → ℕ → Node → Result (Unit {0}) Refusal
naming ls es i x =
    after (ensured (original ls (take i es) x) R.Redeclared)
    (after (ensured (declared ls es x) R.Undeclared)
    (ensured (numbered ls es x) R.Misnumbered))

-- by types, level and nest
abbrev pub fitting : List Node → Node → ℕ → ℕ → Result (Unit {0}) Refusal
fitting ns x l d = after (ensured (agree ns (view_of x)) R.Disagreeing) (ensured (shallow l d) R.TooDeep)

-- what is said of the node x at i: the first of the rules that it breaks
abbrev pub said : List ℕ → List (Entry Binding) → List Node → ℕ → ℕ → Node → (ℕ → Bool) → ℕ → ℕ → Result (Unit {0}) Refusal
said ls es ns v i x f l d = after (shape ls ns v i x f) (after (naming ls es i x) (fitting ns x l d))

abbrev pub judged : List ℕ → List Node → ℕ → ℕ → Result (Unit {0}) Refusal
judged ls ns v i = said ls (names v ns) ns v i (node_at ns i) (taken ns i) (level (tree ns i)) (nest (tree ns i))

-- refused at node i, or else what follows
abbrev pub or_on : Result (Unit {0}) Refusal → ℕ → Result (Unit {0}) Fault → Result (Unit {0}) Fault
or_on (Ok u) i r = r
or_on (Err e) i r = Err (record { refusal = e; node = i })

-- the first node, of k from i on, where f refuses
abbrev pub first : (ℕ → Result (Unit {0}) Refusal) → ℕ → ℕ → Result (Unit {0}) Fault
first f zero i = Ok tt
first f (suc k) i = or_on (f i) i (first f k (suc i))

-- the last node is a series, and every other from v up has an arrow to it, as f tells
abbrev pub whole : List Node → (ℕ → Bool) → ℕ → ℕ → Result (Unit {0}) Fault
whole ns f n v =
    or_on (ensured (of_sort S.Series (node_at ns (n - 1)).kind) R.NotOneTree) (n - 1)
    (first (λ k. ensured (f k) R.NotOneTree) ((n - 1) - v) v)

-- t letters and m nodes are given, of which n count, v of them declarations
abbrev pub sizes_fit : ℕ → ℕ → ℕ → ℕ → Bool
sizes_fit t m n v = nat_le 2 n && (nat_le n most_nodes && (nat_le n m && (nat_le 1 v && (nat_le v most_variables && (nat_lt v n && nat_le t most_letters)))))

abbrev pub sheet_says : List ℕ → List Node → ℕ → ℕ → Result (Unit {0}) Fault
sheet_says ls ns n v = after (first (judged ls ns v) n 0) (whole ns (taken ns n) n v)

abbrev pub load_says : List ℕ → List Node → ℕ → ℕ → Result (Unit {0}) Fault
load_says ls ns n v = cond (sizes_fit (length ls) (length ns) n v) (sheet_says ls (take n ns) n v) (Err (record { refusal = R.Sizes; node = 0 }))
