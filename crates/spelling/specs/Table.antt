-- A table of spellings, and what a search in it answers.
use Rattle.std.specs.Prelude.{ℕ, ◌+◌, Bool, cond, ◌&&◌, List, [], ◌∷◌, length, take, drop, Some, None, Option, nat_le}
use Rattle.std.specs.Str.{bytes_eq}
use Rattle.spelling.specs.declared.Entry.{Entry}

-- the part of the letters lies within them, and is w
abbrev pub spells : List ℕ → List ℕ → ℕ → ℕ → Bool
spells ls w place size = nat_le (place + size) (length ls) && bytes_eq (take size (drop place ls)) w

-- what an entry stands for, where it spells w
abbrev pub matched : {T : Type 0} → List ℕ → List ℕ → Entry T → Option T
matched ls w e = cond (spells ls w e.place e.size) (Some e.value) None

abbrev pub or_else : {T : Type 0} → Option T → Option T → Option T
or_else (Some x) later = Some x
or_else None later = later

-- what the first entry that spells w stands for
abbrev pub found : {T : Type 0} → List ℕ → List ℕ → List (Entry T) → Option T
found ls w [] = None
found ls w (e ∷ es) = cond (spells ls w e.place e.size) (Some e.value) (found ls w es)
