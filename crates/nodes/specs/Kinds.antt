-- The numbers that stand for types.
use Rattle.std.specs.Prelude.{◌≡◌, ℕ, Ok, Err, Result}
use Rattle.nodes.specs.declared.kind.Kind.{Kind}
use Rattle.nodes.specs.declared.kind.Kind.TheVariants as K
use Rattle.nodes.specs.declared.kind.UnknownKind.{UnknownKind}

abbrev pub kind_number : Kind → ℕ
kind_number K.Integer = 1
kind_number K.String = 2

-- the type that a number stands for, or the number, which stands for none
abbrev pub NamesKind : ℕ → Result Kind UnknownKind → Type 0
NamesKind n (Ok k) = kind_number k ≡ n
NamesKind n (Err e) = (e.0 ≡ n) × (n ≡ 1 → ⊥) × (n ≡ 2 → ⊥)
