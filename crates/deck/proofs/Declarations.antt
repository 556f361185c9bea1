-- The first v nodes of an accepted sheet.
use Rattle.std.proofs.Common.{◌≡◌, ℕ, ◌<◌, ◌≤◌, true, ◌||◌, eqb, ◌⊎◌, List, subst, inl, inr, arith}
use Rattle.std.proofs.lemmas.Bool.{and_parts, or_cases, eqb-true}
use Rattle.std.proofs.lemmas.Bool.Decides.{nat_tests}
use Rattle.nodes.specs.declared.node.Node.{Node}
use Rattle.nodes.specs.Nodes.{node_at, view_as, integer, string}
use Rattle.words.specs.Words.{is_name}
use Rattle.deck.specs.Rules.{placed, inside, spelled, named, formed, formed_as}
use Rattle.deck.proofs.Clean.{Clean}

declares : (v i k : ℕ) → placed v i k ≡ true → i < v → k ≡ 1
declares v i k e h = grind (arith, nat_tests)

-- the fields of a declaration
pub declared_right : (ls : List ℕ) (x : Node) → x.kind ≡ 1 → formed ls x ≡ true → (named ls x.a x.b ≡ true) × ((eqb x.c integer || eqb x.c string) ≡ true)
declared_right ls x k e =
    and_parts (named ls x.a x.b) (eqb x.c integer || eqb x.c string)
    (subst (λ m. formed_as ls x (view_as m x.a x.b x.c) ≡ true) k e)

pub name_inside : (ls : List ℕ) (x : Node) → x.kind ≡ 1 → formed ls x ≡ true → inside ls x.a x.b ≡ true
name_inside ls x k e = (and_parts (inside ls x.a x.b) (is_name (spelled ls x.a x.b)) (declared_right ls x k e).0).0

module _ (ls : List ℕ) (ns : List Node) (v i : ℕ) (c : Clean ls ns v i) (h : i < v) where
  pub is_declaration : (node_at ns i).kind ≡ 1
  is_declaration = declares v i (node_at ns i).kind c.placed_right h

  pub has_kind : ((node_at ns i).c ≡ integer) ⊎ ((node_at ns i).c ≡ string)
  has_kind =
      elim (or_cases (eqb (node_at ns i).c integer) (eqb (node_at ns i).c string) (declared_right ls (node_at ns i) is_declaration c.form).1) [ inl e ↦ inl (eqb-true _ _ e) | inr e ↦ inr (eqb-true _ _ e) ]

  pub small_kind : (node_at ns i).c ≤ 2
  small_kind = elim has_kind [ inl e ↦ omega arith | inr e ↦ omega arith ]
