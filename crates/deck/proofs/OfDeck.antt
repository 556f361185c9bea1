-- What is known of every deck.
use Rattle.std.proofs.Common.{◌≡◌, ℕ, ◌-◌, ◌<◌, true, ltb, List, length, take, is_ok as isOk, Some, None, Ok, Err, Result, ◌⊎◌, sym, refl, ap, ◌∙◌, subst, inl, inr, arith, take_all}
use Rattle.std.proofs.lemmas.Bool.{cond-true, lt-ltb}
use Rattle.std.specs.Option.{option_map}
use Rattle.std.specs.Result.{result_ok}
use Rattle.nodes.specs.declared.kind.Kind.{Kind}
use Rattle.nodes.specs.declared.kind.UnknownKind.{UnknownKind}
use Rattle.nodes.specs.Kinds.{kind_number, NamesKind}
use Rattle.nodes.specs.declared.node.Node.{Node}
use Rattle.nodes.specs.declared.view.Sort.TheVariants as S
use Rattle.nodes.specs.Nodes.{Sheet, node_at, of_sort, integer, string, kind_told}
use Rattle.deck.specs.declared.deck.Deck.{Deck}
use Rattle.deck.specs.Load.{load_says}
use Rattle.deck.specs.Sheets.{sheet_of}
use Rattle.deck.specs.Sound.{Sound}
use Rattle.deck.proofs.Clean.{Clean}
use Rattle.deck.specs.Accepts.{Sizes}
use Rattle.deck.proofs.Accepted.{fits as sizes_of, faultless, last_is_series, is_ok}
use Rattle.deck.proofs.Declarations.{has_kind}
use Rattle.deck.proofs.Soundness.{sound_by}

module _ (d : Deck) where
  pub fits : Sizes (length d.letters.items) (length d.nodes.items) (length d.nodes.items) d.declared
  fits = sizes_of d.letters.items d.nodes.items (length d.nodes.items) d.declared d.loaded

  pub count_is : length (sheet_of d).nodes ≡ length d.nodes.items
  count_is = refl

  whole : take (length d.nodes.items) d.nodes.items ≡ d.nodes.items
  whole = take_all (length d.nodes.items) d.nodes.items (omega arith)

  pub clean : (i : ℕ) → i < length (sheet_of d).nodes → Clean (sheet_of d).letters (sheet_of d).nodes d.declared i
  clean i h = subst (λ ns. Clean d.letters.items ns d.declared i) whole (faultless d.letters.items d.nodes.items (length d.nodes.items) d.declared d.loaded i h)

  pub sound : Sound (sheet_of d)
  sound =
      sound_by (sheet_of d).letters (sheet_of d).nodes d.declared fits.v_below clean
      (subst (λ (ns : List Node). of_sort S.Series (node_at ns (length d.nodes.items - 1)).kind ≡ true) whole (last_is_series d.letters.items d.nodes.items (length d.nodes.items) d.declared d.loaded))

  -- Load accepts the sheet of a deck
  pub loads : load_says (sheet_of d).letters (sheet_of d).nodes (length (sheet_of d).nodes) (sheet_of d).variables ≡ Ok tt
  loads = is_ok (load_says d.letters.items d.nodes.items (length d.nodes.items) d.declared) d.loaded

  -- the type of variable i is known
  kind_is : (i : ℕ) → i < d.declared → ((node_at d.nodes.items i).c ≡ integer) ⊎ ((node_at d.nodes.items i).c ≡ string)
  kind_is i h = let l = fits.v_below in has_kind d.letters.items d.nodes.items d.declared i (clean i (omega arith)) h

  pub kind_found : (i : ℕ) (x : Node) (r : Result Kind UnknownKind) → i < d.declared → x ≡ node_at d.nodes.items i → NamesKind x.c r → option_map kind_number (result_ok r) ≡ kind_told (sheet_of d) i
  kind_found i x r h e k =
      named x.c (subst (λ y. (y.c ≡ integer) ⊎ (y.c ≡ string)) (sym e) (kind_is i h)) r k
      ∙ ap (λ y. Some y.c) e ∙ sym (cond-true (ltb i d.declared) (Some (node_at d.nodes.items i).c) None (lt-ltb i d.declared h))
    where
      named : (m : ℕ) → (m ≡ integer) ⊎ (m ≡ string) → (q : Result Kind UnknownKind) → NamesKind m q → option_map kind_number (result_ok q) ≡ Some m
      named m s (Ok y) z = ap Some z
      named m s (Err y) z = elim s [ inl l ↦ absurd (z.1 l) | inr l ↦ absurd (z.2 l) ]

-- and every sheet that it accepts is in some deck
pub deck_with : (sh : Sheet) → load_says sh.letters sh.nodes (length sh.nodes) sh.variables ≡ Ok tt → (d : Deck) × (sheet_of d ≡ sh)
deck_with sh ok = (
  record {
    nodes = record { items = sh.nodes };
    letters = record { items = sh.letters };
    declared = sh.variables;
    loaded = ap isOk ok;
  },
  refl,
)
