-- A layer keeps the laws of the shelf below it.
use Rattle.std.specs.Prelude.{ℕ, List}
use Rattle.shelf.specs.Value.{Value}
use Rattle.shelf.specs.Laws.{Laws}

pub through : {L S : Type 0} (below : L → S) (values : S → List Value) (slots capacity : S → ℕ) → Laws values slots capacity → Laws (λ l. values (below l)) (λ l. slots (below l)) (λ l. capacity (below l))
through below values slots capacity h = record {
  few = λ l. h.few (below l);
  small = λ l. h.small (below l);
  fits = λ l. h.fits (below l);
  within = λ l. h.within (below l);
}
