use Rattle.std.proofs.Common.{◌≡◌, ℕ, List, replicate, Ok, Err, Result, sym}
use Rattle.words.specs.declared.word.Fault.{Fault}
use Rattle.nodes.specs.declared.node.Node.{Node}
use Rattle.nodes.specs.Nodes.{blank}
use Rattle.reader.specs.declared.read.Sizes.{Sizes}
use Rattle.reader.specs.Sheet.{SheetAs, FilledAs}
use Rattle.reader.proofs.Whole.{read_fits, read_many, read_err}
use Rattle.reader.proofs.read.fill.Goals as goal

filled_by : (t : List ℕ) (g : ℕ) (xs ys : List Node) (r : Result Sizes Fault) → xs ≡ replicate g blank → SheetAs t xs ys r → FilledAs t g ys r
filled_by t g xs ys (Ok z) x s = record {
  fits = read_fits t g xs ys z s x;
  too_large = λ h. (let m = read_many t g xs ys z s h in (sym m.0, sym m.1));
}
filled_by t g xs ys (Err f) x s = let m = read_err t g f s in (sym m.0, sym m.1)

pub returns : goal.returns
returns c = filled_by c.args.text.now _ _ _ c.sheet.result c.wipe.ensures c.sheet.ensures
