use Rattle.std.proofs.Common.{length, sym, refl, ap, subst, arith}
use Rattle.shelf.specs.Entries.{Within}
use Rattle.rows.proofs.Means.{new_list}
use Rattle.rows.proofs.rows.Rows.empty.Goals as goal

pub invariant_of-result : goal.invariant_of-result
invariant_of-result c = record { few = omega (arith, ap length c.new.ensures); rows = c.requires; within = subst Within (sym c.new.ensures) (λ k. refl) }

pub returns : goal.returns
returns c = record { list = new_list _ c.new.ensures; slots = refl; memory = refl }
