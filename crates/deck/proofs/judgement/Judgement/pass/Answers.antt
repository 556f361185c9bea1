use Rattle.std.proofs.Common.{◌<◌, ◌≤◌, List, [], ◌∷◌, ◌++◌, length, false, refl, sym, ap, ◌∙◌, subst, rules}
use Rattle.std.specs.List.{AllByRecursion}
use Rattle.nodes.specs.Nodes.{targets}
use Rattle.deck.specs.declared.row.Row.{Row}
use Rattle.deck.specs.Tied.{Tied}
use Rattle.nodes.specs.Limits.{deepest_level, deepest_nest}
use Rattle.deck.proofs.Marks.{level_fits, nest_fits, targets_fit, tied_more, refill_all}
use Rattle.deck.proofs.judgement.Judgement.pass.Goals as goal

pub overflow_cast-row : goal.overflow_cast-row
overflow_cast-row c =
    let j = c.args.self.now in
    let h : c.level.result ≤ deepest_level = level_fits j.nodes.now j.rows.items c.args.x c.view-view.result j.tied c.requires.here c.view-view.ensures c.requires.led c.level.result c.requires.level (search rules) in
    search rules

pub overflow_cast-row-2 : goal.overflow_cast-row-2
overflow_cast-row-2 c =
    let j = c.args.self.now in
    let h : c.nest.result ≤ deepest_nest = nest_fits j.nodes.now j.rows.items c.args.x c.view-view.result j.tied c.requires.here c.view-view.ensures c.requires.led c.nest.result c.requires.nest (search rules) in
    search rules

pub mark-requires : goal.mark-requires
mark-requires c =
    let j = c.args.self.now in
    subst (λ (rs : List Row). AllByRecursion (λ k. k < length rs) (targets c.arrows.result)) (sym c.deref_mut.ensures.value)
    (targets_fit j.nodes.now j.rows.items c.args.x c.view-view.result j.tied c.requires.here c.view-view.ensures c.requires.led c.arrows.result c.arrows.ensures)

pub invariant_of-self : goal.invariant_of-self
invariant_of-self c =
    let j = c.args.self.now in
    record {
      few = j.few;
      named = j.named;
      tied =
          subst (λ rs. Tied j.nodes.now rs) (sym (c.push.ensures.items ∙ ap (λ (rs : List Row). rs ++ record { level = c.level.result; nest = c.nest.result; taken = false } ∷ []) (refill_all (length j.rows.items) j.rows.items c.mark.new.rows (search rules) refl)))
          (tied_more j.nodes.now j.rows.items c.args.x c.view-view.result j.tied c.requires.here c.view-view.ensures c.requires.led c.mark.new.rows c.level.result c.nest.result c.arrows.result (search rules) (search rules) c.arrows.ensures (search rules));
    }
