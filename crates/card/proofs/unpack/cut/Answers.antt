use Rattle.std.proofs.Common.{◌≡◌, true, ◌&&◌, leb, length, Err, sym, ap, ◌∙◌, rules, arith}
use Rattle.std.proofs.lemmas.List.{take_rest}
use Rattle.std.proofs.lemmas.Bool.{and_parts, leb-true}
use Rattle.deck.proofs.Scan.{holds, broken}
use Rattle.card.specs.declared.refusal.CardRefusal.TheVariants.{FewPlaces}
use Rattle.card.specs.Calls.{parts_told}
use Rattle.card.proofs.Opening.{right, no_room, cut_is}
use Rattle.card.proofs.unpack.cut.Goals as goal

pub returns-in_err-ensure-clause-is : goal.returns-in_err-ensure-clause-is
returns-in_err-ensure-clause-is c =
    let x = c.in_err-ensure.field-0.0 in
    let b = broken c.has_room.result FewPlaces x (sym c.ensure.ensures ∙ c.in_err-ensure.was) in
    let e : c.from_residual-in_err-ensure.result ≡ Err x = search rules in
    ap parts_told e ∙ sym (ap (λ y. Err y) b.1) ∙ no_room c.args.card.now c.in_ok-sizes.field-0.sizes c.args.m c.args.l c.in_ok-sizes.ensures.is (sym b.0 ∙ c.has_room.ensures)

pub returns : goal.returns
returns c =
    let s = c.in_ok-sizes.field-0.sizes in
    let e = c.in_ok-sizes.ensures.is in
    let e2 : (leb s.n c.args.m && leb s.t c.args.l) ≡ true = sym c.has_room.ensures ∙ holds c.has_room.result FewPlaces (sym c.ensure.ensures ∙ c.in_ok-ensure.was) in
    let r = right c.args.card.now s e in
    let room = and_parts (leb s.n c.args.m) (leb s.t c.args.l) e2 in
    let hn = leb-true s.n c.args.m room.0 in
    let ht = leb-true s.t c.args.l room.1 in
    let few = r.fitting.n_few in
    let z = r.size in
    let b = ap length (c.in_ok-sizes.ensures.body ∙ take_rest c.args.card.now 6) in
    record {
      is = cut_is c.args.card.now s c.args.m c.args.l c.in_ok-sizes.field-0.body.now c.split_at.result.0.now c.split_at.result.1.now c.split_at-2.result.0.now c.split_at-2.result.1.now
          e (sym e2) c.in_ok-sizes.ensures.body c.split_at.ensures.front c.split_at.ensures.back c.split_at-2.ensures.front c.split_at-2.ensures.back;
      fit = (omega arith, omega arith);
    }
