use Rattle.std.proofs.Common.{map, length, ap, ◌∙◌, arith, length-take}
use Rattle.std.specs.List.{flat_map}
use Rattle.deck.specs.Sheets.{sheet_of}
use Rattle.card.specs.Card.{triple, fields_of}
use Rattle.card.proofs.Cards.{card_size}
use Rattle.card.proofs.Writes.{written}
use Rattle.card.proofs.pack.write.Goals as goal

pub split_at_mut-fields-requires : goal.split_at_mut-fields-requires
split_at_mut-fields-requires c =
    let e = card_size (sheet_of c.args.deck.now) in
    let n = ap length c.nodes-nodes.ensures in
    omega (arith, c.split_at_mut-kinds.ensures.back_len, c.split_at_mut-sizes.ensures.back_len)

pub slice_bounds-copy_from_slice-end-2 : goal.slice_bounds-copy_from_slice-end-2
slice_bounds-copy_from_slice-end-2 c =
    let e = card_size (sheet_of c.args.deck.now) in
    let n = ap length c.nodes-nodes.ensures in
    let t = ap length c.letters-letters.ensures in
    omega (arith, c.split_at_mut-fields.ensures.back_len, c.split_at_mut-kinds.ensures.back_len, c.split_at_mut-sizes.ensures.back_len)

pub slice_bounds-copy_from_slice-end-3 : goal.slice_bounds-copy_from_slice-end-3
slice_bounds-copy_from_slice-end-3 c =
    let e = card_size (sheet_of c.args.deck.now) in
    let n = ap length c.nodes-nodes.ensures in
    let t = ap length c.letters-letters.ensures in
    simp length-take (omega (arith, c.split_at_mut-fields.ensures.back_len, c.split_at_mut-kinds.ensures.back_len, c.split_at_mut-sizes.ensures.back_len))

pub copy_from_slice-requires-2 : goal.copy_from_slice-requires-2
copy_from_slice-requires-2 c =
    let e = card_size (sheet_of c.args.deck.now) in
    let n = ap length c.nodes-nodes.ensures in
    let t = ap length c.letters-letters.ensures in
    simp length-take (omega (arith, c.split_at_mut-fields.ensures.back_len, c.split_at_mut-kinds.ensures.back_len, c.split_at_mut-sizes.ensures.back_len))

pub returns : goal.returns
returns c =
    let sh = sheet_of c.args.deck.now in
    let en = ap length c.nodes-nodes.ensures in
    let et = ap length c.letters-letters.ensures in
    written sh (length c.nodes-nodes.result.now) (length c.letters-letters.result.now) c.args.out.now
    c.split_at_mut-sizes.result.1.now c.split_at_mut-kinds.result.1.now c.split_at_mut-fields.result.1.now
    c.copy_from_slice.new.self c.fill_kinds.new.out c.fill_fields.new.out c.copy_from_slice-2.new.self en et
    (c.copy_from_slice.ensures.after ∙ c.triple.ensures ∙ ap (λ v. triple (length c.nodes-nodes.result.now) v (length c.letters-letters.result.now)) c.variables.ensures)
    (c.fill_kinds.ensures ∙ ap (map (λ x. x.kind)) c.nodes-nodes.ensures)
    (c.fill_fields.ensures ∙ ap (flat_map fields_of) c.nodes-nodes.ensures)
    (c.copy_from_slice-2.ensures.after ∙ c.letters-letters.ensures)
    c.split_at_mut-sizes.ensures.back c.split_at_mut-kinds.ensures.back c.split_at_mut-fields.ensures.back
