use Rattle.std.proofs.Common.{◌≡◌, ◌+◌, ◌-◌, ◌∙◌, ◌++◌, ap, arith, drop, length, List, rules, take, ℕ}
use Rattle.std.specs.Prelude.{slice_range}
use Rattle.qg_num.specs.Fields.{u32_bytes}
use Rattle.qg_num.specs.Key.{key_bytes}
use Rattle.qg_node.specs.NodeText.{item_header}
use Rattle.qg_node.proofs.Filling.{two_puts}
use Rattle.qg_node.proofs.Texts.{length-item_header}
use Rattle.qg_node.proofs.writing.write_item.Goals as goal

pub returns-clause-written : goal.returns-clause-written
returns-clause-written c =
    let room = c.args.room.now in
    let item = c.args.item.now in
    let body = c.as_slice-body.result.now in
    let place = c.args.place in
    let end = c.args.end in
    let begin = end - length body in
    let written = c.item_header-header.result in
    let long : length body ≡ length item.body = ap length c.as_slice-body.ensures in
    let ends : begin + length body ≡ end = omega arith in
    let begins : begin ≡ end - length item.body = omega arith in
    let header : written ≡ item_header end item =
    c.item_header-header.ensures.text
    ∙ ap (λ (n : ℕ). key_bytes item.key ++ u32_bytes n ++ u32_bytes (length body)) begins
    ∙ ap (λ (n : ℕ). key_bytes item.key ++ u32_bytes (end - length item.body) ++ u32_bytes n) long in
    c.put_bytes-2.ensures
    ∙ ap (λ (bytes : List ℕ). take place bytes ++ (written ++ drop (place + length written) bytes)) c.put_bytes.ensures
    ∙ two_puts place begin room body written (ap length header ∙ length-item_header end item) (omega arith)
    (omega arith)
    ∙ ap (λ (text : List ℕ). take place room
    ++ (text ++ (slice_range room (place + 25) begin ++ (body ++ drop (begin + length body) room)))) header
    ∙ ap (λ (n : ℕ). take place room
    ++ (item_header end item ++ (slice_range room (place + 25) begin ++ (body ++ drop n room)))) ends
    ∙ ap (λ (text : List ℕ). take place room
    ++ (item_header end item ++ (slice_range room (place + 25) begin ++ (text ++ drop end room))))
    c.as_slice-body.ensures

pub returns-clause-fits : goal.returns-clause-fits
returns-clause-fits c = record {
  key = c.item_header-header.ensures.fits;
  body = rw (← c.as_slice-body.ensures) (λ i. search rules);
}
