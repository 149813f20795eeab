use Rattle.std.proofs.Common.{ap, ap₂, sym, ◌∙◌, take, map, get_or}
use Rattle.std.proofs.lemmas.List.{map_more}
use Rattle.json.specs.Token.{Token, begin_array, key}
use Rattle.serde_json.specs.Data.{string}
use Rattle.serde_json.specs.View.{items_of}
use Rattle.wire_pages.specs.Pages.{sheet_of, add, add_value, add_items}
use Rattle.wire_pages.proofs.Steps.{item_added}
use Rattle.wire_record_commands.proofs.put_policy.put_texts.Goals as goal

pub loop-text-preserved : goal.loop-text-preserved
unfolding add_value
loop-text-preserved c =
    let texts = c.args.texts.now in
    let i = c.loop-text.text-index in
    let start = add begin_array (add (key c.args.name.now) (sheet_of c.args.page.now)) in
    let more = ap (λ ds. add_items (items_of ds) start) (map_more string texts i c.text-item.result c.loop-text-test.true) ∙ item_added (map string (take i texts)) (string (get_or texts i c.text-item.result)) start in
    c.in_ok-string.ensures ∙ ap₂ (λ t s. add (Token.string t) s) (c.as_str.ensures.value ∙ c.text-item.is) c.loop-text.invariant ∙ sym more
