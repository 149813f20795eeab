use Rattle.std.proofs.Common.{◌≡◌, Some, subst, sym}
use Rattle.std.specs.Option.{IfSome}
use Rattle.serde_json.specs.Data.{unsigned}
use Rattle.serde_json.specs.Read.{number_of}
use Rattle.wire_trees.specs.Reading.{BeginsPlainly}
use Rattle.wire_trees.proofs.ReadingLemmas.{digits-read}
use Rattle.wire_trees.proofs.reading.number.Goals as goal

pub returns-then-begins_plainly : goal.returns-then-begins_plainly
returns-then-begins_plainly c =
    let text = c.args.text.now in
    let plain = subst BeginsPlainly c.as_bytes.ensures.value c.if-begins_plainly.ensures in
    subst (λ o. IfSome o (λ n. number_of text ≡ Some (unsigned n))) (sym c.ok.ensures.value) (digits-read text c.parse.result plain c.parse.ensures.value.0)
