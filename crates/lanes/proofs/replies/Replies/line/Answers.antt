use Rattle.std.proofs.Common.{◌≡◌, ◌-◌, Some, drop, slice_get, take, refl, sym, ap, ◌∙◌, arith}
use Rattle.std.proofs.lemmas.Option.{same_Some, slice_get_read}
use Rattle.std.specs.Prelude.{slice_range}
use Rattle.lanes.proofs.replies.Replies.line.Goals as goal

pub slice_bounds-result-count : goal.slice_bounds-result-count
slice_bounds-result-count c =
    let xs = c.args.self.now.answers.items in
    let y = c.index-answer.result.now in
    let there : slice_get xs c.args.at ≡ Some y = slice_get_read xs _ c.args.at y refl (omega (arith, c.requires, c.args.self.now.answers.ok.0)) c.index-answer.ensures in
    (c.args.self.now.within c.args.at y there).0

pub returns : goal.returns
returns c = λ a at.
    let xs = c.args.self.now.answers.items in
    let y = c.index-answer.result.now in
    let there : slice_get xs c.args.at ≡ Some y = slice_get_read xs _ c.args.at y refl (omega (arith, c.requires, c.args.self.now.answers.ok.0)) c.index-answer.ensures in
    ap (λ t. take (y.end - y.start) (drop y.start t)) c.deref.ensures.value ∙ ap (λ z. slice_range c.args.self.now.text.items z.start z.end) (same_Some y a (sym there ∙ at))
