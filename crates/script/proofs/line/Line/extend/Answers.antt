use Rattle.std.proofs.Common.{◌≡◌, Some, None, option_map, arith, sym, ap, ◌∙◌}
use Rattle.script.specs.Pending.{grown}
use Rattle.script.proofs.PartLemmas.{grown-none, grown-fits, grown-over, some_bytes}
use Rattle.script.proofs.line.Line.extend.Goals as goal

pub returns-in_default : goal.returns-in_default
returns-in_default c =
    let part = c.args.part.now in
    let none : c.args.self.now ≡ None = sym c.self.view_is ∙ ap (option_map (λ v. v.items)) c.in_default.is in
    c.self.view_is ∙ none ∙ sym (ap (λ l. grown l part) none ∙ grown-none part)

pub returns-then-len-part-gt-LINE_LIMIT : goal.returns-then-len-part-gt-LINE_LIMIT
returns-then-len-part-gt-LINE_LIMIT c =
    let part = c.args.part.now in
    let so_far = c.in-Some.bytes.items in
    let some : c.args.self.now ≡ Some so_far = sym c.self.view_is ∙ ap (option_map (λ v. v.items)) c.in-Some.is in
    sym (ap (λ l. grown l part) some ∙ grown-over so_far part (some_bytes part c.if-is_empty.ensures) (omega arith))

pub returns : goal.returns
returns c =
    let part = c.args.part.now in
    let so_far = c.in-Some.bytes.items in
    let some : c.args.self.now ≡ Some so_far = sym c.self.view_is ∙ ap (option_map (λ v. v.items)) c.in-Some.is in
    ap Some c.in_ok-extend_from_slice.ensures.items ∙ sym (ap (λ l. grown l part) some ∙ grown-fits so_far part (some_bytes part c.if-is_empty.ensures) (omega arith))
