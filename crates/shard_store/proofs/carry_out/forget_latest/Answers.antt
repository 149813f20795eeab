use Rattle.std.proofs.Common.{◌≡◌, ◌∙◌, ap, sym, arith, true, ℕ, cond, None, Some}
use Rattle.std.specs.Prelude.{◌==◌, bytes_eq}
use Rattle.std.proofs.lemmas.Bool.Decides.{nat_tests}
use Rattle.std.proofs.lemmas.Map.Text.{hash_map_updates_text}
use Rattle.indexmap.specs.IndexMap.{get_by_text}
use Rattle.shard_store.specs.Fitting.{without}
use Rattle.shard_store.proofs.carry_out.forget_latest.Goals as goal

is-same : (m n : ℕ) → m ≡ n → (m == n) ≡ true
is-same m n e = grind (arith, nat_tests, e)

pub returns-then-latest-place : goal.returns-then-latest-place
returns-then-latest-place c w =
    let id = c.args.id.now in
    let look = get_by_text c.args.index.now in
    let found : look id ≡ Some c.in-Some.latest = sym (c.copied.ensures ∙ c.get.ensures.value ∙ ap look c.as_str.ensures.value) ∙ c.in-Some.is in
    let gone : without c.args.place (look id) ≡ None = ap (without c.args.place) found ∙ ap (λ b. cond b None (Some c.in-Some.latest)) (is-same c.in-Some.latest c.args.place c.if-latest-place.true) in
    hash_map_updates_text c.as_str-then-latest-place.result.now c.args.index.now c.swap_remove.new.self None c.swap_remove.ensures.updates w
    ∙ ap (λ k. cond (bytes_eq k w) None (look w)) c.as_str-then-latest-place.ensures.value
    ∙ ap (λ o. cond (bytes_eq id w) o (look w)) (sym gone)
