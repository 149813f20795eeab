use Rattle.std.proofs.Common.{◌≡◌, ◌++◌, [], ◌∷◌, ◌∙◌, length, length-append, ap, sym, arith}
use Rattle.std.proofs.lemmas.List.{append_assoc, length-map}
use Rattle.service.specs.Contents.{setup_of}
use Rattle.service.proofs.ReopenLemmas.{given-more, records-more}
use Rattle.service.proofs.reopen.beside_setups.Goals as goal

pub setup-requires-clause-shard : goal.setup-requires-clause-shard
setup-requires-clause-shard c =
    let l = c.loop-log in
    let next = c.next.new.self.rest.items in
    let count = sym (length-map l.all.items (λ g. g.1)) ∙ ap length l.invariant.records in
    let all = ap length (l.invariant.rest ∙ ap (λ t. l.yielded ++ t) c.in-Some.ensures.steps.0) ∙ length-append l.yielded (c.in-Some.log ∷ next) in
    omega (arith, count, all, c.len-shard.ensures, l.all.ok, c.requires.count, c.requires.range.few_shards)

pub loop-log-preserved : goal.loop-log-preserved
loop-log-preserved c =
    let l = c.loop-log in
    let log = c.in-Some.log in
    let place : c.len-shard.result ≡ length l.all.items = omega (arith, c.len-shard.ensures, l.all.ok) in
    record {
      setups = given-more c.args.settings.now l.all.items _ _ log c.in_ok-push.ensures.items (c.in_ok-setup.ensures ∙ ap (λ n. setup_of c.args.settings.now n) place) l.invariant.setups;
      records = records-more l.all.items _ _ log l.yielded c.in_ok-push.ensures.items l.invariant.records;
      rest = l.invariant.rest ∙ ap (λ t. l.yielded ++ t) c.in-Some.ensures.steps.0 ∙ sym (append_assoc l.yielded (log ∷ []) c.next.new.self.rest.items);
    }
