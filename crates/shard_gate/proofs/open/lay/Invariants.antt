use Rattle.std.proofs.Common.{◌≡◌, ◌++◌, map}
use Rattle.gate.specs.Records.{Each, KeepsAll, replay}
use Rattle.shard_gate.specs.Starts.{starting, waiting_in}
use Rattle.shard_gate.proofs.open.lay.Given as goal

abbrev pub invariant-loop-start : goal.invariant-loop-start
invariant-loop-start g l = record {
  starts : map (starting g.S.Object.opening) l.objects.items ≡ map (starting g.S.Object.opening) l.yielded;
  standing : Each l.objects.items (λ k x. g.S.Object.stands x.0 (replay g.S.Object.after (g.S.Object.opening x.0) x.1));
  keeping : Each l.objects.items (λ k x. KeepsAll g.S.Object.after g.S.Object.keeps (g.S.Object.opening x.0) x.1);
  waiting : l.all.items ≡ waiting_in l.source (map (starting g.S.Object.opening) l.yielded);
  rest : l.fn.given.items ≡ l.yielded ++ l.start-iterator.rest.items;
}
