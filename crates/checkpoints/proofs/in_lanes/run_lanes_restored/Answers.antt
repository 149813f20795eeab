use Rattle.std.proofs.lemmas.Result.{IfErr-weaker, IfOk-weaker}
use Rattle.checkpoints.proofs.HaltLemmas.{on-err}
use Rattle.checkpoints.proofs.StartLemmas.{from-picked, picked-stand, picked-starts}
use Rattle.checkpoints.proofs.in_lanes.run_lanes_restored.Goals as goal

pub run_lanes_standing-requires-clause-starts : goal.run_lanes_standing-requires-clause-starts
run_lanes_standing-requires-clause-starts g c = λ κs lives.
    picked-starts c.texts_spell_one_content.ensures.found c.spelled_contents_are_of_their_shard.ensures g.S.Object.stands c.args.settings.now c.args.shards.items c.args.records.items c.requires.restored

pub run_lanes_standing-requires-clause-standing : goal.run_lanes_standing-requires-clause-standing
run_lanes_standing-requires-clause-standing g c = λ κs lives.
    picked-stand c.texts_spell_one_content.ensures.found g.S.Object.stands c.args.settings.now c.args.shards.items c.requires.restored

pub returns-clause-ran : goal.returns-clause-ran
returns-clause-ran g c = IfOk-weaker c.run_lanes_standing.result _ _ (λ o h. from-picked c.texts_spell_one_content.ensures.found g.S.Object.stands c.args.settings.now c.args.shards.items c.args.records.items _ c.requires.restored h) c.run_lanes_standing.ensures.ran

pub returns-clause-fault : goal.returns-clause-fault
returns-clause-fault g c = IfErr-weaker c.run_lanes_standing.result _ _ (λ e h. from-picked c.texts_spell_one_content.ensures.found g.S.Object.stands c.args.settings.now c.args.shards.items c.args.records.items _ c.requires.restored h) c.run_lanes_standing.ensures.fault

pub returns-clause-halted : goal.returns-clause-halted
returns-clause-halted g c = on-err c.run_lanes_standing.result _ _ (λ h. from-picked c.texts_spell_one_content.ensures.found g.S.Object.stands c.args.settings.now c.args.shards.items c.args.records.items _ c.requires.restored h) c.run_lanes_standing.ensures.halted
