-- a script that came to its end halted there, too: all of its output is a beginning of it
use Rattle.std.proofs.Common.{ℕ, List, Bool, Option, Result, Ok, Err, OnErr, [], inr, append-nil, false, refl, sym}
use Rattle.service_model.specs.Service.{Entry}
use Rattle.service_model_types.specs.declared.settings.Settings.{Settings}
use Rattle.script.specs.Endings.{Halted, Ran}
use Rattle.script.specs.Lines.{all_lines}
use Rattle.script.specs.Output.{output}
use Rattle.script.specs.World.{World}
use Rattle.shard_gate.specs.Starts.{Start}
use Rattle.shard_gate.specs.declared.source.Source.{Source}
use Rattle.lanes.specs.Reopened.{HaltedResumed, RanResumed}

pub ran-halted : (K : Settings) (W : World) (unread held unread' held' : Option (List ℕ)) (refused : Bool) (records : List (List Entry))
    → Ran K false W unread held unread' held' refused records → Halted K false W unread held unread' held'
ran-halted K W unread held unread' held' refused records h = inr (record {
  text = h.text;
  read = h.read;
  at_end = h.at_end;
  begun = record { beginning = output K false W (all_lines h.text); rest = []; parts = sym (append-nil _); written = h.written };
})

pub lanes-halted : (source : Source) (K : Settings) (starts : List Start) (unread held unread' held' : Option (List ℕ)) (refused : Bool) (records : List (List Entry))
    → RanResumed source K starts unread held unread' held' refused records → HaltedResumed source K starts unread held unread' held'
lanes-halted source K starts unread held unread' held' refused records h = inr (inr (record {
  service = h.service;
  passes = h.passes;
  opened = h.opened;
  refused = refused;
  ends = h.ends;
  replied = h.replied;
  logs = records;
  ran = h.ran;
  one = h.one;
  begun = record { beginning = []; rest = []; parts = refl; written = h.traced };
}))

-- what holds where a call failed
pub on-err : {A E : Type 0} (r : Result A E) (P Q : Type 0) → (P → Q) → OnErr r P → OnErr r Q
on-err (Ok x) P Q f p = tt
on-err (Err e) P Q f p = f p
