-- MEANING: what lines over several lanes make of a service that was opened from records
use Rattle.std.specs.Prelude.{◌≡◌, ◌⊎◌, ℕ, ◌*◌, ◌<◌, List, Bool, false, Option, Some, Err, length, slice_get}
use Rattle.std.specs.Io.KnownBytes.{Appends}
use Rattle.wire_counted.specs.Failures.{Rose}
use Rattle.wire_counted.specs.Written.{AppendsBeginning}
use Rattle.wf_event_values.specs.declared.field.Field.{Field}
use Rattle.wf_event_values.specs.declared.field.Field.TheVariants as field
use Rattle.wf_event_values.specs.declared.refusal.Refusal.TheVariants as refusal
use Rattle.wf_event_values.specs.Names.{field_name}
use Rattle.service_model.specs.Service.{Entry}
use Rattle.service_model_types.specs.declared.call.Call.{Call}
use Rattle.service_model_types.specs.declared.request.Hint.{Hint}
use Rattle.service_model_types.specs.declared.settings.Settings.{Settings}
use Rattle.service_model_types.specs.Replies.{Reply}
use Rattle.gate.specs.AtClose.{HasDone, IsEnd}
use Rattle.gate.specs.Passes.{IsFresh, base, seen, tickets as tickets_seen}
use Rattle.gate.specs.Records.{Begins}
use Rattle.matching.specs.AtClose as of_queue
use Rattle.matching.specs.Named as matching
use Rattle.shard_gate.specs.GateViews as gates
use Rattle.shard_gate.specs.Starts.{Start, records_in}
use Rattle.shard_gate.specs.declared.source.Source.{Source}
use Rattle.service.specs.AtClose.{IsHistoryOf, parts_at}
use Rattle.service.specs.Contents.{opening_contents}
use Rattle.service.specs.HeldHints.{HoldsAtOpening}
use Rattle.service.specs.Ranges.{range_fault}
use Rattle.service.specs.Reopening.{opens, record_at}
use Rattle.service.specs.Resuming.{Resumes}
use Rattle.service.specs.Services.{IsPassOf, known_by, settings_of}
use Rattle.service.specs.ServiceViews.{Service}
use Rattle.service.specs.ServiceViews.{Pass}
use Rattle.script.specs.declared.fault.ScriptFault.{ScriptFault}
use Rattle.script.specs.declared.fault.ScriptFault.TheVariants.{Memory, Read, Write, Setting, Records, QueueFull}
use Rattle.script.specs.Output.{trace_if}
use Rattle.lanes.specs.Endings as over
use Rattle.lanes.specs.Meetings.{PassServed, PassesMet}

-- A service was opened from these records, before which no shard has runs, and gave these passes: each is new and begins with the record
-- of each shard, and knows the hints of the tasks that wait in what the records leave
pub record IsOpenedFrom (K : Settings) (R : List (List Entry)) (x : Service) (passes : List Pass) : Type 0 where
  pub settings : settings_of x ≡ K
  pub count : length passes ≡ K.passes
  pub own : (k : ℕ) (p : Pass) → slice_get passes k ≡ Some p → IsPassOf p x
  pub fresh : (k : ℕ) (p : Pass) → slice_get passes k ≡ Some p → IsFresh k (known_by p)
  pub starts : gates.starts_of x.gate ≡ opening_contents K
  pub bases : (k : ℕ) (p : Pass) → slice_get passes k ≡ Some p → (s : ℕ) → base (known_by p) s ≡ record_at R s
  pub held : HoldsAtOpening K R passes

-- The records at the end, where these are the passes then: one of each shard, which begins with the one that was given; what comes
-- after that are steps of passes, and those of each pass are its own, once and in order
pub record AreRecordsAfter (K : Settings) (R : List (List Entry)) (ends : List Pass) (logs : List (List Entry)) : Type 0 where
  pub count : length logs ≡ K.shards
  pub records : (s : ℕ) (log : List Entry) → slice_get logs s ≡ Some log → IsEnd (record_at R s) K.passes log
  pub passes : (s : ℕ) (log : List Entry) (k : ℕ) (p : Pass) → slice_get logs s ≡ Some log → slice_get ends k ≡ Some p
      → HasDone (record_at R s) (known_by p) s log

-- A call was served so by a service whose records at its end are these: what the pass then has seen of each shard
-- begins that shard's record.
-- So each reply is the sequential service's after the entries that stand before the call's own step in the record of the end.
pub record ServedAlong (x : Service) (logs : List (List Entry)) (p p' : Pass) (call : Call) (r : Reply) : Type 0 where
  pub served : PassServed x p p' call r
  pub along : (shard : ℕ) → shard < (settings_of x).shards → Begins (seen (known_by p') shard) (record_at logs shard)

-- The one history of all shards at the end: all steps since the opening, whichever lane made them, in the order of
-- their tickets. Each shard's
-- record is the one that was given and, after it, the steps on that shard; what comes before a step grounds it; and the tickets that
-- these passes have seen of a shard begin that shard's.
pub record AreOneHistory (x : Service) (ends : List Pass) (logs : List (List Entry)) : Type 0 where
  pub tickets : List (List ℕ)
  pub history : IsHistoryOf x logs tickets
  pub seen : (s : ℕ) (ts : List ℕ) (k : ℕ) (p : Pass) → slice_get tickets s ≡ Some ts → slice_get ends k ≡ Some p
      → Begins (tickets_seen (known_by p) s) ts

-- What came of the task queues, where each held these hints at the opening, and these are the passes at the end. Of each queue there is
-- one list of all hints that were pushed, those at the opening first, and one of all that were popped. All are of passes, and those of
-- each pass are its own, once and in order.
abbrev pub AreQueuesAfter : Settings → List (List Hint) → List Pass → Type 0
AreQueuesAfter K held ends = (slot : ℕ) → slot < 2 * length K.queues
    → of_queue.IsEnd (matching.held_at held slot) K.passes (parts_at ends slot)

-- How a service came to be, with the passes that it gave, and the hints that its queues held then
abbrev pub Opening : Type 1
Opening = Service → List Pass → Type 0

abbrev pub HintsHeld : Opening → Type 0
HintsHeld opened = (x : Service) (passes : List Pass) → opened x passes → List (List Hint)

-- all lines of the input were served by a service that came to be so with these records, these are its records at the
-- end, and after the replies
-- the steps of its one history were written, where they were asked for
pub record RanOver (Opened : Opening) (held_by : HintsHeld Opened) (K : Settings) (trace : Bool) (R : List (List Entry))
    (unread held unread' held' : Option (List ℕ)) (refused : Bool) (logs : List (List Entry)) : Type 0 where
  pub service : Service
  pub passes : List Pass
  pub opened : Opened service passes
  pub ends : List Pass
  pub replied : Option (List ℕ)
  pub ran : over.Ran (ServedAlong service logs) (PassesMet service) K passes unread held unread' replied refused ends
  pub records : AreRecordsAfter K R ends logs
  pub queues : AreQueuesAfter K (held_by service passes opened) ends
  pub one : AreOneHistory service ends logs
  pub traced : Appends replied held' (trace_if trace one.history.run)

-- the service came to be so, and the script ended early
pub record BrokeOver (Opened : Opening) (K : Settings) (unread held unread' held' : Option (List ℕ)) : Type 0 where
  pub service : Service
  pub passes : List Pass
  pub opened : Opened service passes
  pub halted : over.Halted (PassServed service) (PassesMet service) K passes unread held unread' held'

-- all lines were served, and after the replies a beginning of the steps was written, where these were asked for
pub record BrokeInTraceOver (Opened : Opening) (K : Settings) (trace : Bool) (unread held unread' held' : Option (List ℕ)) : Type 0 where
  pub service : Service
  pub passes : List Pass
  pub opened : Opened service passes
  pub refused : Bool
  pub ends : List Pass
  pub replied : Option (List ℕ)
  pub logs : List (List Entry)
  pub ran : over.Ran (ServedAlong service logs) (PassesMet service) K passes unread held unread' replied refused ends
  pub one : AreOneHistory service ends logs
  pub begun : AppendsBeginning replied held' (trace_if trace one.history.run)

-- nothing was read and nothing written, or the service came to be so
abbrev pub HaltedOver : Opening → Settings → Bool → (unread held unread' held' : Option (List ℕ)) → Type 0
HaltedOver Opened K trace unread held unread' held' = ((unread' ≡ unread) × (held' ≡ held))
    ⊎ (BrokeOver Opened K unread held unread' held' ⊎ BrokeInTraceOver Opened K trace unread held unread' held')

-- so it was by a service that was opened from the records
abbrev pub RanFrom : Settings → Bool → List (List Entry) → (unread held unread' held' : Option (List ℕ)) → Bool → List (List Entry) → Type 0
RanFrom K trace R = RanOver (IsOpenedFrom K R) (λ x passes opened. opened.held.held) K trace R

abbrev pub HaltedFrom : Settings → Bool → List (List Entry) → (unread held unread' held' : Option (List ℕ)) → Type 0
HaltedFrom K trace R = HaltedOver (IsOpenedFrom K R) K trace

-- and by one that was resumed from shards, of each a content and the record of what was done since; no steps are written
abbrev pub RanResumed : Source → Settings → List Start → (unread held unread' held' : Option (List ℕ)) → Bool → List (List Entry) → Type 0
RanResumed source K starts = RanOver (Resumes source K starts) (λ x passes resumed. resumed.held.held) K false (records_in starts)

abbrev pub HaltedResumed : Source → Settings → List Start → (unread held unread' held' : Option (List ℕ)) → Type 0
HaltedResumed source K starts = HaltedOver (Resumes source K starts) K false

-- a fault of the opening, by what refuses it, or of the reader, of the writer or of memory
abbrev pub IsFaultFrom : Settings → List (List Entry) → ScriptFault → ℕ → ℕ → ℕ → ℕ → Type 0
IsFaultFrom K R Memory read read' write write' = Unit {0}
IsFaultFrom K R (Read e) read read' write write' = Rose read read'
IsFaultFrom K R (Write e) read read' write write' = Rose write write'
IsFaultFrom K R (Setting name) read read' write write' = (f : Field) × (range_fault K ≡ Err (refusal.InvalidArgument f))
    × (name.now ≡ field_name f)
IsFaultFrom K R Records read read' write write' = opens K R ≡ Err (refusal.InvalidArgument field.Records)
IsFaultFrom K R QueueFull read read' write write' = opens K R ≡ Err refusal.QueueFull
