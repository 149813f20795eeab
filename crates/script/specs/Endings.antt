-- MEANING: How a script ends.
use Rattle.std.specs.Prelude.{◌≡◌, ℕ, ◌⊎◌, List, Bool, Option, Err}
use Rattle.std.specs.Io.KnownBytes.{Appends, Consumes, IsAtEnd}
use Rattle.wire_counted.specs.Failures.{Rose}
use Rattle.wire_counted.specs.Written.{AppendsBeginning}
use Rattle.script.specs.Lines.{all_lines, whole_lines}
use Rattle.script.specs.Output.{output, records_after, refuses, replies_text}
use Rattle.script.specs.World.{World}
use Rattle.script.specs.declared.fault.ScriptFault.{ScriptFault}
use Rattle.script.specs.declared.fault.ScriptFault.TheVariants.{Memory, Read, Write, Setting, Records, QueueFull}
use Rattle.wf_event_values.specs.declared.refusal.Refusal.{Refusal}
use Rattle.wf_event_values.specs.declared.refusal.Refusal.TheVariants as refusal
use Rattle.wf_event_values.specs.declared.field.Field.{Field}
use Rattle.wf_event_values.specs.declared.field.Field.TheVariants as field
use Rattle.wf_event_values.specs.Names.{field_name}
use Rattle.record_text.specs.declared.fault.WriteFault.{WriteFault}
use Rattle.record_text.specs.declared.fault.WriteFault.TheVariants as of_text
use Rattle.service_model.specs.Service.{Entry}
use Rattle.service_model_types.specs.declared.settings.Settings.{Settings}
use Rattle.service.specs.Ranges.{range_fault}
use Rattle.service.specs.Reopening.{opens_from}
use Rattle.service.specs.Resuming.{resumes_from}
use Rattle.shard_gate.specs.Starts.{Start}
use Rattle.shard_gate.specs.declared.source.Source.{Source}
use Rattle.shard_gate.specs.declared.source.Source.TheVariants.{Records as FromRecords}

-- the input was read to its end, just its output was written, `refused` says whether a reply in it is a refusal, and
-- the shards' records are those after its lines
pub record Ran (K : Settings) (trace : Bool) (W : World) (unread held unread' held' : Option (List ℕ)) (refused : Bool)
    (records : List (List Entry)) : Type 0 where
  pub text : List ℕ
  pub read : Consumes unread unread' text
  pub at_end : IsAtEnd unread'
  pub written : Appends held held' (output K trace W (all_lines text))
  pub refused_is : refused ≡ refuses K W (all_lines text)
  pub records_are : records ≡ records_after K W (all_lines text)

-- some input was read, and a beginning of the replies to its whole lines was written
pub record Broke (K : Settings) (W : World) (unread held unread' held' : Option (List ℕ)) : Type 0 where
  pub text : List ℕ
  pub read : Consumes unread unread' text
  pub begun : AppendsBeginning held held' (replies_text K W (whole_lines text))

-- the input was read to its end, and a beginning of its output was written
pub record BrokeAtEnd (K : Settings) (trace : Bool) (W : World) (unread held unread' held' : Option (List ℕ)) : Type 0 where
  pub text : List ℕ
  pub read : Consumes unread unread' text
  pub at_end : IsAtEnd unread'
  pub begun : AppendsBeginning held held' (output K trace W (all_lines text))

abbrev pub Halted : Settings → Bool → World → (unread held unread' held' : Option (List ℕ)) → Type 0
Halted K trace W unread held unread' held' = Broke K W unread held unread' held' ⊎ BrokeAtEnd K trace W unread held unread' held'

-- a fault is of the writer or of memory, and of the writer only where its count of failed calls rose
abbrev pub IsWriteFault : ScriptFault → ℕ → ℕ → Type 0
IsWriteFault Memory write write' = Unit {0}
IsWriteFault (Read e) write write' = ⊥
IsWriteFault (Write e) write write' = Rose write write'
IsWriteFault (Setting name) write write' = ⊥
IsWriteFault Records write write' = ⊥
IsWriteFault QueueFull write write' = ⊥

-- the fault of writing that this one is
abbrev pub IsOfWriting : WriteFault → ScriptFault → Type 0
IsOfWriting of_text.OutOfMemory fault = fault ≡ Memory
IsOfWriting (of_text.Write e) fault = fault ≡ Write e

-- a fault of the reader, of the writer or of memory, the first two only where that one's count of failed calls rose
abbrev pub IsDeviceFault : ScriptFault → ℕ → ℕ → ℕ → ℕ → Type 0
IsDeviceFault Memory read read' write write' = Unit {0}
IsDeviceFault (Read e) read read' write write' = Rose read read'
IsDeviceFault (Write e) read read' write write' = Rose write write'
IsDeviceFault (Setting name) read read' write write' = ⊥
IsDeviceFault Records read read' write write' = ⊥
IsDeviceFault QueueFull read read' write write' = ⊥

-- a fault before anything is read: this setting is the first one out of its range, the records are neither none nor one of
-- each shard, the hints of the tasks that wait don't fit, or memory ran out
abbrev pub IsOpeningFault : Source → Settings → List (List Entry) → ScriptFault → Type 0
IsOpeningFault source K R Memory = Unit {0}
IsOpeningFault source K R (Read e) = ⊥
IsOpeningFault source K R (Write e) = ⊥
IsOpeningFault source K R (Setting name) = (f : Field) × (range_fault K ≡ Err (refusal.InvalidArgument f)) × (name.now ≡ field_name f)
IsOpeningFault source K R Records = opens_from source K R ≡ Err (refusal.InvalidArgument field.Records)
IsOpeningFault source K R QueueFull = opens_from source K R ≡ Err refusal.QueueFull

-- a fault of the opening, of the reader, of the writer or of memory
abbrev pub IsScriptFault : Settings → List (List Entry) → ScriptFault → ℕ → ℕ → ℕ → ℕ → Type 0
IsScriptFault K R Memory read read' write write' = Unit {0}
IsScriptFault K R (Read e) read read' write write' = Rose read read'
IsScriptFault K R (Write e) read read' write write' = Rose write write'
IsScriptFault K R (Setting name) read read' write write' = IsOpeningFault FromRecords K R (Setting name)
IsScriptFault K R Records read read' write write' = IsOpeningFault FromRecords K R Records
IsScriptFault K R QueueFull read read' write write' = IsOpeningFault FromRecords K R QueueFull

-- a fault before anything is read, where shards are resumed: this setting is the first one out of its range, the hints of the
-- tasks that wait don't fit, or memory ran out
abbrev pub IsResumingFault : Source → Settings → List Start → ScriptFault → Type 0
IsResumingFault source K starts Memory = Unit {0}
IsResumingFault source K starts (Read e) = ⊥
IsResumingFault source K starts (Write e) = ⊥
IsResumingFault source K starts (Setting name) = (f : Field) × (range_fault K ≡ Err (refusal.InvalidArgument f)) × (name.now ≡ field_name f)
IsResumingFault source K starts Records = ⊥
IsResumingFault source K starts QueueFull = resumes_from source K starts ≡ Err refusal.QueueFull

-- a fault of resuming, of the reader, of the writer or of memory
abbrev pub IsResumedFault : Source → Settings → List Start → ScriptFault → ℕ → ℕ → ℕ → ℕ → Type 0
IsResumedFault source K starts Memory read read' write write' = Unit {0}
IsResumedFault source K starts (Read e) read read' write write' = Rose read read'
IsResumedFault source K starts (Write e) read read' write write' = Rose write write'
IsResumedFault source K starts (Setting name) read read' write write' = IsResumingFault source K starts (Setting name)
IsResumedFault source K starts Records read read' write write' = ⊥
IsResumedFault source K starts QueueFull read read' write write' = IsResumingFault source K starts QueueFull

-- P, where the fault is a refused opening's
abbrev pub IfRefused : ScriptFault → Type 0 → Type 0
IfRefused (Setting name) P = P
IfRefused Records P = P
IfRefused QueueFull P = P
IfRefused Memory P = Unit {0}
IfRefused (Read e) P = Unit {0}
IfRefused (Write e) P = Unit {0}

-- the fault of a setting that is out of its range, and that of the records' number
abbrev pub IsFaultOf : Field → ScriptFault → Type 0
IsFaultOf field.Records fault = fault ≡ Records
IsFaultOf f (Setting name) = name.now ≡ field_name f
IsFaultOf f Memory = ⊥
IsFaultOf f (Read e) = ⊥
IsFaultOf f (Write e) = ⊥
IsFaultOf f Records = ⊥
IsFaultOf f QueueFull = ⊥

-- the fault of an opening that was refused
abbrev pub IsRefusedOpening : Refusal → ScriptFault → Type 0
IsRefusedOpening (refusal.InvalidArgument f) fault = IsFaultOf f fault
IsRefusedOpening refusal.QueueFull fault = fault ≡ QueueFull
IsRefusedOpening _ fault = fault ≡ Memory
