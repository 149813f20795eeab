-- From the last place that a script came to, to how it ended.
use Rattle.std.proofs.Common.{◌≡◌, ℕ, List, [], ◌++◌, Bool, Option, Some, ◌≤◌, arith, inl, inr, sym, ap, ◌∙◌, subst}
use Rattle.std.specs.Io.KnownBytes.{Appends, IsAtEnd}
use Rattle.wire_counted.specs.Written.{AppendsBeginning}
use Rattle.wire_counted.proofs.Known.{Appends-then, Consumes-none, beginning_behind, beginning_of_more, beginning_of_nothing}
use Rattle.shard_gate.specs.Starts.{Start}
use Rattle.shard_gate.specs.declared.source.Source.{Source}
use Rattle.shard_gate.specs.declared.source.Source.TheVariants.{Records as FromRecords}
use Rattle.script.specs.Lines.{Line, all_lines, whole_lines}
use Rattle.script.specs.Pending.{ended, left, last}
use Rattle.script.specs.Cursor.{Cursor, after_lines, beginning, lines_text}
use Rattle.script.specs.World.{World, opening_world}
use Rattle.script.specs.Traced.{HasStepsAlone, StepsStayAlone}
use Rattle.gate.specs.Records.{on}
use Rattle.service.specs.Reopening.{record_at}
use Rattle.script.specs.Output.{replies_text, trace_if, world_after_lines}
use Rattle.script.specs.Progress.{Progress, Stopped}
use Rattle.script.specs.Endings.{Ran, Halted, IfRefused, IsDeviceFault, IsResumedFault, IsResumingFault, IsScriptFault, IsWriteFault}
use Rattle.script.specs.declared.fault.ScriptFault.{ScriptFault}
use Rattle.script.specs.declared.fault.ScriptFault.TheVariants.{Memory, Read, Write, Setting, Records, QueueFull}
use Rattle.service_model.specs.Service.{Entry}
use Rattle.service_model_types.specs.declared.settings.Settings.{Settings}
use Rattle.script.proofs.LineLemmas.{ended-whole, ended-all}
use Rattle.script.proofs.OutputLemmas.{lines_text-is, refused-is, settings-is, world-is}
use Rattle.script.proofs.RecordLaws.{records-tell-steps}
use Rattle.script.proofs.Steps.{Progress-none, after_lines-append, lines_text-append}

-- what stands at a beginning stands at its own
pub begins_so : (c : Cursor) (K : Settings) (W : World) → c ≡ beginning K W → c ≡ beginning c.settings c.world
begins_so c K W is = is ∙ sym (ap (λ (d : Cursor). beginning d.settings d.world) is)

-- before the first line nothing was served
pub before_first : (c : Cursor) (p : Line) (r w : Option (List ℕ)) → c ≡ beginning c.settings c.world → p ≡ Some [] → Progress r (beginning c.settings c.world) (Some []) w r c p w
before_first c p r w is line =
    let c0 = beginning c.settings c.world in
    subst (λ q. Progress r c0 (Some []) w r c q w) (sym line) (subst (λ d. Progress r c0 (Some []) w r d (Some []) w) (sym is) (Progress-none r c0 (Some []) w))

-- the texts of the whole lines, and then of a last one, are the replies
whole_replies : (K : Settings) (W : World) (text : List ℕ) → lines_text (beginning K W) (ended (Some []) text) ≡ replies_text K W (whole_lines text)
whole_replies K W text = ap (lines_text (beginning K W)) (ended-whole text) ∙ lines_text-is (beginning K W) (whole_lines text)

all_replies : (K : Settings) (W : World) (text : List ℕ) → lines_text (beginning K W) (ended (Some []) text) ++ lines_text (after_lines (beginning K W) (ended (Some []) text)) (last (left (Some []) text)) ≡ replies_text K W (all_lines text)
all_replies K W text =
    sym (lines_text-append (beginning K W) (ended (Some []) text) (last (left (Some []) text)))
    ∙ ap (lines_text (beginning K W)) (ended-all text) ∙ lines_text-is (beginning K W) (all_lines text)

-- where all lines lead
all_after : (K : Settings) (W : World) (text : List ℕ) → after_lines (after_lines (beginning K W) (ended (Some []) text)) (last (left (Some []) text)) ≡ after_lines (beginning K W) (all_lines text)
all_after K W text = sym (after_lines-append (beginning K W) (ended (Some []) text) (last (left (Some []) text))) ∙ ap (after_lines (beginning K W)) (ended-all text)

-- a script that came to the end of its input and served the last line
module _ (K : Settings) (W : World) (r w r1 : Option (List ℕ)) (c1 : Cursor) (p1 : Line) (w1 : Option (List ℕ)) (c2 : Cursor) (w2 : Option (List ℕ)) (a : Progress r (beginning K W) (Some []) w r1 c1 p1 w1)
    (cursor : c2 ≡ after_lines c1 (last p1)) (written : Appends w1 w2 (lines_text c1 (last p1))) where
  came_to : c2 ≡ after_lines (beginning K W) (all_lines a.text)
  came_to =
      let is : c2 ≡ after_lines (after_lines (beginning K W) (ended (Some []) a.text)) (last (left (Some []) a.text)) = rw (← a.served.cursor_is, ← a.served.line_is) cursor in
      is ∙ all_after K W a.text

  pub came_to_world : c2.world ≡ world_after_lines K W (all_lines a.text)
  came_to_world = ap (λ (c : Cursor). c.world) came_to ∙ world-is (beginning K W) (all_lines a.text)

  wrote_replies : Appends w w2 (replies_text K W (all_lines a.text))
  wrote_replies =
      let first = lines_text (beginning K W) (ended (Some []) a.text) in
      let rest : Appends w1 w2 (lines_text (after_lines (beginning K W) (ended (Some []) a.text)) (last (left (Some []) a.text))) = rw (← a.served.cursor_is, ← a.served.line_is) written in
      rw (← all_replies K W a.text) (Appends-then w w1 w2 first _ a.served.written rest)

  -- the steps were written after the replies, where they were asked for
  pub ran : (trace : Bool) (w3 : Option (List ℕ)) → IsAtEnd r1 → Appends w2 w3 (trace_if trace c2.world.steps) → Ran K trace W r w r1 w3 c2.refused c2.world.records
  ran trace w3 end traced =
      let lines = all_lines a.text in
      let steps : Appends w2 w3 (trace_if trace (world_after_lines K W lines).steps) = subst (λ X. Appends w2 w3 (trace_if trace X.steps)) came_to_world traced in
      record {
        text = a.text;
        read = a.read;
        at_end = end;
        written = Appends-then w w2 w3 (replies_text K W lines) (trace_if trace (world_after_lines K W lines).steps) wrote_replies steps;
        refused_is = ap (λ (c : Cursor). c.refused) came_to ∙ refused-is (beginning K W) lines;
        records_are = ap (λ X. X.records) came_to_world;
      }

  pub broke_in_trace : (trace : Bool) (w3 : Option (List ℕ)) → IsAtEnd r1 → AppendsBeginning w2 w3 (trace_if trace c2.world.steps) → Halted K trace W r w r1 w3
  broke_in_trace trace w3 end begun =
      let lines = all_lines a.text in
      let steps : AppendsBeginning w2 w3 (trace_if trace (world_after_lines K W lines).steps) = subst (λ X. AppendsBeginning w2 w3 (trace_if trace X.steps)) came_to_world begun in
      inr (record { text = a.text; read = a.read; at_end = end; begun = beginning_behind w w2 w3 (replies_text K W lines) (trace_if trace (world_after_lines K W lines).steps) wrote_replies steps })

  -- where the records have no entries but the steps
  pub steps_alone : StepsStayAlone K W → HasStepsAlone c2.settings c2.world
  steps_alone alone =
      let same : c2.settings ≡ K = ap (λ (c : Cursor). c.settings) came_to ∙ settings-is (beginning K W) (all_lines a.text) in
      subst (λ k. HasStepsAlone k c2.world) (sym same) (subst (λ X. HasStepsAlone K X) (sym came_to_world) (alone (all_lines a.text)))

-- without records there are no entries but the steps
pub stays_alone : (K : Settings) (R : List (List Entry)) → R ≡ [] → StepsStayAlone K (opening_world K R)
stays_alone K R none = λ lines shard below.
    records-tell-steps FromRecords K R lines shard below ∙ ap (λ logs. record_at logs shard ++ on shard (world_after_lines K (opening_world K R) lines).steps) none

pub broke : (K : Settings) (W : World) (trace : Bool) (r w r1 w1 : Option (List ℕ)) → Stopped r (beginning K W) (Some []) w r1 w1 → Halted K trace W r w r1 w1
broke K W trace r w r1 w1 a = inl (record { text = a.text; read = a.read; begun = rw (← whole_replies K W a.text) a.begun })

pub broke_at_end : (K : Settings) (W : World) (trace : Bool) (r w r1 : Option (List ℕ)) (c1 : Cursor) (p1 : Line) (w1 w2 : Option (List ℕ)) → Progress r (beginning K W) (Some []) w r1 c1 p1 w1 → IsAtEnd r1
    → AppendsBeginning w1 w2 (lines_text c1 (last p1)) → Halted K trace W r w r1 w2
broke_at_end K W trace r w r1 c1 p1 w1 w2 a end begun =
    let first = lines_text (beginning K W) (ended (Some []) a.text) in
    let rest : AppendsBeginning w1 w2 (lines_text (after_lines (beginning K W) (ended (Some []) a.text)) (last (left (Some []) a.text))) = rw (← a.served.cursor_is, ← a.served.line_is) begun in
    let replies : AppendsBeginning w w2 (replies_text K W (all_lines a.text)) = rw (← all_replies K W a.text) (beginning_behind w w1 w2 first _ a.served.written rest) in
    inr (record { text = a.text; read = a.read; at_end = end; begun = beginning_of_more w w2 (replies_text K W (all_lines a.text)) (trace_if trace (world_after_lines K W (all_lines a.text)).steps) replies })

pub nothing_done : (K : Settings) (W : World) (trace : Bool) (r w : Option (List ℕ)) → Halted K trace W r w r w
nothing_done K W trace r w = inl (record { text = []; read = Consumes-none r; begun = beginning_of_nothing w _ })

-- ---- whose fault it was

pub fault_in_turn : (e : ScriptFault) (r0 r1 r2 w0 w1 w2 : ℕ) → r0 ≤ r1 → w0 ≤ w1 → IsDeviceFault e r1 r2 w1 w2 → IsDeviceFault e r0 r2 w0 w2
fault_in_turn Memory r0 r1 r2 w0 w1 w2 r w h = tt
fault_in_turn (Read e) r0 r1 r2 w0 w1 w2 r w h = omega (arith, h)
fault_in_turn (Write e) r0 r1 r2 w0 w1 w2 r w h = omega (arith, h)
fault_in_turn (Setting name) r0 r1 r2 w0 w1 w2 r w h = absurd h
fault_in_turn Records r0 r1 r2 w0 w1 w2 r w h = absurd h
fault_in_turn QueueFull r0 r1 r2 w0 w1 w2 r w h = absurd h

pub fault_at_end : (e : ScriptFault) (r0 r1 w0 w1 w2 : ℕ) → w0 ≤ w1 → IsWriteFault e w1 w2 → IsDeviceFault e r0 r1 w0 w2
fault_at_end Memory r0 r1 w0 w1 w2 w h = tt
fault_at_end (Read e) r0 r1 w0 w1 w2 w h = absurd h
fault_at_end (Write e) r0 r1 w0 w1 w2 w h = omega (arith, h)
fault_at_end (Setting name) r0 r1 w0 w1 w2 w h = absurd h
fault_at_end Records r0 r1 w0 w1 w2 w h = absurd h
fault_at_end QueueFull r0 r1 w0 w1 w2 w h = absurd h

-- what fails after the opening, as a fault of the whole
pub fault_of_script : (K : Settings) (R : List (List Entry)) (e : ScriptFault) (r r' w w' : ℕ) → IsDeviceFault e r r' w w' → IsScriptFault K R e r r' w w'
fault_of_script K R Memory r r' w w' h = tt
fault_of_script K R (Read e) r r' w w' h = h
fault_of_script K R (Write e) r r' w w' h = h
fault_of_script K R (Setting name) r r' w w' h = absurd h
fault_of_script K R Records r r' w w' h = absurd h
fault_of_script K R QueueFull r r' w w' h = absurd h

pub fault_of_resumed : (source : Source) (K : Settings) (starts : List Start) (e : ScriptFault) (r r' w w' : ℕ) → IsDeviceFault e r r' w w' → IsResumedFault source K starts e r r' w w'
fault_of_resumed source K starts Memory r r' w w' h = tt
fault_of_resumed source K starts (Read e) r r' w w' h = h
fault_of_resumed source K starts (Write e) r r' w w' h = h
fault_of_resumed source K starts (Setting name) r r' w w' h = absurd h
fault_of_resumed source K starts Records r r' w w' h = absurd h
fault_of_resumed source K starts QueueFull r r' w w' h = absurd h

pub resuming_fault_of : (source : Source) (K : Settings) (starts : List Start) (e : ScriptFault) (r r' w w' : ℕ) → IsResumingFault source K starts e → IsResumedFault source K starts e r r' w w'
resuming_fault_of source K starts Memory r r' w w' h = tt
resuming_fault_of source K starts (Read e) r r' w w' h = absurd h
resuming_fault_of source K starts (Write e) r r' w w' h = absurd h
resuming_fault_of source K starts (Setting name) r r' w w' h = h
resuming_fault_of source K starts Records r r' w w' h = absurd h
resuming_fault_of source K starts QueueFull r r' w w' h = h

-- a fault of a device or of memory is no refused opening's
pub not_refused_in_turn : (e : ScriptFault) (r r' w w' : ℕ) (P : Type 0) → IsDeviceFault e r r' w w' → IfRefused e P
not_refused_in_turn Memory r r' w w' P h = tt
not_refused_in_turn (Read e) r r' w w' P h = tt
not_refused_in_turn (Write e) r r' w w' P h = tt
not_refused_in_turn (Setting name) r r' w w' P h = absurd h
not_refused_in_turn Records r r' w w' P h = absurd h
not_refused_in_turn QueueFull r r' w w' P h = absurd h

pub not_refused_at_end : (e : ScriptFault) (w w' : ℕ) (P : Type 0) → IsWriteFault e w w' → IfRefused e P
not_refused_at_end Memory w w' P h = tt
not_refused_at_end (Read e) w w' P h = absurd h
not_refused_at_end (Write e) w w' P h = tt
not_refused_at_end (Setting name) w w' P h = absurd h
not_refused_at_end Records w w' P h = absurd h
not_refused_at_end QueueFull w w' P h = absurd h
