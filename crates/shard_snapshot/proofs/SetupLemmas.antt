-- a content that a text spells is one of the shard with the text's setup
use Rattle.std.proofs.Common.{◌≡◌, ℕ, zero, suc, ◌+◌, Bool, true, false, cond, List, [], ◌∷◌, ◌++◌, length, map, refl, ap, ◌∙◌, subst, replicate, Option, Some, None, Result, Ok, Err, arith}
use Rattle.std.specs.Prelude.{is_some, ◌==◌, ◌&&◌, ◌||◌, nat_le, nat_lt}
use Rattle.std.specs.List.{AllByRecursion}
use Rattle.std.proofs.lemmas.Bool.Decides.{nat_tests}
use Rattle.wf_event.specs.declared.event.Event.{Event}
use Rattle.wf_event.specs.declared.attributes.Attributes.{Attributes}
use Rattle.wf_event.specs.declared.attributes.Attributes.TheVariants as of
use Rattle.service_model_types.specs.declared.content.Content.{Content}
use Rattle.service_model_types.specs.declared.content.Dispatch.{Dispatch}
use Rattle.service_model_types.specs.declared.content.Setup.{Setup}
use Rattle.service_model_types.specs.declared.journal.Fact.{Fact}
use Rattle.service_model.specs.Journal.{Journal}
use Rattle.service_model.specs.Outcome.{made_by, noted}
use Rattle.service_model.specs.RunState.{state_of}
use Rattle.service_model.specs.Service.{entries, with_all_sent}
use Rattle.snapshot_facts.specs.Restoring.{may_come}
use Rattle.snapshot_pieces.specs.declared.piece.CountedPiece.{CountedPiece}
use Rattle.snapshot_pieces.specs.declared.piece.EndPiece.{EndPiece}
use Rattle.snapshot_pieces.specs.declared.piece.NotePiece.{NotePiece}
use Rattle.snapshot_pieces.specs.declared.piece.Piece.{Piece}
use Rattle.snapshot_pieces.specs.declared.piece.Piece.TheVariants as piece
use Rattle.snapshot_pieces.specs.declared.piece.TransferPiece.{TransferPiece}
use Rattle.shard_snapshot.specs.declared.damage.Damage.{Damage}
use Rattle.shard_snapshot.specs.declared.damage.Damage.TheVariants as damage
use Rattle.shard_snapshot.specs.Laid.{Laid, added_to, begun_in, beginning_with, between, counted, counted_dispatch, dispatch_laid, end_laid, ended, event_laid, gone_laid, has_counts, is_next, laid_first, may_end, next_event, none_waits, note_laid, noted_times, on_ok, request_laid, sent, stepped, transfer_laid, where_so, with_run}
use Rattle.shard_snapshot.specs.Stages.{IsOfShard, Point, AtHead, AtCounts, Lays, IsRestored, Spells, is_head, led, next}
use Rattle.shard_snapshot.proofs.FollowLemmas.{both}
use Rattle.shard_snapshot.proofs.LaidLemmas.{all-end, same-ok}

-- what is laid is of the shard
abbrev Of : Setup → Laid → Type 0
Of setup l = IsOfShard setup l.content

-- ---- results

where-ok : {A : Type 0} (b : Bool) (d : Damage) (a x : A) → where_so b d a ≡ Ok x → (b ≡ true) × (a ≡ x)
where-ok true d a x e = (refl, same-ok a x e)
where-ok false d a x e = absurd (cc)

then-ok : {A B : Type 0} (r : Result A Damage) (f : A → Result B Damage) (y : B) → on_ok r f ≡ Ok y → (x : A) × (r ≡ Ok x) × (f x ≡ Ok y)
then-ok (Ok x) f y e = (x, refl, e)
then-ok (Err d) f y e = absurd (cc)

so-ok : {A : Type 0} (b : Bool) (r : Result A Damage) (d : Damage) (y : A) → cond b r (Err d) ≡ Ok y → r ≡ Ok y
so-ok true r d y e = e
so-ok false r d y e = absurd (cc)

not-ok : {A : Type 0} (b : Bool) (r : Result A Damage) (d : Damage) (y : A) → cond b (Err d) r ≡ Ok y → r ≡ Ok y
not-ok true r d y e = absurd (cc)
not-ok false r d y e = e

-- ---- a run that ends

run-of : (setup : Setup) (C S : Content) (J : Option Journal) → IsOfShard setup C → with_run C J ≡ Ok S → IsOfShard setup S
run-of setup C S None h e = subst (IsOfShard setup) (same-ok C S e) h
run-of setup C S (Some J) h e =
    let w = where-ok (may_end C.last_moment (map state_of C.runs) (state_of J)) damage.Run (record C { runs = C.runs ++ J ∷ [] }) S e in
    subst (IsOfShard setup) w.1 (record { setup = h.setup; accepted = h.accepted; dispatches = h.dispatches })

ended-of : (setup : Setup) (l : Laid) (S : Content) → Of setup l → ended l ≡ Ok S → IsOfShard setup S
unfolding ended
ended-of setup l S h e = run-of setup l.content S l.run h (not-ok (is_some l.request) (with_run l.content l.run) damage.Order S e)

-- ---- facts

added-of : (setup : Setup) (C : Content) (at : ℕ) (f : Fact) (J : Option Journal) (m : Laid) → IsOfShard setup C → added_to C at f J ≡ Ok m → Of setup m
added-of setup C at f None m h e = absurd (cc)
added-of setup C at f (Some J) m h e =
    let w = where-ok (may_come (state_of J) f) damage.Fact (record { content = stepped at C; run = Some (J ++ entries (C.steps + 1) at 0 (f ∷ [])); request = None }) m e in
    subst (Of setup) w.1 (record { setup = h.setup; accepted = h.accepted; dispatches = h.dispatches })

begin-of : (setup : Setup) (l m : Laid) (at : ℕ) (a : Attributes) → Of setup l → beginning_with l at a ≡ Ok m → Of setup m
begin-of setup l m at (of.WorkflowExecutionStarted a) h e =
    let (S, is, then) = then-ok (cond (none_waits l.content) (with_run l.content l.run) (Err damage.Order)) (λ S. Ok (begun_in S at l.request (of.WorkflowExecutionStarted a))) m e in
    let k = run-of setup l.content S l.run h (so-ok (none_waits l.content) (with_run l.content l.run) damage.Order S is) in
    subst (Of setup) (same-ok (begun_in S at l.request (of.WorkflowExecutionStarted a)) m then) (record { setup = k.setup; accepted = k.accepted; dispatches = k.dispatches })
begin-of setup l m at (of.WorkflowExecutionCompleted a) h e = absurd (cc)
begin-of setup l m at (of.WorkflowExecutionFailed a) h e = absurd (cc)
begin-of setup l m at of.WorkflowExecutionTimedOut h e = absurd (cc)
begin-of setup l m at (of.WorkflowExecutionCanceled a) h e = absurd (cc)
begin-of setup l m at (of.WorkflowExecutionTerminated a) h e = absurd (cc)
begin-of setup l m at (of.WorkflowExecutionContinuedAsNew a) h e = absurd (cc)
begin-of setup l m at (of.WorkflowExecutionCancelRequested a) h e = absurd (cc)
begin-of setup l m at (of.WorkflowExecutionSignaled a) h e = absurd (cc)
begin-of setup l m at (of.WorkflowTaskScheduled a) h e = absurd (cc)
begin-of setup l m at (of.WorkflowTaskStarted a) h e = absurd (cc)
begin-of setup l m at (of.WorkflowTaskCompleted a) h e = absurd (cc)
begin-of setup l m at (of.WorkflowTaskTimedOut a) h e = absurd (cc)
begin-of setup l m at (of.WorkflowTaskFailed a) h e = absurd (cc)
begin-of setup l m at (of.ActivityTaskScheduled a) h e = absurd (cc)
begin-of setup l m at (of.ActivityTaskStarted a) h e = absurd (cc)
begin-of setup l m at (of.ActivityTaskCompleted a) h e = absurd (cc)
begin-of setup l m at (of.ActivityTaskFailed a) h e = absurd (cc)
begin-of setup l m at (of.ActivityTaskTimedOut a) h e = absurd (cc)
begin-of setup l m at (of.ActivityTaskCancelRequested a) h e = absurd (cc)
begin-of setup l m at (of.ActivityTaskCanceled a) h e = absurd (cc)
begin-of setup l m at (of.TimerStarted a) h e = absurd (cc)
begin-of setup l m at (of.TimerFired a) h e = absurd (cc)
begin-of setup l m at (of.TimerCanceled a) h e = absurd (cc)
begin-of setup l m at (of.MarkerRecorded a) h e = absurd (cc)
begin-of setup l m at (of.StartChildWorkflowExecutionInitiated a) h e = absurd (cc)
begin-of setup l m at (of.StartChildWorkflowExecutionFailed a) h e = absurd (cc)
begin-of setup l m at (of.ChildWorkflowExecutionStarted a) h e = absurd (cc)
begin-of setup l m at (of.ChildWorkflowExecutionCompleted a) h e = absurd (cc)
begin-of setup l m at (of.ChildWorkflowExecutionFailed a) h e = absurd (cc)
begin-of setup l m at (of.ChildWorkflowExecutionCanceled a) h e = absurd (cc)
begin-of setup l m at (of.ChildWorkflowExecutionTimedOut a) h e = absurd (cc)
begin-of setup l m at (of.ChildWorkflowExecutionTerminated a) h e = absurd (cc)
begin-of setup l m at (of.SignalExternalWorkflowExecutionInitiated a) h e = absurd (cc)
begin-of setup l m at (of.RequestCancelExternalWorkflowExecutionInitiated a) h e = absurd (cc)
begin-of setup l m at (of.SignalExternalWorkflowExecutionFailed a) h e = absurd (cc)
begin-of setup l m at (of.RequestCancelExternalWorkflowExecutionFailed a) h e = absurd (cc)
begin-of setup l m at (of.ExternalWorkflowExecutionSignaled a) h e = absurd (cc)
begin-of setup l m at (of.ExternalWorkflowExecutionCancelRequested a) h e = absurd (cc)

event-of : (setup : Setup) (l m : Laid) (x : Event) → Of setup l → event_laid l x ≡ Ok m → Of setup m
unfolding event_laid
event-of setup l m x h e = by (x.id == 1) (x.id == next_event l.run) e
  where
    by : (a b : Bool) → cond a (beginning_with l x.at x.attributes) (cond b (added_to l.content x.at (made_by l.request x.attributes) l.run) (Err damage.Order)) ≡ Ok m → Of setup m
    by true b e = begin-of setup l m x.at x.attributes h e
    by false b e = added-of setup l.content x.at (made_by l.request x.attributes) l.run m h (so-ok b (added_to l.content x.at (made_by l.request x.attributes) l.run) damage.Order m e)

times-of : (setup : Setup) (k : ℕ) (n : NotePiece) (l m : Laid) → Of setup l → noted_times k n l ≡ Ok m → Of setup m
times-of setup zero n l m h e = subst (Of setup) (same-ok l m e) h
times-of setup (suc k) n l m h e =
    let (p, is, then) = then-ok (noted_times k n l) (λ p. added_to p.content n.at (noted n.activity n.note) p.run) m e in
    added-of setup p.content n.at (noted n.activity n.note) p.run m (times-of setup k n l p h is) then

note-of : (setup : Setup) (l m : Laid) (n : NotePiece) → Of setup l → note_laid l n ≡ Ok m → Of setup m
unfolding note_laid
note-of setup l m n h e = times-of setup n.times n l m h (not-ok (is_some l.request || (n.times == 0)) (noted_times n.times n l) damage.Order m e)

request-of : (setup : Setup) (l m : Laid) (id : List ℕ) → Of setup l → request_laid l id ≡ Ok m → Of setup m
unfolding request_laid
request-of setup l m id h e =
    let is = not-ok {A = Laid} (is_some l.request) (Ok (record l { request = Some id })) damage.Order m e in
    subst (Of setup) (same-ok (record l { request = Some id }) m is) h

-- ---- places, and what waits

gone-of : (setup : Setup) (l m : Laid) (k : ℕ) → Of setup l → gone_laid l k ≡ Ok m → Of setup m
unfolding gone_laid
gone-of setup l m k h e =
    let go : Content → Laid = λ S. between (record S { runs = S.runs ++ replicate k [] }) in
    let (S, is, then) = then-ok (ended l) (λ S. Ok (go S)) m (so-ok (none_waits l.content) (on_ok (ended l) (λ S. Ok (go S))) damage.Order m e) in
    let p = ended-of setup l S h is in
    subst (Of setup) (same-ok (go S) m then) (record { setup = p.setup; accepted = p.accepted; dispatches = p.dispatches })

same-shard : (m n : ℕ) → (m == n) ≡ true → m ≡ n
same-shard m n h = grind (arith, nat_tests)

dispatch-of : (setup : Setup) (l m : Laid) (d : Dispatch) → Of setup l → dispatch_laid l d ≡ Ok m → Of setup m
unfolding dispatch_laid
dispatch-of setup l m d h e =
    let go : Content → Laid = λ S. between (record S { dispatches = S.dispatches ++ d ∷ [] }) in
    let (S, is, then) = then-ok (ended l) (λ S. where_so (d.hint.shard == S.setup.shard) damage.Issue (go S)) m e in
    let p = ended-of setup l S h is in
    let w = where-ok (d.hint.shard == S.setup.shard) damage.Issue (go S) m then in
    subst (Of setup) w.1 (record {
      setup = p.setup;
      accepted = p.accepted;
      dispatches = all-end (λ (x : Dispatch). x.hint.shard ≡ setup.shard) S.dispatches d p.dispatches (same-shard d.hint.shard S.setup.shard w.0 ∙ ap (λ (s : Setup). s.shard) p.setup);
    })

transfer-of : (setup : Setup) (l m : Laid) (t : TransferPiece) → Of setup l → transfer_laid l t ≡ Ok m → Of setup m
unfolding transfer_laid
transfer-of setup l m t h e =
    let go : Content → Laid = λ S. between (record S { outgoing = with_all_sent (sent t ∷ []) 0 S.outgoing }) in
    let (S, is, then) = then-ok (ended l) (λ S. where_so (nat_lt t.to S.setup.shards && is_next S t) damage.Issue (go S)) m e in
    let p = ended-of setup l S h is in
    let w = where-ok (nat_lt t.to S.setup.shards && is_next S t) damage.Issue (go S) m then in
    subst (Of setup) w.1 (record { setup = p.setup; accepted = p.accepted; dispatches = p.dispatches })

end-of : (setup : Setup) (l : Laid) (C : Content) (x : EndPiece) → Of setup l → end_laid l x ≡ Ok C → IsOfShard setup C
unfolding end_laid
end-of setup l C x h e =
    let (S, is, then) = then-ok (ended l) (λ S. where_so (nat_le S.last_moment x.last) damage.Run (record S { last_moment = x.last })) C e in
    let p = ended-of setup l S h is in
    let w = where-ok (nat_le S.last_moment x.last) damage.Run (record S { last_moment = x.last }) C then in
    subst (IsOfShard setup) w.1 (record { setup = p.setup; accepted = p.accepted; dispatches = p.dispatches })

-- ---- what is laid first

own-all : (setup : Setup) (n : ℕ) → AllByRecursion (λ (d : Dispatch). d.hint.shard ≡ setup.shard) (replicate n (counted_dispatch setup))
own-all setup zero = tt
own-all setup (suc n) = (refl, own-all setup n)

first-of : (setup : Setup) (c : CountedPiece) (m : Laid) → laid_first setup c ≡ Ok m → Of setup m
unfolding laid_first
first-of setup c m e =
    let w = where-ok (has_counts setup c) damage.Count (record { content = counted setup c; run = None; request = None }) m e in
    subst (Of setup) w.1 (record {
      setup = refl;
      accepted = same-shard (length c.accepted) setup.shards (both (length c.accepted == setup.shards) (length c.acknowledged == setup.shards) w.0).0;
      dispatches = own-all setup c.dispatched;
    })

-- ---- one piece after another

abbrev PointOf : Setup → Point → Type 0
PointOf setup AtHead = Unit {0}
PointOf setup AtCounts = Unit {0}
PointOf setup (Lays l) = Of setup l
PointOf setup (IsRestored S) = IsOfShard setup S

to-lays : (setup : Setup) (r : Result Laid Damage) (y : Point) → ((m : Laid) → r ≡ Ok m → Of setup m) → on_ok r (λ m. Ok (Lays m)) ≡ Ok y → PointOf setup y
to-lays setup r y each e = let (m, is, then) = then-ok r (λ m. Ok (Lays m)) y e in subst (PointOf setup) (same-ok (Lays m) y then) (each m is)

to-restored : (setup : Setup) (r : Result Content Damage) (y : Point) → ((S : Content) → r ≡ Ok S → IsOfShard setup S) → on_ok r (λ S. Ok (IsRestored S)) ≡ Ok y → PointOf setup y
to-restored setup r y each e = let (S, is, then) = then-ok r (λ S. Ok (IsRestored S)) y e in subst (PointOf setup) (same-ok (IsRestored S) y then) (each S is)

next-of : (setup : Setup) (n : ℕ) (x y : Point) (p : Piece) → PointOf setup x → next setup n x p ≡ Ok y → PointOf setup y
unfolding next
next-of setup n AtHead y (piece.Head k) h e = subst (PointOf setup) (where-ok (is_head setup k) damage.Settings AtCounts y e).1 tt
next-of setup n AtHead y (piece.Gone k) h e = absurd (cc)
next-of setup n AtHead y (piece.Event x) h e = absurd (cc)
next-of setup n AtHead y (piece.Request id) h e = absurd (cc)
next-of setup n AtHead y (piece.Note k) h e = absurd (cc)
next-of setup n AtHead y (piece.Counted c) h e = absurd (cc)
next-of setup n AtHead y (piece.Dispatch d) h e = absurd (cc)
next-of setup n AtHead y (piece.Transfer t) h e = absurd (cc)
next-of setup n AtHead y (piece.End x) h e = absurd (cc)
next-of setup n AtCounts y (piece.Counted c) h e = to-lays setup (laid_first setup c) y (λ m is. first-of setup c m is) e
next-of setup n AtCounts y (piece.Head k) h e = absurd (cc)
next-of setup n AtCounts y (piece.Gone k) h e = absurd (cc)
next-of setup n AtCounts y (piece.Event x) h e = absurd (cc)
next-of setup n AtCounts y (piece.Request id) h e = absurd (cc)
next-of setup n AtCounts y (piece.Note k) h e = absurd (cc)
next-of setup n AtCounts y (piece.Dispatch d) h e = absurd (cc)
next-of setup n AtCounts y (piece.Transfer t) h e = absurd (cc)
next-of setup n AtCounts y (piece.End x) h e = absurd (cc)
next-of setup n (Lays l) y (piece.Event x) h e = to-lays setup (event_laid l x) y (λ m is. event-of setup l m x h is) e
next-of setup n (Lays l) y (piece.Request id) h e = to-lays setup (request_laid l id) y (λ m is. request-of setup l m id h is) e
next-of setup n (Lays l) y (piece.Note k) h e = to-lays setup (note_laid l k) y (λ m is. note-of setup l m k h is) e
next-of setup n (Lays l) y (piece.Gone k) h e = to-lays setup (gone_laid l k) y (λ m is. gone-of setup l m k h is) e
next-of setup n (Lays l) y (piece.Dispatch d) h e = to-lays setup (dispatch_laid l d) y (λ m is. dispatch-of setup l m d h is) e
next-of setup n (Lays l) y (piece.Transfer t) h e = to-lays setup (transfer_laid l t) y (λ m is. transfer-of setup l m t h is) e
next-of setup n (Lays l) y (piece.End x) h e =
    to-restored setup (end_laid l x) y (λ S is. end-of setup l S x h is) (so-ok (x.lines == n) (on_ok (end_laid l x) (λ S. Ok (IsRestored S))) damage.Lines y e)
next-of setup n (Lays l) y (piece.Head k) h e = absurd (cc)
next-of setup n (Lays l) y (piece.Counted c) h e = absurd (cc)
next-of setup n (IsRestored S) y (piece.Head k) h e = absurd (cc)
next-of setup n (IsRestored S) y (piece.Gone k) h e = absurd (cc)
next-of setup n (IsRestored S) y (piece.Event x) h e = absurd (cc)
next-of setup n (IsRestored S) y (piece.Request id) h e = absurd (cc)
next-of setup n (IsRestored S) y (piece.Note k) h e = absurd (cc)
next-of setup n (IsRestored S) y (piece.Counted c) h e = absurd (cc)
next-of setup n (IsRestored S) y (piece.Dispatch d) h e = absurd (cc)
next-of setup n (IsRestored S) y (piece.Transfer t) h e = absurd (cc)
next-of setup n (IsRestored S) y (piece.End x) h e = absurd (cc)

led-of : (setup : Setup) (n : ℕ) (x y : Point) (ps : List Piece) → PointOf setup x → led setup n x ps ≡ Ok y → PointOf setup y
led-of setup n x y [] h e = subst (PointOf setup) (same-ok x y e) h
led-of setup n x y (p ∷ ps) h e =
    let (z, is, then) = then-ok (next setup n x p) (λ z. led setup (n + 1) z ps) y e in
    led-of setup (n + 1) z y ps (next-of setup n x z p h is) then

pub spelled-of : (setup : Setup) (text : List ℕ) (S : Content) → Spells setup text S → IsOfShard setup S
spelled-of setup text S s = led-of setup 0 AtHead (IsRestored S) s.pieces tt s.restores
