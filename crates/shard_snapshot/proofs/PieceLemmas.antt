-- what is laid by the pieces that are no facts
use Rattle.std.proofs.Common.{◌≡◌, ℕ, zero, suc, ◌+◌, ◌-◌, ◌<◌, ◌≤◌, Bool, true, false, cond, List, [], ◌∷◌, ◌++◌, length, map, replicate, refl, sym, ap, ◌∙◌, subst, arith, append-nil, append_assoc, length-append, length-drop, Option, Some, None, Result, Ok, Err}
use Rattle.std.specs.Prelude.{◌&&◌, ◌||◌, ◌==◌, drop, is_some, max, nat_le, nat_lt}
use Rattle.std.specs.List.{AllByRecursion}
use Rattle.std.proofs.lemmas.List.{drop-append-le, length-replicate, map-append}
use Rattle.std.proofs.lemmas.Bool.Decides.{nat_tests}
use Rattle.service_model_types.specs.declared.content.Content.{Content}
use Rattle.service_model_types.specs.declared.content.Dispatch.{Dispatch}
use Rattle.service_model_types.specs.declared.content.Outgoing.{Outgoing}
use Rattle.service_model_types.specs.declared.content.Setup.{Setup}
use Rattle.service_model.specs.Aging.{AreAged}
use Rattle.service_model.specs.Journal.{Journal}
use Rattle.wf_event.specs.declared.event.Event.{Event}
use Rattle.wf_event.specs.declared.attributes.Attributes.TheVariants.{WorkflowExecutionStarted}
use Rattle.wf_event.specs.declared.payloads.WorkflowExecutionStarted.{WorkflowExecutionStarted as StartedAttributes}
use Rattle.service_model.specs.Outcome.{made_by, noted}
use Rattle.service_model.specs.Counts.{outgoing_to}
use Rattle.service_model.specs.RunState.{RunState, no_run, state_of}
use Rattle.service_model.specs.Service as service
use Rattle.mutable_state.specs.Formed.{IsFormed}
use Rattle.mutable_state.specs.RunView.{RunView}
use Rattle.mutable_state.specs.Steps.{begun}
use Rattle.mutable_state.proofs.JournalLemmas.{formed-none, stands-first}
use Rattle.transfer.specs.Logs.{count_issued, counted_off, with_issued}
use Rattle.transfer.specs.Outboxes.{AreIssued, rest_of, waiting_to, with_all_sent}
use Rattle.transfer.proofs.ContentLemmas.{issued-sent, rest-sent}
use Rattle.shard_store.specs.Open.{IsOneOpen}
use Rattle.shard_store.specs.ShardView.{ShardState, ShardView, state}
use Rattle.shard_store.specs.Standing.{StandsFor, known}
use Rattle.shard_store.proofs.OpenLemmas.{of-journals}
use Rattle.snapshot_pieces.specs.declared.piece.CountedPiece.{CountedPiece}
use Rattle.snapshot_pieces.specs.declared.piece.EndPiece.{EndPiece}
use Rattle.snapshot_pieces.specs.declared.piece.NotePiece.{NotePiece}
use Rattle.snapshot_pieces.specs.declared.piece.TransferPiece.{TransferPiece}
use Rattle.shard_snapshot.specs.declared.damage.Damage.{Damage}
use Rattle.shard_snapshot.specs.declared.damage.Damage.TheVariants as damage
use Rattle.shard_snapshot.specs.Laid.{Laid, acknowledged, added_to, beginning_with, begun_in, between, counted, counted_dispatch, counted_transfer, dispatch_laid, end_laid, ended, event_laid, gone_laid, has_counts, is_next, laid_first, next_event, none_waits, note_laid, noted_times, on_ok, request_laid, sent, stepped, transfer_laid, where_so, with_run}
use Rattle.shard_snapshot.specs.Restored.{AddsFact, IsLaid, Lays, RestoringView, RunStands, is_next_of, next_event_of, run_state}
use Rattle.shard_snapshot.proofs.FollowLemmas.{aged-gone, aged-later, one-gone, to-journals}
use Rattle.shard_snapshot.proofs.LaidLemmas.{Ends, IsSound, sound, stands, step-sound}

none-left : {A : Type 0} (xs : List A) → length xs ≡ 0 → xs ≡ []
none-left [] h = refl
none-left (x ∷ xs) h = absurd (omega arith)

-- of so many nothing is left after as many
none-behind : {A : Type 0} (n : ℕ) (x : A) → drop n (replicate n x) ≡ []
none-behind n x = none-left (drop n (replicate n x)) (let a = length-drop n (replicate n x) in let b = length-replicate n x in omega (arith, a, b))

pub differ : (a b : ℕ) → (a ≡ b → ⊥) → (a == b) ≡ false
differ a b h = by (a == b) refl
  where
    by : (t : Bool) → (a == b) ≡ t → t ≡ false
    by true e = absurd (h (grind (arith, nat_tests)))
    by false e = refl

pub early : (a b : ℕ) → b < a → nat_le a b ≡ false
early a b h = grind (arith, nat_tests)

pub in-time : (a b : ℕ) → a ≤ b → nat_le a b ≡ true
in-time a b h = grind (arith, nat_tests)

pub alike : (a b : ℕ) → a ≡ b → (a == b) ≡ true
alike a b h = grind (arith, nat_tests)

-- a content between two runs
between-laid : (r : RestoringView) (S : Content) → state r.store ≡ known S → IsSound S → r.run ≡ None → r.request ≡ None → IsLaid r (between S)
between-laid r S is h run request = record {
  stands = stands r.store S is h;
  run = subst (λ o. RunStands S.steps o None) (sym run) tt;
  request = request;
  waits = tt;
}

-- ---- what was counted

pub first-err : (setup : Setup) (c : CountedPiece) → has_counts setup c ≡ false → laid_first setup c ≡ Err damage.Count
unfolding laid_first
first-err setup c h = ap (λ b. where_so b damage.Count (record { content = counted setup c; run = None; request = None })) h

rest-counted : (ns : List ℕ) → map rest_of (map acknowledged ns) ≡ map counted_off ns
rest-counted [] = refl
rest-counted (n ∷ ns) =
    let first = none-behind n counted_transfer in
    let rest = rest-counted ns in
    λ i. record { items = first i; counted = n } ∷ rest i

all-issued : (ns : List ℕ) → AreIssued (map acknowledged ns)
all-issued [] = tt
all-issued (n ∷ ns) = ((let count = length-replicate n counted_transfer in omega (arith, count)), all-issued ns)

counted-sound : (setup : Setup) (c : CountedPiece) → IsSound (counted setup c)
counted-sound setup c = record {
  formed = tt;
  counted = (let count = length-replicate c.dispatched (counted_dispatch setup) in omega (arith, count));
  issued = all-issued c.acknowledged;
  one = record { earlier = λ m n J K less at_m at_n is_k same. absurd (cc) };
  aged = record {
    over = λ n s at there over. absurd (cc);
    in_order = λ m n s t pair over a b at_a at_b. absurd (let at = pair.at_m in cc);
  };
}

pub first-ok : (r : RestoringView) (setup : Setup) (c : CountedPiece) → has_counts setup c ≡ true → state r.store ≡ record {
  setup = setup;
  runs = [];
  last = 0;
  waiting = counted_off c.dispatched;
  outgoing = map counted_off c.acknowledged;
  accepted = c.accepted;
} →
    r.run ≡ None → r.request ≡ None → (l : Laid) × (laid_first setup c ≡ Ok l) × IsLaid r l
unfolding laid_first
first-ok r setup c h store run request =
    let l : Laid = record { content = counted setup c; run = None; request = None } in
    let waits = none-behind c.dispatched (counted_dispatch setup) in
    let out = rest-counted c.acknowledged in
    let is : record { setup = setup; runs = []; last = 0; waiting = counted_off c.dispatched; outgoing = map counted_off c.acknowledged; accepted = c.accepted } ≡ known (counted setup c) =
    λ i. record { setup = setup; runs = []; last = 0; waiting = record { items = sym waits i; counted = c.dispatched }; outgoing = sym out i; accepted = c.accepted } in (
      l,
      ap (λ b. where_so b damage.Count l) h,
      record {
        stands = stands r.store (counted setup c) (store ∙ is) (counted-sound setup c);
        run = subst (λ o. RunStands 0 o None) (sym run) tt;
        request = request;
        waits = tt;
      },
    )

-- ---- a request id

pub request-err : (l : Laid) (id : List ℕ) (o : Option (List ℕ)) → o ≡ l.request → is_some o ≡ true → request_laid l id ≡ Err damage.Order
unfolding request_laid
request-err l id o is some = ap (λ b. cond b (Err damage.Order) (Ok (record l { request = Some id }))) (ap is_some (sym is) ∙ some)

pub request-ok : (r r' : RestoringView) (l : Laid) (id : List ℕ) → IsLaid r l → is_some r.request ≡ false → r'.store ≡ r.store → r'.run ≡ r.run → r'.request ≡ Some id → (m : Laid) × (request_laid l id ≡ Ok m) × IsLaid r' m
unfolding request_laid
request-ok r r' l id h none store run request =
    let m : Laid = record l { request = Some id } in (
      m,
      ap (λ b. cond b (Err damage.Order) (Ok m)) (ap is_some (sym h.request) ∙ none),
      record {
        stands = stands r'.store l.content (ap state store ∙ h.stands.says) (sound r.store l.content h.stands);
        run = subst (λ o. RunStands l.content.steps o l.run) (sym run) h.run;
        request = request;
        waits = h.waits;
      },
    )

-- ---- places of runs that were deleted

abbrev with_gone : Content → ℕ → Content
with_gone S n = record S { runs = S.runs ++ replicate n [] }

-- one more at the end
replicate-end : {A : Type 0} (n : ℕ) (x : A) → replicate n x ++ x ∷ [] ≡ replicate (n + 1) x
replicate-end zero x = refl
replicate-end (suc n) x = ap (λ l. x ∷ l) (replicate-end n x) ∙ ap (λ k. replicate k x) (let e : suc (n + 1) ≡ suc n + 1 = omega arith in e)

gone-states : (Js : List Journal) (n : ℕ) → map state_of (Js ++ replicate n []) ≡ map state_of Js ++ replicate n no_run
unfolding no_run
gone-states Js n = map-append state_of Js (replicate n []) ∙ ap (λ l. map state_of Js ++ l) (each n)
  where
    each : (n : ℕ) → map state_of (replicate n []) ≡ replicate n no_run
    each zero = refl
    each (suc n) = ap (λ l. no_run ∷ l) (each n)

gone-formed : (steps : ℕ) (Js : List Journal) (n : ℕ) → AllByRecursion (IsFormed steps) Js → AllByRecursion (IsFormed steps) (Js ++ replicate n [])
gone-formed steps [] zero h = tt
gone-formed steps [] (suc n) h = (formed-none steps, gone-formed steps [] n tt)
gone-formed steps (J ∷ Js) n h = (h.0, gone-formed steps Js n h.1)

-- what is so with one more, is so with many
gone-many : (P : List RunState → Type 0) → ((runs : List RunState) → P runs → P (runs ++ no_run ∷ [])) → (runs : List RunState) (n : ℕ) → P runs → P (runs ++ replicate n no_run)
gone-many P more runs zero h = subst P (sym (append-nil runs)) h
gone-many P more runs (suc n) h =
    let again = more (runs ++ replicate n no_run) (gone-many P more runs n h) in
    subst P (append_assoc runs (replicate n no_run) (no_run ∷ []) ∙ ap (λ l. runs ++ l) (replicate-end n no_run ∙ (let e : n + 1 ≡ suc n = omega arith in ap (λ k. replicate k no_run) e))) again

gone-sound : (S : Content) (n : ℕ) → IsSound S → IsSound (with_gone S n)
gone-sound S n h =
    let runs = gone-states S.runs n in
    let Aged : List RunState → Type 0 = λ l. AreAged S.last_moment l in
    record {
      formed = gone-formed S.steps S.runs n h.formed;
      counted = h.counted;
      issued = h.issued;
      one = to-journals (with_gone S n) (subst (λ l. IsOneOpen l) (sym runs) (gone-many (λ l. IsOneOpen l) one-gone (map state_of S.runs) n (of-journals S h.one)));
      aged = subst Aged (sym runs) (gone-many Aged (aged-gone S.last_moment) (map state_of S.runs) n h.aged);
    }

pub gone-waits : (l : Laid) (n : ℕ) → none_waits l.content ≡ false → gone_laid l n ≡ Err damage.Order
unfolding gone_laid
gone-waits l n h = ap (λ b. cond b (on_ok (ended l) (λ S. Ok (between (with_gone S n)))) (Err damage.Order)) h

pub gone-err : (l : Laid) (n : ℕ) (d : Damage) → none_waits l.content ≡ true → ended l ≡ Err d → gone_laid l n ≡ Err d
unfolding gone_laid
gone-err l n d none h = ap (λ b. cond b (on_ok (ended l) (λ S. Ok (between (with_gone S n)))) (Err damage.Order)) none ∙ ap (λ r. on_ok r (λ S. Ok (between (with_gone S n)))) h

pub gone-ok : (r : RestoringView) (l : Laid) (n : ℕ) (now : ShardState) → none_waits l.content ≡ true → Ends now l.content l.run × (ended l ≡ with_run l.content l.run) →
    state r.store ≡ record now { runs = now.runs ++ replicate n no_run } → r.run ≡ None → r.request ≡ None → (m : Laid) × (gone_laid l n ≡ Ok m) × IsLaid r m
unfolding gone_laid
gone-ok r l n now none (e, is) store run request =
    let S = with_gone e.content n in
    let known_now : record now { runs = now.runs ++ replicate n no_run } ≡ known S = ap (λ (t : ShardState). record t { runs = t.runs ++ replicate n no_run }) e.says ∙ ap (λ l. record (known e.content) { runs = l }) (sym (gone-states e.content.runs n)) in (
      between S,
      ap (λ b. cond b (on_ok (ended l) (λ S. Ok (between (with_gone S n)))) (Err damage.Order)) none ∙ ap (λ r. on_ok r (λ S. Ok (between (with_gone S n)))) (is ∙ e.is),
      between-laid r S (store ∙ known_now) (gone-sound e.content n e.sound) run request,
    )

-- ---- a dispatch that waits

abbrev with_dispatch : Content → Dispatch → Content
with_dispatch S d = record S { dispatches = S.dispatches ++ d ∷ [] }

pub dispatch-err : (l : Laid) (x : Dispatch) (d : Damage) → ended l ≡ Err d → dispatch_laid l x ≡ Err d
unfolding dispatch_laid
dispatch-err l x d h = ap (λ r. on_ok r (λ S. where_so (x.hint.shard == S.setup.shard) damage.Issue (between (with_dispatch S x)))) h

pub dispatch-other : (l : Laid) (x : Dispatch) (now : ShardState) → Ends now l.content l.run × (ended l ≡ with_run l.content l.run) → (x.hint.shard == now.setup.shard) ≡ false → dispatch_laid l x ≡ Err damage.Issue
unfolding dispatch_laid
dispatch-other l x now (e, is) other =
    ap (λ r. on_ok r (λ S. where_so (x.hint.shard == S.setup.shard) damage.Issue (between (with_dispatch S x)))) (is ∙ e.is)
    ∙ ap (λ b. where_so b damage.Issue (between (with_dispatch e.content x))) (ap (λ (t : ShardState). x.hint.shard == t.setup.shard) (sym e.says) ∙ other)

pub dispatch-ok : (r : RestoringView) (l : Laid) (x : Dispatch) (now : ShardState) → Ends now l.content l.run × (ended l ≡ with_run l.content l.run) → (x.hint.shard == now.setup.shard) ≡ true →
    state r.store ≡ record now { waiting = with_issued now.waiting (x ∷ []) } → r.run ≡ None → r.request ≡ None → (m : Laid) × (dispatch_laid l x ≡ Ok m) × IsLaid r m
unfolding dispatch_laid
dispatch-ok r l x now (e, is) own store run request =
    let S = with_dispatch e.content x in
    let waits = drop-append-le e.content.dispatched e.content.dispatches (x ∷ []) e.sound.counted in
    let known_now : record now { waiting = with_issued now.waiting (x ∷ []) } ≡ known S =
    ap (λ (t : ShardState). record t { waiting = with_issued t.waiting (x ∷ []) }) e.says
    ∙ ap (λ l. record (known e.content) { waiting = record { items = l; counted = e.content.dispatched } }) (sym waits) in (
      between S,
      ap (λ r. on_ok r (λ S. where_so (x.hint.shard == S.setup.shard) damage.Issue (between (with_dispatch S x)))) (is ∙ e.is)
          ∙ ap (λ b. where_so b damage.Issue (between (with_dispatch e.content x))) (ap (λ (t : ShardState). x.hint.shard == t.setup.shard) (sym e.says) ∙ own),
      between-laid r S (store ∙ known_now) (record {
        formed = e.sound.formed;
        counted = (let low = e.sound.counted in let count = length-append e.content.dispatches (x ∷ []) in omega (arith, low, count));
        issued = e.sound.issued;
        one = to-journals S (of-journals e.content e.sound.one);
        aged = e.sound.aged;
      }) run request,
    )

-- ---- a transfer that waits

abbrev with_transfer : Content → TransferPiece → Content
with_transfer S t = record S { outgoing = service.with_all_sent (sent t ∷ []) 0 S.outgoing }

abbrev after_transfer : TransferPiece → Content → Result Laid Damage
after_transfer t S = where_so (nat_lt t.to S.setup.shards && is_next S t) damage.Issue (between (with_transfer S t))

pub transfer-err : (l : Laid) (t : TransferPiece) (d : Damage) → ended l ≡ Err d → transfer_laid l t ≡ Err d
unfolding transfer_laid
transfer-err l t d h = ap (λ r. on_ok r (after_transfer t)) h

issued-at : (all : List Outgoing) (to : ℕ) → AreIssued all → count_issued (waiting_to (map rest_of all) to) ≡ length (outgoing_to all to).issued
issued-at [] to h = refl
issued-at (o ∷ all) zero h = (let count = length-drop o.acknowledged o.issued in let low = h.0 in omega (arith, count, low))
issued-at (o ∷ all) (suc to) h = issued-at all to h.1

next-is : (now : ShardState) (S : Content) (t : TransferPiece) → now ≡ known S → AreIssued S.outgoing → is_next_of now t.to t.transfer ≡ is_next S t
next-is now S t is issued =
    ap (λ (s : ShardState). is_next_of s t.to t.transfer) is
    ∙ ap (λ n. (t.transfer.from == S.setup.shard) && (t.transfer.number == n + 1)) (issued-at S.outgoing t.to issued)

pub transfer-other : (l : Laid) (t : TransferPiece) (now : ShardState) → Ends now l.content l.run × (ended l ≡ with_run l.content l.run) → (nat_lt t.to now.setup.shards && is_next_of now t.to t.transfer) ≡ false → transfer_laid l t ≡ Err damage.Issue
unfolding transfer_laid
transfer-other l t now (e, is) other =
    ap (λ r. on_ok r (after_transfer t)) (is ∙ e.is)
    ∙ ap (λ b. where_so b damage.Issue (between (with_transfer e.content t)))
    (ap (λ b. nat_lt t.to e.content.setup.shards && b) (sym (next-is now e.content t e.says e.sound.issued)) ∙ ap (λ (s : ShardState). nat_lt t.to s.setup.shards && is_next_of now t.to t.transfer) (sym e.says) ∙ other)

pub transfer-ok : (r : RestoringView) (l : Laid) (t : TransferPiece) (now : ShardState) → Ends now l.content l.run × (ended l ≡ with_run l.content l.run) → (nat_lt t.to now.setup.shards && is_next_of now t.to t.transfer) ≡ true →
    state r.store ≡ record now { outgoing = with_all_sent (sent t ∷ []) 0 now.outgoing } → r.run ≡ None → r.request ≡ None → (m : Laid) × (transfer_laid l t ≡ Ok m) × IsLaid r m
unfolding transfer_laid
transfer-ok r l t now (e, is) own store run request =
    let S = with_transfer e.content t in
    let out = rest-sent (sent t ∷ []) 0 e.content.outgoing e.sound.issued in
    let known_now : record now { outgoing = with_all_sent (sent t ∷ []) 0 now.outgoing } ≡ known S =
    ap (λ (s : ShardState). record s { outgoing = with_all_sent (sent t ∷ []) 0 s.outgoing }) e.says
    ∙ ap (λ l. record (known e.content) { outgoing = l }) (sym out) in (
      between S,
      ap (λ r. on_ok r (after_transfer t)) (is ∙ e.is)
          ∙ ap (λ b. where_so b damage.Issue (between (with_transfer e.content t)))
          (ap (λ b. nat_lt t.to e.content.setup.shards && b) (sym (next-is now e.content t e.says e.sound.issued)) ∙ ap (λ (s : ShardState). nat_lt t.to s.setup.shards && is_next_of now t.to t.transfer) (sym e.says) ∙ own),
      between-laid r S (store ∙ known_now) (record {
        formed = e.sound.formed;
        counted = e.sound.counted;
        issued = issued-sent (sent t ∷ []) 0 e.content.outgoing e.sound.issued;
        one = to-journals S (of-journals e.content e.sound.one);
        aged = e.sound.aged;
      }) run request,
    )

-- ---- the end

pub end-piece-err : (l : Laid) (x : EndPiece) (d : Damage) → ended l ≡ Err d → end_laid l x ≡ Err d
unfolding end_laid
end-piece-err l x d h = ap (λ r. on_ok r (λ S. where_so (nat_le S.last_moment x.last) damage.Run (record S { last_moment = x.last }))) h

pub end-early : (l : Laid) (x : EndPiece) (now : ShardState) → Ends now l.content l.run × (ended l ≡ with_run l.content l.run) → nat_le now.last x.last ≡ false → end_laid l x ≡ Err damage.Run
unfolding end_laid
end-early l x now (e, is) early =
    ap (λ r. on_ok r (λ S. where_so (nat_le S.last_moment x.last) damage.Run (record S { last_moment = x.last }))) (is ∙ e.is)
    ∙ ap (λ b. where_so b damage.Run (record e.content { last_moment = x.last })) (ap (λ (t : ShardState). nat_le t.last x.last) (sym e.says) ∙ early)

pub end-piece-ok : (v : ShardView) (l : Laid) (x : EndPiece) (now : ShardState) → Ends now l.content l.run × (ended l ≡ with_run l.content l.run) → nat_le now.last x.last ≡ true →
    state v ≡ record now { last = x.last } → (S : Content) × (end_laid l x ≡ Ok S) × StandsFor v S
unfolding end_laid
end-piece-ok v l x now (e, is) by store =
    let S : Content = record e.content { last_moment = x.last } in
    let late : nat_le e.content.last_moment x.last ≡ true = ap (λ (t : ShardState). nat_le t.last x.last) (sym e.says) ∙ by in (
      S,
      ap (λ r. on_ok r (λ S. where_so (nat_le S.last_moment x.last) damage.Run (record S { last_moment = x.last }))) (is ∙ e.is)
          ∙ ap (λ b. where_so b damage.Run (record e.content { last_moment = x.last })) late,
      stands v S (store ∙ ap (λ (t : ShardState). record t { last = x.last }) e.says) (record {
        formed = e.sound.formed;
        counted = e.sound.counted;
        issued = e.sound.issued;
        one = to-journals S (of-journals e.content e.sound.one);
        aged = aged-later e.content.last_moment x.last (map state_of e.content.runs) (grind (arith, nat_tests)) e.sound.aged;
      }),
    )

-- ---- an event

pub lays-same : (result : Result (Unit {0}) Damage) (old new : RestoringView) (f g : Laid → Result Laid Damage) → ((l : Laid) → IsLaid old l → f l ≡ g l) → Lays result old new g → Lays result old new f
lays-same (Ok u) old new f g same h = λ l i. let (m, is, laid) = h l i in (m, same l i ∙ is, laid)
lays-same (Err d) old new f g same h = λ l i other. same l i ∙ h l i other

pub event-first : (l : Laid) (e : Event) → e.id ≡ 1 → event_laid l e ≡ beginning_with l e.at e.attributes
unfolding event_laid
event-first l e first = ap (λ b. cond b (beginning_with l e.at e.attributes) (cond (e.id == next_event l.run) (added_to l.content e.at (made_by l.request e.attributes) l.run) (Err damage.Order))) (alike e.id 1 first)

next-same : (steps : ℕ) (run : Option RunView) (J : Option Journal) → RunStands steps run J → next_event_of (run_state run) ≡ next_event J
next-same steps None None s = refl
next-same steps None (Some J) s = absurd s
next-same steps (Some v) None s = absurd s
next-same steps (Some v) (Some J) s = ap (λ (t : RunState). length t.shown + length t.held + 1) (sym s.says)

pub event-order : (r : RestoringView) (l : Laid) (e : Event) → IsLaid r l → (e.id ≡ 1 → ⊥) → (e.id == next_event_of (run_state r.run)) ≡ false → event_laid l e ≡ Err damage.Order
unfolding event_laid
event-order r l e h first next =
    ap (λ b. cond b (beginning_with l e.at e.attributes) (cond (e.id == next_event l.run) (added_to l.content e.at (made_by l.request e.attributes) l.run) (Err damage.Order))) (differ e.id 1 first)
    ∙ ap (λ b. cond b (added_to l.content e.at (made_by l.request e.attributes) l.run) (Err damage.Order)) (ap (λ n. e.id == n) (sym (next-same l.content.steps r.run l.run h.run)) ∙ next)

event-next : (r : RestoringView) (l : Laid) (e : Event) → IsLaid r l → (e.id ≡ 1 → ⊥) → (e.id == next_event_of (run_state r.run)) ≡ true → event_laid l e ≡ added_to l.content e.at (made_by r.request e.attributes) l.run
unfolding event_laid
event-next r l e h first next =
    ap (λ b. cond b (beginning_with l e.at e.attributes) (cond (e.id == next_event l.run) (added_to l.content e.at (made_by l.request e.attributes) l.run) (Err damage.Order))) (differ e.id 1 first)
    ∙ ap (λ b. cond b (added_to l.content e.at (made_by l.request e.attributes) l.run) (Err damage.Order)) (ap (λ n. e.id == n) (sym (next-same l.content.steps r.run l.run h.run)) ∙ next)
    ∙ ap (λ q. added_to l.content e.at (made_by q e.attributes) l.run) (sym h.request)

without : (r r0 : RestoringView) (l : Laid) → IsLaid r l → r0 ≡ record r { request = None } → IsLaid r0 (record l { request = None })
without r r0 l i taken = subst (λ q. IsLaid q (record l { request = None })) (sym taken) (record { stands = i.stands; run = i.run; request = refl; waits = i.waits })

-- the request id was taken
pub event-added : (result : Result (Unit {0}) Damage) (r r0 new : RestoringView) (e : Event) → (e.id ≡ 1 → ⊥) → (e.id == next_event_of (run_state r.run)) ≡ true → r0 ≡ record r { request = None } →
    AddsFact result r0 new e.at (made_by r.request e.attributes) → Lays result r new (λ l. event_laid l e)
event-added (Ok u) r r0 new e first next taken h = λ l i.
    let (m, is, laid) = h (record l { request = None }) (without r r0 l i taken) in (m, event-next r l e i first next ∙ is, laid)
event-added (Err d) r r0 new e first next taken h = λ l i other. event-next r l e i first next ∙ h (record l { request = None }) (without r r0 l i taken) other

-- ---- a run that begins

pub begin-waits : (l : Laid) (at : ℕ) (a : StartedAttributes) → none_waits l.content ≡ false → beginning_with l at (WorkflowExecutionStarted a) ≡ Err damage.Order
begin-waits l at a h = ap (λ b. on_ok (cond b (with_run l.content l.run) (Err damage.Order)) (λ S. Ok (begun_in S at l.request (WorkflowExecutionStarted a)))) h

pub begin-err : (l : Laid) (at : ℕ) (a : StartedAttributes) (d : Damage) → none_waits l.content ≡ true → with_run l.content l.run ≡ Err d → beginning_with l at (WorkflowExecutionStarted a) ≡ Err d
begin-err l at a d none h =
    ap (λ b. on_ok (cond b (with_run l.content l.run) (Err damage.Order)) (λ S. Ok (begun_in S at l.request (WorkflowExecutionStarted a)))) none
    ∙ ap (λ q. on_ok q (λ S. Ok (begun_in S at l.request (WorkflowExecutionStarted a)))) h

pub begin-ok : (r r' : RestoringView) (l : Laid) (at : ℕ) (a : StartedAttributes) (now : ShardState) (v : RunView) → none_waits l.content ≡ true → r.request ≡ l.request → Ends now l.content l.run →
    v.state ≡ begun at r.request a → state r'.store ≡ record now { last = max at now.last } → r'.run ≡ Some v → r'.request ≡ None → (m : Laid) × (beginning_with l at (WorkflowExecutionStarted a) ≡ Ok m) × IsLaid r' m
begin-ok r r' l at a now v none request e begun_is store run none_asked =
    let S = e.content in
    let m = begun_in S at l.request (WorkflowExecutionStarted a) in (
      m,
      ap (λ b. on_ok (cond b (with_run l.content l.run) (Err damage.Order)) (λ S. Ok (begun_in S at l.request (WorkflowExecutionStarted a)))) none
          ∙ ap (λ q. on_ok q (λ S. Ok (begun_in S at l.request (WorkflowExecutionStarted a)))) e.is,
      record {
        stands = stands r'.store (stepped at S) (store ∙ ap (λ (t : ShardState). record t { last = max at t.last }) e.says) (step-sound at S e.sound);
        run = subst (λ o. RunStands (S.steps + 1) o m.run) (sym run) (stands-first S.steps at l.request a v.state (begun_is ∙ ap (λ q. begun at q a) request));
        request = none_asked;
        waits = ap (λ n. n == S.dispatched) (ap (λ ds. length ds) e.dispatches.0) ∙ ap (λ n. length l.content.dispatches == n) e.dispatches.1 ∙ none;
      },
    )

-- ---- notes

pub note-err : (r : RestoringView) (l : Laid) (n : NotePiece) → IsLaid r l → (is_some r.request || (n.times == 0)) ≡ true → note_laid l n ≡ Err damage.Order
unfolding note_laid
note-err r l n h some = ap (λ b. cond b (Err damage.Order) (noted_times n.times n l)) (ap (λ q. is_some q || (n.times == 0)) (sym h.request) ∙ some)

pub note-is : (r : RestoringView) (l : Laid) (n : NotePiece) → IsLaid r l → (is_some r.request || (n.times == 0)) ≡ false → note_laid l n ≡ noted_times n.times n l
unfolding note_laid
note-is r l n h none = ap (λ b. cond b (Err damage.Order) (noted_times n.times n l)) (ap (λ q. is_some q || (n.times == 0)) (sym h.request) ∙ none)

-- what was laid by so many notes, and by one more
pub noted-more : (k : ℕ) (n : NotePiece) (l m : Laid) → noted_times k n l ≡ Ok m → noted_times (k + 1) n l ≡ added_to m.content n.at (noted n.activity n.note) m.run
noted-more k n l m h =
    ap (λ j. noted_times j n l) (let e : k + 1 ≡ suc k = omega arith in e)
    ∙ ap (λ q. on_ok q (λ (m : Laid). added_to m.content n.at (noted n.activity n.note) m.run)) h

-- damage stays
noted-stays : (k j : ℕ) (n : NotePiece) (l : Laid) (d : Damage) → noted_times k n l ≡ Err d → noted_times (j + k) n l ≡ Err d
noted-stays k zero n l d h = ap (λ i. noted_times i n l) (let e : zero + k ≡ k = omega arith in e) ∙ h
noted-stays k (suc j) n l d h =
    ap (λ i. noted_times i n l) (let e : suc j + k ≡ suc (j + k) = omega arith in e)
    ∙ ap (λ q. on_ok q (λ (m : Laid). added_to m.content n.at (noted n.activity n.note) m.run)) (noted-stays k j n l d h)

pub noted-err : (k : ℕ) (n : NotePiece) (l m : Laid) (d : Damage) → k < n.times → noted_times k n l ≡ Ok m → added_to m.content n.at (noted n.activity n.note) m.run ≡ Err d → noted_times n.times n l ≡ Err d
noted-err k n l m d low h e =
    ap (λ i. noted_times i n l) (let e : n.times ≡ (n.times - (k + 1)) + (k + 1) = omega (arith, low) in e)
    ∙ noted-stays (k + 1) (n.times - (k + 1)) n l d (noted-more k n l m h ∙ e)

-- what is laid, said otherwise
pub laid-by : (r : RestoringView) (x y : Result Laid Damage) → x ≡ y → (m : Laid) × (y ≡ Ok m) × IsLaid r m → (m : Laid) × (x ≡ Ok m) × IsLaid r m
laid-by r x y same (m, is, laid) = (m, same ∙ is, laid)

pub no-note : (r : RestoringView) (n : NotePiece) → is_some r.request ≡ false → (n.times == 0) ≡ false → (is_some r.request || (n.times == 0)) ≡ false
no-note r n a b = ap (λ t. t || (n.times == 0)) a ∙ b
