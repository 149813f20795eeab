-- what a shard that is being restored stands for, with one more piece
use Rattle.std.proofs.Common.{◌≡◌, ℕ, ◌+◌, ◌<◌, ◌≤◌, Bool, true, false, cond, List, [], ◌∷◌, ◌++◌, length, map, refl, sym, ap, ◌∙◌, subst, arith, length-drop, Option, Some, None, Result, Ok, Err}
use Rattle.std.specs.Prelude.{drop, is_some, max, IfSome}
use Rattle.std.specs.List.{AllByRecursion}
use Rattle.std.proofs.lemmas.List.{map-append}
use Rattle.std.proofs.lemmas.Bool.Decides.{nat_tests}
use Rattle.service_model_types.specs.declared.content.Content.{Content}
use Rattle.service_model_types.specs.declared.journal.Fact.{Fact}
use Rattle.service_model.specs.Aging.{AreAged, IsAged}
use Rattle.service_model.specs.Growth.{HasOneOpen}
use Rattle.service_model.specs.Journal.{Journal}
use Rattle.service_model.specs.RunState.{state_of}
use Rattle.service_model.specs.Service.{entries}
use Rattle.mutable_state.specs.Formed.{IsFormed, Stands}
use Rattle.mutable_state.specs.RunView.{RunView}
use Rattle.mutable_state.proofs.JournalLemmas.{formed-later}
use Rattle.transfer.specs.Logs.{counted_off}
use Rattle.transfer.specs.Outboxes.{AreIssued, rest_of}
use Rattle.shard_issued.specs.Issuing.{waiting_in}
use Rattle.shard_store.specs.Open.{IsOneOpen}
use Rattle.shard_store.specs.ShardView.{ShardState, ShardView, state}
use Rattle.shard_store.specs.Standing.{StandsFor, known}
use Rattle.shard_store.proofs.OpenLemmas.{of-journals}
use Rattle.snapshot_facts.specs.Restoring.{may_come}
use Rattle.shard_snapshot.specs.declared.damage.Damage.{Damage}
use Rattle.shard_snapshot.specs.declared.damage.Damage.TheVariants as damage
use Rattle.shard_snapshot.specs.Laid.{Laid, added_to, ended, may_end, none_waits, stepped, where_so, with_run}
use Rattle.shard_snapshot.specs.Restored.{IsLaid, RestoringView, RunStands, ended_state, run_state, with_run_state}
use Rattle.shard_snapshot.proofs.FollowLemmas.{aged-later, aged-more, all-closed, both, one-more, to-journals}

-- what is so of a content for which a shard may stand
pub record IsSound (S : Content) : Type 0 where
  pub formed : AllByRecursion (IsFormed S.steps) S.runs
  pub counted : S.dispatched ≤ length S.dispatches
  pub issued : AreIssued S.outgoing
  pub one : HasOneOpen S
  pub aged : IsAged S

pub sound : (v : ShardView) (S : Content) → StandsFor v S → IsSound S
sound v S h = record { formed = h.formed; counted = h.counted; issued = h.issued; one = h.one; aged = h.aged }

pub stands : (v : ShardView) (S : Content) → state v ≡ known S → IsSound S → StandsFor v S
stands v S is h = record { says = is; formed = h.formed; counted = h.counted; issued = h.issued; one = h.one; aged = h.aged }

pub same-ok : {A : Type 0} (x y : A) → ◌≡◌ {A = Result A Damage} (Ok x) (Ok y) → x ≡ y
same-ok x y e = cc

pub all-end : {A : Type 0} (P : A → Type 0) (xs : List A) (x : A) → AllByRecursion P xs → P x → AllByRecursion P (xs ++ x ∷ [])
all-end P [] x h p = (p, tt)
all-end P (y ∷ xs) x h p = (h.0, all-end P xs x h.1 p)

-- ---- nothing waits

pub none-waits : (S : Content) → none_waits S ≡ true → length S.dispatches ≡ S.dispatched
none-waits S h = grind (arith, nat_tests)

pub so-none-waits : (S : Content) → S.dispatched ≤ length S.dispatches → length (waiting_in S).items ≡ 0 → none_waits S ≡ true
so-none-waits S low none = let count = length-drop S.dispatched S.dispatches in grind (arith, nat_tests)

pub some-waits : (S : Content) → 0 < length (waiting_in S).items → none_waits S ≡ false
some-waits S some = let count = length-drop S.dispatched S.dispatches in grind (arith, nat_tests)

none-left : {A : Type 0} (xs : List A) → length xs ≡ 0 → xs ≡ []
none-left [] h = refl
none-left (x ∷ xs) h = absurd (omega arith)

all-counted : (S : Content) → none_waits S ≡ true → waiting_in S ≡ counted_off S.dispatched
all-counted S h =
    let count = length-drop S.dispatched S.dispatches in
    let same = none-waits S h in
    ap (λ l. record { items = l; counted = S.dispatched }) (none-left (drop S.dispatched S.dispatches) (omega (arith, count, same)))

-- ---- the run that is being restored takes its place

pub record Ends (now : ShardState) (C : Content) (J : Option Journal) : Type 0 where
  pub content : Content
  pub is : with_run C J ≡ Ok content
  pub says : now ≡ known content
  pub sound : IsSound content
  pub steps : content.steps ≡ C.steps
  pub dispatches : (content.dispatches ≡ C.dispatches) × (content.dispatched ≡ C.dispatched)

abbrev with_journal : Content → Journal → Content
with_journal C J = record C { runs = C.runs ++ J ∷ [] }

journal-known : (C : Content) (J : Journal) → none_waits C ≡ true → record (known C) { runs = map state_of C.runs ++ state_of J ∷ []; waiting = counted_off C.dispatched } ≡ known (with_journal C J)
journal-known C J none =
    let runs = sym (map-append state_of C.runs (J ∷ [])) in
    let waits = sym (all-counted C none) in
    λ i. record { setup = C.setup; runs = runs i; last = C.last_moment; waiting = waits i; outgoing = map rest_of C.outgoing; accepted = C.accepted }

journal-sound : (C : Content) (J : Journal) → IsSound C → IsFormed C.steps J → may_end C.last_moment (map state_of C.runs) (state_of J) ≡ true → IsSound (with_journal C J)
journal-sound C J h formed may =
    let runs = map-append state_of C.runs (J ∷ []) in
    let opened = of-journals C h.one in
    let tests = (both _ _ may).1 in
    record {
      formed = all-end (IsFormed C.steps) C.runs J h.formed formed;
      counted = h.counted;
      issued = h.issued;
      one = to-journals (with_journal C J) (subst (λ l. IsOneOpen l) (sym runs) (one-more (map state_of C.runs) (state_of J) (all-closed (map state_of C.runs) (state_of J) tests opened) opened));
      aged = subst (AreAged C.last_moment) (sym runs) (aged-more C.last_moment (map state_of C.runs) (state_of J) may h.aged);
    }

pub place-ok : (C : Content) (run : Option RunView) (J : Option Journal) (now : ShardState) → IsSound C → RunStands C.steps run J → IfSome J (λ K. none_waits C ≡ true) →
    with_run_state (known C) (run_state run) ≡ Ok now → Ends now C J
place-ok C None None now h s w e = record { content = C; is = refl; says = same-ok now (known C) (sym e); sound = h; steps = refl; dispatches = (refl, refl) }
place-ok C None (Some J) now h s w e = absurd s
place-ok C (Some v) None now h s w e = absurd s
place-ok C (Some v) (Some J) now h s w e =
    by (may_end C.last_moment (map state_of C.runs) (state_of J)) refl (subst (λ t. with_run_state (known C) (Some t) ≡ Ok now) (sym s.says) e)
  where
    after : ShardState
    after = record (known C) { runs = map state_of C.runs ++ state_of J ∷ []; waiting = counted_off C.dispatched }

    by : (b : Bool) → may_end C.last_moment (map state_of C.runs) (state_of J) ≡ b → where_so b damage.Run after ≡ Ok now → Ends now C (Some J)
    by true may e = record {
      content = with_journal C J;
      is = ap (λ b. where_so b damage.Run (with_journal C J)) may;
      says = same-ok now after (sym e) ∙ journal-known C J w;
      sound = journal-sound C J h s.formed may;
      steps = refl;
      dispatches = (refl, refl);
    }
    by false may e = absurd (cc)

pub place-err : (C : Content) (run : Option RunView) (J : Option Journal) (d : Damage) → RunStands C.steps run J → with_run_state (known C) (run_state run) ≡ Err d → with_run C J ≡ Err d
place-err C None None d s e = absurd (cc)
place-err C None (Some J) d s e = absurd s
place-err C (Some v) None d s e = absurd s
place-err C (Some v) (Some J) d s e =
    by (may_end C.last_moment (map state_of C.runs) (state_of J)) refl (subst (λ t. with_run_state (known C) (Some t) ≡ Err d) (sym s.says) e)
  where
    after : ShardState
    after = record (known C) { runs = map state_of C.runs ++ state_of J ∷ []; waiting = counted_off C.dispatched }

    by : (b : Bool) → may_end C.last_moment (map state_of C.runs) (state_of J) ≡ b → where_so b damage.Run after ≡ Err d → with_run C (Some J) ≡ Err d
    by true may e = absurd (cc)
    by false may e = ap (λ b. where_so b damage.Run (with_journal C J)) may ∙ (let same : ◌≡◌ {A = Damage} damage.Run d = cc in ap (λ x. Err x) same)

-- ---- the same, where no event is to come by a request id

pub end-ok : (r : RestoringView) (l : Laid) (now : ShardState) → IsLaid r l → ended_state (state r.store) r.request (run_state r.run) ≡ Ok now → Ends now l.content l.run × (ended l ≡ with_run l.content l.run)
unfolding ended
end-ok r l now h e = by l.request h.request e
  where
    by : (o : Option (List ℕ)) → r.request ≡ o → ended_state (state r.store) r.request (run_state r.run) ≡ Ok now →
        Ends now l.content l.run × (cond (is_some o) (Err damage.Order) (with_run l.content l.run) ≡ with_run l.content l.run)
    by None is e =
        let go : with_run_state (known l.content) (run_state r.run) ≡ Ok now =
        ap (λ s. with_run_state s (run_state r.run)) (sym h.stands.says) ∙ sym (ap (λ q. ended_state (state r.store) q (run_state r.run)) is) ∙ e in
        (place-ok l.content r.run l.run now (sound r.store l.content h.stands) h.run h.waits go, refl)
    by (Some id) is e = absurd (let clash = sym (ap (λ q. ended_state (state r.store) q (run_state r.run)) is) ∙ e in cc)

pub end-err : (r : RestoringView) (l : Laid) (d : Damage) → IsLaid r l → ended_state (state r.store) r.request (run_state r.run) ≡ Err d → ended l ≡ Err d
unfolding ended
end-err r l d h e = by l.request h.request e
  where
    by : (o : Option (List ℕ)) → r.request ≡ o → ended_state (state r.store) r.request (run_state r.run) ≡ Err d → cond (is_some o) (Err damage.Order) (with_run l.content l.run) ≡ Err d
    by None is e = place-err l.content r.run l.run d h.run (ap (λ s. with_run_state s (run_state r.run)) (sym h.stands.says) ∙ sym (ap (λ q. ended_state (state r.store) q (run_state r.run)) is) ∙ e)
    by (Some id) is e =
        let clash : ◌≡◌ {A = Result ShardState Damage} (Err damage.Order) (Err d) = sym (ap (λ q. ended_state (state r.store) q (run_state r.run)) is) ∙ e in
        let same : ◌≡◌ {A = Damage} damage.Order d = cc in
        ap (λ x. Err x) same

-- the same is laid where the same is known
pub laid-same : (r r' : RestoringView) (l : Laid) → state r'.store ≡ state r.store → r'.run ≡ r.run → r'.request ≡ r.request → IsLaid r l → IsLaid r' l
laid-same r r' l store run request h = record {
  stands = stands r'.store l.content (store ∙ h.stands.says) (sound r.store l.content h.stands);
  run = subst (λ o. RunStands l.content.steps o l.run) (sym run) h.run;
  request = request ∙ h.request;
  waits = h.waits;
}

-- no dispatch waits, where none does in the shard
pub laid-none-waits : (r : RestoringView) (l : Laid) → IsLaid r l → length r.store.waiting.items ≡ 0 → none_waits l.content ≡ true
laid-none-waits r l h none = so-none-waits l.content h.stands.counted (ap (λ (s : ShardState). length s.waiting.items) (sym h.stands.says) ∙ none)

pub laid-some-waits : (r : RestoringView) (l : Laid) → IsLaid r l → 0 < length r.store.waiting.items → none_waits l.content ≡ false
laid-some-waits r l h some = some-waits l.content (subst (λ n. 0 < n) (ap (λ (s : ShardState). length s.waiting.items) h.stands.says) some)

-- ---- one more step

all-later : (steps : ℕ) (Js : List Journal) → AllByRecursion (IsFormed steps) Js → AllByRecursion (IsFormed (steps + 1)) Js
all-later steps [] h = tt
all-later steps (J ∷ Js) h = (formed-later steps J h.0, all-later steps Js h.1)

later : (a b : ℕ) → b ≤ max a b
later a b = grind (arith, nat_tests)

pub step-sound : (at : ℕ) (S : Content) → IsSound S → IsSound (stepped at S)
step-sound at S h = record {
  formed = all-later S.steps S.runs h.formed;
  counted = h.counted;
  issued = h.issued;
  one = to-journals (stepped at S) (of-journals S h.one);
  aged = aged-later S.last_moment (max at S.last_moment) (map state_of S.runs) (later at S.last_moment) h.aged;
}

-- ---- a fact

pub no-run : (C : Content) (at : ℕ) (f : Fact) (J : Option Journal) → RunStands C.steps None J → added_to C at f J ≡ Err damage.Order
no-run C at f None s = refl
no-run C at f (Some J) s = absurd s

pub not-added : (C : Content) (at : ℕ) (f : Fact) (v : RunView) (J : Option Journal) → RunStands C.steps (Some v) J → may_come v.state f ≡ false → added_to C at f J ≡ Err damage.Fact
not-added C at f v None s may = absurd s
not-added C at f v (Some J) s may = ap (λ t. where_so (may_come t f) damage.Fact (record { content = stepped at C; run = Some (J ++ entries (C.steps + 1) at 0 (f ∷ [])); request = None })) s.says
    ∙ ap (λ b. where_so b damage.Fact (record { content = stepped at C; run = Some (J ++ entries (C.steps + 1) at 0 (f ∷ [])); request = None })) may

-- a run with one more fact
pub record Grows (v v' : RunView) (at : ℕ) (f : Fact) : Type 0 where
  pub each : (steps : ℕ) (J : Journal) → Stands steps J v.state → Stands (steps + 1) (J ++ entries (steps + 1) at 0 (f ∷ [])) v'.state

pub added : (r r' : RestoringView) (l : Laid) (at : ℕ) (f : Fact) (v v' : RunView) → IsLaid r l → r.run ≡ Some v → r'.run ≡ Some v' → may_come v.state f ≡ true → Grows v v' at f →
    state r'.store ≡ record (state r.store) { last = max at r.store.last } → r'.request ≡ None → (m : Laid) × (added_to l.content at f l.run ≡ Ok m) × IsLaid r' m
added r r' l at f v v' h run run' may grows store request = by l.run (subst (λ o. RunStands l.content.steps o l.run) run h.run) h.waits
  where
    C : Content
    C = l.content

    by : (J : Option Journal) → RunStands C.steps (Some v) J → IfSome J (λ K. none_waits C ≡ true) → (m : Laid) × (added_to C at f J ≡ Ok m) × IsLaid r' m
    by None s w = absurd s
    by (Some J) s w =
        let K = J ++ entries (C.steps + 1) at 0 (f ∷ []) in
        let m : Laid = record { content = stepped at C; run = Some K; request = None } in (
          m,
          ap (λ t. where_so (may_come t f) damage.Fact m) s.says ∙ ap (λ b. where_so b damage.Fact m) may,
          record {
            stands = stands r'.store (stepped at C) (store ∙ ap (λ (t : ShardState). record t { last = max at t.last }) h.stands.says) (step-sound at C (sound r.store C h.stands));
            run = subst (λ o. RunStands (C.steps + 1) o (Some K)) (sym run') (grows.each C.steps J s);
            request = request;
            waits = w;
          },
        )
