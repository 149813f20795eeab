-- the one pass of a service that was just opened from records
use Rattle.std.proofs.Common.{◌≡◌, ◌≢◌, ℕ, zero, suc, ◌+◌, ◌*◌, ◌<◌, Bool, true, false, List, [], ◌∷◌, ◌++◌, length, refl, sym, ap, ◌∙◌, arith, Option, None, Some, slice_index_or, slice_set, length-append, append-nil, replicate, subst}
use Rattle.std.specs.Prelude.{map, nat_lt, slice_get, if◌then◌else◌, Result, Ok, Err}
use Rattle.std.specs.List.{range_with_len}
use Rattle.std.proofs.lemmas.List.{ext_get_or, length-map, length-replicate, length-set}
use Rattle.std.proofs.lemmas.Option.{slice_get-get_or}
use Rattle.std.proofs.Math.ListN.{get_or-map}
use Rattle.wf_event_values.specs.declared.field.Field.{Field}
use Rattle.wf_event_values.specs.declared.field.Field.TheVariants as field
use Rattle.wf_event_values.specs.declared.refusal.Refusal.{Refusal}
use Rattle.wf_event_values.specs.declared.refusal.Refusal.TheVariants.{InvalidArgument, QueueFull}
use Rattle.service_model_types.specs.declared.content.Content.{Content}
use Rattle.service_model_types.specs.declared.content.Dispatch.{Dispatch}
use Rattle.service_model_types.specs.declared.request.Hint.{Hint}
use Rattle.service_model_types.specs.declared.settings.Settings.{Settings}
use Rattle.service_model.specs.Service.{Entry, after, opening}
use Rattle.service_model.proofs.ListLemmas.{get-map}
use Rattle.gate.specs.Passes as gate
use Rattle.gate.specs.Records.{replay}
use Rattle.matching.specs.Alone.{waiting_of}
use Rattle.matching.specs.Holding.{all_pushed, pushed, then_push}
use Rattle.matching.specs.Named.{IsFresh, at, held_at, place_in, room_for, slot_of}
use Rattle.matching.specs.PassSteps.{fresh, nobody}
use Rattle.matching.specs.Queues as one
use Rattle.matching.proofs.Exact.{opens_exactly}
use Rattle.service.specs.ServiceViews.{Service}
use Rattle.service.specs.ServiceViews.{Pass}
use Rattle.service.specs.Contents.{opening_contents, setup_of}
use Rattle.service.specs.AtClose.{base_of}
use Rattle.service.specs.HeldHints.{HoldsFrom}
use Rattle.service.specs.Ranges.{range_fault}
use Rattle.service.specs.Reopening.{are_records, content_from, contents_from, held_from, most_held, opens, opens_from, record_at, records_fault, unless_fault, waiting_from}
use Rattle.shard_gate.specs.declared.source.Source.{Source}
use Rattle.shard_gate.specs.declared.source.Source.TheVariants.{Records as FromRecords}
use Rattle.service.specs.Services.{IsPassOf, hints_by, known_by}
use Rattle.service.specs.Starting.{StartsEmpty, start_of}
use Rattle.shard_gate.proofs.OpenLemmas.{replay-same}
use Rattle.script.specs.Sorted.{steps_seen}
use Rattle.script.specs.OnePass.{IsOnePass, KnowsAll, KnowsQueues, content_seen, contents_seen, records_seen, world_seen}
use Rattle.script.specs.World.{World, held_at_opening, opening_from}
use Rattle.script.proofs.OnePassLemmas.{same-map}
use Rattle.script.proofs.TicketLemmas.{steps-none}

abbrev pub Lists : Type 0
Lists = List (List Hint)

-- ---- what it knows of the shards

-- a new pass has seen the record with which a shard was opened
pub fresh-seen : (x : Service) (p : Pass) (s : ℕ) → IsPassOf p x → gate.IsFresh 0 (known_by p) → gate.seen (known_by p) s ≡ base_of x s
fresh-seen x p s own new = new.sees s ∙ ap (λ o. slice_index_or o.bases s []) own.own.1

-- a shard's content is to it what that record leaves of the content at which the shard started
pub fresh-content : (x : Service) (p : Pass) (s : ℕ) → IsPassOf p x → gate.IsFresh 0 (known_by p) → content_seen x.settings (known_by p) s ≡ replay after (start_of x s) (base_of x s)
fresh-content x p s own new =
    let K = x.settings in
    ap (λ o. replay after (slice_index_or o.starts s (opening (setup_of K s))) (gate.seen (known_by p) s)) own.own.1
    ∙ ap (replay after (start_of x s)) (fresh-seen x p s own new)

fresh-all : (x : Service) (p : Pass) → IsPassOf p x → x.settings.passes ≡ 1 → length x.gate.origin.bases ≡ x.settings.shards → gate.IsFresh 0 (known_by p) → KnowsAll (known_by p)
fresh-all x p own alone wide new = record {
  first = new.named;
  one = ap (λ o. o.passes) own.own.1 ∙ own.opened.passes ∙ alone;
  alone = λ s. new.sees s ∙ sym (append-nil (gate.base (known_by p) s)) ∙ ap (λ m. gate.base (known_by p) s ++ m) (sym (new.has s));
  paired = λ s. ap length (new.bare s) ∙ ap length (sym (new.has s));
  wide = ap (λ o. length o.starts) own.own.1 ∙ own.opened.starts.count ∙ sym wide ∙ ap (λ o. length o.bases) (sym own.own.1);
}

opening-from : (K : Settings) (n m k : ℕ) → slice_index_or (map (λ i. opening (setup_of K i)) (range_with_len n m)) k (opening (setup_of K (n + k))) ≡ opening (setup_of K (n + k))
opening-from K n zero k = refl
opening-from K n (suc m) zero = ap (λ i. opening (setup_of K i)) (omega arith)
opening-from K n (suc m) (suc k) =
    let place : (n + 1) + k ≡ n + suc k = omega arith in
    subst (λ j. slice_index_or (map (λ i. opening (setup_of K i)) (range_with_len (n + 1) m)) k (opening (setup_of K j)) ≡ opening (setup_of K j)) place (opening-from K (n + 1) m k)

-- where a service was opened, each shard started without runs
empty-start : (x : Service) (k : ℕ) → StartsEmpty x → start_of x k ≡ opening (setup_of x.settings k)
empty-start x k empty =
    let K = x.settings in
    let place : 0 + k ≡ k = omega arith in
    ap (λ cs. slice_index_or cs k (opening (setup_of K k))) empty
    ∙ subst (λ j. slice_index_or (opening_contents K) k (opening (setup_of K j)) ≡ opening (setup_of K j)) place (opening-from K 0 K.shards k)

contents-fresh : (x : Service) (p : Pass) (R : List (List Entry)) → IsPassOf p x → StartsEmpty x → ((s : ℕ) → base_of x s ≡ record_at R s) → gate.IsFresh 0 (known_by p) → contents_seen x.settings (known_by p) ≡ contents_from x.settings R
contents-fresh x p R own empty is new =
    let K = x.settings in
    same-map (content_from K R) (content_seen K (known_by p)) 0 K.shards (λ k there.
    fresh-content x p k own new ∙ ap (λ c. replay after c (base_of x k)) (empty-start x k empty)
    ∙ ap (replay after (opening (setup_of K k))) (is k) ∙ replay-same (opening (setup_of K k)) (record_at R k))

records-fresh : (x : Service) (p : Pass) (R : List (List Entry)) → IsPassOf p x → ((s : ℕ) → base_of x s ≡ record_at R s) → gate.IsFresh 0 (known_by p) → records_seen x.settings (known_by p) ≡ map (record_at R) (range_with_len 0 x.settings.shards)
records-fresh x p R own is new = same-map (record_at R) (gate.seen (known_by p)) 0 x.settings.shards (λ k there. fresh-seen x p k own new ∙ is k)

-- ---- how many lists of hints the queues hold

room-count : (b : Bool) (all more : Lists) (slot : ℕ) (new : List Hint) → ◌≡◌ {A = Result Lists Refusal} (if b then Ok (slice_set all slot new) else Err QueueFull) (Ok more) → length more ≡ length all
room-count true all more slot new is = let same : slice_set all slot new ≡ more = cc is in ap length (sym same) ∙ length-set all slot new
room-count false all more slot new is = absurd (cc is)

push-count : (capacity : ℕ) (all more : Lists) (place : Option ℕ) (hint : Hint) → pushed capacity all place hint ≡ Ok more → length more ≡ length all
push-count capacity all more None hint is = absurd (cc is)
push-count capacity all more (Some place) hint is =
    let waiting = slice_index_or all (slot_of place hint.kind) [] in
    room-count (nat_lt (length waiting) capacity) all more (slot_of place hint.kind) (waiting ++ hint ∷ []) is

then-count : (r : Result Lists Refusal) (rest : Lists → Result Lists Refusal) (n : ℕ) (held : Lists) → ((more : Lists) → r ≡ Ok more → rest more ≡ Ok held → length held ≡ n) → then_push r rest ≡ Ok held → length held ≡ n
then-count (Ok more) rest n held next is = next more refl is
then-count (Err e) rest n held next is = absurd (cc is)

all-count : (names : List (List ℕ)) (capacity : ℕ) (ds : List Dispatch) (all held : Lists) → all_pushed names capacity all ds ≡ Ok held → length held ≡ length all
all-count names capacity [] all held is = let same : all ≡ held = cc is in ap length (sym same)
all-count names capacity (d ∷ ds) all held is =
    then-count (pushed capacity all (place_in names d.queue) d.hint) (λ more. all_pushed names capacity more ds) (length all) held
    (λ more was rest. all-count names capacity ds more held rest ∙ push-count capacity all more (place_in names d.queue) d.hint was) is

-- ---- what opening comes to

opened-held : (source : Source) (K : Settings) (R : List (List Entry)) (held : Lists) → opens_from source K R ≡ Ok held → held_from source K (waiting_from source K R) ≡ Ok held
opened-held source K R held is = by_range (range_fault K) is
  where
    by_records : (b : Bool) → unless_fault (if b then Ok tt else Err (InvalidArgument field.Records)) (held_from source K (waiting_from source K R)) ≡ Ok held → held_from source K (waiting_from source K R) ≡ Ok held
    by_records true is = is
    by_records false is = absurd (cc is)

    by_range : (r : Result (Unit {0}) Refusal) → unless_fault r (unless_fault (records_fault K R) (held_from source K (waiting_from source K R))) ≡ Ok held → held_from source K (waiting_from source K R) ≡ Ok held
    by_range (Ok done) is = by_records (are_records K R) is
    by_range (Err e) is = absurd (cc is)

-- there is a list for each queue
pub held-count : (source : Source) (K : Settings) (ds : List Dispatch) (held : Lists) → held_from source K ds ≡ Ok held → length held ≡ 2 * length K.queues
held-count source K ds held is =
    let none : Lists = replicate (2 * length K.queues) [] in
    all-count K.queues (most_held source K ds) ds none held is ∙ length-replicate (2 * length K.queues) []

room-valid : (b : Bool) (all : Lists) (rest : Lists → Result Lists Refusal) (f : Field) → ((more : Lists) → rest more ≢ Err (InvalidArgument f)) → then_push (if b then Ok all else Err QueueFull) rest ≢ Err (InvalidArgument f)
room-valid true all rest f next = next all
room-valid false all rest f next = λ e. absurd (cc (e))

push-valid : (capacity : ℕ) (all : Lists) (place : Option ℕ) (hint : Hint) (rest : Lists → Result Lists Refusal) (f : Field) → ((more : Lists) → rest more ≢ Err (InvalidArgument f)) → then_push (pushed capacity all place hint) rest ≢ Err (InvalidArgument f)
push-valid capacity all None hint rest f next = λ e. absurd (cc (e))
push-valid capacity all (Some place) hint rest f next =
    let waiting = slice_index_or all (slot_of place hint.kind) [] in
    room-valid (nat_lt (length waiting) capacity) (slice_set all (slot_of place hint.kind) (waiting ++ hint ∷ [])) rest f next

-- no push refuses an argument
all-valid : (names : List (List ℕ)) (capacity : ℕ) (ds : List Dispatch) (all : Lists) (f : Field) → all_pushed names capacity all ds ≢ Err (InvalidArgument f)
all-valid names capacity [] all f = λ e. absurd (cc (e))
all-valid names capacity (d ∷ ds) all f = push-valid capacity all (place_in names d.queue) d.hint (λ more. all_pushed names capacity more ds) f (λ more. all-valid names capacity ds more f)

pub pushes-valid : (source : Source) (K : Settings) (ds : List Dispatch) (f : Field) → held_from source K ds ≢ Err (InvalidArgument f)
pushes-valid source K ds f = all-valid K.queues (most_held source K ds) ds (replicate (2 * length K.queues) []) f

-- what is refused for an argument is so for a setting, unless the rest refuses one
pub refused-range : (r : Result (Unit {0}) Refusal) (rest : Result Lists Refusal) (f : Field) → rest ≢ Err (InvalidArgument f) → unless_fault r rest ≡ Err (InvalidArgument f) → r ≡ Err (InvalidArgument f)
refused-range (Ok done) rest f valid is = absurd (valid is)
refused-range (Err e) rest f valid is = let same : e ≡ InvalidArgument f = cc is in ap Err same

-- an argument other than the records is a setting that is out of its range
pub refused-from : (source : Source) (K : Settings) (R : List (List Entry)) (f : Field) → f ≢ field.Records → opens_from source K R ≡ Err (InvalidArgument f) → range_fault K ≡ Err (InvalidArgument f)
refused-from source K R f other is = refused-range (range_fault K) (unless_fault (records_fault K R) (held_from source K (waiting_from source K R))) f (by_records (are_records K R)) is
  where
    by_records : (b : Bool) → unless_fault (if b then Ok tt else Err (InvalidArgument field.Records)) (held_from source K (waiting_from source K R)) ≢ Err (InvalidArgument f)
    by_records true = pushes-valid source K (waiting_from source K R) f
    by_records false = λ e. other (cc (e))

-- the same where it is opened from records
pub refused-setting : (K : Settings) (R : List (List Entry)) (f : Field) → f ≢ field.Records → opens K R ≡ Err (InvalidArgument f) → range_fault K ≡ Err (InvalidArgument f)
refused-setting = refused-from FromRecords

-- ---- what it knows of the queues

-- what the pass knows of the queue in a slot, where these hints are held
abbrev KnowsHeld : Settings → Lists → Pass → Type 0
KnowsHeld K held p = (s : ℕ) → s < length (hints_by p) → at (hints_by p) s ≡ fresh 1 K.shards (room_for K.capacity (held_at held s)) (held_at held s) 0

-- each pass knows so what the queues hold
abbrev pub KnowHeld : Settings → Lists → List Pass → Type 0
KnowHeld K held passes = (k : ℕ) (p : Pass) → slice_get passes k ≡ Some p → IsFresh K.passes K.shards K.capacity held k p.hints

fresh-at : (K : Settings) (held : Lists) (passes : List Pass) (p : Pass) → KnowHeld K held passes → K.passes ≡ 1 → slice_get passes 0 ≡ Some p → KnowsHeld K held p
fresh-at K held passes p all alone first = λ s below.
    let (r, there, is) = get-map one.known_by p.hints.passes.items s (at (hints_by p) s) (slice_get-get_or (hints_by p) s nobody below) in
    is ∙ all 0 p first s r there ∙ ap (λ n. fresh n K.shards (room_for K.capacity (held_at held s)) (held_at held s) 0) alone

fresh-queues : (x : Service) (p : Pass) (held : Lists) → IsPassOf p x → KnowsHeld x.settings held p → KnowsQueues x.settings (hints_by p)
fresh-queues x p held own new =
    let K = x.settings in
    record {
      count = length-map p.hints.passes.items one.known_by ∙ own.hints.width ∙ own.hints.even ∙ ap (λ names. 2 * length names) own.opened.names;
      alone = λ s below. (ap (λ v. v.given) (new s below), ap (λ v. v.number) (new s below));
      shards = λ s below. ap (λ v. v.shards) (new s below);
    }

-- in each queue waits what it was opened with
waiting-fresh : (K : Settings) (p : Pass) (held : Lists) → length held ≡ length (hints_by p) → KnowsHeld K held p → map waiting_of (hints_by p) ≡ held
waiting-fresh K p held count new =
    let hs = hints_by p in
    let wide : length (map waiting_of hs) ≡ length hs = length-map hs waiting_of in
    ext_get_or [] (map waiting_of hs) held (wide ∙ sym count)
    (λ s below. get_or-map waiting_of hs s nobody ∙ ap waiting_of (new s (omega (arith, wide, below))) ∙ (opens_exactly K.shards (room_for K.capacity (held_at held s)) (held_at held s)).1)

-- ---- both

pub fresh-one : (x : Service) (p : Pass) (held : Lists) (passes : List Pass) → IsPassOf p x → x.settings.passes ≡ 1 → length x.gate.origin.bases ≡ x.settings.shards → gate.IsFresh 0 (known_by p) → slice_get passes 0 ≡ Some p → KnowHeld x.settings held passes → IsOnePass x p
fresh-one x p held passes own alone wide new first all = record { own = own; all = fresh-all x p own alone wide new; queues = fresh-queues x p held own (fresh-at x.settings held passes p all alone first) }

-- the world as it knows it, by what it knows of the contents, of the queues and of the records
pub world-parts : (x : Service) (p : Pass) (contents : List Content) (held : Lists) (logs : List (List Entry)) (passes : List Pass) → IsPassOf p x → x.settings.passes ≡ 1 → gate.IsFresh 0 (known_by p) → slice_get passes 0 ≡ Some p → KnowHeld x.settings held passes → length held ≡ 2 * length x.settings.queues
    → contents_seen x.settings (known_by p) ≡ contents → records_seen x.settings (known_by p) ≡ logs → world_seen x.settings (known_by p) (hints_by p) ≡ record { contents = contents; waiting = held; records = logs; steps = [] }
world-parts x p contents held logs passes own alone new first all count those entries =
    let K = x.settings in
    let knows = fresh-at K held passes p all alone first in
    let queues = fresh-queues x p held own knows in
    let waiting : map waiting_of (hints_by p) ≡ held = waiting-fresh K p held (count ∙ sym queues.count) knows in
    let world_of : List Content → Lists → List (List Entry) → List (ℕ × Entry) → World = λ cs t rs steps. record { contents = cs; waiting = t; records = rs; steps = steps } in
    ap (λ cs. world_of cs (map waiting_of (hints_by p)) (records_seen K (known_by p)) (steps_seen (known_by p))) those
    ∙ ap (λ t. world_of contents t (records_seen K (known_by p)) (steps_seen (known_by p))) waiting
    ∙ ap (λ rs. world_of contents held rs (steps_seen (known_by p))) entries ∙ ap (world_of contents held logs) (steps-none (known_by p) new.bare)

pub world-fresh : (source : Source) (x : Service) (p : Pass) (R : List (List Entry)) (passes : List Pass) → IsPassOf p x → StartsEmpty x → x.settings.passes ≡ 1 → ((s : ℕ) → base_of x s ≡ record_at R s) → gate.IsFresh 0 (known_by p) → slice_get passes 0 ≡ Some p → HoldsFrom source x.settings R passes →
    world_seen x.settings (known_by p) (hints_by p) ≡ opening_from source x.settings R
unfolding opening_from
world-fresh source x p R passes own empty alone is new first h =
    let K = x.settings in
    let logs = map (record_at R) (range_with_len 0 K.shards) in
    let with_waiting : Lists → World = λ t. record { contents = contents_from K R; waiting = t; records = logs; steps = [] } in
    let count = held-count source K (waiting_from source K R) h.held (opened-held source K R h.held h.opened) in
    world-parts x p (contents_from K R) h.held logs passes own alone new first h.fresh count (contents-fresh x p R own empty is new) (records-fresh x p R own is new)
    ∙ ap with_waiting (sym (ap held_at_opening h.opened))

-- the queues hold what the opening world says
pub opened-is : (source : Source) (K : Settings) (R : List (List Entry)) (passes : List Pass) → HoldsFrom source K R passes → opens_from source K R ≡ Ok (opening_from source K R).waiting
unfolding opening_from
opened-is source K R passes h = h.opened ∙ ap Ok (sym (ap held_at_opening h.opened))

-- the only member of a list
pub only-one : {A : Type 0} (xs front : List A) (x : A) → xs ≡ front ++ x ∷ [] → length xs ≡ 1 → slice_get xs 0 ≡ Some x
only-one xs [] x is one = ap (λ t. slice_get t 0) is
only-one xs (y ∷ front) x is one = absurd (omega (arith, ap length is, one, length-append front (x ∷ [])))

pub first-of : {A : Type 0} (xs : List A) → length xs ≡ 1 → (x : A) × (slice_get xs 0 ≡ Some x)
first-of [] one = absurd (omega (arith, one))
first-of (x ∷ xs) one = (x, refl)
