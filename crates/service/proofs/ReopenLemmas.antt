-- how a service is opened from records
use Rattle.std.proofs.Common.{◌≡◌, ℕ, ◌+◌, ◌<◌, ◌≤◌, Bool, true, false, List, [], ◌∷◌, ◌++◌, refl, sym, ap, ◌∙◌, arith, zero, suc, Some, length-append, slice_index_or, subst}
use Rattle.std.proofs.lemmas.List.{length-map}
use Rattle.std.proofs.lemmas.List.FromFn.{length-map-range_with_len, map-range_with_len_more}
use Rattle.std.proofs.lemmas.Bool.Decides.{nat_tests}
use Rattle.std.specs.Prelude.{All, ◌==◌, ◌||◌, filter, flat_map, length, map, slice_get, if◌then◌else◌, nat_lt, Result, Ok, Err, IfOk, IfErr, MatchResult}
use Rattle.std.specs.List.{range_with_len, AllByRecursion}
use Rattle.wf_event_values.specs.declared.field.Field.TheVariants.{Records}
use Rattle.wf_event_values.specs.declared.refusal.Refusal.{Refusal}
use Rattle.wf_event_values.specs.declared.refusal.Refusal.TheVariants.{InvalidArgument}
use Rattle.service_model_types.specs.declared.content.Dispatch.{Dispatch}
use Rattle.service_model_types.specs.declared.content.Setup.{Setup}
use Rattle.service_model_types.specs.declared.request.Hint.{Hint}
use Rattle.service_model_types.specs.declared.settings.Settings.{Settings}
use Rattle.service_model.specs.Service.{Entry, opening, replay}
use Rattle.service_model.specs.Waiting.{waiting}
use Rattle.shard_gate.specs.Sources.{hinted}
use Rattle.shard_gate.specs.declared.source.Source.{Source}
use Rattle.shard_gate.specs.declared.source.Source.TheVariants.{Records as FromRecords, Journal as FromJournal}
use Rattle.service_model.specs.WaitingLaws.{IsNamed}
use Rattle.service_model.proofs.NamedLemmas.{place-known, waiting-are-named}
use mathlib.Core.List.{map-map}
use Rattle.service_model.proofs.ListLemmas.{map-push}
use Rattle.gate.specs.SlotRule.{at}
use Rattle.matching.specs.Holding.{held_by, pushed}
use Rattle.matching.specs.Named.{IsFresh, place_in}
use Rattle.matching.specs.declared.queues.QueuesPass.{QueuesPass}
use Rattle.shard_gate.specs.Opening.{IsSetup}
use Rattle.shard_gate.specs.Starts.{Start, content_behind, from_setups, opened_with, starting_empty, waiting_in}
use Rattle.shard_gate.proofs.OpenLemmas.{replay-same}
use Rattle.service.specs.Contents.{opening_contents, setup_of}
use Rattle.service.specs.HeldHints.{HoldAtOpening}
use Rattle.service.specs.Ranges.{range_fault}
use Rattle.service.specs.Services.{IsInRange}
use Rattle.service.specs.Reopening.{are_records, content_from, held_from, most_held, opens_from, record_at, records_fault, unless_fault, waiting_from}
use Rattle.service_model.proofs.QueueLemmas.{all-both as all-append}

-- the records of a list, one by one from a number on
each-from : (xs ys : List (List Entry)) (n : ℕ) → ((k : ℕ) → record_at ys k ≡ record_at xs (n + k)) → map (record_at xs) (range_with_len n (length ys)) ≡ ys
each-from xs [] n h = refl
each-from xs (y ∷ ys) n h =
    let first : record_at xs n ≡ y = ap (record_at xs) (omega arith) ∙ sym (h 0) in
    let rest : (k : ℕ) → record_at ys k ≡ record_at xs ((n + 1) + k) = λ k. h (suc k) ∙ ap (record_at xs) (omega arith) in
    ap (λ e. e ∷ map (record_at xs) (range_with_len (n + 1) (length ys))) first ∙ ap (λ t. y ∷ t) (each-from xs ys (n + 1) rest)

-- those of all shards are the list itself, where there is one of each
pub each-record : (xs : List (List Entry)) → map (record_at xs) (range_with_len 0 (length xs)) ≡ xs
each-record xs = each-from xs xs 0 (λ k. ap (record_at xs) (omega arith))

-- so many shards have so many records
pub all-counted : (xs : List (List Entry)) (n : ℕ) → length (map (record_at xs) (range_with_len 0 n)) ≡ n
all-counted xs n = length-map-range_with_len (record_at xs) 0 n

-- a list of records that isn't empty has one of each shard
pub records-count : (K : Settings) (xs : List (List Entry)) → are_records K xs ≡ true → 0 < length xs → length xs ≡ K.shards
records-count K xs h some = by_tests (length xs == 0) refl (length xs == K.shards) refl h
  where
    by_tests : (a : Bool) → (length xs == 0) ≡ a → (b : Bool) → (length xs == K.shards) ≡ b → (a || b) ≡ true → length xs ≡ K.shards
    by_tests true none b is h = absurd (grind (arith, nat_tests))
    by_tests false a true same h = grind (arith, nat_tests)
    by_tests false a false b h = absurd (cc)

-- an empty list has an empty record of each shard
pub none-at : (xs : List (List Entry)) (k : ℕ) → length xs ≡ 0 → record_at xs k ≡ []
none-at [] k h = refl
none-at (x ∷ xs) k h = absurd (omega arith)

-- one more of them
pub one-more : (R xs ys : List (List Entry)) (log : List Entry) (n : ℕ) → length R ≡ 0 → xs ≡ map (record_at R) (range_with_len 0 n) → log ≡ [] → ys ≡ xs ++ log ∷ [] → ys ≡ map (record_at R) (range_with_len 0 (n + 1))
one-more R xs ys log n none so empty is =
    is ∙ ap (λ t. t ++ log ∷ []) so
    ∙ ap (λ e. map (record_at R) (range_with_len 0 n) ++ e ∷ []) (empty ∙ sym (none-at R n none))
    ∙ sym (map-range_with_len_more (record_at R) 0 n n (omega arith))

-- no fault of the records, so the test holds
pub records-right : (K : Settings) (xs : List (List Entry)) → records_fault K xs ≡ Ok tt → are_records K xs ≡ true
records-right K xs h = by_test (are_records K xs) refl h
  where
    by_test : (b : Bool) → are_records K xs ≡ b → ◌≡◌ {A = Result (Unit {0}) Refusal} (if b then Ok tt else Err (InvalidArgument Records)) (Ok tt) → are_records K xs ≡ true
    by_test true is h = is
    by_test false is h = absurd (cc)

-- what a shard is opened from
abbrev pub Given : Type 0
Given = Setup × List Entry

-- one more of them, with the next setup
pub given-more : (K : Settings) (xs ys : List Given) (s : Setup) (log : List Entry) → ys ≡ xs ++ (s, log) ∷ [] → s ≡ setup_of K (length xs)
    → map (λ (g : Given). g.0) xs ≡ map (λ k. setup_of K k) (range_with_len 0 (length xs)) → map (λ (g : Given). g.0) ys ≡ map (λ k. setup_of K k) (range_with_len 0 (length ys))
given-more K xs ys s log is next h =
    let one : List Given = (s, log) ∷ [] in
    let more : length ys ≡ length xs + 1 = ap length is ∙ length-append xs one in
    ap (map (λ (g : Given). g.0)) is ∙ map-push (λ (g : Given). g.0) xs (s, log) ∙ ap (λ t. t ++ s ∷ []) h ∙ ap (λ u. map (λ k. setup_of K k) (range_with_len 0 (length xs)) ++ u ∷ []) next
    ∙ sym (map-range_with_len_more (λ k. setup_of K k) 0 (length xs) (length xs) (omega arith)) ∙ ap (λ n. map (λ k. setup_of K k) (range_with_len 0 n)) (sym more)

pub records-more : (xs ys : List Given) (s : Setup) (log : List Entry) (logs : List (List Entry)) → ys ≡ xs ++ (s, log) ∷ [] → map (λ (g : Given). g.1) xs ≡ logs → map (λ (g : Given). g.1) ys ≡ logs ++ log ∷ []
records-more xs ys s log logs is h = ap (map (λ (g : Given). g.1)) is ∙ map-push (λ (g : Given). g.1) xs (s, log) ∙ ap (λ t. t ++ log ∷ []) h

heads : {A B : Type 0} (f : A → B) (n : ℕ) (g : ℕ → B) (x : A) (xs : List A) → map f (x ∷ xs) ≡ map g (range_with_len n (length (x ∷ xs))) → f x ≡ g n
heads f n g x xs same = ap (λ t. slice_index_or t 0 (f x)) same

tails : {A B : Type 0} (f : A → B) (n : ℕ) (g : ℕ → B) (x : A) (xs : List A) → map f (x ∷ xs) ≡ map g (range_with_len n (length (x ∷ xs))) → map f xs ≡ map g (range_with_len (n + 1) (length xs))
tails {B = B} f n g x xs same = ap tail_of same
  where
    tail_of : List B → List B
    tail_of [] = []
    tail_of (y ∷ ys) = ys

-- as many as there are shards
pub given-count : (K : Settings) (gs : List Given) → map (λ (g : Given). g.0) gs ≡ map (λ k. setup_of K k) (range_with_len 0 K.shards) → length gs ≡ K.shards
given-count K gs same = sym (length-map gs (λ (g : Given). g.0)) ∙ ap length same ∙ length-map-range_with_len (λ k. setup_of K k) 0 K.shards

-- the same, each after as many numbers as there are of them
pub each-of : {B : Type 0} (K : Settings) (gs : List Given) (f : Given → B) (g : ℕ → B) → length gs ≡ K.shards → map f gs ≡ map g (range_with_len 0 K.shards) → map f gs ≡ map g (range_with_len 0 (length gs))
each-of K gs f g count same = same ∙ ap (λ n. map g (range_with_len 0 n)) (sym count)

setups-from : (K : Settings) → IsInRange K → (n : ℕ) (gs : List Given) → n + length gs ≤ 64 → map (λ (g : Given). g.0) gs ≡ map (λ k. setup_of K k) (range_with_len n (length gs)) → AllByRecursion (λ (g : Given). IsSetup g.0) gs
setups-from K range n [] few same = tt
setups-from K range n (g ∷ gs) few same =
    let number : n < 64 = omega (arith, few) in
    let own : IsSetup (setup_of K n) = record { service = omega (arith, range.service); shard = omega (arith, number); some = omega (arith, range.some_shard) } in
    (subst IsSetup (sym (heads (λ (g : Given). g.0) n (λ k. setup_of K k) g gs same)) own, setups-from K range (n + 1) gs (omega (arith, few)) (tails (λ (g : Given). g.0) n (λ k. setup_of K k) g gs same))

-- each shard's setup fits
pub setups-fit : (K : Settings) (gs : List Given) → IsInRange K → map (λ (g : Given). g.0) gs ≡ map (λ k. setup_of K k) (range_with_len 0 K.shards) → AllByRecursion (λ (g : Given). IsSetup g.0) gs
setups-fit K gs range same =
    let count = given-count K gs same in
    setups-from K range 0 gs (omega (arith, count, range.few_shards)) (each-of K gs (λ (g : Given). g.0) (λ k. setup_of K k) count same)

-- the contents at which they start
pub opens-with : (K : Settings) (gs : List Given) → map (λ (g : Given). g.0) gs ≡ map (λ k. setup_of K k) (range_with_len 0 K.shards) → opened_with (from_setups gs) ≡ opening_contents K
opens-with K gs same =
    map-map (λ (s : Start). s.0) starting_empty gs
    ∙ sym (map-map opening (λ (g : Given). g.0) gs) ∙ ap (map opening) same ∙ map-map opening (λ k. setup_of K k) (range_with_len 0 K.shards)

waits-from : (source : Source) (K : Settings) (R : List (List Entry)) (n : ℕ) (gs : List Given)
    → map (λ (g : Given). g.0) gs ≡ map (λ k. setup_of K k) (range_with_len n (length gs))
    → map (λ (g : Given). g.1) gs ≡ map (record_at R) (range_with_len n (length gs))
    → waiting_in source (from_setups gs) ≡ flat_map (hinted source) (map (content_from K R) (range_with_len n (length gs)))
waits-from source K R n [] setups logs = refl
waits-from source K R n (g ∷ gs) setups logs =
    let here : hinted source (content_behind (starting_empty g)) ≡ hinted source (content_from K R n) =
    ap (hinted source) (replay-same (opening g.0) g.1) ∙ ap (λ s. hinted source (replay s g.1)) (heads (λ (g : Given). g.0) n (λ k. setup_of K k) g gs setups) ∙ ap (λ l. hinted source (replay (setup_of K n) l)) (heads (λ (g : Given). g.1) n (record_at R) g gs logs) in
    let rest = waits-from source K R (n + 1) gs (tails (λ (g : Given). g.0) n (λ k. setup_of K k) g gs setups) (tails (λ (g : Given). g.1) n (record_at R) g gs logs) in
    ap (λ t. t ++ waiting_in source (from_setups gs)) here ∙ ap (λ t. hinted source (content_from K R n) ++ t) rest

-- the tasks that wait on them are those that wait in the contents which the records leave
pub waiting-is : (source : Source) (K : Settings) (R : List (List Entry)) (gs : List Given)
    → map (λ (g : Given). g.0) gs ≡ map (λ k. setup_of K k) (range_with_len 0 K.shards)
    → map (λ (g : Given). g.1) gs ≡ map (record_at R) (range_with_len 0 K.shards)
    → waiting_in source (from_setups gs) ≡ waiting_from source K R
waiting-is source K R gs setups logs =
    let count = given-count K gs setups in
    waits-from source K R 0 gs (each-of K gs (λ (g : Given). g.0) (λ k. setup_of K k) count setups) (each-of K gs (λ (g : Given). g.1) (record_at R) count logs)
    ∙ ap (λ n. flat_map (hinted source) (map (content_from K R) (range_with_len 0 n))) count

-- what stands at a place of what was made of numbers from one on
at-range : (f : ℕ → List Entry) (n m s : ℕ) → s < m → at (map f (range_with_len n m)) s ≡ f (n + s)
at-range f n zero s below = absurd (omega arith)
at-range f n (suc m) zero below = ap f (omega arith)
at-range f n (suc m) (suc s) below = at-range f (n + 1) m s (omega arith) ∙ ap f (omega arith)

at-end : (f : ℕ → List Entry) (n m s : ℕ) → m ≤ s → at (map f (range_with_len n m)) s ≡ []
at-end f n zero s past = refl
at-end f n (suc m) zero past = absurd (omega arith)
at-end f n (suc m) (suc s) past = at-end f (n + 1) m s (omega arith)

-- past its end a list has no record
record-end : (xs : List (List Entry)) (s : ℕ) → length xs ≤ s → record_at xs s ≡ []
record-end [] s past = refl
record-end (x ∷ xs) zero past = absurd (omega arith)
record-end (x ∷ xs) (suc s) past = record-end xs s (omega arith)

-- a list of records has none after the last shard
few : (K : Settings) (R : List (List Entry)) → are_records K R ≡ true → length R ≤ K.shards
few K R right = by_length (length R) refl
  where
    by_length : (n : ℕ) → length R ≡ n → length R ≤ K.shards
    by_length zero is = omega (arith, is)
    by_length (suc n) is = let same : length R ≡ K.shards = records-count K R right (omega (arith, is)) in omega (arith, same)

-- the record with which a shard is opened is the given one
pub base-is : (K : Settings) (R : List (List Entry)) (s : ℕ) → are_records K R ≡ true → at (map (record_at R) (range_with_len 0 K.shards)) s ≡ record_at R s
base-is K R s right = by_place (nat_lt s K.shards) refl
  where
    by_place : (b : Bool) → nat_lt s K.shards ≡ b → at (map (record_at R) (range_with_len 0 K.shards)) s ≡ record_at R s
    by_place true below = let below' : s < K.shards = grind (arith, nat_tests) in at-range (record_at R) 0 K.shards s below' ∙ ap (record_at R) (omega arith)
    by_place false past = let past' : K.shards ≤ s = grind (arith, nat_tests) in at-end (record_at R) 0 K.shards s past' ∙ sym (record-end R s (omega (arith, few K R right, past')))

-- ---- where the tasks go that wait

-- a hint of a shard that is there, to a queue that was named
abbrev pub GoesToQueue : Settings → Dispatch → Type 0
GoesToQueue K d = (d.hint.shard < K.shards) × ((n : ℕ) × (place_in K.queues d.queue ≡ Some n))

goes-from : (K : Settings) (n : ℕ) → n < K.shards → (ds : List Dispatch) → AllByRecursion (IsNamed (setup_of K n)) ds → AllByRecursion (GoesToQueue K) ds
goes-from K n below [] h = tt
goes-from K n below (d ∷ ds) h = ((subst (λ s. s < K.shards) (sym h.0.shard) below, place-known (setup_of K n) d h.0), goes-from K n below ds h.1)

all-kept : {A : Type 0} (P : A → Type 0) (p : A → Bool) (xs : List A) → AllByRecursion P xs → AllByRecursion P (filter p xs)
all-kept P p [] h = tt
all-kept P p (x ∷ xs) h = by_test (p x) (all-kept P p xs h.1)
  where
    by_test : (b : Bool) → AllByRecursion P (filter p xs) → AllByRecursion P (if b then x ∷ filter p xs else filter p xs)
    by_test true rest = (h.0, rest)
    by_test false rest = rest

hinted-named : (source : Source) (setup : Setup) (R : List Entry) → AllByRecursion (IsNamed setup) (hinted source (replay setup R))
hinted-named FromRecords setup R = waiting-are-named setup R
hinted-named FromJournal setup R = all-kept (IsNamed setup) _ (waiting (replay setup R)) (waiting-are-named setup R)

all-go : (source : Source) (K : Settings) (R : List (List Entry)) (n m : ℕ) → n + m ≤ K.shards → AllByRecursion (GoesToQueue K) (flat_map (hinted source) (map (content_from K R) (range_with_len n m)))
all-go source K R n zero below = tt
all-go source K R n (suc m) below =
    all-append (GoesToQueue K) (hinted source (content_from K R n)) _ (goes-from K n (omega (arith, below)) (hinted source (content_from K R n)) (hinted-named source (setup_of K n) (record_at R n)))
    (all-go source K R (n + 1) m (omega (arith, below)))

-- all tasks that wait go to queues that are there
pub waiting-go : (source : Source) (K : Settings) (R : List (List Entry)) → AllByRecursion (GoesToQueue K) (waiting_from source K R)
waiting-go source K R = all-go source K R 0 K.shards (omega arith)

pub each-at : {A : Type 0} (P : A → Type 0) (xs : List A) → AllByRecursion P xs → (k : ℕ) (d : A) → k < length xs → P (slice_index_or xs k d)
each-at P [] h k d below = absurd (omega arith)
each-at P (x ∷ xs) h zero d below = h.0
each-at P (x ∷ xs) h (suc k) d below = each-at P xs h.1 k d (omega arith)

-- their shards are there
pub waiting-there : (source : Source) (K : Settings) (R : List (List Entry)) → All (λ (d : Dispatch). d.hint.shard < K.shards) (waiting_from source K R)
waiting-there source K R = λ k d below. (each-at (GoesToQueue K) (waiting_from source K R) (waiting-go source K R) k d below).0

-- ---- what opening comes to

-- the settings are in their ranges and the records are as many as they have to be: then the pushes decide
pub opens-as : (source : Source) (K : Settings) (R : List (List Entry)) (ds : List Dispatch) (r : Result (List (List Hint)) Refusal) → range_fault K ≡ Ok tt → records_fault K R ≡ Ok tt → ds ≡ waiting_from source K R → held_from source K ds ≡ r → opens_from source K R ≡ r
opens-as source K R ds r range right is pushed =
    ap (λ f. unless_fault f (unless_fault (records_fault K R) (held_from source K (waiting_from source K R)))) range
    ∙ ap (λ f. unless_fault f (held_from source K (waiting_from source K R))) right ∙ ap (held_from source K) (sym is) ∙ pushed

-- what a result is, where it is known of it twice
pub both-ok : {A E : Type 0} (P Q R : A → Type 0) (S : E → Type 0) (r : Result A E) → MatchResult r P S → IfOk r Q → ((x : A) → P x → Q x → R x) → IfOk r R
both-ok P Q R S (Ok x) p q more = more x p q
both-ok P Q R S (Err e) p q more = tt

pub err-of : {A E : Type 0} (P : A → Type 0) (S : E → Type 0) (r : Result A E) → MatchResult r P S → IfErr r S
err-of P S (Ok x) h = tt
err-of P S (Err e) h = h

-- the passes of queues into which the dispatches were pushed
pub holds-pushed : (source : Source) (K : Settings) (names : List (List ℕ)) (most capacity passes shards : ℕ) (ds : List Dispatch) (all : List (List Hint)) (ps : List QueuesPass)
    → names ≡ K.queues → most ≡ most_held source K ds → capacity ≡ K.capacity → passes ≡ K.passes → shards ≡ K.shards
    → held_by names most ds ≡ Ok all → ((k : ℕ) (p : QueuesPass) → slice_get ps k ≡ Some p → IsFresh passes shards capacity all k p) → HoldAtOpening source K ds ps
holds-pushed source K names most capacity passes shards ds all ps is few room many wide pushes fresh = record {
  held = all;
  pushed = sym (ap (λ t. held_by t most ds) is ∙ ap (λ n. held_by K.queues n ds) few) ∙ pushes;
  fresh = rw (many, wide, room) at fresh;
}
