-- the one pass of a service that was just resumed from shards
use Rattle.std.proofs.Common.{◌≡◌, ◌≢◌, ℕ, zero, suc, ◌+◌, ◌*◌, ◌<◌, ◌≤◌, Bool, true, false, cond, List, [], ◌∷◌, ◌++◌, length, length-append, refl, sym, ap, ◌∙◌, arith, lt-ltb, Option, None, Some, slice_index_or, slice_set, replicate, subst}
use Rattle.std.specs.Prelude.{map, nat_lt, slice_get, if◌then◌else◌, Result, Ok, Err, ◌&&◌, ◌^◌, nat_le}
use Rattle.std.specs.List.{range_with_len}
use Rattle.std.proofs.lemmas.List.{length-map}
use Rattle.wf_event_values.specs.declared.field.Field.{Field}
use Rattle.wf_event_values.specs.declared.field.Field.TheVariants as field
use Rattle.wf_event_values.specs.declared.refusal.Refusal.{Refusal}
use Rattle.wf_event_values.specs.declared.refusal.Refusal.TheVariants as refusal
use Rattle.wf_event_values.specs.declared.refusal.Refusal.TheVariants.{InvalidArgument, QueueFull}
use Rattle.service_model_types.specs.Limits.{most_capacity, most_passes, most_shards, service_numbers}
use Rattle.service_model_types.specs.declared.content.Dispatch.{Dispatch}
use Rattle.service_model_types.specs.declared.request.Hint.{Hint}
use Rattle.service_model_types.specs.declared.settings.Settings.{Settings}
use Rattle.service_model.specs.Service.{after, opening}
use Rattle.gate.specs.Passes as gate
use Rattle.gate.specs.Records.{replay}
use Rattle.matching.specs.Holding.{all_pushed, pushed, then_push}
use Rattle.matching.specs.Named.{place_in, slot_of}
use Rattle.shard_gate.specs.GateViews as gates
use Rattle.shard_gate.specs.Starts.{Start, content_behind, opened_with, records_in, waiting_in}
use Rattle.shard_gate.specs.declared.source.Source.{Source}
use Rattle.shard_gate.specs.declared.source.Source.TheVariants.{Journal as FromJournal}
use Rattle.service.specs.ServiceViews.{Service}
use Rattle.service.specs.ServiceViews.{Pass}
use Rattle.service.specs.AtClose.{base_of}
use Rattle.service.specs.Contents.{setup_of}
use Rattle.service.specs.Ranges.{are_queues, range_fault}
use Rattle.service.specs.Reopening.{held_from, unless_fault}
use Rattle.service.specs.Resuming.{HoldsBehind, Resumes, resumes_from}
use Rattle.service.specs.Services.{IsPassOf, hints_by, known_by}
use Rattle.service.specs.Starting.{start_of}
use Rattle.script.specs.declared.fault.ScriptFault.{ScriptFault}
use Rattle.script.specs.declared.fault.ScriptFault.TheVariants.{Memory, Read, Write, Setting, Records, QueueFull as Full}
use Rattle.script.specs.Endings.{IsFaultOf, IsRefusedOpening, IsResumingFault}
use Rattle.script.specs.OnePass.{IsOnePass, content_seen, contents_seen, records_seen, world_seen}
use Rattle.script.specs.World.{World, held_at_opening, resumed_from}
use Rattle.script.proofs.OpenLemmas.{Lists, fresh-content, fresh-one, fresh-seen, held-count, pushes-valid, refused-range, world-parts}

-- ---- what the pass knows

-- a function of places that gives what another makes of a list's members
by-place : {X Y : Type 0} (f : X → Y) (g : ℕ → Y) (xs : List X) (a : ℕ) → ((k : ℕ) (x : X) → slice_get xs k ≡ Some x → g (a + k) ≡ f x) → map g (range_with_len a (length xs)) ≡ map f xs
by-place f g [] a h = refl
by-place f g (x ∷ xs) a h =
    ap (λ y. y ∷ map g (range_with_len (a + 1) (length xs))) (ap g (omega arith) ∙ h 0 x refl)
    ∙ ap (λ t. f x ∷ t) (by-place f g xs (a + 1) (λ k y there. ap g (omega arith) ∙ h (suc k) y there))

at-map : {X Y : Type 0} (f : X → Y) (xs : List X) (k : ℕ) (x : X) (d : Y) → slice_get xs k ≡ Some x → slice_index_or (map f xs) k d ≡ f x
at-map f [] k x d there = absurd (cc there)
at-map f (y ∷ ys) zero x d there = let same : y ≡ x = cc there in ap f same
at-map f (y ∷ ys) (suc k) x d there = at-map f ys k x d there

module _ (x : Service) (p : Pass) (starts : List Start) (own : IsPassOf p x) (opened : gates.starts_of x.gate ≡ opened_with starts) (records : x.gate.origin.bases ≡ records_in starts) (new : gate.IsFresh 0 (known_by p)) where
  many-starts : length starts ≡ x.settings.shards
  many-starts = sym (length-map starts (λ (g : Start). g.0)) ∙ ap length (sym opened) ∙ own.opened.starts.count

  pub many-bases : length x.gate.origin.bases ≡ x.settings.shards
  many-bases = ap length records ∙ length-map starts (λ (g : Start). g.1) ∙ many-starts

  its-base : (k : ℕ) (g : Start) → slice_get starts k ≡ Some g → base_of x k ≡ g.1
  its-base k g there = ap (λ bs. slice_index_or bs k []) records ∙ at-map (λ (s : Start). s.1) starts k g [] there

  its-content : (k : ℕ) (g : Start) → slice_get starts k ≡ Some g → content_seen x.settings (known_by p) k ≡ content_behind g
  its-content k g there =
      let own_start = opening (setup_of x.settings k) in
      let start : start_of x k ≡ g.0 = ap (λ cs. slice_index_or cs k own_start) opened ∙ at-map (λ (s : Start). s.0) starts k g own_start there in
      fresh-content x p k own new ∙ ap (λ c. replay after c (base_of x k)) start ∙ ap (replay after g.0) (its-base k g there)

  pub contents-resumed : contents_seen x.settings (known_by p) ≡ map content_behind starts
  contents-resumed =
      ap (λ n. map (content_seen x.settings (known_by p)) (range_with_len 0 n)) (sym many-starts)
      ∙ by-place content_behind (content_seen x.settings (known_by p)) starts 0 (λ k g there. ap (content_seen x.settings (known_by p)) (omega arith) ∙ its-content k g there)

  pub records-resumed : records_seen x.settings (known_by p) ≡ records_in starts
  records-resumed =
      ap (λ n. map (gate.seen (known_by p)) (range_with_len 0 n)) (sym many-starts)
      ∙ by-place (λ (g : Start). g.1) (gate.seen (known_by p)) starts 0 (λ k g there. ap (gate.seen (known_by p)) (omega arith) ∙ fresh-seen x p k own new ∙ its-base k g there)

-- ---- what resuming comes to

-- settings that are in their ranges leave the pushes to decide
resumed-held : (source : Source) (K : Settings) (starts : List Start) (held : Lists) → range_fault K ≡ Ok tt → resumes_from source K starts ≡ Ok held → held_from source K (waiting_in source starts) ≡ Ok held
resumed-held source K starts held range is = sym (ap (λ f. unless_fault f (held_from source K (waiting_in source starts))) range) ∙ is

module _ (source : Source) (x : Service) (starts : List Start) (p : Pass) (passes : List Pass) (h : Resumes source x.settings starts x passes) (alone : x.settings.passes ≡ 1) (first : slice_get passes 0 ≡ Some p) where
  pub resumed-one : IsOnePass x p
  resumed-one =
      let own = h.own 0 p first in
      let new = h.fresh 0 p first in
      fresh-one x p h.held.held passes own alone (many-bases x p starts own h.starts h.records new) new first h.held.fresh

  pub resumed-world : world_seen x.settings (known_by p) (hints_by p) ≡ resumed_from source x.settings starts
  unfolding resumed_from
  resumed-world =
      let K = x.settings in
      let own = h.own 0 p first in
      let new = h.fresh 0 p first in
      let with_waiting : Lists → World = λ t. record { contents = map content_behind starts; waiting = t; records = records_in starts; steps = [] } in
      let count = held-count source K (waiting_in source starts) h.held.held (resumed-held source K starts h.held.held h.range h.held.resumed) in
      world-parts x p (map content_behind starts) h.held.held (records_in starts) passes own alone new first h.held.fresh count (contents-resumed x p starts own h.starts h.records new) (records-resumed x p starts own h.starts h.records new)
      ∙ ap with_waiting (sym (ap held_at_opening h.held.resumed))

-- the queues hold what the world says
pub resumed-is : (source : Source) (K : Settings) (starts : List Start) (passes : List Pass) → HoldsBehind source K starts passes → resumes_from source K starts ≡ Ok (resumed_from source K starts).waiting
unfolding resumed_from
resumed-is source K starts passes h = h.resumed ∙ ap Ok (sym (ap held_at_opening h.resumed))

-- ---- why it is refused

-- where a setting is refused, that is an argument, and not the records
abbrev IsOfSetting : Result (Unit {0}) Refusal → Type 0
IsOfSetting (Ok done) = Unit {0}
IsOfSetting (Err e) = (f : Field) × (e ≡ InvalidArgument f) × (f ≢ field.Records)

six-settings : (a b c d n m : Bool) → IsOfSetting (if a then (if b then (if c then (if d then (if n then (if m then Ok tt else Err (InvalidArgument field.Retention)) else Err (InvalidArgument field.Capacity)) else Err (InvalidArgument field.Queues)) else Err (InvalidArgument field.Service)) else Err (InvalidArgument field.Passes)) else Err (InvalidArgument field.Shards))
six-settings true true true true true true = tt
six-settings true true true true true false = (field.Retention, refl, λ is. absurd (cc (is)))
six-settings true true true true false m = (field.Capacity, refl, λ is. absurd (cc (is)))
six-settings true true true false n m = (field.Queues, refl, λ is. absurd (cc (is)))
six-settings true true false d n m = (field.Service, refl, λ is. absurd (cc (is)))
six-settings true false c d n m = (field.Passes, refl, λ is. absurd (cc (is)))
six-settings false b c d n m = (field.Shards, refl, λ is. absurd (cc (is)))

range-setting : (K : Settings) → IsOfSetting (range_fault K)
range-setting K = six-settings (nat_le 1 K.shards && nat_le K.shards most_shards) (nat_le 1 K.passes && nat_le K.passes most_passes) (nat_lt K.service service_numbers) (are_queues K.queues) (nat_le 1 K.capacity && nat_le K.capacity most_capacity) (nat_le K.retention (10 ^ 12))

-- an argument that is refused is a setting
refused-setting : (source : Source) (K : Settings) (starts : List Start) (f : Field) → resumes_from source K starts ≡ Err (InvalidArgument f) → range_fault K ≡ Err (InvalidArgument f)
refused-setting source K starts f = refused-range (range_fault K) (held_from source K (waiting_in source starts)) f (pushes-valid source K (waiting_in source starts) f)

field-fault : (source : Source) (K : Settings) (starts : List Start) (f : Field) (fault : ScriptFault) → resumes_from source K starts ≡ Err (InvalidArgument f) → IsFaultOf f fault → IsResumingFault source K starts fault
field-fault source K starts field.Records fault says is =
    let (f, same, other) = subst IsOfSetting (refused-setting source K starts field.Records says) (range-setting K) in
    let here : field.Records ≡ f = cc same in absurd (other (sym here))
field-fault source K starts f Memory says is = tt
field-fault source K starts f (Setting name) says is = (f, refused-setting source K starts f says, is)
field-fault source K starts f Records says is = absurd is
field-fault source K starts f Full says is = absurd is
field-fault source K starts f (Read e) says is = absurd is
field-fault source K starts f (Write e) says is = absurd is

-- a refused opening is a fault of the settings or of the hints
pub refused-resuming : (source : Source) (K : Settings) (starts : List Start) (e : Refusal) (fault : ScriptFault) → (e ≢ refusal.NoMemory → resumes_from source K starts ≡ Err e) → IsRefusedOpening e fault → IsResumingFault source K starts fault
refused-resuming source K starts (refusal.InvalidArgument f) fault says is = field-fault source K starts f fault (says (λ e. absurd (cc))) is
refused-resuming source K starts refusal.QueueFull fault says is = subst (IsResumingFault source K starts) (sym is) (says (λ e. absurd (cc)))
refused-resuming source K starts _ fault says is = subst (IsResumingFault source K starts) (sym is) tt

-- ---- the queues never lack room where a journal's tasks are hinted again

-- there is room in each for so many more
abbrev HaveRoom : ℕ → ℕ → Lists → Type 0
HaveRoom most more all = (s : ℕ) → length (slice_index_or all s []) + more ≤ most

-- after one push it is one less at most
room-after : (most more slot : ℕ) (all : Lists) (hint : Hint) → HaveRoom most (suc more) all → HaveRoom most more (slice_set all slot (slice_index_or all slot [] ++ hint ∷ []))
room-after most more slot [] hint room s = omega (arith, room s)
room-after most more zero (hints ∷ all) hint room zero = omega (arith, room 0, length-append hints (hint ∷ []))
room-after most more zero (hints ∷ all) hint room (suc s) = omega (arith, room (suc s))
room-after most more (suc slot) (hints ∷ all) hint room zero = omega (arith, room 0)
room-after most more (suc slot) (hints ∷ all) hint room (suc s) = room-after most more slot all hint (λ k. room (suc k)) s

-- a push for which there is room is not refused for want of it, nor is what follows
place-fits : (most more : ℕ) (all : Lists) (hint : Hint) (place : Option ℕ) (rest : Lists → Result Lists Refusal) → HaveRoom most (suc more) all → ((next : Lists) → HaveRoom most more next → rest next ≢ Err QueueFull) → then_push (pushed most all place hint) rest ≢ Err QueueFull
place-fits most more all hint None rest room fits = λ is. absurd (cc (is))
place-fits most more all hint (Some place) rest room fits = λ is.
    let slot = slot_of place hint.kind in
    let waiting = slice_index_or all slot [] in
    let next = slice_set all slot (waiting ++ hint ∷ []) in
    let here : length waiting < most = omega (arith, room slot) in
    let one : pushed most all (Some place) hint ≡ Ok next = ap (λ (t : Bool). cond {A = Result Lists Refusal} t (Ok next) (Err QueueFull)) (lt-ltb (length waiting) most here) in
    fits next (room-after most more slot all hint room) (sym (ap (λ r. then_push r rest) one) ∙ is)

all-fit : (names : List (List ℕ)) (most : ℕ) (ds : List Dispatch) (all : Lists) → HaveRoom most (length ds) all → all_pushed names most all ds ≢ Err QueueFull
all-fit names most [] all room = λ is. absurd (cc (is))
all-fit names most (d ∷ ds) all room = place-fits most (length ds) all d.hint (place_in names d.queue) (λ next. all_pushed names most next ds) room (λ next there. all-fit names most ds next there)

abbrev no_hint : List Hint
no_hint = []

none-held : (n s : ℕ) → length (slice_index_or (replicate n no_hint) s []) ≡ 0
none-held zero s = refl
none-held (suc n) zero = refl
none-held (suc n) (suc s) = none-held n s

-- shards with a journal are never refused for the tasks that wait
pub resumed-never-full : (K : Settings) (starts : List Start) → resumes_from FromJournal K starts ≢ Err QueueFull
resumed-never-full K starts = by_range (range_fault K) (range-setting K)
  where
    fits : held_from FromJournal K (waiting_in FromJournal starts) ≢ Err QueueFull
    fits =
        let ds = waiting_in FromJournal starts in
        all-fit K.queues (length ds) ds (replicate (2 * length K.queues) []) (λ s. omega (arith, none-held (2 * length K.queues) s))

    by_range : (r : Result (Unit {0}) Refusal) → IsOfSetting r → unless_fault r (held_from FromJournal K (waiting_in FromJournal starts)) ≢ Err QueueFull
    by_range (Ok done) of = fits
    by_range (Err e) (f, same, other) = λ is. let full : e ≡ QueueFull = cc is in absurd (cc (sym same ∙ full))
