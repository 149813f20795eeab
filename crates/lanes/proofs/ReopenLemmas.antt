-- a service over lanes that was opened from records, from its opening to its close
use Rattle.std.proofs.Common.{◌≡◌, ◌≢◌, ℕ, zero, suc, ◌*◌, ◌<◌, List, [], ◌∷◌, length, map, slice_get, Bool, Option, Some, refl, sym, ap, subst, ◌∙◌, arith}
use Rattle.std.specs.Prelude.{Err, slice_index_or}
use Rattle.std.proofs.lemmas.Option.{get_or_from_slice_get}
use Rattle.wf_event_values.specs.declared.field.Field.{Field}
use Rattle.wf_event_values.specs.declared.field.Field.TheVariants as field
use Rattle.wf_event_values.specs.declared.refusal.Refusal.{Refusal}
use Rattle.wf_event_values.specs.declared.refusal.Refusal.TheVariants as refusal
use Rattle.service_model.specs.Service.{Entry}
use Rattle.service_model_types.specs.declared.request.Hint.{Hint}
use Rattle.service_model_types.specs.declared.settings.Settings.{Settings}
use Rattle.service_model.proofs.ListLemmas.{map-get}
use Rattle.matching.specs.Named as matching
use Rattle.matching.specs.Queues as of_hints
use Rattle.gate.specs.AtClose.{HasDone, IsEnd}
use Rattle.gate.specs.Passes.{IsFresh, base, number}
use Rattle.shard_gate.specs.GateViews as gates
use Rattle.service.specs.AtClose.{base_of, held_at}
use Rattle.service.specs.Contents.{opening_contents}
use Rattle.service.specs.HeldHints.{HoldsAtOpening}
use Rattle.service.specs.Reopening.{opens, record_at}
use Rattle.service.specs.Services.{IsPassOf, known_by, settings_of}
use Rattle.service.specs.ServiceViews.{Service}
use Rattle.service.specs.ServiceViews.{Pass}
use Rattle.script.specs.declared.fault.ScriptFault.{ScriptFault}
use Rattle.script.specs.declared.fault.ScriptFault.TheVariants.{Memory, Read, Write, Setting, Records, QueueFull}
use Rattle.script.specs.Endings.{IsDeviceFault, IsFaultOf, IsRefusedOpening}
use Rattle.script.proofs.OpenLemmas.{refused-setting}
use Rattle.lanes.specs.Endings as over
use Rattle.lanes.specs.Meetings.{PassServed, PassesMet}
use Rattle.lanes.specs.Reopened.{AreRecordsAfter, IsFaultFrom, IsOpenedFrom}
use Rattle.lanes.proofs.NumberLemmas.{course-kept, each-number, met-kept, same-count}

-- ---- numbers

abbrev pub number_of : Pass → ℕ
number_of p = number (known_by p)

-- of a script that ran to its end, the passes keep their numbers
pub numbers-kept : (x : Service) (K : Settings) (ps : List Pass) (unread held unread' held' : Option (List ℕ)) (refused : Bool) (ends : List Pass) → over.Ran (PassServed x) (PassesMet x) K ps unread held unread' held' refused ends → map number_of ends ≡ map number_of ps
numbers-kept x K ps unread held unread' held' refused ends ran =
    let t = ran.told in
    met-kept number_of (PassServed x) (PassesMet x) (λ p p' call r h. h.named) (λ p q p' q' h. (h.first.same.0, h.second.same.0)) t.served ends t.met
    ∙ course-kept number_of (PassServed x) (PassesMet x) (λ p p' call r h. h.named) (λ p q p' q' h. (h.first.same.0, h.second.same.0)) ps _ t.replies t.served t.course

-- ---- bases

pub base-is : (x : Service) (p : Pass) (R : List (List Entry)) → IsPassOf p x → ((s : ℕ) → base_of x s ≡ record_at R s) → (s : ℕ) → base (known_by p) s ≡ record_at R s
base-is x p R own is s = ap (λ o. slice_index_or o.bases s []) own.own.1 ∙ is s

-- ---- faults

field-fault : (K : Settings) (R : List (List Entry)) (f : Field) (fault : ScriptFault) (r r' w w' : ℕ) → opens K R ≡ Err (refusal.InvalidArgument f) → IsFaultOf f fault → IsFaultFrom K R fault r r' w w'
field-fault K R field.Records fault r r' w w' says is = subst (λ e. IsFaultFrom K R e r r' w w') (sym is) says
field-fault K R f Memory r r' w w' says is = tt
field-fault K R f (Setting name) r r' w w' says is = (f, refused-setting K R f (λ e. absurd (cc (e))) says, is)
field-fault K R f Records r r' w w' says is = absurd is
field-fault K R f QueueFull r r' w w' says is = absurd is
field-fault K R f (Read e) r r' w w' says is = absurd is
field-fault K R f (Write e) r r' w w' says is = absurd is

-- a refused opening is a fault of the settings or of the records
pub opening-refused : (K : Settings) (R : List (List Entry)) (e : Refusal) (fault : ScriptFault) (r r' w w' : ℕ) → (e ≢ refusal.NoMemory → opens K R ≡ Err e) → IsRefusedOpening e fault → IsFaultFrom K R fault r r' w w'
opening-refused K R (refusal.InvalidArgument f) fault r r' w w' says is = field-fault K R f fault r r' w w' (says (λ e. absurd (cc))) is
opening-refused K R refusal.QueueFull fault r r' w w' says is = subst (λ e. IsFaultFrom K R e r r' w w') (sym is) (says (λ e. absurd (cc)))
opening-refused K R _ fault r r' w w' says is = subst (λ e. IsFaultFrom K R e r r' w w') (sym is) tt

pub device-from : (K : Settings) (R : List (List Entry)) (e : ScriptFault) (r r' w w' : ℕ) → IsDeviceFault e r r' w w' → IsFaultFrom K R e r r' w w'
device-from K R Memory r r' w w' h = tt
device-from K R (Read e) r r' w w' h = h
device-from K R (Write e) r r' w w' h = h
device-from K R (Setting name) r r' w w' h = absurd h
device-from K R Records r r' w w' h = absurd h
device-from K R QueueFull r r' w w' h = absurd h

-- ---- the opening and the close

pub opened-from : (K : Settings) (R : List (List Entry)) (x : Service) (passes : List Pass) → settings_of x ≡ K → length passes ≡ K.passes → ((k : ℕ) (p : Pass) → slice_get passes k ≡ Some p → IsPassOf p x) → ((k : ℕ) (p : Pass) → slice_get passes k ≡ Some p → IsFresh k (known_by p))
    → gates.starts_of x.gate ≡ opening_contents K → ((s : ℕ) → base_of x s ≡ record_at R s) → HoldsAtOpening K R passes → IsOpenedFrom K R x passes
opened-from K R x passes is count own fresh starts bases held = record {
  settings = is;
  count = count;
  own = own;
  fresh = fresh;
  starts = starts;
  bases = λ k p there s. base-is x p R (own k p there) bases s;
  held = held;
}

pub ends-count : (K : Settings) (x : Service) (ps ends : List Pass) → settings_of x ≡ K → length ps ≡ K.passes → map number_of ends ≡ map number_of ps → length ends ≡ (settings_of x).passes
ends-count K x ps ends is count same = same-count number_of ps ends same ∙ count ∙ sym (ap (λ k. k.passes) is)

pub ends-all : (K : Settings) (x : Service) (ps ends : List Pass) → settings_of x ≡ K → length ps ≡ K.passes → map number_of ends ≡ map number_of ps → ((k : ℕ) (p : Pass) → slice_get ps k ≡ Some p → IsFresh k (known_by p))
    → (n : ℕ) → n < (settings_of x).passes → (k : ℕ) × (p : Pass) × (slice_get ends k ≡ Some p) × (number (known_by p) ≡ n)
ends-all K x ps ends is count same fresh n below =
    let whole : length ps ≡ (settings_of x).passes = count ∙ sym (ap (λ k. k.passes) is) in
    each-number number_of ps ends same (λ k p there. (fresh k p there).named) n (omega (arith, whole, below))

pub records-after : (K : Settings) (R : List (List Entry)) (x : Service) (ends : List Pass) (logs : List (List Entry)) → settings_of x ≡ K → ((s : ℕ) → base_of x s ≡ record_at R s) → length logs ≡ (settings_of x).shards
    → ((s : ℕ) (log : List Entry) → slice_get logs s ≡ Some log → IsEnd (base_of x s) (settings_of x).passes log)
    → ((s : ℕ) (log : List Entry) (k : ℕ) (p : Pass) → slice_get logs s ≡ Some log → slice_get ends k ≡ Some p → HasDone (base_of x s) (known_by p) s log)
    → AreRecordsAfter K R ends logs
records-after K R x ends logs is bases count each done = record {
  count = count ∙ ap (λ k. k.shards) is;
  records = λ s log there. subst (λ b. IsEnd b K.passes log) (bases s) (subst (λ n. IsEnd (base_of x s) n log) (ap (λ k. k.passes) is) (each s log there));
  passes = λ s log k p there at. subst (λ b. HasDone b (known_by p) s log) (bases s) (done s log k p there at);
}

-- ---- task queues

-- a list has a member at each place below its length
member : {A : Type 0} (xs : List A) (k : ℕ) → k < length xs → (x : A) × (slice_get xs k ≡ Some x)
member [] k below = absurd (omega (arith, below))
member (x ∷ xs) zero below = (x, refl)
member (x ∷ xs) (suc k) below = member xs k (omega (arith, below))

-- each queue was opened with the hints that a new pass knows of
held-known : (K : Settings) (held : List (List Hint)) (x : Service) (p : Pass) (number : ℕ) → settings_of x ≡ K → IsPassOf p x → matching.IsFresh K.passes K.shards K.capacity held number p.hints
    → (slot : ℕ) → slot < 2 * length K.queues → held_at x slot ≡ matching.held_at held slot
held-known K held x p number is own fresh slot below =
    let names : length x.queues.names.items ≡ length K.queues = ap length own.opened.names ∙ ap (λ (k : Settings). length k.queues) is in
    let even = own.hints.even in
    let width = own.hints.width in
    let (q, there) = member x.queues.queues.items slot (omega (arith, below, names, even)) in
    let (r, at) = member p.hints.passes.items slot (omega (arith, below, names, even, width)) in
    let opened = (own.hints.own slot q r there at).4 in
    get_or_from_slice_get (matching.held_of x.queues) slot (of_hints.held_of q) [] (map-get of_hints.held_of x.queues.queues.items slot q there)
    ∙ sym opened ∙ ap (λ v. v.opened) (fresh slot r at)

pub held-first : (K : Settings) (held : List (List Hint)) (x : Service) (passes : List Pass) → settings_of x ≡ K → 0 < length passes → ((k : ℕ) (p : Pass) → slice_get passes k ≡ Some p → IsPassOf p x)
    → ((k : ℕ) (p : Pass) → slice_get passes k ≡ Some p → matching.IsFresh K.passes K.shards K.capacity held k p.hints) → (slot : ℕ) → slot < 2 * length K.queues → held_at x slot ≡ matching.held_at held slot
held-first K held x [] is some own fresh = absurd (omega (arith, some))
held-first K held x (p ∷ ps) is some own fresh = held-known K held x p 0 is (own 0 p refl) (fresh 0 p refl)
