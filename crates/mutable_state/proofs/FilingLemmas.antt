-- what is in use and its first deadlines, as one thing of it changes, goes or comes
use Rattle.std.proofs.Common.{◌≡◌, ℕ, ◌<◌, Box, Global, Bool, true, false, List, [], ◌∷◌, ◌++◌, filter, slice_index_or, slice_set, slice_get, refl, sym, ap, ◌∙◌, subst}
use Rattle.std.specs.Prelude.{Option, None, Some, IfSome, is_some, option_map, option_and_then}
use Rattle.std.specs.Option.{option_map_or}
use Rattle.std.specs.FinMap.{FinMap, empty}
use Rattle.std.specs.List.{AllByRecursion, cons_option}
use Rattle.std.specs.Ordering.{nat_cmp}
use Rattle.wf_event.specs.declared.event.Event.{Event}
use Rattle.wf_event.specs.declared.role.Class.{Class}
use Rattle.wf_event.specs.declared.role.Opener.{Opener}
use Rattle.service_model_types.specs.declared.journal.NoteFact.{NoteFact}
use Rattle.timeouts.specs.declared.due.Due.{Due}
use Rattle.timeouts.specs.declared.deadlines.DueId.{DueId}
use Rattle.timeouts.specs.Places.{known_by}
use Rattle.timeouts.specs.Slots.{run_due}
use Rattle.mutable_state.specs.declared.in_use.Lists.{Lists}
use Rattle.mutable_state.specs.declared.open.Open.{Open}
use Rattle.mutable_state.specs.declared.rows.Row.{Row}
use Rattle.mutable_state.specs.Dues.{first_in}
use Rattle.mutable_state.specs.Listed.{in_lists, AreInOrder}
use Rattle.mutable_state.specs.Opens.{OpenRows, no_rows, is_unmarked, activity_of, without, marked, unmarked, added, asked_in, noted_in, new_open}
use Rattle.mutable_state.specs.Rows.{keys, living, AreRising, AreKept, IsNamed, IsRowAt, passes, is_unmarked_at, marked_in, asked_one, noted_one}
use Rattle.mutable_state.specs.Filed.{AreFiled, HasId, without_id, IsAdded, IsOfEvent}
use Rattle.mutable_state.proofs.FiledLemmas.{RowDueBy, AreDue, to-rows, refiled, due-set, same-filed, filter-filed, due-filter, more-filed, due-snoc, has-id, empty-filed}
use Rattle.mutable_state.proofs.FirstLemmas.{settled-none, unmarked-some, asked-first}
use Rattle.mutable_state.proofs.RowLemmas.{here-is, is_alive, living-alive, living-kept, living-snoc, get-read, all-get, named-map, kept-filtered, kept-snoc, unmarked-all, away-row, mark-row, ask-row, note-row}

-- what became of rows and of the heap, whatever the history
pub record Files (m m' : FinMap nat_cmp Due) (rs rs' : List Row) : Type 0 where
  pub filed : AreFiled m' rs'
  pub dues : (es : List Event) → AreDue m es rs → AreDue m' es rs'

-- and by one history
pub record FilesBy (es : List Event) (m m' : FinMap nat_cmp Due) (rs rs' : List Row) : Type 0 where
  pub filed : AreFiled m' rs'
  pub dues : AreDue m es rs → AreDue m' es rs'

-- it is removed
pub away-files : (m m' : FinMap nat_cmp Due) (rs : List Row) (p : ℕ) (x d : Row) → AreRising (keys rs) → slice_get rs p ≡ Some x → AreFiled m rs → m' ≡ without_id x.due m → d.due ≡ None → d.kept ≡ None → Files m m' rs (slice_set rs p d)
away-files m m' rs p x d rising there filed gone none dead =
    let f = refiled m m' m' rs p x d None None rising there filed gone refl none tt (λ some. absurd (let clash : false ≡ true = some in cc)) in
    record {
      filed = f.filed;
      dues = λ es h. due-set m m' es rs p d None f (subst (RowDueBy m' es d.due) (sym dead) tt) h;
    }

-- what settles it is buffered
marked-due : (m : FinMap nat_cmp Due) (es : List Event) (kept : Option Open) → RowDueBy m es None (option_map marked_in kept)
marked-due m es None = tt
marked-due m es (Some o) = sym (settled-none es (marked_in o) refl)

pub mark-files : (m m' : FinMap nat_cmp Due) (rs : List Row) (p : ℕ) (x d : Row) → AreRising (keys rs) → slice_get rs p ≡ Some x → AreFiled m rs → m' ≡ without_id x.due m → d.due ≡ None → d.kept ≡ option_map marked_in x.kept → Files m m' rs (slice_set rs p d)
mark-files m m' rs p x d rising there filed gone none is =
    let f = refiled m m' m' rs p x d None None rising there filed gone refl none tt (λ some. absurd (let clash : false ≡ true = some in cc)) in
    record {
      filed = f.filed;
      dues = λ es h. due-set m m' es rs p d None f (subst (λ o. RowDueBy m' es o d.kept) (sym none) (subst (RowDueBy m' es None) (sym is) (marked-due m' es x.kept))) h;
    }

-- it is asked to cancel
asked-passes : (kept : Option Open) → passes is_unmarked (option_map asked_one kept) ≡ passes is_unmarked kept
asked-passes None = refl
asked-passes (Some o) = refl

asked-due : (m : FinMap nat_cmp Due) (es : List Event) (due : Option DueId) (kept : Option Open) → RowDueBy m es due kept → RowDueBy m es due (option_map asked_one kept)
asked-due m es due None h = tt
asked-due m es due (Some o) h = h ∙ sym (asked-first es o)

pub ask-files : (m : FinMap nat_cmp Due) (rs : List Row) (p : ℕ) (x d : Row) → slice_get rs p ≡ Some x → AreFiled m rs → d.due ≡ x.due → d.event ≡ x.event → d.kept ≡ option_map asked_one x.kept → Files m m rs (slice_set rs p d)
ask-files m rs p x d there filed due event is =
    let f = same-filed m rs p x d there due event (ap (passes is_unmarked) is ∙ asked-passes x.kept) filed in
    record {
      filed = f.filed;
      dues = λ es h. due-set m m es rs p d (known_by m x.due) f (subst (λ o. RowDueBy m es o d.kept) (sym due) (subst (RowDueBy m es x.due) (sym is) (asked-due m es x.due x.kept (to-rows m es rs h p x there)))) h;
    }

-- what has a first deadline isn't settled
map-some : {X Y : Type 0} (f : X → Y) (o : Option X) → is_some (option_map f o) ≡ is_some o
map-some f None = refl
map-some f (Some x) = refl

first-alive : (es : List Event) (kept : Option Open) (due : Option Due) → option_map run_due due ≡ option_and_then (first_in es) kept → is_some due ≡ true → passes is_unmarked kept ≡ true
first-alive es None due is some = absurd (let clash : false ≡ true = sym (ap is_some is) ∙ map-some run_due due ∙ some in cc)
first-alive es (Some o) due is some = unmarked-some es o (ap is_some (sym is) ∙ map-some run_due due ∙ some)

first-due : (m : FinMap nat_cmp Due) (es : List Event) (id : Option DueId) (kept : Option Open) → option_map run_due (known_by m id) ≡ option_and_then (first_in es) kept → RowDueBy m es id kept
first-due m es id None is = tt
first-due m es id (Some o) is = is

-- it is changed, and its first deadline is found anew
pub note-files : (es : List Event) (m m1 m' : FinMap nat_cmp Due) (rs : List Row) (p : ℕ) (x d : Row) (due : Option Due) → AreRising (keys rs) → slice_get rs p ≡ Some x → AreFiled m rs → m1 ≡ without_id x.due m → IsAdded m1 m' due d.due →
    option_map run_due due ≡ option_and_then (first_in es) d.kept → IsOfEvent d.event due → FilesBy es m m' rs (slice_set rs p d)
note-files es m m1 m' rs p x d due rising there filed gone added value its =
    let f = refiled m m1 m' rs p x d due d.due rising there filed gone added refl its (first-alive es d.kept due value) in
    record {
      filed = f.filed;
      dues = λ h. due-set m m' es rs p d due f (first-due m' es d.due d.kept (ap (option_map run_due) f.here ∙ value)) h;
    }

-- one more
pub add-files : (es : List Event) (m m' : FinMap nat_cmp Due) (rs : List Row) (r : Row) (o : Open) (due : Option Due) → AreFiled m rs → IsAdded m m' due r.due → option_map run_due due ≡ first_in es o → IsOfEvent r.event due → r.kept ≡ Some o → is_unmarked o ≡ true →
    FilesBy es m m' rs (rs ++ r ∷ [])
add-files es m m' rs r o due filed added value its is alive =
    let f = more-filed m m' rs r due r.due filed its (ap (passes is_unmarked) is ∙ alive) added refl in
    record {
      filed = f.filed;
      dues = λ h. due-snoc m m' es rs r due f (first-due m' es r.due r.kept (ap (option_map run_due) f.here ∙ value ∙ sym (ap (option_and_then (first_in es)) is))) h;
    }

-- rows go that are dead, or marked
pub alive-files : (m : FinMap nat_cmp Due) (rs : List Row) → AreFiled m rs → Files m m rs (filter is_alive rs)
alive-files m rs filed = record {
  filed = filter-filed m is_alive rs (λ r h. let o = here-is is_unmarked r.kept h in ap is_some o.1) filed;
  dues = λ es h. due-filter m es is_alive rs h;
}

pub unmarked-files : (m : FinMap nat_cmp Due) (rs : List Row) → AreFiled m rs → Files m m rs (filter is_unmarked_at rs)
unmarked-files m rs filed = record {
  filed = filter-filed m is_unmarked_at rs (λ r h. h) filed;
  dues = λ es h. due-filter m es is_unmarked_at rs h;
}

-- all that is kept of what is in use, as it changes

abbrev pub IsKept : FinMap nat_cmp Due → List Row → ℕ → Bool → Type 0
IsKept m rs last b = AreKept rs last b × AreFiled m rs

pub record Becomes (m m' : FinMap nat_cmp Due) (rs rs' : List Row) (last : ℕ) (b : Bool) (os : List Open) : Type 0 where
  pub kept : IsKept m' rs' last b
  pub rows : living rs' ≡ os
  pub dues : (es : List Event) → AreDue m es rs → AreDue m' es rs'

pub record BecomesBy (es : List Event) (m m' : FinMap nat_cmp Due) (rs rs' : List Row) (last : ℕ) (b : Bool) (os : List Open) : Type 0 where
  pub kept : IsKept m' rs' last b
  pub rows : living rs' ≡ os
  pub dues : AreDue m es rs → AreDue m' es rs'

row-there : (k : Opener) (rs : List Row) (p : ℕ) (x : Row) → IsRowAt k rs p → x ≡ slice_index_or rs p x → slice_get rs p ≡ Some x
row-there k rs p x h read = get-read rs p x h.within ∙ ap (λ (y : Row). Some y) (sym read)

-- the deadline of a row that was found is there
pub row-id : (m : FinMap nat_cmp Due) (k : Opener) (rs : List Row) (p : ℕ) (x : Row) → AreFiled m rs → IsRowAt k rs p → x ≡ slice_index_or rs p x → HasId m x.due
row-id m k rs p x filed h read = has-id m rs p x filed (row-there k rs p x h read)

pub away-becomes : (m m' : FinMap nat_cmp Due) (k : Opener) (rs : List Row) (last : ℕ) (b : Bool) (p : ℕ) (x d : Row) → IsKept m rs last b → IsRowAt k rs p → x ≡ slice_index_or rs p x → m' ≡ without_id x.due m →
    d ≡ record x { kept = None; due = None } → Becomes m m' rs (slice_set rs p d) last b (without (Some k) (living rs))
away-becomes m m' k rs last b p x d kept h read gone is =
    let row = away-row k rs last b p x d kept.0 h read (ap (λ (r : Row). r.event) is) (ap (λ (r : Row). r.kept) is) in
    let files = away-files m m' rs p x d kept.0.rising (row-there k rs p x h read) kept.1 gone (ap (λ (r : Row). r.due) is) (ap (λ (r : Row). r.kept) is) in
    record { kept = (row.0, files.filed); rows = row.1; dues = files.dues }

pub mark-becomes : (m m' : FinMap nat_cmp Due) (k : Opener) (rs : List Row) (last : ℕ) (b : Bool) (p : ℕ) (x d : Row) → IsKept m rs last b → IsRowAt k rs p → x ≡ slice_index_or rs p x → m' ≡ without_id x.due m →
    d ≡ record x { kept = option_map marked_in x.kept; due = None } → Becomes m m' rs (slice_set rs p d) last true (marked (Some k) (living rs))
mark-becomes m m' k rs last b p x d kept h read gone is =
    let row = mark-row k rs last b p x d kept.0 h read (ap (λ (r : Row). r.event) is) (ap (λ (r : Row). r.kept) is) in
    let files = mark-files m m' rs p x d kept.0.rising (row-there k rs p x h read) kept.1 gone (ap (λ (r : Row). r.due) is) (ap (λ (r : Row). r.kept) is) in
    record { kept = (row.0, files.filed); rows = row.1; dues = files.dues }

pub ask-becomes : (m : FinMap nat_cmp Due) (id : ℕ) (k : Opener) (rs : List Row) (last : ℕ) (b : Bool) (p : ℕ) (x d : Row) → IsKept m rs last b → k ≡ activity_of id → IsRowAt k rs p → x ≡ slice_index_or rs p x →
    d ≡ record x { kept = option_map asked_one x.kept } → Becomes m m rs (slice_set rs p d) last b (asked_in (Some id) (living rs))
ask-becomes m id k rs last b p x d kept one h read is =
    let row = ask-row id k rs last b p x d kept.0 one h read (ap (λ (r : Row). r.event) is) (ap (λ (r : Row). r.kept) is) in
    let files = ask-files m rs p x d (row-there k rs p x h read) kept.1 (ap (λ (r : Row). r.due) is) (ap (λ (r : Row). r.event) is) (ap (λ (r : Row). r.kept) is) in
    record { kept = (row.0, files.filed); rows = row.1; dues = files.dues }

pub note-becomes : (es : List Event) (m m1 m' : FinMap nat_cmp Due) (at : ℕ) (n : NoteFact) (rs : List Row) (last : ℕ) (b : Bool) (p : ℕ) (x y d : Row) (due : Option Due) → IsKept m rs last b → IsRowAt (activity_of n.activity) rs p → x ≡ slice_index_or rs p x →
    m1 ≡ without_id x.due m → IsAdded m1 m' due d.due → y ≡ record x { kept = option_map (noted_one at n.note) x.kept } → d ≡ record y { due = d.due } → option_map run_due due ≡ option_and_then (first_in es) y.kept → (IsNamed y → IsOfEvent y.event due) →
    BecomesBy es m m' rs (slice_set rs p d) last b (noted_in at n (living rs))
note-becomes es m m1 m' at n rs last b p x y d due kept h read gone added noted set value its =
    let event = ap (λ (r : Row). r.event) set ∙ ap (λ (r : Row). r.event) noted in
    let is = ap (λ (r : Row). r.kept) set ∙ ap (λ (r : Row). r.kept) noted in
    let there = row-there (activity_of n.activity) rs p x h read in
    let row = note-row at n rs last b p x d kept.0 h read event is in
    let named : IsNamed y = subst IsNamed (sym noted) (named-map (noted_one at n.note) (λ o. refl) x.event x.kept (all-get IsNamed rs p x kept.0.named there)) in
    let files = note-files es m m1 m' rs p x d due kept.0.rising there kept.1 gone added (value ∙ ap (λ (r : Row). option_and_then (first_in es) r.kept) (sym set)) (subst (λ id. IsOfEvent id due) (sym (ap (λ (r : Row). r.event) set)) (its named)) in
    record { kept = (row.0, files.filed); rows = row.1; dues = files.dues }

pub add-becomes : (es : List Event) (m m' : FinMap nat_cmp Due) (rs : List Row) (last : ℕ) (b : Bool) (c : Class) (event : ℕ) (o : Open) (r : Row) (due : Option Due) → IsKept m rs last b → last < event → o ≡ new_open c event → IsAdded m m' due r.due → r ≡ record { event = event; kept = Some o; due = r.due } →
    option_map run_due due ≡ first_in es o → IsOfEvent o.opener.event due → BecomesBy es m m' rs (rs ++ r ∷ []) event b (added (Some c) event (living rs))
add-becomes es m m' rs last b c event o r due kept behind new added is value its =
    let key : r.event ≡ event = ap (λ (x : Row). x.event) is in
    let here : r.kept ≡ Some o = ap (λ (x : Row). x.kept) is in
    let opener : o.opener.event ≡ event = ap (λ (x : Open). x.opener.event) new in
    let files = add-files es m m' rs r o due kept.1 added value (subst (λ id. IsOfEvent id due) (opener ∙ sym key) its) here (ap is_unmarked new) in
    let row = kept-snoc rs last b r o kept.0 (subst (λ k. last < k) (sym key) behind) here (opener ∙ sym key) (ap (λ (x : Open). x.is_settled) new) in
    record {
      kept = (subst (λ k. AreKept (rs ++ r ∷ []) k b) key row, files.filed);
      rows = living-snoc rs r ∙ ap (λ q. living rs ++ cons_option q []) here ∙ ap (λ (x : Open). living rs ++ x ∷ []) new;
      dues = files.dues;
    }

pub alive-becomes : (m : FinMap nat_cmp Due) (rs rs' : List Row) (last : ℕ) (b : Bool) → rs' ≡ filter is_alive rs → IsKept m rs last b → Becomes m m rs rs' last b (living rs)
alive-becomes m rs rs' last b is kept =
    let files = alive-files m rs kept.1 in
    let row = kept-filtered is_alive rs last b b kept.0 (λ none. subst (AllByRecursion (λ (o : Open). o.is_settled ≡ false)) (sym (living-alive rs)) (kept.0.marks none)) in
    subst (λ l. Becomes m m rs l last b (living rs)) (sym is) (record { kept = (row, files.filed); rows = living-alive rs; dues = files.dues })

pub unmarked-becomes : (m : FinMap nat_cmp Due) (rs rs' : List Row) (last : ℕ) (b : Bool) → rs' ≡ filter is_unmarked_at rs → IsKept m rs last b → Becomes m m rs rs' last false (unmarked (living rs))
unmarked-becomes m rs rs' last b is kept =
    let files = unmarked-files m rs kept.1 in
    let row = kept-filtered is_unmarked_at rs last b false kept.0 (λ none. subst (AllByRecursion (λ (o : Open). o.is_settled ≡ false)) (sym (living-kept is_unmarked rs)) (unmarked-all (living rs))) in
    subst (λ l. Becomes m m rs l last false (unmarked (living rs))) (sym is) (record { kept = (row, files.filed); rows = living-kept is_unmarked rs; dues = files.dues })

-- a row is removed, and then those that are dead
pub swept-becomes : (m m' : FinMap nat_cmp Due) (rs rs' rs'' : List Row) (last : ℕ) (b : Bool) (os : List Open) → Becomes m m' rs rs' last b os → rs'' ≡ filter is_alive rs' → Becomes m m' rs rs'' last b os
swept-becomes m m' rs rs' rs'' last b os first is =
    let then = alive-becomes m' rs' rs'' last b is first.kept in
    record { kept = then.kept; rows = then.rows ∙ first.rows; dues = λ es h. then.dues es (first.dues es h) }

-- nothing is in use
pub none-becomes : (m m' : FinMap nat_cmp Due) (rs rs' : List Row) (last : ℕ) → m' ≡ empty → rs' ≡ [] → Becomes m m' rs rs' last false []
none-becomes m m' rs rs' last none nil = record {
  kept = (subst (λ l. AreKept l last false) (sym nil) (record { rising = tt; low = tt; named = tt; marks = λ h. tt }), empty-filed m' rs' none nil);
  rows = ap living nil;
  dues = λ es h. subst (AreDue m' es) (sym nil) refl;
}

-- the lists that were looked into, where something is in use
pub lists-are : {o : Option (Box Lists Global)} {b : Box Lists Global} {l : Lists} {v : OpenRows} → Some b ≡ o → l ≡ b.value → option_map_or (λ b. in_lists b.value) o no_rows ≡ v → IfSome o (λ b. AreInOrder b.value) → AreInOrder l × (in_lists l ≡ v)
lists-are there is view kept = (
  subst AreInOrder (sym is) (subst (λ o. IfSome o (λ b. AreInOrder b.value)) (sym there) kept),
  ap in_lists is ∙ ap (λ o. option_map_or (λ b. in_lists b.value) o no_rows) there ∙ view,
)
