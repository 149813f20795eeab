use Rattle.std.proofs.Common.{◌∙◌, sym, ap, subst, refl, ℕ}
use Rattle.std.specs.Prelude.{None, option_map}
use Rattle.std.specs.List.{AllByRecursion}
use Rattle.service_model_types.specs.declared.journal.Note.{Note}
use Rattle.mutable_state.specs.declared.rows.Row.{Row}
use Rattle.mutable_state.specs.Filed.{KeepsDues}
use Rattle.mutable_state.specs.Opens.{OpenRows, MayNote, noted_in, activity_of}
use Rattle.mutable_state.specs.Rows.{keys, AreRising, IsNamed, HasRow, IsRowAt, MayAddIn, noted_one}
use Rattle.mutable_state.proofs.FilingLemmas.{lists-are, note-becomes, row-id}
use Rattle.mutable_state.proofs.RowLemmas.{noted-nowhere, may-row}
use Rattle.mutable_state.proofs.in_use.InUse.note.Goals as goal

pub place_at-requires-clause-rising : goal.place_at-requires-clause-rising
place_at-requires-clause-rising c =
    let l = c.as_mut-lists.result.now in
    let at = lists-are c.in-Some.ensures.value c.as_mut-lists.ensures.value c.self.view_is c.self.invariant in
    subst (λ rs. AreRising (keys rs)) (sym c.as_slice.ensures.value) at.0.0.rising

pub place_at-requires-clause-named : goal.place_at-requires-clause-named
place_at-requires-clause-named c =
    let l = c.as_mut-lists.result.now in
    let at = lists-are c.in-Some.ensures.value c.as_mut-lists.ensures.value c.self.view_is c.self.invariant in
    subst (λ rs. AllByRecursion IsNamed rs) (sym c.as_slice.ensures.value) at.0.0.named

pub returns-in_default-place_at-clause-rows : goal.returns-in_default-place_at-clause-rows
returns-in_default-place_at-clause-rows c =
    let l = c.as_mut-lists.result.now in
    let at = lists-are c.in-Some.ensures.value c.as_mut-lists.ensures.value c.self.view_is c.self.invariant in
    let one = c.activity_of.ensures ∙ ap (λ (p : ℕ × Note). activity_of p.0) c.into_parts-activity.ensures in
    let none = subst (λ k. HasRow k l.rows.items None) one (subst (λ rs. HasRow c.activity_of.result rs None) c.as_slice.ensures.value c.in_default-place_at.ensures) in
    noted-nowhere c.args.at c.args.note l.rows.items none ∙ ap (λ (v : OpenRows). noted_in c.args.at c.args.note v.rows) at.1

pub unfile-requires : goal.unfile-requires
unfile-requires c =
    let l = c.as_mut-lists.result.now in
    let at = lists-are c.in-Some.ensures.value c.as_mut-lists.ensures.value c.self.view_is c.self.invariant in
    let h = subst (λ rs. IsRowAt c.activity_of.result rs c.in-Some-place_at.place) c.as_slice.ensures.value c.in-Some-place_at.ensures in
    row-id l.deadlines.members c.activity_of.result l.rows.items c.in-Some-place_at.place c.index_mut-row.result.now at.0.1 h c.index_mut-row.ensures.value

pub note-requires : goal.note-requires
note-requires c =
    let l = c.as_mut-lists.result.now in
    let at = lists-are c.in-Some.ensures.value c.as_mut-lists.ensures.value c.self.view_is c.self.invariant in
    let one = c.activity_of.ensures ∙ ap (λ (p : ℕ × Note). activity_of p.0) c.into_parts-activity.ensures in
    let h = subst (λ k. IsRowAt k l.rows.items c.in-Some-place_at.place) one (subst (λ rs. IsRowAt c.activity_of.result rs c.in-Some-place_at.place) c.as_slice.ensures.value c.in-Some-place_at.ensures) in
    let may = subst (λ (v : OpenRows). MayNote c.args.note v.rows) (sym at.1) c.requires.may in
    subst (λ (p : ℕ × Note). MayAddIn p.1 c.index_mut-row.result.now.kept) (sym c.into_parts-activity.ensures)
    (may-row c.args.note l.rows.items c.in-Some-place_at.place c.index_mut-row.result.now h c.index_mut-row.ensures.value may)

pub invariant_of-self-2 : goal.invariant_of-self-2
invariant_of-self-2 c =
    let l = c.as_mut-lists.result.now in
    let at = lists-are c.in-Some.ensures.value c.as_mut-lists.ensures.value c.self.view_is c.self.invariant in
    let one = c.activity_of.ensures ∙ ap (λ (p : ℕ × Note). activity_of p.0) c.into_parts-activity.ensures in
    let h = subst (λ k. IsRowAt k l.rows.items c.in-Some-place_at.place) one (subst (λ rs. IsRowAt c.activity_of.result rs c.in-Some-place_at.place) c.as_slice.ensures.value c.in-Some-place_at.ensures) in
    let y = c.note.new.self in
    let noted = c.note.ensures ∙ ap (λ (p : ℕ × Note). let z : Row = record c.index_mut-row.result.now { kept = option_map (noted_one c.args.at p.1) c.index_mut-row.result.now.kept } in z) c.into_parts-activity.ensures in
    (note-becomes c.args.history.now.lists.events l.deadlines.members c.unfile.new.deadlines.members c.file-row.new.deadlines.members c.args.at c.args.note l.rows.items l.last l.has_marked c.in-Some-place_at.place c.index_mut-row.result.now y (record y { due = c.file-row.result }) c.first_due_at.result
    at.0 h c.index_mut-row.ensures.value c.unfile.ensures.members c.file-row.ensures.added noted refl c.first_due_at.ensures.value c.first_due_at.ensures.named).kept

pub returns-clause-rows : goal.returns-clause-rows
returns-clause-rows c =
    let l = c.as_mut-lists.result.now in
    let at = lists-are c.in-Some.ensures.value c.as_mut-lists.ensures.value c.self.view_is c.self.invariant in
    let one = c.activity_of.ensures ∙ ap (λ (p : ℕ × Note). activity_of p.0) c.into_parts-activity.ensures in
    let h = subst (λ k. IsRowAt k l.rows.items c.in-Some-place_at.place) one (subst (λ rs. IsRowAt c.activity_of.result rs c.in-Some-place_at.place) c.as_slice.ensures.value c.in-Some-place_at.ensures) in
    let y = c.note.new.self in
    let noted = c.note.ensures ∙ ap (λ (p : ℕ × Note). let z : Row = record c.index_mut-row.result.now { kept = option_map (noted_one c.args.at p.1) c.index_mut-row.result.now.kept } in z) c.into_parts-activity.ensures in
    (note-becomes c.args.history.now.lists.events l.deadlines.members c.unfile.new.deadlines.members c.file-row.new.deadlines.members c.args.at c.args.note l.rows.items l.last l.has_marked c.in-Some-place_at.place c.index_mut-row.result.now y (record y { due = c.file-row.result }) c.first_due_at.result
    at.0 h c.index_mut-row.ensures.value c.unfile.ensures.members c.file-row.ensures.added noted refl c.first_due_at.ensures.value c.first_due_at.ensures.named).rows
    ∙ ap (λ (v : OpenRows). noted_in c.args.at c.args.note v.rows) at.1

pub returns-clause-dues : goal.returns-clause-dues
returns-clause-dues c = λ keeps.
    let l = c.as_mut-lists.result.now in
    let at = lists-are c.in-Some.ensures.value c.as_mut-lists.ensures.value c.self.view_is c.self.invariant in
    let one = c.activity_of.ensures ∙ ap (λ (p : ℕ × Note). activity_of p.0) c.into_parts-activity.ensures in
    let h = subst (λ k. IsRowAt k l.rows.items c.in-Some-place_at.place) one (subst (λ rs. IsRowAt c.activity_of.result rs c.in-Some-place_at.place) c.as_slice.ensures.value c.in-Some-place_at.ensures) in
    let y = c.note.new.self in
    let noted = c.note.ensures ∙ ap (λ (p : ℕ × Note). let z : Row = record c.index_mut-row.result.now { kept = option_map (noted_one c.args.at p.1) c.index_mut-row.result.now.kept } in z) c.into_parts-activity.ensures in
    (note-becomes c.args.history.now.lists.events l.deadlines.members c.unfile.new.deadlines.members c.file-row.new.deadlines.members c.args.at c.args.note l.rows.items l.last l.has_marked c.in-Some-place_at.place c.index_mut-row.result.now y (record y { due = c.file-row.result }) c.first_due_at.result
    at.0 h c.index_mut-row.ensures.value c.unfile.ensures.members c.file-row.ensures.added noted refl c.first_due_at.ensures.value c.first_due_at.ensures.named).dues (subst (KeepsDues c.args.history.now.lists.events) (sym at.1) keeps)
