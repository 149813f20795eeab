use Rattle.std.proofs.Common.{◌≡◌, ◌∙◌, sym, ap, subst, refl, false, ◌<◌}
use Rattle.std.specs.Prelude.{Some}
use Rattle.mutable_state.specs.declared.notes.Notes.{Notes}
use Rattle.mutable_state.specs.declared.open.Open.{Open}
use Rattle.mutable_state.specs.declared.rows.Row.{Row}
use Rattle.mutable_state.specs.Filed.{KeepsDues}
use Rattle.mutable_state.specs.Opens.{OpenRows, added, new_open}
use Rattle.mutable_state.specs.Rows.{living}
use Rattle.mutable_state.proofs.FilingLemmas.{lists-are, BecomesBy, add-becomes}
use Rattle.mutable_state.proofs.in_use.InUse.add.Goals as goal

pub invariant_of-self-2 : goal.invariant_of-self-2
invariant_of-self-2 c =
    let l = c.as_mut-lists.result.now in
    let at = lists-are c.in-Some.ensures.value c.as_mut-lists.ensures.value c.self.view_is c.self.invariant in
    let o : Open = record { opener = record { class = c.in-Some-opened.class; event = c.args.event }; is_settled = false; notes = c.new.result } in
    let r : Row = record { event = c.args.event; kept = Some o; due = c.file-due.result } in
    let behind = subst (λ (v : OpenRows). v.last < c.args.event) (sym at.1) c.requires.behind in
    let fresh : o ≡ new_open c.in-Some-opened.class c.args.event = ap (λ (n : Notes). let x : Open = record { opener = record { class = c.in-Some-opened.class; event = c.args.event }; is_settled = false; notes = n } in x) c.new.ensures in
    (subst (λ rs. BecomesBy c.args.history.now.lists.events l.deadlines.members c.file-due.new.deadlines.members l.rows.items rs c.args.event l.has_marked (added (Some c.in-Some-opened.class) c.args.event (living l.rows.items))) (sym c.push_reserved.ensures.items)
    (add-becomes c.args.history.now.lists.events l.deadlines.members c.file-due.new.deadlines.members l.rows.items l.last l.has_marked c.in-Some-opened.class c.args.event o r c.first_row_due.result at.0 behind fresh c.file-due.ensures.added refl c.first_row_due.ensures.value c.first_row_due.ensures.named)).kept

pub returns-clause-rows : goal.returns-clause-rows
returns-clause-rows c =
    let l = c.as_mut-lists.result.now in
    let at = lists-are c.in-Some.ensures.value c.as_mut-lists.ensures.value c.self.view_is c.self.invariant in
    let o : Open = record { opener = record { class = c.in-Some-opened.class; event = c.args.event }; is_settled = false; notes = c.new.result } in
    let r : Row = record { event = c.args.event; kept = Some o; due = c.file-due.result } in
    let behind = subst (λ (v : OpenRows). v.last < c.args.event) (sym at.1) c.requires.behind in
    let fresh : o ≡ new_open c.in-Some-opened.class c.args.event = ap (λ (n : Notes). let x : Open = record { opener = record { class = c.in-Some-opened.class; event = c.args.event }; is_settled = false; notes = n } in x) c.new.ensures in
    (subst (λ rs. BecomesBy c.args.history.now.lists.events l.deadlines.members c.file-due.new.deadlines.members l.rows.items rs c.args.event l.has_marked (added (Some c.in-Some-opened.class) c.args.event (living l.rows.items))) (sym c.push_reserved.ensures.items)
    (add-becomes c.args.history.now.lists.events l.deadlines.members c.file-due.new.deadlines.members l.rows.items l.last l.has_marked c.in-Some-opened.class c.args.event o r c.first_row_due.result at.0 behind fresh c.file-due.ensures.added refl c.first_row_due.ensures.value c.first_row_due.ensures.named)).rows
    ∙ ap (λ (v : OpenRows). added (Some c.in-Some-opened.class) c.args.event v.rows) at.1 ∙ ap (λ o. added o c.args.event c.args.self.now.rows) (sym c.in-Some-opened.is)

pub returns-clause-dues : goal.returns-clause-dues
returns-clause-dues c = λ keeps.
    let l = c.as_mut-lists.result.now in
    let at = lists-are c.in-Some.ensures.value c.as_mut-lists.ensures.value c.self.view_is c.self.invariant in
    let o : Open = record { opener = record { class = c.in-Some-opened.class; event = c.args.event }; is_settled = false; notes = c.new.result } in
    let r : Row = record { event = c.args.event; kept = Some o; due = c.file-due.result } in
    let behind = subst (λ (v : OpenRows). v.last < c.args.event) (sym at.1) c.requires.behind in
    let fresh : o ≡ new_open c.in-Some-opened.class c.args.event = ap (λ (n : Notes). let x : Open = record { opener = record { class = c.in-Some-opened.class; event = c.args.event }; is_settled = false; notes = n } in x) c.new.ensures in
    (subst (λ rs. BecomesBy c.args.history.now.lists.events l.deadlines.members c.file-due.new.deadlines.members l.rows.items rs c.args.event l.has_marked (added (Some c.in-Some-opened.class) c.args.event (living l.rows.items))) (sym c.push_reserved.ensures.items)
    (add-becomes c.args.history.now.lists.events l.deadlines.members c.file-due.new.deadlines.members l.rows.items l.last l.has_marked c.in-Some-opened.class c.args.event o r c.first_row_due.result at.0 behind fresh c.file-due.ensures.added refl c.first_row_due.ensures.value c.first_row_due.ensures.named)).dues (subst (KeepsDues c.args.history.now.lists.events) (sym at.1) keeps)
