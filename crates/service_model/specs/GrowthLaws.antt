-- PROOF: what contents keep of each other, kept over more steps than one
use Rattle.std.proofs.Common.{append-nil, append_assoc, ap, le_refl, sym, ◌∙◌, inl, inr, ⊎_elim, refl}
use Rattle.std.proofs.Math.Nat.{le_trans}
use Rattle.std.proofs.lemmas.Option.{slice_get-map}
use Rattle.std.specs.Prelude.{◌≡◌, ◌⊎◌, ℕ, true, false, List, [], ◌∷◌, ◌++◌, is_some, map, option_map, slice_get, unwrap_or, zero, suc, Option, Some}
use Rattle.wf_event.specs.declared.event.Event.{Event}
use Rattle.service_model_types.specs.declared.content.Content.{Content}
use Rattle.service_model.specs.Aging.{OlderFirst}
use Rattle.service_model.specs.Counts.{outgoing_to}
use Rattle.service_model.specs.Deliveries.{accepted_from}
use Rattle.service_model.specs.Journal.{Journal}
use Rattle.service_model.specs.RunState.{RunState, Beginning, beginning, id_of, is_there, state_of}
use Rattle.service_model.specs.Shown.{shown}
use Rattle.service_model.specs.Growth.{KeepsHistories}

one-there : (J K : Journal) → Some J ≡ Some K → K ≡ J
one-there J K e = cc

-- the journal of a run that is there was not deleted
pub not-away : (J : Journal) → is_there (state_of J) ≡ true → J ≡ [] → ⊥
unfolding beginning
not-away J there e = absurd (let f : is_there (state_of J) ≡ false = ap (λ l. is_there (state_of l)) e in cc)

-- what stands at a place of states is that of the journal there, and the other way round
journal-there : (Js : List Journal) (n : ℕ) (s : RunState) → slice_get (map state_of Js) n ≡ Some s
    → (J : Journal) × (slice_get Js n ≡ Some J) × (s ≡ state_of J)
journal-there [] n s is = absurd (cc)
journal-there (J ∷ Js) zero s is = (J, refl, ap (λ (o : Option RunState). unwrap_or o s) (sym is))
journal-there (J ∷ Js) (suc n) s is = journal-there Js n s is

state-there : (Js : List Journal) (n : ℕ) (J : Journal) → slice_get Js n ≡ Some J → slice_get (map state_of Js) n ≡ Some (state_of J)
state-there Js n J is = slice_get-map state_of Js n ∙ ap (option_map state_of) is

-- runs that began alike are there alike, under one workflow ID
pub there-alike : (J K : Journal) → beginning J ≡ beginning K → is_there (state_of J) ≡ is_there (state_of K)
there-alike J K e = ap (λ (o : Option Beginning). is_some o) e

pub named-alike : (J K : Journal) → beginning J ≡ beginning K → id_of (state_of J) ≡ id_of (state_of K)
named-alike J K e = ap (λ (o : Option Beginning). unwrap_or (option_map (λ (b : Beginning). b.attributes.workflow_id) o) []) e

first-same : (S : Content) → OlderFirst S S
first-same S = record {
  gone = λ m n s t pair away.
      let (K, at_k, is_k) = journal-there S.runs n t pair.at_n in
      absurd (not-away K (ap (λ r. is_there r) (sym is_k) ∙ pair.is_t) (sym (one-there K [] (sym at_k ∙ away))));
}

pub keeps-same : (S : Content) → KeepsHistories S S
keeps-same S = record {
  runs = λ n J there. (J, [], there, inr (sym (append-nil (shown J))));
  closed = λ n J there over. inr there;
  gone = λ n there. there;
  same = λ n J K at_j at_k. inr (ap beginning (one-there J K (sym at_j ∙ at_k)));
  one = λ h. h;
  aged = λ h a. (a, first-same S);
  issued = λ to. ([], sym (append-nil (outgoing_to S.outgoing to).issued));
  accepted = λ from. le_refl (accepted_from S.accepted from);
}

-- a place that was empty in between is empty
away-on : (T U : Content) (n : ℕ) (K : Journal) → KeepsHistories T U → slice_get T.runs n ≡ Some K → K ≡ [] → slice_get U.runs n ≡ Some []
away-on T U n K k found away = k.gone n (found ∙ ap (λ l. Some l) away)

first-on : (S T U : Content) → KeepsHistories S T → KeepsHistories T U → OlderFirst S T → OlderFirst T U → OlderFirst S U
first-on S T U first second before behind = record {
  gone = λ m n s t pair away.
      let (J, at_j, is_j) = journal-there S.runs m s pair.at_m in
      let (K, at_k, is_k) = journal-there S.runs n t pair.at_n in
      let (V, later, at_v, kept) = first.runs m J at_j in
      let (W, further, at_w, held) = first.runs n K at_k in
      ⊎_elim (λ e. second.gone m (before.gone m n s t pair (at_w ∙ ap (λ l. Some l) e)))
      (λ w. ⊎_elim (λ e. away-on T U m V second at_v e)
      (λ v. behind.gone m n (state_of V) (state_of W) (record {
        older = pair.older;
        at_m = state-there T.runs m V at_v;
        at_n = state-there T.runs n W at_w;
        is_s = there-alike V J v ∙ ap (λ r. is_there r) (sym is_j) ∙ pair.is_s;
        is_t = there-alike W K w ∙ ap (λ r. is_there r) (sym is_k) ∙ pair.is_t;
        same = named-alike V J v ∙ ap (λ r. id_of r) (sym is_j) ∙ pair.same ∙ ap (λ r. id_of r) is_k ∙ sym (named-alike W K w);
      }) away)
      (first.same m J V at_j at_v))
      (first.same n K W at_k at_w);
}

pub keeps-on : (S T U : Content) → KeepsHistories S T → KeepsHistories T U → KeepsHistories S U
keeps-on S T U first second = record {
  runs = λ n J there. let (K, more, found, grown) = first.runs n J there in by_first n J K more found (second.runs n K found) grown;
  closed = λ n J there over. ⊎_elim (λ away. inl (second.gone n away)) (λ same. second.closed n J same over) (first.closed n J there over);
  gone = λ n away. second.gone n (first.gone n away);
  same = λ n J L at_j at_l. let (K, more, found, grown) = first.runs n J at_j in by_same n J K L found at_l
      (first.same n J K at_j found) (second.same n K L found at_l);
  one = λ h. second.one (first.one h);
  aged = λ h a.
      let (between, before) = first.aged h a in
      let (at_last, behind) = second.aged (first.one h) between in
      (at_last, first-on S T U first second before behind);
  issued = λ to.
      let (more, grown) = first.issued to in
      let (others, further) = second.issued to in
      (more ++ others, further ∙ ap (λ l. l ++ others) grown ∙ append_assoc (outgoing_to S.outgoing to).issued more others);
  accepted = λ from. le_trans (first.accepted from) (second.accepted from);
}
  where
    by_first : (n : ℕ) (J K : Journal) (more : List Event) → slice_get T.runs n ≡ Some K
        → (L : Journal) × (others : List Event) × (slice_get U.runs n ≡ Some L) × ((L ≡ []) ⊎ (shown L ≡ shown K ++ others))
        → (K ≡ []) ⊎ (shown K ≡ shown J ++ more)
        → (L : Journal) × (all : List Event) × (slice_get U.runs n ≡ Some L) × ((L ≡ []) ⊎ (shown L ≡ shown J ++ all))
    by_first n J K more found next (inl away) = ([], [], away-on T U n K second found away, inl refl)
    by_first n J K more found (L, others, later, inl away) (inr grown) = (L, [], later, inl away)
    by_first n J K more found (L, others, later, inr further) (inr grown) =
        (L, more ++ others, later, inr (further ∙ ap (λ l. l ++ others) grown ∙ append_assoc (shown J) more others))

    by_same : (n : ℕ) (J K L : Journal) → slice_get T.runs n ≡ Some K → slice_get U.runs n ≡ Some L → (K ≡ []) ⊎ (beginning K ≡ beginning J)
        → (L ≡ []) ⊎ (beginning L ≡ beginning K) → (L ≡ []) ⊎ (beginning L ≡ beginning J)
    by_same n J K L found at_l (inl away) next = inl (sym (one-there L [] (sym at_l ∙ away-on T U n K second found away)))
    by_same n J K L found at_l (inr first) (inl away) = inl away
    by_same n J K L found at_l (inr first) (inr next) = inr (next ∙ first)
