-- places of runs that were deleted come after the others
use Rattle.std.proofs.Common.{◌≡◌, ℕ, zero, suc, ◌+◌, ◌<◌, ◌≤◌, ◌⊎◌, inl, inr, List, [], ◌∷◌, ◌++◌, length, length-append, append-nil, replicate, refl, sym, ap, subst, ◌∙◌, arith, Option, Some, None, IfSome}
use Rattle.std.proofs.lemmas.List.{append_assoc, get_or_past, map-append}
use Rattle.std.specs.Prelude.{option_to_list, slice_get, unwrap_or}
use Rattle.service_model_types.specs.declared.content.Setup.{Setup}
use Rattle.service_model.specs.Outcome.{latest_run}
use Rattle.service_model.specs.RunState.{RunState, no_run}
use Rattle.mutable_state.specs.RunView.{RunView}
use Rattle.shard_issued.specs.Issuing.{DispatchesView, all_waiting}
use Rattle.shard_issued.specs.Outstanding.{AreCaughtUp, KeepsEach}
use Rattle.shard_issued.specs.Sending.{TransfersView, all_outgoing, of_unsent}
use Rattle.shard_issued.specs.declared.changed.Changed.{Changed}
use Rattle.shard_issued.proofs.DispatchLemmas.{all-looked-up}
use Rattle.shard_issued.proofs.EachLemmas.{index-push}
use Rattle.sparse_numbers.proofs.NumberLemmas.{map-replicate}
use Rattle.transfer.specs.Outboxes.{with_all_sent}
use Rattle.shard_store.specs.Places.{empty_place}
use Rattle.shard_store.specs.ShardView.{states}
use Rattle.shard_store.proofs.IndexLemmas.{latest_run-gone}
use Rattle.shard_store.proofs.PlaceLemmas.{none-there}

-- the run at a place is the one that came last, or was there before
at-push : (runs : List RunState) (k : ℕ) (s t : RunState) → slice_get (runs ++ s ∷ []) k ≡ Some t → ((k ≡ length runs) × (s ≡ t)) ⊎ (slice_get runs k ≡ Some t)
at-push [] zero s t there = inl (refl, ap (λ o. unwrap_or o s) there)
at-push [] (suc k) s t there = inr there
at-push (r ∷ runs) zero s t there = inr there
at-push (r ∷ runs) (suc k) s t there = elim (at-push runs k s t there) [ inl e ↦ inl (ap suc e.0, e.1) | inr before ↦ inr before ]

still-within : (o : Option ℕ) (a b : ℕ) → a ≤ b → IfSome o (λ n. n < a) → IfSome o (λ n. n < b)
still-within None a b more h = tt
still-within (Some n) a b more h = omega (arith, more, h)

-- a run came of which nothing is to be looked up
module _ {A B : Type 0} (says : A → B) (fact : ℕ → RunState → B) (none : A) (s : RunState) (nothing : (k : ℕ) → says none ≡ fact k s) (changed : Changed) where
  each-one : (slots : List A) (runs : List RunState) → KeepsEach says fact none slots changed runs → KeepsEach says fact none (slots ++ none ∷ []) changed (runs ++ s ∷ [])
  each-one slots runs h = record {
    count = length-append slots (none ∷ []) ∙ ap (λ k. k + 1) h.count ∙ sym (length-append runs (s ∷ []));
    grown = still-within changed.grown (length runs) (length (runs ++ s ∷ [])) more h.grown;
    made = still-within changed.made (length runs) (length (runs ++ s ∷ [])) more h.made;
    each = λ k t at past apart. elim (at-push runs k s t at) [
      | inl last ↦ ap says (index-push none slots k ∙ get_or_past slots k none (omega (arith, last.0, h.count))) ∙ nothing k ∙ ap (fact k) last.1
      | inr before ↦ ap says (index-push none slots k) ∙ h.each k t before past apart
    ];
  }
    where
      more : length runs ≤ length (runs ++ s ∷ [])
      more = omega (arith, length-append runs (s ∷ []))

  pub each-more : (n : ℕ) (slots : List A) (runs : List RunState) → KeepsEach says fact none slots changed runs → KeepsEach says fact none (slots ++ replicate n none) changed (runs ++ replicate n s)
  each-more zero slots runs h =
      subst (λ (l : List A). KeepsEach says fact none l changed (runs ++ [])) (sym (append-nil slots)) (subst (λ (l : List RunState). KeepsEach says fact none slots changed l) (sym (append-nil runs)) h)
  each-more (suc n) slots runs h =
      subst (λ (l : List A). KeepsEach says fact none l changed (runs ++ replicate (suc n) s)) (append_assoc slots (none ∷ []) (replicate n none))
      (subst (λ (l : List RunState). KeepsEach says fact none (slots ++ none ∷ [] ++ replicate n none) changed l) (append_assoc runs (s ∷ []) (replicate n s))
      (each-more n (slots ++ none ∷ []) (runs ++ s ∷ []) (each-one slots runs h)))

pub states-more : (n : ℕ) (runs : List RunView) → states (runs ++ replicate n empty_place) ≡ states runs ++ replicate n no_run
states-more n runs = map-append (λ (r : RunView). r.state) runs (replicate n empty_place) ∙ ap (λ l. states runs ++ l) (map-replicate (λ (r : RunView). r.state) n empty_place)

-- they are no workflow ID's latest runs
pub latest-more : (id : List ℕ) (n : ℕ) (runs : List RunView) → latest_run (states (runs ++ replicate n empty_place)) id ≡ latest_run (states runs) id
latest-more id zero runs = ap (λ l. latest_run (states l) id) (append-nil runs)
latest-more id (suc n) runs =
    ap (λ l. latest_run (states l) id) (sym (append_assoc runs (empty_place ∷ []) (replicate n empty_place)))
    ∙ latest-more id n (runs ++ empty_place ∷ []) ∙ latest_run-gone id runs empty_place none-there

-- where all was looked up, what waits doesn't tell how many runs there are
pub same-waits : (setup : Setup) (d d' : DispatchesView) (changed : Changed) (runs now : List RunState) → AreCaughtUp changed → d'.waiting ≡ d.waiting → all_waiting setup d' changed now ≡ all_waiting setup d changed runs
same-waits setup d d' changed runs now caught_up same = all-looked-up setup d' changed now caught_up ∙ same ∙ sym (all-looked-up setup d changed runs caught_up)

pub same-sends : (setup : Setup) (t : TransfersView) (runs now : List RunState) → t.unsent ≡ None → all_outgoing setup t now ≡ all_outgoing setup t runs
same-sends setup t runs now none =
    ap (λ u. with_all_sent (of_unsent setup u now ++ option_to_list t.answer) 0 t.sent) none
    ∙ sym (ap (λ u. with_all_sent (of_unsent setup u runs ++ option_to_list t.answer) 0 t.sent) none)
