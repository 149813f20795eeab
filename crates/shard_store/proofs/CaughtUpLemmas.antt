-- what is kept at the place of a run that changed and was not looked up since may be anything
use Rattle.std.proofs.Common.{◌≡◌, ℕ, ◌∙◌, List, length-set, ap, sym, slice_set, Some}
use Rattle.std.proofs.lemmas.List.{get_or-set_other}
use Rattle.service_model.specs.RunState.{RunState}
use Rattle.shard_issued.specs.Outstanding.{KeepsEach}
use Rattle.shard_issued.specs.declared.changed.Changed.{Changed}

pub each-grown : {A B : Type 0} {says : A → B} {fact : ℕ → RunState → B} {d : A} (slots : List A) (changed : Changed) (runs : List RunState) (n : ℕ) (x : A) → changed.grown ≡ Some n →
    KeepsEach says fact d slots changed runs → KeepsEach says fact d (slice_set slots n x) changed runs
each-grown {says = says} {d = d} slots changed runs n x here h = record {
  count = length-set slots n x ∙ h.count;
  grown = h.grown;
  made = h.made;
  each = λ k s at past apart. ap says (get_or-set_other slots n k x d (λ same. past (here ∙ ap (λ m. Some m) (sym same)))) ∙ h.each k s at past apart;
}
