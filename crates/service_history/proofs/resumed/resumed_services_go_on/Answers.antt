use Rattle.std.proofs.Common.{◌≡◌, ◌∙◌, ◌++◌, ◌∷◌, [], List, ap, refl, sym}
use Rattle.std.specs.List.{fold}
use Rattle.service_model_types.specs.declared.content.Content.{Content}
use Rattle.service_model.specs.Service.{Entry, after, opening}
use Rattle.gate.specs.Records.{replay}
use Rattle.service.specs.Contents.{setup_of}
use Rattle.service_history.proofs.resumed.resumed_services_go_on.Goals as goal

-- the content after the requests of a record, from any one on
abbrev left_by : Content → List Entry → Content
left_by S R = fold (λ S (e : Entry). after S e.request) S R

is-replay : (S : Content) (R : List Entry) → replay after S R ≡ left_by S R
is-replay S [] = refl
is-replay S (e ∷ R) = is-replay (after S e.request) R

left-by-both : (S : Content) (before since : List Entry) → left_by S (before ++ since) ≡ left_by (left_by S before) since
left-by-both S [] since = refl
left-by-both S (e ∷ before) since = left-by-both (after S e.request) before since

pub returns : goal.returns
returns c = λ x shard before since started.
    ap (λ S. replay after S since) started ∙ is-replay (left_by (opening (setup_of x.settings shard)) before) since
    ∙ sym (left-by-both (opening (setup_of x.settings shard)) before since)
