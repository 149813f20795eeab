-- how the records of a service and the contents of its shards belong together
use Rattle.std.proofs.Common.{◌≡◌, ℕ, ◌+◌, ◌<◌, ◌≤◌, zero, suc, Bool, true, false, List, [], ◌∷◌, ◌++◌, length, refl, sym, ap, ◌∙◌, arith, append_assoc, append-nil, slice_set, subst, inl, inr}
use Rattle.std.proofs.lemmas.Bool.Decides.{nat_tests}
use Rattle.std.proofs.lemmas.List.{get_or-set_other, get_or-set_same, length-set, set_past}
use Rattle.std.proofs.lemmas.List.FromFn.{get_or-map-range_with_len, length-map-range_with_len}
use Rattle.std.specs.Prelude.{map, nat_lt}
use Rattle.std.specs.List.{fold, range_with_len}
use Rattle.service_model_types.specs.declared.content.Content.{Content}
use Rattle.service_model_types.specs.declared.request.Request.{Request}
use Rattle.service_model_types.specs.declared.settings.Settings.{Settings}
use Rattle.service_model.specs.Service.{Entry, after, opening, replay}
use Rattle.gate.specs.Records.{Begins, on}
use Rattle.gate.proofs.Runs.{on_else, on_here}
use Rattle.service.specs.Contents.{setup_of}
use Rattle.service.specs.Reopening.{content_from, contents_from, record_at}
use Rattle.script.specs.RecordLaws.{RecordsGrow, RecordsTellContents, RecordsTellSteps}
use Rattle.shard_gate.specs.declared.source.Source.{Source}
use Rattle.script.specs.World.{World, content_at, entry_of, opening_from, recorded, stepped}
use Rattle.script.proofs.KeptLemmas.{IsKept, lines-kept}
use Rattle.script.proofs.OnePassLemmas.{map-set, same-or-apart}

-- ---- contents

-- each shard has a record, and its content is what that leaves
pub record IsTold (K : Settings) (W : World) : Type 0 where
  pub many : length W.records ≡ K.shards
  pub told : W.contents ≡ contents_from K W.records

same-below : (f g : ℕ → Content) (b m : ℕ) → ((k : ℕ) → k < b + m → g k ≡ f k) → map g (range_with_len b m) ≡ map f (range_with_len b m)
same-below f g b zero same = refl
same-below f g b (suc m) same = ap (λ t. t ∷ map g (range_with_len (b + 1) m)) (same b (omega arith)) ∙ ap (λ t. f b ∷ t) (same-below f g (b + 1) m (λ k below. same k (omega (arith, below))))

opening-told : (source : Source) (K : Settings) (R : List (List Entry)) → IsTold K (opening_from source K R)
unfolding opening_from
opening-told source K R =
    let logs = map (record_at R) (range_with_len 0 K.shards) in
    record {
      many = length-map-range_with_len (record_at R) 0 K.shards;
      told = same-below (content_from K logs) (content_from K R) 0 K.shards (λ k below. ap (replay (setup_of K k)) (sym (get_or-map-range_with_len (record_at R) 0 K.shards k k [] (omega (arith, below)) (omega arith))));
    }

replay-more : (S : Content) (R : List Entry) (e : Entry) → fold (λ S (e : Entry). after S e.request) S (R ++ e ∷ []) ≡ after (fold (λ S (e : Entry). after S e.request) S R) e.request
replay-more S [] e = refl
replay-more S (x ∷ R) e = replay-more (after S x.request) R e

-- one more step in a shard's record
contents-more : (K : Settings) (logs : List (List Entry)) (shard : ℕ) (q : Request) → length logs ≡ K.shards → shard < K.shards →
    contents_from K (slice_set logs shard (recorded (record_at logs shard) q)) ≡ slice_set (contents_from K logs) shard (after (content_at K (contents_from K logs) shard) q)
contents-more K logs shard q many below =
    let more = slice_set logs shard (recorded (record_at logs shard) q) in
    let step : Entry = record { pass = 0; request = q } in
    let was : content_at K (contents_from K logs) shard ≡ content_from K logs shard = get_or-map-range_with_len (content_from K logs) 0 K.shards shard shard (opening (setup_of K shard)) below (omega arith) in
    let here : content_from K more shard ≡ after (content_at K (contents_from K logs) shard) q =
    ap (replay (setup_of K shard)) (get_or-set_same logs shard (recorded (record_at logs shard) q) [] (omega (arith, many, below)))
    ∙ replay-more (opening (setup_of K shard)) (record_at logs shard) step ∙ ap (λ c. after c q) (sym was) in
    map-set (content_from K logs) (content_from K more) 0 K.shards shard _ below
    (ap (content_from K more) (omega arith) ∙ here)
    (λ k apart. ap (replay (setup_of K k)) (get_or-set_other logs shard k (recorded (record_at logs shard) q) [] (λ e. apart (e ∙ omega arith))))

step-told : (K : Settings) (W : World) (shard : ℕ) (q : Request) → IsTold K W → IsTold K (stepped K W shard q).world
step-told K W shard q h = by_place (nat_lt shard K.shards) refl
  where
    log : List Entry
    log = recorded (record_at W.records shard) q

    by_place : (b : Bool) → nat_lt shard K.shards ≡ b → IsTold K (stepped K W shard q).world
    by_place true there =
        let below : shard < K.shards = grind (arith, nat_tests) in
        record {
          many = length-set W.records shard log ∙ h.many;
          told = ap (λ cs. slice_set cs shard (after (content_at K cs shard) q)) h.told ∙ sym (contents-more K W.records shard q h.many below);
        }
    by_place false there =
        let past : K.shards ≤ shard = grind (arith, nat_tests) in
        let few : length W.contents ≡ K.shards = ap length h.told ∙ length-map-range_with_len (content_from K W.records) 0 K.shards in
        record {
          many = length-set W.records shard log ∙ h.many;
          told = set_past W.contents shard (after (content_at K W.contents shard) q) (omega (arith, few, past)) ∙ h.told ∙ ap (contents_from K) (sym (set_past W.records shard log (omega (arith, h.many, past))));
        }

told-kept : (K : Settings) → IsKept K (IsTold K)
told-kept K = record {
  step = step-told K;
  waiting = λ W slot hints h. record { many = h.many; told = h.told };
}

pub records-tell-contents : RecordsTellContents
records-tell-contents source K R lines = (lines-kept K (IsTold K) (told-kept K) (opening_from source K R) lines (opening-told source K R)).told

-- ---- growth

-- a shard's record goes on from this one
abbrev GoesOn : List Entry → ℕ → World → Type 0
GoesOn log shard W = Begins log (record_at W.records shard)

grows-set : (logs : List (List Entry)) (log : List Entry) (shard k : ℕ) (q : Request) → Begins log (record_at logs k) → Begins log (record_at (slice_set logs shard (recorded (record_at logs shard) q)) k)
grows-set logs log shard k q (rest, is) = elim (same-or-apart k shard) [
  | inl same ↦ by_place (nat_lt shard (length logs)) refl same
  | inr apart ↦ (rest, get_or-set_other logs shard k more [] apart ∙ is)
]
  where
    more : List Entry
    more = recorded (record_at logs shard) q

    step : List Entry
    step = record { pass = 0; request = q } ∷ []

    by_place : (b : Bool) → nat_lt shard (length logs) ≡ b → k ≡ shard → Begins log (record_at (slice_set logs shard more) k)
    by_place true there same =
        let below : shard < length logs = grind (arith, nat_tests) in
        let its : record_at (slice_set logs shard more) k ≡ more = ap (record_at (slice_set logs shard more)) same ∙ get_or-set_same logs shard more [] below in
        let was : record_at logs shard ≡ log ++ rest = ap (record_at logs) (sym same) ∙ is in
        (rest ++ step, its ∙ ap (λ t. t ++ step) was ∙ append_assoc log rest step)
    by_place false there same =
        let past : length logs ≤ shard = grind (arith, nat_tests) in
        (rest, ap (λ ls. record_at ls k) (set_past logs shard more past) ∙ is)

grows-kept : (K : Settings) (log : List Entry) (shard : ℕ) → IsKept K (GoesOn log shard)
grows-kept K log shard = record {
  step = λ W s q h. grows-set W.records log s shard q h;
  waiting = λ W slot hints h. h;
}

pub records-grow : RecordsGrow
records-grow K W lines shard =
    let log = record_at W.records shard in
    lines-kept K (GoesOn log shard) (grows-kept K log shard) W lines ([], sym (append-nil log))

-- ---- steps

-- each shard's record is the one at the opening and, after it, its steps
record IsStepped (K : Settings) (R : List (List Entry)) (W : World) : Type 0 where
  pub many : length W.records ≡ K.shards
  pub told : (shard : ℕ) → shard < K.shards → record_at W.records shard ≡ record_at R shard ++ on shard W.steps

opening-stepped : (source : Source) (K : Settings) (R : List (List Entry)) → IsStepped K R (opening_from source K R)
unfolding opening_from
opening-stepped source K R = record {
  many = length-map-range_with_len (record_at R) 0 K.shards;
  told = λ shard below. get_or-map-range_with_len (record_at R) 0 K.shards shard shard [] below (omega arith) ∙ sym (append-nil (record_at R shard));
}

step-stepped : (K : Settings) (R : List (List Entry)) (W : World) (s : ℕ) (q : Request) → IsStepped K R W → IsStepped K R (stepped K W s q).world
step-stepped K R W s q h = record {
  many = length-set W.records s (recorded (record_at W.records s) q) ∙ h.many;
  told = λ k below. elim (same-or-apart k s) [
    | inl same ↦ let P : ℕ → Type 0 = λ j. record_at (slice_set W.records s (recorded (record_at W.records s) q)) j ≡ record_at R j ++ on j (W.steps ++ (s, entry_of q) ∷ []) in
        subst P (sym same) (here (omega (arith, below, same)))
    | inr apart ↦ get_or-set_other W.records s k (recorded (record_at W.records s) q) [] apart ∙ h.told k below ∙ ap (λ es. record_at R k ++ es) (sym (on_else k s (entry_of q) W.steps apart))
  ];
}
  where
    here : s < K.shards → record_at (slice_set W.records s (recorded (record_at W.records s) q)) s ≡ record_at R s ++ on s (W.steps ++ (s, entry_of q) ∷ [])
    here below =
        get_or-set_same W.records s (recorded (record_at W.records s) q) [] (omega (arith, below, h.many))
        ∙ ap (λ log. log ++ entry_of q ∷ []) (h.told s below) ∙ append_assoc (record_at R s) (on s W.steps) (entry_of q ∷ [])
        ∙ ap (λ es. record_at R s ++ es) (sym (on_here s (entry_of q) W.steps))

stepped-kept : (K : Settings) (R : List (List Entry)) → IsKept K (IsStepped K R)
stepped-kept K R = record {
  step = step-stepped K R;
  waiting = λ W slot hints h. record { many = h.many; told = h.told };
}

pub records-tell-steps : RecordsTellSteps
records-tell-steps source K R lines shard below = (lines-kept K (IsStepped K R) (stepped-kept K R) (opening_from source K R) lines (opening-stepped source K R)).told shard below
