-- passes keep their numbers
use Rattle.std.proofs.Common.{◌≡◌, ℕ, zero, suc, ◌<◌, List, [], ◌∷◌, length, map, set, slice_get, Option, None, Some, Result, Ok, Err, refl, sym, ap, ap₂, ◌∙◌, arith}
use Rattle.std.proofs.lemmas.List.{length-map}
use Rattle.std.proofs.lemmas.Option.{same_Some}
use Rattle.wf_event_values.specs.declared.refusal.Refusal.{Refusal}
use Rattle.service_model_types.specs.declared.call.Call.{Call}
use Rattle.service_model_types.specs.Replies.{Reply}
use Rattle.service.specs.ServiceViews.{Pass}
use Rattle.wire_requests.specs.declared.calls.Asked.{Asked}
use Rattle.wire_requests.specs.declared.calls.Asked.TheVariants.{Barrier as a_barrier, Call as in_a_lane}
use Rattle.lanes.specs.Course.{AllMet, Course, FirstMet, InTurn, LaneServed, LineServed, Meets, Serves}
use Rattle.lanes.proofs.PlaceLemmas.{map-at}

-- a list has something at each place below its length
pub there-at : {A : Type 0} (xs : List A) (n : ℕ) → n < length xs → (x : A) × (slice_get xs n ≡ Some x)
there-at [] n below = absurd (omega (arith, below))
there-at (x ∷ xs) zero below = (x, refl)
there-at (x ∷ xs) (suc n) below = there-at xs n (omega (arith, below))

abbrev pub KeepsServed : (Pass → ℕ) → Serves → Type 0
KeepsServed N serves = (p p' : Pass) (call : Call) (r : Reply) → serves p p' call r → N p' ≡ N p

abbrev pub KeepsMet : (Pass → ℕ) → Meets → Type 0
KeepsMet N meets = (p q p' q' : Pass) → meets p q p' q' → (N p' ≡ N p) × (N q' ≡ N q)

set-kept : (N : Pass → ℕ) (ps : List Pass) (k : ℕ) (p p' : Pass) → slice_get ps k ≡ Some p → N p' ≡ N p → map N (set ps k p') ≡ map N ps
set-kept N [] k p p' is same = refl
set-kept N (x ∷ ps) zero p p' is same = ap (λ n. n ∷ map N ps) (same ∙ sym (ap N (same_Some x p is)))
set-kept N (x ∷ ps) (suc k) p p' is same = ap (λ ns. N x ∷ ns) (set-kept N ps k p p' is same)

module _ (N : Pass → ℕ) (serves : Serves) (meets : Meets) (ks : KeepsServed N serves) (km : KeepsMet N meets) where
  others-kept : (p : Pass) (ps ps' : List Pass) (p' : Pass) → InTurn (λ q other other' q'. meets q other q' other') p ps ps' p' → (N p' ≡ N p) × (map N ps' ≡ map N ps)
  others-kept p [] [] p' h = (ap N h, refl)
  others-kept p [] (y ∷ ys) p' h = absurd h
  others-kept p (x ∷ xs) [] p' h = absurd h
  others-kept p (x ∷ xs) (y ∷ ys) p' h =
      let one = km p x h.0 y h.1 in
      let more = others-kept h.0 xs ys p' h.2 in
      (more.0 ∙ one.0, ap₂ (λ n ns. n ∷ ns) one.1 more.1)

  first-kept : (ps ps' : List Pass) → FirstMet meets ps ps' → map N ps' ≡ map N ps
  first-kept [] ps' h = ap (map N) h
  first-kept (p ∷ ps) [] h = absurd h
  first-kept (p ∷ ps) (p' ∷ ps') h = let k = others-kept p ps ps' p' h in ap₂ (λ n ns. n ∷ ns) k.0 k.1

  pub met-kept : (ps ps' : List Pass) → AllMet meets ps ps' → map N ps' ≡ map N ps
  met-kept ps ps' h = first-kept h.0 ps' h.2 ∙ first-kept ps h.0 h.1

  lane-kept : (lane : ℕ) (call : Call) (o : Option Pass) (ps : List Pass) (r : Option Reply) (ps' : List Pass) → slice_get ps lane ≡ o → LaneServed serves lane call o ps r ps' → map N ps' ≡ map N ps
  lane-kept lane call None ps r ps' is h = ap (map N) h.1
  lane-kept lane call (Some p) ps r ps' is h = ap (map N) h.passes ∙ set-kept N ps lane p h.pass is (ks p h.pass call h.reply h.served)

  line-kept : (ps : List Pass) (line : Result Asked Refusal) (r : Option Reply) (ps' : List Pass) → LineServed serves meets ps line r ps' → map N ps' ≡ map N ps
  line-kept ps (Ok a_barrier) r ps' h = met-kept ps ps' h.1
  line-kept ps (Ok (in_a_lane c)) r ps' h = lane-kept c.lane c.call (slice_get ps c.lane) ps r ps' refl h
  line-kept ps (Err refusal) r ps' h = ap (map N) h.1

  pub course-kept : (ps : List Pass) (lines : List (Result Asked Refusal)) (rs : List (Option Reply)) (ps' : List Pass) → Course serves meets ps lines rs ps' → map N ps' ≡ map N ps
  course-kept ps [] [] ps' h = ap (map N) h
  course-kept ps [] (r ∷ rs) ps' h = absurd h
  course-kept ps (line ∷ lines) [] ps' h = absurd h
  course-kept ps (line ∷ lines) (r ∷ rs) ps' h = course-kept h.0 lines rs ps' h.2 ∙ line-kept ps line r h.0 h.1

-- lists with the same numbers are as long
pub same-count : (N : Pass → ℕ) (ps ps' : List Pass) → map N ps' ≡ map N ps → length ps' ≡ length ps
same-count N ps ps' same = sym (length-map ps' N) ∙ ap length same ∙ length-map ps N

-- each number is that of some pass, where at first it was that of the pass at its place
pub each-number : (N : Pass → ℕ) (ps ps' : List Pass) → map N ps' ≡ map N ps → ((k : ℕ) (p : Pass) → slice_get ps k ≡ Some p → N p ≡ k) → (n : ℕ) → n < length ps → (k : ℕ) × (p : Pass) × (slice_get ps' k ≡ Some p) × (N p ≡ n)
each-number N ps ps' same named n below =
    let was = there-at ps n below in
    let count : length ps' ≡ length ps = same-count N ps ps' same in
    let is = there-at ps' n (omega (arith, count, below)) in
    let both : N is.0 ≡ N was.0 = same_Some (N is.0) (N was.0) (sym (map-at N ps' n is.0 is.1) ∙ ap (λ ns. slice_get ns n) same ∙ map-at N ps n was.0 was.1) in
    (n, is.0, is.1, both ∙ named n was.0 was.1)
