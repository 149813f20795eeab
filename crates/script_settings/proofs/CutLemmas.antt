-- what a run over the parts of a text gives
use Rattle.std.proofs.Common.{◌≡◌, ℕ, ◌<◌, List, [], ◌∷◌, length, map, slice_index_or, IfSome, sym, ap, arith, ◌∙◌, subst, All, Any}
use Rattle.std.specs.Prelude.{Option, Some, None, option_map, unwrap_or}
use Rattle.std.specs.Borrow.{Bor}
use Rattle.std.proofs.lemmas.List.{get_or-map, length-map}
use Rattle.std.specs.Iterator.Runs.{Run, AllItems}
use Rattle.std.specs.List.{join_with_byte}
use Rattle.std.specs.Str.Iter.{LacksByte}
use Rattle.clap.specs.Words.{Text}
use Rattle.wf_event_values.specs.Limits.{IsIdLength}
use Rattle.script_settings.specs.Queues.{HasOtherParts, IsCutAtCommas}

of_that : {B : Type 0} (Q : B → Type 0) (o : Option B) (b : B) → option_map (λ y. y) o ≡ Some b → IfSome o Q → Q b
of_that {B = B} Q None b is h = absurd (let clash : None ≡ Some b = is in cc)
of_that {B = B} Q (Some y) b is h = subst Q (ap (λ (x : Option B). unwrap_or x y) is) h

all_read : {B : Type 0} (f : B → Text) (P : Text → Type 0) (xs : List B) → ((k : ℕ) (d : B) → k < length xs → P (f (slice_index_or xs k d))) → All P (map f xs)
all_read f P [] h = λ k d less. absurd (omega arith)
all_read f P (x ∷ xs) h = λ k d less.
    let within : k < length (x ∷ xs) = rw (← length-map (x ∷ xs) f) less in
    subst P (sym (get_or-map f (x ∷ xs) k x d within)) (h k x within)

pub parts_are_cut : {S : Type 0} {steps : S → Option (Bor Text) → S → Type 0} (p : Run steps) (text : Text) (parts : List (Bor Text)) → parts ≡ p.items
    → AllItems p (λ x. LacksByte 44 x.now) → text ≡ join_with_byte 44 (map (λ x. x.now) p.items) → 0 < p.len → IsCutAtCommas text (map (λ x. x.now) parts)
parts_are_cut p text parts is lacks joined some = subst (λ xs. IsCutAtCommas text (map (λ x. x.now) xs)) (sym is) (record {
  joined = joined;
  cut = all_read (λ x. x.now) (LacksByte 44) p.items (λ k d less. of_that (λ x. LacksByte 44 x.now) (p.at k) (slice_index_or p.items k d) (p.reads k d (rw p.long less)) (lacks k));
  some_part = rw (length-map p.items (λ x. x.now), ← p.long) some;
})

any_read : {B : Type 0} (f : B → Text) (P : Text → Type 0) (xs : List B) → Any (λ x. P (f x)) xs → Any P (map f xs)
any_read f P xs (k, x, less, there, holds) = (k, f x, rw (length-map xs f) less, get_or-map f xs k x (f x) less ∙ ap f there, holds)

-- the parts that were cut, and one of them is no name
pub other_parts : (text : Text) (parts : List (Bor Text)) → IsCutAtCommas text (map (λ x. x.now) parts) → Any (λ part. ¬ (IsIdLength (length part.now))) parts → HasOtherParts text
other_parts text parts cut other = record { parts = map (λ x. x.now) parts; cut = cut; other = any_read (λ x. x.now) (λ part. ¬ (IsIdLength (length part))) parts other }
