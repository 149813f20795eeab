-- how much is pending of what a run asked of other workflows, with one more fact of a command
use Rattle.std.proofs.Common.{◌≡◌, ℕ, ◌+◌, Bool, true, false, not, cond, ◌&&◌, ◌||◌, ◌==◌, List, [], ◌∷◌, ◌++◌, length, refl, sym, ap, ◌∙◌, arith, Option, Some, None, append-nil, length-append}
use Rattle.std.specs.Prelude.{filter}
use Rattle.std.proofs.lemmas.List.Elements.{filter-append}
use Rattle.wf_event.specs.declared.event.Event.{Event}
use Rattle.wf_event.specs.declared.attributes.Attributes.{Attributes}
use Rattle.wf_event.specs.declared.role.Class.{Class}
use Rattle.wf_event.specs.declared.role.Class.TheVariants.{Activity, Timer, Child, Signal, Cancel}
use Rattle.wf_event.specs.declared.role.Opener.{Opener}
use Rattle.wf_event.specs.Role.{opens, settles, class_number}
use Rattle.service_model.specs.Pending.{is_opening, is_settling, is_settled}
use Rattle.service_model.specs.RunState.{RunState, used, pending, held_attributes}
use Rattle.service_model.specs.Completion.{opened_so_far, is_settled_so_far, pending_so_far}
use Rattle.mutable_state.specs.Readers.{IsGrounded}
use Rattle.mutable_state.specs.Steps.{opened_by, itself}
use Rattle.mutable_state.specs.RunView.{pending_in}
use Rattle.mutable_state.specs.declared.pending.Pending.{Pending}
use Rattle.task_completion.specs.Judging.{IsSoFar}
use Rattle.task_completion.specs.Outward.{is_outward, count_of, one_more, Counts}
use Rattle.task_completion.specs.declared.outward.Outward.{Outward}
use Rattle.task_completion.proofs.SoFarLemmas.{next_event, opened-push, unseen}
use Rattle.mutable_state.proofs.SoFarLemmas.{settled-more}

-- whether a fact settles or opens something that was asked of another workflow
abbrev pub settles_outward : Option Opener → Bool
settles_outward None = false
settles_outward (Some d) = is_outward d.class

abbrev pub opens_outward : Option Class → Bool
opens_outward None = false
opens_outward (Some d) = is_outward d

other-class : (c d : Class) → is_outward c ≡ true → is_outward d ≡ false → (class_number c == class_number d) ≡ false
other-class Child Activity out none = refl
other-class Child Timer out none = refl
other-class Signal Activity out none = refl
other-class Signal Timer out none = refl
other-class Cancel Activity out none = refl
other-class Cancel Timer out none = refl
other-class c Child out none = absurd (cc)
other-class c Signal out none = absurd (cc)
other-class c Cancel out none = absurd (cc)
other-class Activity d out none = absurd (cc)
other-class Timer d out none = absurd (cc)

settles-none : (c : Class) (id : ℕ) (o : Option Opener) → is_outward c ≡ true → settles_outward o ≡ false → is_settling c id o ≡ false
settles-none c id None out none = refl
settles-none c id (Some d) out none = ap (λ b. b && (id == d.event)) (other-class c d.class out none)

opens-none : (c : Class) (o : Option Class) → is_outward c ≡ true → opens_outward o ≡ false → is_opening c o ≡ false
opens-none c None out none = refl
opens-none c (Some d) out none = other-class c d out none

filter-agree : {A : Type 0} (p q : A → Bool) → ((a : A) → p a ≡ q a) → (l : List A) → filter p l ≡ filter q l
filter-agree p q same [] = refl
filter-agree p q same (a ∷ l) = ap (λ b. cond b (a ∷ filter p l) (filter p l)) (same a) ∙ ap (λ x. cond (q a) (a ∷ x) x) (filter-agree p q same l)

or-false : (b : Bool) → (b || false) ≡ b
or-false true = refl
or-false false = refl

-- with a fact that settles nothing of the class
pending-more : (c : Class) (s : RunState) (F : List Attributes) (a : Attributes) → IsGrounded s → IsSoFar s F → ((id : ℕ) → is_settling c id (settles a) ≡ false) → pending_so_far c s (F ++ a ∷ []) ≡ pending_so_far c s F ++ opened_by c itself (next_event s F a)
unfolding pending_so_far
pending-more c s F a g h none =
    let new = next_event s F a in
    let free : is_settled_so_far c new.id s F ≡ false = unseen c new.id s F g h (omega arith) in
    ap (filter (P (F ++ a ∷ []))) (opened-push c s F a)
    ∙ filter-agree (P (F ++ a ∷ [])) (P F) (λ e. ap not (settled-more c e.id s F a ∙ ap (λ b. is_settled_so_far c e.id s F || b) (none e.id) ∙ or-false (is_settled_so_far c e.id s F))) (opened_so_far c s F ++ opened_by c itself new)
    ∙ filter-append (P F) (opened_so_far c s F) (opened_by c itself new)
    ∙ ap (λ l. filter (P F) (opened_so_far c s F) ++ l) (kept new free (is_opening c (opens a)))
  where
    P : List Attributes → Event → Bool
    P G e = not (is_settled_so_far c e.id s G)

    kept : (new : Event) → is_settled_so_far c new.id s F ≡ false → (b : Bool) → filter (P F) (cond b (new ∷ []) []) ≡ cond b (new ∷ []) []
    kept new free true = ap (λ b. cond (not b) (new ∷ []) []) free
    kept new free false = refl

-- before any command
all-pending : (c : Class) (s : RunState) → pending_so_far c s [] ≡ pending c s
unfolding pending_so_far
all-pending c s =
    ap (filter (λ (e : Event). not (is_settled_so_far c e.id s []))) (append-nil (used c s))
    ∙ filter-agree (λ (e : Event). not (is_settled_so_far c e.id s [])) (λ (e : Event). not (is_settled c e.id (held_attributes s))) (λ e. ap not (or-false (is_settled c e.id (held_attributes s)))) (used c s)

pub counts-first : (s : RunState) (p : Pending) → p ≡ pending_in s → Counts s [] (record { children = p.children; signals = p.signals; cancels = p.cancels })
counts-first s p is Child out = ap (λ (q : Pending). q.children) is ∙ ap length (sym (all-pending Child s))
counts-first s p is Signal out = ap (λ (q : Pending). q.signals) is ∙ ap length (sym (all-pending Signal s))
counts-first s p is Cancel out = ap (λ (q : Pending). q.cancels) is ∙ ap length (sym (all-pending Cancel s))
counts-first s p is Activity out = absurd (cc)
counts-first s p is Timer out = absurd (cc)

-- with a fact that has to do with the run alone
pub counts-same : (s : RunState) (F : List Attributes) (a : Attributes) (o : Outward) → IsGrounded s → IsSoFar s F → Counts s F o → settles_outward (settles a) ≡ false → opens_outward (opens a) ≡ false → Counts s (F ++ a ∷ []) o
counts-same s F a o g h counts settled opened c out =
    counts c out
    ∙ sym (ap length (pending-more c s F a g h (λ id. settles-none c id (settles a) out settled)
    ∙ ap (λ b. pending_so_far c s F ++ cond b (next_event s F a ∷ []) []) (opens-none c (opens a) out opened)
    ∙ append-nil (pending_so_far c s F)))

counted-one : (c d : Class) (o : Outward) (x : Event) → is_outward c ≡ true → is_outward d ≡ true → count_of c (one_more d o) ≡ count_of c o + length (cond (class_number c == class_number d) (x ∷ []) [])
counted-one Child Child o x out is = refl
counted-one Child Signal o x out is = omega arith
counted-one Child Cancel o x out is = omega arith
counted-one Signal Child o x out is = omega arith
counted-one Signal Signal o x out is = refl
counted-one Signal Cancel o x out is = omega arith
counted-one Cancel Child o x out is = omega arith
counted-one Cancel Signal o x out is = omega arith
counted-one Cancel Cancel o x out is = refl
counted-one Activity d o x out is = absurd (cc)
counted-one Timer d o x out is = absurd (cc)
counted-one c Activity o x out is = absurd (cc)
counted-one c Timer o x out is = absurd (cc)

-- with a fact that asks something of another workflow
pub counts-asked : (d : Class) (s : RunState) (F : List Attributes) (a : Attributes) (o : Outward) → IsGrounded s → IsSoFar s F → Counts s F o → is_outward d ≡ true → settles a ≡ None → opens a ≡ Some d → Counts s (F ++ a ∷ []) (one_more d o)
counts-asked d s F a o g h counts is settled opened c out =
    let new = next_event s F a in
    counted-one c d o new out is
    ∙ ap (λ n. n + length (cond (class_number c == class_number d) (new ∷ []) [])) (counts c out)
    ∙ sym (ap length (pending-more c s F a g h (λ id. ap (is_settling c id) settled)
    ∙ ap (λ p. pending_so_far c s F ++ cond (is_opening c p) (new ∷ []) []) opened)
    ∙ length-append (pending_so_far c s F) (cond (class_number c == class_number d) (new ∷ []) []))
