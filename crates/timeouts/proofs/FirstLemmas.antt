-- the least deadline of a shard is the least of its runs' first ones, so one number for each run is enough
use Rattle.std.proofs.Common.{◌≡◌, ℕ, ◌+◌, ◌-◌, Bool, true, false, length, ◌<◌, ◌≤◌, inl, inr, zero, suc, arith, List, [], ◌∷◌, ◌++◌, refl, sym, ap, ◌∙◌, subst, IfSome, IfNone}
use Rattle.std.specs.Prelude.{Option, Some, None, map, flat_map, nat_le, option_map, option_to_list, slice_index_or}
use Rattle.std.specs.List.{enumerate_from}
use Rattle.service_model.specs.Outcome.{if_some}
use Rattle.service_model.specs.RunState.{RunState, no_run}
use Rattle.service_model.specs.Deadlines.{Due, dues}
use Rattle.service_model.specs.TimerTurns.{RunDue, all_dues, least, due_now}
use Rattle.timeouts.specs.declared.due.Due.{Due as Kept}
use Rattle.timeouts.specs.Firsts.{of_run, first_of, first_due, firsts, IsOfRun, KeepsFirsts}
use Rattle.timeouts.specs.Slots.{run_due, lesser_of_two, IsLeastAt, IsOneOf}
use Rattle.timeouts.proofs.LeastLemmas.{least-append, least-fires, due-kept, one-left, one-right}

least-one : (o : Option RunDue) → least (option_to_list o) ≡ o
unfolding least
least-one None = refl
least-one (Some d) = refl

dues_from : ℕ → ℕ → List RunState → List RunDue
dues_from r n states = flat_map (λ (p : ℕ × RunState). map (λ (d : Due). record { run = p.0; at = d }) (dues r p.1)) (enumerate_from n states)

from : (r n : ℕ) (states : List RunState) → least (dues_from r n states) ≡ least (firsts r n states)
unfolding dues_from
from r n [] = refl
from r n (s ∷ states) =
    least-append (map (λ (d : Due). record { run = n; at = d }) (dues r s)) (dues_from r (n + 1) states)
    ∙ ap (lesser_of_two (first_due r n s)) (from r (n + 1) states)
    ∙ ap (λ o. lesser_of_two o (least (firsts r (n + 1) states))) (sym (least-one (first_due r n s)))
    ∙ sym (least-append (option_to_list (first_due r n s)) (firsts r (n + 1) states))

-- the least of all deadlines is the least of the first ones
pub least-firsts : (r : ℕ) (states : List RunState) → least (all_dues r states) ≡ least (firsts r 1 states)
unfolding dues_from
least-firsts r states = from r 1 states

at_run : ℕ → Due → RunDue
at_run n d = record { run = n; at = d }

map-append : (n : ℕ) (xs ys : List Due) → map (at_run n) (xs ++ ys) ≡ map (at_run n) xs ++ map (at_run n) ys
map-append n [] ys = refl
map-append n (x ∷ xs) ys = ap (λ t. at_run n x ∷ t) (map-append n xs ys)

-- the first deadline of two lists
pub first_of-append : (n : ℕ) (xs ys : List Due) → first_of n (xs ++ ys) ≡ lesser_of_two (first_of n xs) (first_of n ys)
unfolding at_run
first_of-append n xs ys = ap least (map-append n xs ys) ∙ least-append (map (at_run n) xs) (map (at_run n) ys)

here : (x : RunDue) (o : Option Kept) → IsOneOf x (option_to_list (option_map run_due o)) → (d : Kept) × (o ≡ Some d) × (run_due d ≡ x)
here x None one = absurd one
here x (Some d) (inl is) = (d, refl, sym is)
here x (Some d) (inr rest) = absurd rest

one-of : (d : Kept) (o : Option Kept) → o ≡ Some d → IsOneOf (run_due d) (option_to_list (option_map run_due o))
one-of d o is = subst (λ (x : Option Kept). IsOneOf (run_due d) (option_to_list (option_map run_due x))) (sym is) (inl refl)

pub either : (x : RunDue) (xs ys : List RunDue) (P : Type 0) → (IsOneOf x xs → P) → (IsOneOf x ys → P) → IsOneOf x (xs ++ ys) → P
either x [] ys P left right one = right one
either x (y ∷ xs) ys P left right (inl is) = left (inl is)
either x (y ∷ xs) ys P left right (inr rest) = either x xs ys P (λ one. left (inr one)) right rest

later : (r n : ℕ) (o : Option Kept) (slots : List (Option Kept)) (s : RunState) (states : List RunState) → KeepsFirsts r n (o ∷ slots) (s ∷ states) → KeepsFirsts r (n + 1) slots states
later r n o slots s states h = record {
  count = omega (arith, h.count);
  first = λ k t there. let count : n + suc k ≡ n + 1 + k = omega arith in h.first (suc k) t there ∙ ap (λ m. first_due r m t) count;
}

first-here : (r n : ℕ) (o : Option Kept) (slots : List (Option Kept)) (s : RunState) (states : List RunState) → KeepsFirsts r n (o ∷ slots) (s ∷ states) → option_map run_due o ≡ first_due r n s
first-here r n o slots s states h = let count : n + 0 ≡ n = omega arith in h.first 0 s refl ∙ ap (λ m. first_due r m s) count

keeps-there : (r n : ℕ) (slots : List (Option Kept)) (states : List RunState) → KeepsFirsts r n slots states → (x : RunDue) → IsOneOf x (firsts r n states) → (k : ℕ) × (d : Kept) × (slice_index_or slots k None ≡ Some d) × (run_due d ≡ x)
keeps-there r n slots [] h x one = absurd one
keeps-there r n [] (s ∷ states) h x one = absurd (omega (arith, h.count))
keeps-there r n (o ∷ slots) (s ∷ states) h x one =
    either x (option_to_list (first_due r n s)) (firsts r (n + 1) states) _
    (λ first. let (d, is, same) = here x o (subst (λ (f : Option RunDue). IsOneOf x (option_to_list f)) (sym (first-here r n o slots s states h)) first) in (0, d, is, same))
    (λ more. let (k, d, is, same) = keeps-there r (n + 1) slots states (later r n o slots s states h) x more in (suc k, d, is, same))
    one

keeps-only : (r n : ℕ) (slots : List (Option Kept)) (states : List RunState) → KeepsFirsts r n slots states → (k : ℕ) (d : Kept) → slice_index_or slots k None ≡ Some d → IsOneOf (run_due d) (firsts r n states)
keeps-only r n [] states h k d is = absurd (cc)
keeps-only r n (o ∷ slots) [] h k d is = absurd (omega (arith, h.count))
keeps-only r n (o ∷ slots) (s ∷ states) h zero d is =
    one-left (run_due d) (option_to_list (first_due r n s)) (firsts r (n + 1) states)
    (subst (λ (f : Option RunDue). IsOneOf (run_due d) (option_to_list f)) (first-here r n o slots s states h) (one-of d o is))
keeps-only r n (o ∷ slots) (s ∷ states) h (suc k) d is =
    one-right (run_due d) (option_to_list (first_due r n s)) (firsts r (n + 1) states) (keeps-only r (n + 1) slots states (later r n o slots s states h) k d is)

its-run : (n : ℕ) (ds : List Due) (d : RunDue) → IsOneOf d (of_run n ds) → d.run ≡ n
its-run n [] d one = absurd one
its-run n (x ∷ ds) d (inl is) = ap (λ (y : RunDue). y.run) is
its-run n (x ∷ ds) d (inr rest) = its-run n ds d rest

record Found (r n : ℕ) (d : RunDue) (states : List RunState) : Type 0 where
  place : ℕ
  there : place < length states
  run : d.run ≡ n + place
  its : IsOneOf d (of_run (n + place) (dues r (slice_index_or states place no_run)))

found : (r n : ℕ) (states : List RunState) (d : RunDue) → IsOneOf d (dues_from r n states) → Found r n d states
unfolding dues_from
found r n [] d one = absurd one
found r n (s ∷ states) d one =
    let count : n + 0 ≡ n = omega arith in
    either d (of_run n (dues r s)) (dues_from r (n + 1) states) (Found r n d (s ∷ states))
    (λ here. record { place = 0; there = omega arith; run = its-run n (dues r s) d here ∙ sym count; its = subst (λ k. IsOneOf d (of_run k (dues r s))) (sym count) here })
    (λ rest.
    let more = found r (n + 1) states d rest in
    let next : n + 1 + more.place ≡ n + suc more.place = omega arith in
    record { place = suc more.place; there = omega (arith, more.there); run = more.run ∙ next; its = subst (λ k. IsOneOf d (of_run k (dues r (slice_index_or states more.place no_run)))) next more.its })
    one

-- what is due now is the least of all
pub not-later : (moment : ℕ) (o : Option RunDue) (d : RunDue) → due_now moment o ≡ Some d → o ≡ Some d
not-later moment None d is = absurd (cc)
not-later moment (Some e) d is = by_test (nat_le e.at.due moment) is
  where
    by_test : (b : Bool) → if_some b e ≡ Some d → Some e ≡ Some d
    by_test true same = same
    by_test false same = absurd (cc)

-- the deadline that fires is that of one of the runs
pub due-of-run : (r : ℕ) (states : List RunState) (moment : ℕ) (d : RunDue) → due_now moment (least (all_dues r states)) ≡ Some d → IsOfRun r d states
unfolding dues_from
due-of-run r states moment d is =
    let at = found r 1 states d (least-fires (all_dues r states) d (not-later moment (least (all_dues r states)) d is)).0 in
    let place : at.place ≡ d.run - 1 = omega (arith, at.run) in
    record {
      from = omega (arith, at.run);
      to = omega (arith, at.run, at.there);
      its = subst (λ k. IsOneOf d (of_run d.run (dues r (slice_index_or states k no_run)))) place (subst (λ k. IsOneOf d (of_run k (dues r (slice_index_or states at.place no_run)))) (sym at.run) at.its);
    }

-- what is due of the numbered first deadlines is the shard's first deadline, where that is due
pub due-firsts : (r : ℕ) (slots : List (Option Kept)) (states : List RunState) (moment : ℕ) (o : Option Kept) → KeepsFirsts r 1 slots states →
    IfSome o (λ d. IsLeastAt (λ k. slice_index_or slots k None) d × (d.due ≤ moment)) → IfNone o ((k : ℕ) (d : Kept) → slice_index_or slots k None ≡ Some d → moment < d.due) →
    option_map run_due o ≡ due_now moment (least (all_dues r states))
due-firsts r slots states moment o h first later =
    due-kept (λ k. slice_index_or slots k None) (firsts r 1 states) moment o (record { there = keeps-there r 1 slots states h; only = keeps-only r 1 slots states h }) first later
    ∙ ap (due_now moment) (sym (least-firsts r states))
