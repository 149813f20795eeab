-- The looks that change what a pass knows keep the ring's rule.
use Rattle.std.proofs.Common.{◌≡◌, ℕ, ◌+◌, ◌-◌, ◌%◌, ◌≤◌, le_refl, List, map, length, get_or, drop, set, sym, refl, ap, ◌∙◌, subst, arith, length-drop}
use mathlib.Core.Logic.{dite}
use mathlib.Core.Option.{none, some}
use native.Mathlib.Decide.{ℕ_discrete, dec_le}
use lib.ListN.{get_elem?}
use lib.Seq.{set-get_or, map-set}
use Rattle.std.specs.Prelude.{Option, None}
use Rattle.atomic_table.specs.Table.{State, step, keeps, stepped, Allows}
use Rattle.atomic_table.proofs.Lists.{at_map}
use Rattle.crossbeam_queue.specs.declared.array_queue.Doing.{Doing}
use Rattle.crossbeam_queue.specs.declared.array_queue.Stage.{Stage}
use Rattle.crossbeam_queue.specs.declared.array_queue.Stage.TheVariants.{Idle, SawTail, SawHead, SawOld}
use Rattle.crossbeam_queue.specs.Stamps.{stamp}
use Rattle.crossbeam_queue.specs.Ring.{client, Knows, Ring, doing}
use Rattle.crossbeam_queue.proofs.Stamps.{one_count}
use Rattle.crossbeam_queue.proofs.Cells.{seats_stay, reviewed, knows}
use Rattle.crossbeam_queue.proofs.Looks.{Goes, stands}
use Rattle.service_model_types.specs.declared.request.Hint.{Hint}
use Rattle.matching.specs.declared.view.View.{View}
use Rattle.matching.specs.declared.view.Holder.TheVariants.{Pass}
use Rattle.matching.specs.PassSteps.{Sees}
use Rattle.matching.specs.Rings.{Tells, Sat, IsLapBehind, saw_count, saw_full_queue, saw_empty_queue, saw_told, saw_all}
use Rattle.matching.specs.Rule.{Kept, IsLast}
use Rattle.matching.specs.ToldHints.{Compares}
use Rattle.matching.proofs.Keeps.{sees, compares, ends}

module _ (waiting : List Hint) (all width : ℕ) where
  abbrev Rule : List Hint → List View → Type 0
  Rule = Kept waiting all width

  abbrev St : Type 0
  St = State (Option Hint) (Doing Hint View)

  -- a look of a pass, which has a new view, and knows at a stage what it may know there
  told_as : (st : Stage) (p : ℕ) (then : List Hint → View → Type 0) (s : St) (r : Ring Rule s) (k id : ℕ) (me : Sat) → get_elem? s.views id ≡ some me.0 → Tells Rule id me.0.client then
      → Knows (length s.homes) r.pushed r.popped r.log id p None (r.cells (p % length s.homes)) st
      → (w : View) × Ring Rule (stepped s k (get_or s.words k 0) id me.1 (doing st p None w) keeps) × then (drop r.popped r.log) w
  told_as st p then s r k id me at law mine =
      let c = law (drop r.popped r.log) (map client s.views) r.kept (at_map client s.views id me.0 at) in
      let w : Doing Hint View = doing st p None c.0 in (
        c.0,
        subst (λ (ws : List ℕ). Ring Rule record { words = ws; homes = s.homes; views = set s.views id w }) (sym (set-get_or s.words k 0))
            (reviewed Rule s r (set s.views id w) (seats_stay Rule (length s.homes) r.pushed r.popped r.log r.cells s.views id w mine (λ j d _. r.each_seat j d))
            (subst (Rule (drop r.popped r.log)) (sym (map-set client s.views id w)) c.1)),
        c.2,
      )

  told_at : (then : List Hint → View → Type 0) (s : St) (r : Ring Rule s) (k id : ℕ) (me : Sat) → get_elem? s.views id ≡ some me.0 → Tells Rule id me.0.client then
      → (w : View) × Ring Rule (stepped s k (get_or s.words k 0) id me.1 (doing Idle me.0.at None w) keeps) × then (drop r.popped r.log) w
  told_at then s r k id me at law = told_as Idle me.0.at then s r k id me at law tt

  -- how many wait
  count : (s : St) (r : Ring Rule s) (n : ℕ) → r.pushed - r.popped ≡ n → length (drop r.popped r.log) ≡ n
  count s r n is = length-drop r.popped r.log ∙ (ap (λ (z : ℕ). z - r.popped) r.long ∙ is)

  pub finds_no_room : (n id : ℕ) (me : Sat) → me.0.stage ≡ SawOld → me.0.client.kind ≡ Pass → Allows (Ring Rule) n id me 32 (λ x. x) (saw_full_queue (step n 32 0 0 none) me)
  finds_no_room n id me st is s r wide at _ =
      let x : ℕ = get_or s.words 32 0 in let p : ℕ = me.0.at in let h : ℕ = r.pushed in let t : ℕ = r.popped in
      subst (λ (k : ℕ). Goes Rule s 32 id me (saw_full_queue (step k 32 0 0 none) me) x) wide (
      let m : ℕ = length s.homes in let below : p ≤ h = (knows Rule s r id me.0 SawOld at st).0 in let within : h ≤ t + m = r.within in
      let miss : ¬ IsLapBehind (step m 32 0 0 none) me x → Goes Rule s 32 id me (saw_full_queue (step m 32 0 0 none) me) x = λ not.
      stands Rule s r 32 id me (saw_full_queue (step m 32 0 0 none) me) Idle p at tt (refl, (λ full. absurd (not full)), λ _. refl) in
      dite (dec_le m p)
      (λ deep. dite (ℕ_discrete x (stamp m (p - m)))
      (λ hit.
      let same : t ≡ p - m = one_count m r.some_slot r.roomy (p - m) t (sym r.popped_is ∙ hit) in
      let g = told_at (Sees me.0.client) s r 32 id me at (sees waiting all width id me.0.client is) in
      (doing Idle p None g.0, keeps, tt, g.1, (refl, (λ full. (drop t r.log, count s r m (omega arith), g.2)), λ not. absurd (not (deep, hit)))))
      (λ other. miss (λ full. other full.1)))
      (λ shallow. miss (λ full. shallow full.0)))

  pub finds_none : (n id : ℕ) (me : Sat) → me.0.stage ≡ SawHead → me.0.client.kind ≡ Pass → Allows (Ring Rule) n id me 16 (λ x. x) (saw_empty_queue (step n 16 0 0 none) me)
  finds_none n id me st is s r wide at _ =
      let x : ℕ = get_or s.words 16 0 in let p : ℕ = me.0.at in let h : ℕ = r.pushed in let t : ℕ = r.popped in
      subst (λ (k : ℕ). Goes Rule s 16 id me (saw_empty_queue (step k 16 0 0 none) me) x) wide (
      let m : ℕ = length s.homes in let below : p ≤ t = knows Rule s r id me.0 SawHead at st in let behind : t ≤ h = r.behind in
      dite (ℕ_discrete x (stamp m p))
      (λ hit.
      let same : h ≡ p = one_count m r.some_slot r.roomy p h (sym r.pushed_is ∙ hit) in
      let g = told_at (Sees me.0.client) s r 16 id me at (sees waiting all width id me.0.client is) in
      (doing Idle p None g.0, keeps, tt, g.1, (refl, (λ _. (drop t r.log, count s r 0 (omega arith), g.2)), λ not. absurd (not hit))))
      (λ other. stands Rule s r 16 id me (saw_empty_queue (step m 16 0 0 none) me) Idle p at tt (refl, (λ hit. absurd (other hit)), λ _. refl)))

  pub counts_all : (n id : ℕ) (me : Sat) → me.0.stage ≡ SawTail → me.0.client.kind ≡ Pass → Allows (Ring Rule) n id me 32 (λ x. x) (saw_count (step n 32 0 0 none) me)
  counts_all n id me st is s r wide at _ =
      let x : ℕ = get_or s.words 32 0 in let h : ℕ = r.pushed in let t : ℕ = r.popped in
      subst (λ (k : ℕ). Goes Rule s 32 id me (saw_count (step k 32 0 0 none) me) x) wide (
      let g = told_as SawTail h (Sees me.0.client) s r 32 id me at (sees waiting all width id me.0.client is) (le_refl h) in (
        doing SawTail h None g.0,
        keeps,
        tt,
        g.1,
        (refl, refl, knows Rule s r id me.0 SawTail at st, (t, r.popped_is, r.behind, r.within, (drop t r.log, count s r (h - t) refl, g.2))),
      ))

  pub compares_told : (n id : ℕ) (me : Sat) → me.0.client.kind ≡ Pass → Allows (Ring Rule) n id me 16 (λ x. x) (saw_told (step n 16 0 0 none) me)
  compares_told n id me is s r wide at _ =
      let g = told_at (λ _. Compares me.0.client) s r 16 id me at (compares waiting all width id me.0.client is) in
      (doing Idle me.0.at None g.0, keeps, tt, g.1, (refl, g.2))

  pub sees_all : (n id : ℕ) (me : Sat) → me.0.client.kind ≡ Pass → Allows (Ring Rule) n id me 16 (λ x. x) (λ _. saw_all me)
  sees_all n id me is s r wide at _ =
      let g = told_at (λ items w. (w ≡ me.0.client) × IsLast me.0.client items) s r 16 id me at (ends waiting all width id me.0.client is) in
      (doing Idle me.0.at None g.0, keeps, tt, g.1, (refl, g.2.0, drop r.popped r.log, g.2.1))
