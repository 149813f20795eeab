-- A look at the tickets' word tells a pass of the run.
use Rattle.std.proofs.Common.{◌≡◌, ℕ, List, ◌++◌, map, get_or, set, refl, sym, ap, ◌∙◌, subst, arith, append_assoc, Option}
use mathlib.Core.Option.{some, none}
use lib.ListN.{get_elem?}
use lib.Seq.{set-get_or}
use Rattle.atomic_table.specs.Table.{State, step, keeps, Allows}
use Rattle.atomic_table.proofs.Lists.{set_again}
use Rattle.gate.specs.declared.view.Origin.{Origin}
use Rattle.gate.specs.declared.view.View.{View}
use Rattle.gate.specs.declared.view.Holder.TheVariants.{Pass}
use Rattle.gate.specs.Records.{Begins, past, grounds_by, grown}
use Rattle.gate.specs.SlotRule.{Lying, at as at_, base, width, IsGated}
use Rattle.gate.specs.Moments.{Surveyed}
use Rattle.gate.specs.RuleSteps.{Sat, origin_of, surveyed}
use Rattle.gate.proofs.Growth.{begins_longer, past_append}
use Rattle.step_record.specs.declared.entry.Entry.{Entry}

module _ {Q C : Type 0} (o : Origin Q C) (grounds : List C → ℕ → Q → Type 0) (after : C → Q → C) where
  abbrev V : Type 0
  V = View Q C

  abbrev Log : Type 0
  Log = List (Entry Q)

  abbrev Rule : State (Option (Lying Q C)) V → Type 0
  Rule = IsGated o (grounds_by grounds after o.starts)

  -- what the rule says about the run
  told : (s : State (Option (Lying Q C)) V) (r : Rule s) (id slots : ℕ) (v : V) → get_elem? s.views id ≡ some v → slots ≡ width o → Surveyed grounds after o v (get_or s.words slots 0)
  told s r id slots v at as_many =
      let t = r.ticketed in
      let old = r.each_seat id v at in
      let marks = t.each_mark id v at in
      record {
        run = t.run;
        counts = sym (ap (λ (n : ℕ). get_or s.words n 0) as_many ∙ t.counts);
        steps = t.each_step;
        grounded = t.grounded;
        seen = λ k l.
            let stamp = t.each_stamp k l in
            let log = (r.each_log k l).0 in
            let behind : past (base o k) (r.logs k) ≡ log.0 = ap (past (base o k)) log.1 ∙ past_append (base o k) log.0 in
            let whole : r.logs k ++ (t.ds k).entry ≡ grown (base o) t.run k =
            ap (λ (z : Log). z ++ (t.ds k).entry) log.1 ∙ append_assoc (base o k) log.0 (t.ds k).entry
            ∙ ap (λ (z : Log). base o k ++ z) (ap (λ (z : Log). z ++ (t.ds k).entry) (sym behind) ∙ stamp.entries) in
            subst (Begins (at_ v.seen k)) whole (begins_longer (at_ v.seen k) (r.logs k) (t.ds k).entry (old.seen k l));
        tickets = λ k l.
            subst (Begins (at_ v.tickets k)) (t.each_stamp k l).tickets (begins_longer (at_ v.tickets k) (t.ds k).tickets (t.ds k).ticket (marks.seen k l));
      }

  pub surveys : (slots id : ℕ) (me : Sat Q C) → me.0.kind ≡ Pass → Allows Rule slots id me slots (λ x. x) (surveyed grounds after (step slots slots 0 0 none) me)
  surveys slots id me is s r many at small =
      let v : V = me.0 in
      let deep = r.deep in
      let as_many : slots ≡ width o = omega (arith, many, deep) in
      let same : v.origin ≡ o = (r.each_seat id v at).origin (λ z. cc (is, z)) in (
        v,
        keeps,
        tt,
        subst (λ (ws : List ℕ). Rule record { words = ws; homes = s.homes; views = set s.views id v }) (sym (set-get_or s.words slots 0))
            (subst (λ (vs : List V). Rule record { words = s.words; homes = s.homes; views = vs }) (sym (set_again s.views id v at)) r),
        (
          refl,
          subst (λ (p : Origin Q C). Surveyed grounds after p v (get_or s.words slots 0)) (sym same) (told s r id slots v at as_many),
        ),
      )

module _ {Q C : Type 0} (grounds : List C → ℕ → Q → Type 0) (after : C → Q → C) where
  pub surveys_for : {X : Type 0} (start : X → C) (log : X → List (Entry Q)) (xs : List X) (passes slots id word : ℕ) (me : Sat Q C) → word ≡ slots → me.0.kind ≡ Pass
      → Allows (IsGated (origin_of start log xs passes) (grounds_by grounds after (map start xs))) slots id me word (λ x. x) (surveyed grounds after (step slots word 0 0 none) me)
  surveys_for start log xs passes slots id word me here kind =
      subst (λ (z : ℕ). Allows (IsGated (origin_of start log xs passes) (grounds_by grounds after (map start xs))) slots id me z (λ x. x) (surveyed grounds after (step slots z 0 0 none) me)) (sym here)
      (surveys (origin_of start log xs passes) grounds after slots id me kind)
