use Rattle.std.proofs.Common.{◌≡◌, ◌≢◌, ◌⊎◌, ◌∙◌, ap, sym, refl, subst, inl, inr, codes, Bool, true, false, List, [], map, nat_eq, Option, Some, None, Bor}
use Rattle.std.proofs.lemmas.Result.{err_from_is_err_and}
use Rattle.std.specs.Cmp.Lexicographic.{pointwise}
use Rattle.std.specs.Option.{option_map_or}
use Rattle.std.specs.Prelude.{is_some, option_map}
use Rattle.clap.specs.Words.{Row, Text, found_of, first_of}
use Rattle.clap.proofs.WalkLemmas.{first_value-rows}
use Rattle.script_settings.specs.CommandLine.{faults_in, is_set, matches_in}
use Rattle.script_settings.specs.Settings.{IsBeside, IsFaultIn, text_of}
use Rattle.script_settings.specs.declared.fault.Fault.{Fault}
use Rattle.script_settings.specs.declared.fault.Fault.TheVariants.{Words, Number, Queues, Trace, Journal}
use Rattle.script_settings.proofs.words.settings_of.Goals as goal

pub returns-clause-sets : goal.returns-clause-sets
returns-clause-sets c = record {
  taken = c.in-Ok.ensures.fails;
  shards = rw (← c.in-Ok.ensures.rows) c.in_ok-shards.ensures.set;
  passes = rw (← c.in-Ok.ensures.rows) c.in_ok-passes.ensures.set;
  service = rw (← c.in-Ok.ensures.rows) c.in_ok-service.ensures.set;
  queues = rw (← c.in-Ok.ensures.rows) c.in_ok-queues.ensures.set;
  capacity = rw (← c.in-Ok.ensures.rows) c.in_ok-capacity.ensures.set;
  retention = rw (← c.in-Ok.ensures.rows) c.in_ok-retention.ensures.set;
  file = c.get_str.ensures ∙ first_value-rows (found_of c.in-Ok.matches) (codes "FILE") ∙ ap (first_of (codes "FILE")) c.in-Ok.ensures.rows;
  load = c.get_str-load.ensures ∙ first_value-rows (found_of c.in-Ok.matches) (codes "load") ∙ ap (first_of (codes "load")) c.in-Ok.ensures.rows;
  save = c.get_str-save.ensures ∙ first_value-rows (found_of c.in-Ok.matches) (codes "save") ∙ ap (first_of (codes "save")) c.in-Ok.ensures.rows;
  snapshot = c.get_str-snapshot.ensures ∙ first_value-rows (found_of c.in-Ok.matches) (codes "snapshot") ∙ ap (first_of (codes "snapshot")) c.in-Ok.ensures.rows;
  journal = c.get_str-journal.ensures ∙ first_value-rows (found_of c.in-Ok.matches) (codes "journal") ∙ ap (first_of (codes "journal")) c.in-Ok.ensures.rows;
  trace = c.flag-trace.ensures ∙ ap (is_set (codes "trace")) c.in-Ok.ensures.rows;
  alone = c.in_ok-check_beside.ensures.alone;
}

-- what was given is found
given : (o : Option (Bor Text)) (r : Option Text) → is_some o ≡ true → option_map (λ t. t.now) o ≡ r → r ≢ None
given None r is same = absurd (cc is)
given (Some t) r is same = λ none. let h = same ∙ none in cc h

pub returns-then-is_some-clause-fault : goal.returns-then-is_some-clause-fault
returns-then-is_some-clause-fault c = (
  c.in-Ok.ensures.fails,
  (
    sym (c.flag-trace.ensures ∙ ap (is_set (codes "trace")) c.in-Ok.ensures.rows) ∙ c.if-trace.true,
    given c.get_str-load.result _ (sym c.is_some.ensures ∙ c.if-is_some.true) (c.get_str-load.ensures ∙ first_value-rows (found_of c.in-Ok.matches) (codes "load") ∙ ap (first_of (codes "load")) c.in-Ok.ensures.rows),
  ),
)

-- what was given is found, whatever was found first
there : (o : Option (Bor Text)) (r : Option Text) → o ≢ None → option_map (λ t. t.now) o ≡ r → r ≢ None
there None r some same = absurd (some refl)
there (Some t) r some same = λ none. let h = same ∙ none in cc h

set-there : (o : Option Text) → option_map_or (λ text. pointwise nat_eq text (codes "true")) o false ≡ true → o ≢ None
set-there None is = absurd (cc is)
set-there (Some text) is = λ none. cc none

-- an option beside the journal
beside : (words : List Text) (journal load save snapshot : Option (Bor Text)) (trace : Bool) (fault : Fault) → faults_in words ≡ [] → text_of journal ≡ first_of (codes "journal") (matches_in words)
    → text_of load ≡ first_of (codes "load") (matches_in words) → text_of save ≡ first_of (codes "save") (matches_in words) → text_of snapshot ≡ first_of (codes "snapshot") (matches_in words) → trace ≡ is_set (codes "trace") (matches_in words)
    → IsBeside journal load save snapshot trace fault → IsFaultIn words fault
beside words journal load save snapshot trace (Journal option) taken j l s n t (some, which) = (taken, (there journal _ some j, by which))
  where
    rows : List Row
    rows = matches_in words

    by : ((option.now ≡ codes "load") × (load ≢ None)) ⊎ ((option.now ≡ codes "save") × (save ≢ None)) ⊎ ((option.now ≡ codes "snapshot") × (snapshot ≢ None)) ⊎ ((option.now ≡ codes "trace") × (trace ≡ true)) → first_of option.now rows ≢ None
    by (inl (is, given)) = subst (λ (n : Text). first_of n rows ≢ None) (sym is) (there load _ given l)
    by (inr (inl (is, given))) = subst (λ (n : Text). first_of n rows ≢ None) (sym is) (there save _ given s)
    by (inr (inr (inl (is, given)))) = subst (λ (n : Text). first_of n rows ≢ None) (sym is) (there snapshot _ given n)
    by (inr (inr (inr (is, on)))) = subst (λ (n : Text). first_of n rows ≢ None) (sym is) (set-there (first_of (codes "trace") rows) (sym t ∙ on))
beside words journal load save snapshot trace (Words e) taken j l s n t h = absurd h
beside words journal load save snapshot trace (Number option) taken j l s n t h = absurd h
beside words journal load save snapshot trace Queues taken j l s n t h = absurd h
beside words journal load save snapshot trace Trace taken j l s n t h = absurd h

pub returns-in_err-check_beside-clause-fault : goal.returns-in_err-check_beside-clause-fault
returns-in_err-check_beside-clause-fault c =
    let p = err_from_is_err_and c.from_residual-in_err-check_beside.result c.from_residual-in_err-check_beside.ensures.1 in
    let rows = c.in-Ok.ensures.rows in
    let found = λ (name : Text). first_value-rows (found_of c.in-Ok.matches) name ∙ ap (first_of name) rows in
    rw (p.1, p.2)
    (beside (map (λ w. w.now) c.args.words.now) c.get_str-journal.result c.get_str-load.result c.get_str-save.result c.get_str-snapshot.result c.flag-trace.result _ c.in-Ok.ensures.fails
    (c.get_str-journal.ensures ∙ found (codes "journal")) (c.get_str-load.ensures ∙ found (codes "load")) (c.get_str-save.ensures ∙ found (codes "save")) (c.get_str-snapshot.ensures ∙ found (codes "snapshot"))
    (c.flag-trace.ensures ∙ ap (is_set (codes "trace")) rows) c.in_err-check_beside.ensures.fault)
