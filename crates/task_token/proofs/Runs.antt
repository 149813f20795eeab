-- A run's text is read as that run, and no other text is.
use Rattle.std.proofs.Common.{◌≡◌, ℕ, ◌/◌, ◌%◌, ◌^◌, ◌<◌, List, take, drop, Bool, true, false, cond, Option, Some, None, refl, sym, ap, ◌∙◌, arith, bytes_eq, inl, rules, Result, Ok, ◌↔◌, option_and_then}
use Rattle.std.specs.Int.{w64, from_be_bytes}
use Rattle.std.proofs.lemmas.Nat.{from_be_bytes-to_be_bytes_8}
use Rattle.std.proofs.lemmas.Slice.Eq.{bytes_eq-Decides}
use Rattle.std.specs.List.{AllByRecursion}
use Rattle.std.specs.Option.{ok_or}
use Rattle.std.proofs.lemmas.List.Elements.{All-from_recursion}
use Rattle.uuid.specs.Text.{parsed, hyphenated_text, lower}
use Rattle.uuid.proofs.RoundTrips.{parses_hyphenated}
use Rattle.wf_event_values.specs.declared.refusal.Refusal.{Refusal}
use Rattle.wf_event_values.specs.declared.refusal.Refusal.TheVariants.{NotFound}
use Rattle.wf_event_values.specs.Run.{Run, IsRun}
use Rattle.task_token.specs.RunTexts.{high_half, low_half, run_bytes, run_text, run_in, if_text, run_named}

pub nothing_named : (text : List ℕ) → ((u : List ℕ) × (parsed text ≡ Some u) → ⊥) → run_named text ≡ None
unfolding run_named
nothing_named text none = rw (is_none (parsed text) none) refl
  where
    is_none : (p : Option (List ℕ)) → ((u : List ℕ) × (p ≡ Some u) → ⊥) → p ≡ None
    is_none None h = refl
    is_none (Some u) h = absurd (h (u, refl))

pub is_named : (text bytes encoded : List ℕ) (r : Run) (b : Bool) → Some bytes ≡ parsed text → r ≡ run_in bytes → encoded ≡ run_text r → b ≡ bytes_eq encoded text
    → run_named text ≡ cond b (Some r) None
unfolding run_named
is_named text bytes encoded r b p q e t = rw (← p, ← q, ← e, ← t) refl

half_reads : (r : Run) → IsRun r → (from_be_bytes w64 (take 8 (run_bytes r)) ≡ high_half r) × (from_be_bytes w64 (drop 8 (run_bytes r)) ≡ low_half r)
half_reads r fits =
    let service = fits.service in
    let shard = fits.shard in
    let ordinal = fits.ordinal in
    (from_be_bytes-to_be_bytes_8 (high_half r) (omega arith), from_be_bytes-to_be_bytes_8 (low_half r) (omega arith))

parts : (r : Run) (high low : ℕ) → IsRun r → high ≡ high_half r → low ≡ low_half r
    → (high / 2 ^ 16 ≡ r.service) × (high % 2 ^ 12 ≡ r.shard) × (low % 2 ^ 62 ≡ r.ordinal)
parts r high low fits h l =
    let service = fits.service in
    let shard = fits.shard in
    let ordinal = fits.ordinal in
    (omega arith, omega arith, omega arith)

same_run : (a b : Run) → a.service ≡ b.service → a.shard ≡ b.shard → a.ordinal ≡ b.ordinal → a ≡ b
same_run a b p q e =
    let build : ℕ → ℕ → ℕ → Run = λ s h o. record { service = s; shard = h; ordinal = o } in
    ap (λ s. build s a.shard a.ordinal) p ∙ ap (λ h. build b.service h a.ordinal) q ∙ ap (λ o. build b.service b.shard o) e

pub run_in-run_bytes : (r : Run) → IsRun r → run_in (run_bytes r) ≡ r
run_in-run_bytes r fits =
    let halves = half_reads r fits in
    let three = parts r _ _ fits halves.0 halves.1 in
    same_run (run_in (run_bytes r)) r three.0 three.1 three.2

run_bytes_below : (r : Run) → AllByRecursion (λ b. b < 256) (run_bytes r)
run_bytes_below r = search rules

-- a run's text is read as that run
pub run_again : (r : Run) → IsRun r → run_named (run_text r) ≡ Some r
unfolding run_named run_text
run_again r fits =
    let back = parses_hyphenated lower (run_bytes r) (inl refl) refl (All-from_recursion (λ b. b < 256) (run_bytes r) (run_bytes_below r)) in
    let same : bytes_eq (hyphenated_text lower (run_bytes r)) (hyphenated_text lower (run_bytes r)) ≡ true = (bytes_eq-Decides (hyphenated_text lower (run_bytes r)) (hyphenated_text lower (run_bytes r))).1 refl in
    rw (← back) (ap (if_text (hyphenated_text lower (run_bytes r))) (run_in-run_bytes r fits) ∙ rw same refl)

-- what is read has this text
chosen : (b : Bool) (r s : Run) → cond b (Some r) None ≡ Some s → (b ≡ true) × (r ≡ s)
chosen true r s e = (refl, cc)
chosen false r s e = absurd cc

pub run_only : (text : List ℕ) (r : Run) → run_named text ≡ Some r → text ≡ run_text r
unfolding run_named
run_only text r e = from (parsed text) e
  where
    from : (p : Option (List ℕ)) → option_and_then (λ bytes. if_text text (run_in bytes)) p ≡ Some r → text ≡ run_text r
    from None h = absurd cc
    from (Some bytes) h =
        let two = chosen (bytes_eq (run_text (run_in bytes)) text) (run_in bytes) r h in
        sym ((bytes_eq-Decides (run_text (run_in bytes)) text).0 two.0) ∙ ap run_text two.1

-- both, of what `read` answered
pub reads_exactly : (text : List ℕ) (result : Result Run Refusal) → result ≡ ok_or (run_named text) NotFound
    → (r : Run) → IsRun r → (result ≡ Ok r) ↔ (text ≡ run_text r)
reads_exactly text result e r fits =
    (λ h. run_only text r (is_some_of (run_named text) (sym e ∙ h)), λ h. e ∙ rw (h, run_again r fits) refl)
  where
    is_some_of : (o : Option Run) → ok_or o NotFound ≡ Ok r → o ≡ Some r
    is_some_of None h = absurd cc
    is_some_of (Some x) h = cc
