-- a line is served by what its lane answered: the lanes' answers make a step of the course
use Rattle.std.proofs.Common.{◌≡◌, ℕ, suc, ◌⊎◌, List, [], ◌∷◌, ◌++◌, length, set, slice_get, false, cond, eqb, Option, None, Some, Result, Ok, Err, inl, inr, refl, sym, ap, subst, ◌∙◌}
use Rattle.std.proofs.lemmas.Bool.{cases_eq, eq-eqb, eqb-true, false_from_ne_true, true≢false}
use Rattle.std.proofs.lemmas.List.{length-set}
use Rattle.std.proofs.lemmas.Option.{none-some, same_Some}
use Rattle.wf_event_values.specs.declared.field.Field.TheVariants as field
use Rattle.wf_event_values.specs.declared.refusal.Refusal.{Refusal}
use Rattle.wf_event_values.specs.declared.refusal.Refusal.TheVariants.{InvalidArgument}
use Rattle.service_model_types.specs.Replies.{Reply}
use Rattle.service.specs.ServiceViews.{Pass}
use Rattle.wire_requests.specs.declared.calls.Asked.{Asked}
use Rattle.wire_requests.specs.declared.calls.Asked.TheVariants.{Barrier as a_barrier, Call as in_a_lane}
use Rattle.wire_requests.specs.declared.calls.LaneCall.{LaneCall}
use Rattle.lanes.specs.declared.calls.LineCall.{LineCall}
use Rattle.lanes.specs.Answers.{LineReply}
use Rattle.lanes.specs.Course.{Serves, Meets, LaneServed, LineServed}
use Rattle.lanes.specs.Lanes.{Answered, TookFirst, TookIn, Took, calls_in, is_barrier, place_in}
use Rattle.lanes.proofs.PlaceLemmas.{get-set, get-other, there-too, gone-too}

-- ---- lines that wait for their replies

-- Lanes have these replies left, which they gave to the calls among these lines, each under its line's number; their passes were these,
-- and in the end are those
pub record Ready (serves : Serves) (ps : List Pass) (number : ℕ → ℕ) (lines : List (Result Asked Refusal)) (rss : List (List LineReply)) (es : List Pass) : Type 0 where
  pub lanes : length rss ≡ length ps
  pub ends : length es ≡ length ps
  pub runs : (k : ℕ) (p : Pass) (rs : List LineReply) (e : Pass) → slice_get ps k ≡ Some p → slice_get rss k ≡ Some rs → slice_get es k ≡ Some e → Answered serves p (calls_in k number lines) rs e

-- one line was served, and the others wait
pub record Step (serves : Serves) (meets : Meets) (ps : List Pass) (number : ℕ → ℕ) (line : Result Asked Refusal) (lines : List (Result Asked Refusal)) (r : Option Reply) (rss : List (List LineReply)) (es : List Pass) : Type 0 where
  pub passes : List Pass
  pub served : LineServed serves meets ps line r passes
  pub ready : Ready serves passes (λ i. number (suc i)) lines rss es

-- ---- the calls of a lane

-- the call of the first line
abbrev at_line : (ℕ → ℕ) → LaneCall → LineCall
at_line number c = record { line = number 0; call = c.call }

calls-own : (k : ℕ) (number : ℕ → ℕ) (c : LaneCall) (lines : List (Result Asked Refusal)) → c.lane ≡ k → calls_in k number (Ok (in_a_lane c) ∷ lines) ≡ at_line number c ∷ calls_in k (λ i. number (suc i)) lines
calls-own k number c lines own = ap (λ b. cond b (at_line number c ∷ []) [] ++ calls_in k (λ i. number (suc i)) lines) (eq-eqb c.lane k own)

calls-other : (k : ℕ) (number : ℕ → ℕ) (c : LaneCall) (lines : List (Result Asked Refusal)) → ¬ (c.lane ≡ k) → calls_in k number (Ok (in_a_lane c) ∷ lines) ≡ calls_in k (λ i. number (suc i)) lines
calls-other k number c lines other = ap (λ b. cond b (at_line number c ∷ []) [] ++ calls_in k (λ i. number (suc i)) lines) (false_from_ne_true (eqb c.lane k) (λ e. other (eqb-true c.lane k e)))

-- ---- a line, and then those after it

-- a call in a lane that is not there
serve-nowhere : (serves : Serves) (meets : Meets) (ps : List Pass) (number : ℕ → ℕ) (c : LaneCall) (lines : List (Result Asked Refusal)) (r : Option Reply) (rss : List (List LineReply)) (es : List Pass) → slice_get rss c.lane ≡ None → r ≡ Some (Err (InvalidArgument field.Lane))
    → Ready serves ps number (Ok (in_a_lane c) ∷ lines) rss es → Step serves meets ps number (Ok (in_a_lane c)) lines r rss es
serve-nowhere serves meets ps number c lines r rss es gone is h =
    let none : slice_get ps c.lane ≡ None = gone-too rss ps c.lane (sym h.lanes) gone in
    record {
      passes = ps;
      served = subst (λ o. LaneServed serves c.lane c.call o ps r ps) (sym none) (is, refl);
      ready = record {
        lanes = h.lanes;
        ends = h.ends;
        runs = λ k p rs e at_p at_rs at_e.
            let other : ¬ (c.lane ≡ k) = λ own. none-some p (sym none ∙ ap (slice_get ps) own ∙ at_p) in
            subst (λ calls. Answered serves p calls rs e) (calls-other k number c lines other) (h.runs k p rs e at_p at_rs at_e);
      };
    }

-- the lanes after a call in one of them
ready-behind : (serves : Serves) (ps : List Pass) (number : ℕ → ℕ) (c : LaneCall) (lines : List (Result Asked Refusal)) (rss : List (List LineReply)) (es : List Pass) (p q : Pass) (rs left : List LineReply) (e : Pass) → slice_get ps c.lane ≡ Some p → slice_get rss c.lane ≡ Some rs → slice_get es c.lane ≡ Some e
    → Answered serves q (calls_in c.lane (λ i. number (suc i)) lines) left e → Ready serves ps number (Ok (in_a_lane c) ∷ lines) rss es → Ready serves (set ps c.lane q) (λ i. number (suc i)) lines (set rss c.lane left) es
ready-behind serves ps number c lines rss es p q rs left e at_p at_rs at_e rest h = record {
  lanes = length-set rss c.lane left ∙ h.lanes ∙ sym (length-set ps c.lane q);
  ends = h.ends ∙ sym (length-set ps c.lane q);
  runs = λ k p' rs' e' at_p' at_rs' at_e'. by-place k p' rs' e' at_p' at_rs' at_e' (cases_eq c.lane k);
}
  where
    by-place : (k : ℕ) (p' : Pass) (rs' : List LineReply) (e' : Pass) → slice_get (set ps c.lane q) k ≡ Some p' → slice_get (set rss c.lane left) k ≡ Some rs' → slice_get es k ≡ Some e' → (c.lane ≡ k) ⊎ (¬ (c.lane ≡ k)) → Answered serves p' (calls_in k (λ i. number (suc i)) lines) rs' e'
    by-place k p' rs' e' at_p' at_rs' at_e' (inl own) =
        let is_p : q ≡ p' = same_Some q p' (sym (get-set ps c.lane p q at_p) ∙ ap (slice_get (set ps c.lane q)) own ∙ at_p') in
        let is_rs : left ≡ rs' = same_Some left rs' (sym (get-set rss c.lane rs left at_rs) ∙ ap (slice_get (set rss c.lane left)) own ∙ at_rs') in
        let is_e : e ≡ e' = same_Some e e' (sym at_e ∙ ap (slice_get es) own ∙ at_e') in
        rw (← is_p, ← is_rs, ← is_e, ← own) rest
    by-place k p' rs' e' at_p' at_rs' at_e' (inr other) =
        subst (λ calls. Answered serves p' calls rs' e') (calls-other k number c lines other)
        (h.runs k p' rs' e' (sym (get-other ps c.lane k q other) ∙ at_p') (sym (get-other rss c.lane k left other) ∙ at_rs') at_e')

-- a call in a lane that is there
serve-there : (serves : Serves) (meets : Meets) (ps : List Pass) (number : ℕ → ℕ) (c : LaneCall) (lines : List (Result Asked Refusal)) (r : Option Reply) (rss m : List (List LineReply)) (es : List Pass) (rs : List LineReply) → slice_get rss c.lane ≡ Some rs → TookFirst c.lane rs rss r m
    → Ready serves ps number (Ok (in_a_lane c) ∷ lines) rss es → Step serves meets ps number (Ok (in_a_lane c)) lines r m es
serve-there serves meets ps number c lines r rss m es rs at_rs t h =
    let p = there-too rss ps c.lane rs (sym h.lanes) at_rs in
    let e = there-too rss es c.lane rs (h.ends ∙ sym h.lanes) at_rs in
    let run = h.runs c.lane p.0 rs e.0 p.1 at_rs e.1 in
    let rest = calls_in c.lane (λ i. number (suc i)) lines in
    let here : Answered serves p.0 (at_line number c ∷ rest) (t.reply ∷ t.rest) e.0 =
    subst (λ calls. Answered serves p.0 calls (t.reply ∷ t.rest) e.0) (calls-own c.lane number c lines refl) (subst (λ rs. Answered serves p.0 (calls_in c.lane number (Ok (in_a_lane c) ∷ lines)) rs e.0) t.first run) in
    record {
      passes = set ps c.lane here.0;
      served = subst (λ o. LaneServed serves c.lane c.call o ps r (set ps c.lane here.0)) (sym p.1) (record { pass = here.0; reply = t.reply.reply; served = here.1.1; is = t.is; passes = refl });
      ready = subst (λ x. Ready serves (set ps c.lane here.0) (λ i. number (suc i)) lines x es) (sym t.lanes) (ready-behind serves ps number c lines rss es p.0 here.0 rs t.rest e.0 p.1 at_rs e.1 here.2 h);
    }

serve-in : (serves : Serves) (meets : Meets) (ps : List Pass) (number : ℕ → ℕ) (c : LaneCall) (lines : List (Result Asked Refusal)) (r : Option Reply) (rss m : List (List LineReply)) (es : List Pass) (o : Option (List LineReply)) → slice_get rss c.lane ≡ o → TookIn c.lane o rss r m
    → Ready serves ps number (Ok (in_a_lane c) ∷ lines) rss es → Step serves meets ps number (Ok (in_a_lane c)) lines r m es
serve-in serves meets ps number c lines r rss m es None is t h = subst (λ x. Step serves meets ps number (Ok (in_a_lane c)) lines r x es) (sym t.1) (serve-nowhere serves meets ps number c lines r rss es is t.0 h)
serve-in serves meets ps number c lines r rss m es (Some rs) is t h = serve-there serves meets ps number c lines r rss m es rs is t h

pub serve-line : (serves : Serves) (meets : Meets) (ps : List Pass) (number : ℕ → ℕ) (line : Result Asked Refusal) (lines : List (Result Asked Refusal)) (r : Option Reply) (rss m : List (List LineReply)) (es : List Pass) → is_barrier (place_in line) ≡ false → Took rss (place_in line) r m
    → Ready serves ps number (line ∷ lines) rss es → Step serves meets ps number line lines r m es
serve-line serves meets ps number (Ok a_barrier) lines r rss m es plain t h = absurd (true≢false plain)
serve-line serves meets ps number (Ok (in_a_lane c)) lines r rss m es plain t h = serve-in serves meets ps number c lines r rss m es (slice_get rss c.lane) refl t h
serve-line serves meets ps number (Err refusal) lines r rss m es plain t h = record {
  passes = ps;
  served = (t.0, refl);
  ready = subst (λ x. Ready serves ps (λ i. number (suc i)) lines x es) (sym t.1) (record { lanes = h.lanes; ends = h.ends; runs = h.runs });
}
