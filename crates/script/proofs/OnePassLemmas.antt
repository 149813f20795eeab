-- a service with one pass: each step goes on from all that was done
use Rattle.std.proofs.Common.{◌≡◌, ◌≢◌, ℕ, ◌+◌, ◌<◌, ◌≤◌, true, List, [], ◌∷◌, ◌++◌, length, refl, sym, ap, ◌∙◌, arith, zero, suc, Option, None, Some, slice_index_or, slice_set, subst, length-append, append-nil, append_assoc, ◌⊎◌, inl, inr}
use Rattle.std.proofs.lemmas.Bool.Decides.{nat_tests}
use Rattle.std.proofs.lemmas.List.FromFn.{get_or-map-range_with_len}
use Rattle.std.proofs.lemmas.Option.{slice_get_within}
use Rattle.std.specs.Prelude.{map, ◌==◌, if◌then◌else◌, Err}
use Rattle.std.specs.List.{range_with_len}
use Rattle.wf_event_values.specs.declared.refusal.Refusal.{Refusal}
use Rattle.service_model_types.specs.declared.content.Content.{Content}
use Rattle.service_model_types.specs.declared.request.Request.{Request}
use Rattle.service_model_types.specs.declared.settings.Settings.{Settings}
use Rattle.service_model_types.specs.Replies.{Reply}
use Rattle.service_model.specs.Service.{Entry, answer, after, opening}
use Rattle.gate.specs.declared.view.View.{View}
use Rattle.gate.specs.Passes as gate
use Rattle.gate.specs.Records.{replay, by, past, FromGiven, Begins}
use Rattle.matching.specs.declared.view.View.{View as HintView}
use Rattle.matching.specs.Alone.{waiting_of}
use Rattle.service.specs.ServiceViews.{Service}
use Rattle.service.specs.Contents.{setup_of}
use Rattle.service.specs.Reopening.{record_at}
use Rattle.service.specs.Services.{Answered, IsServedAtLast, IsServedOn}
use Rattle.service.specs.Starting.{start_of}
use Rattle.service.proofs.StartLemmas.{found-at}
use Rattle.script.specs.Sorted.{steps_seen}
use Rattle.script.specs.OnePass.{KnowsAll, content_seen, contents_seen, records_seen, start_seen, world_seen}
use Rattle.script.specs.World.{Came, World, content_at, entry_of, recorded, stepped, unless}
use Rattle.script.proofs.TicketLemmas.{steps-more, steps-same, ticket-behind}

-- all entries are of the one pass
by-only : (es : List Entry) → FromGiven 1 es → by 0 es ≡ es
by-only [] h = refl
by-only (e ∷ es) h =
    let its : (0 == e.pass) ≡ true = let low : e.pass < 1 = h.0 in grind (arith, nat_tests) in
    ap (λ b. if b then e ∷ by 0 es else by 0 es) its ∙ ap (λ t. e ∷ t) (by-only es h.1)

pub nothing-more : {A : Type 0} (rest : List A) → length rest ≡ 0 → rest ≡ []
nothing-more [] h = refl
nothing-more (e ∷ rest) h = absurd (omega arith)

-- what is followed by one entry alike is alike
same-front : (xs front : List Entry) (e : Entry) → Begins xs front → front ++ e ∷ [] ≡ xs ++ e ∷ [] → front ≡ xs
same-front xs front e (rest, is) same =
    let none : length rest ≡ 0 = omega (arith, ap length is, length-append xs rest, ap length same, length-append front (e ∷ []), length-append xs (e ∷ [])) in
    is ∙ ap (λ t. xs ++ t) (nothing-more rest none) ∙ append-nil xs

replay-push : (c : Content) (es : List Entry) (e : Entry) → replay after c (es ++ e ∷ []) ≡ after (replay after c es) e.request
replay-push c [] e = refl
replay-push c (x ∷ es) e = replay-push (after c x.request) es e

pub same-or-apart : (m n : ℕ) → (m ≡ n) ⊎ (m ≢ n)
same-or-apart zero zero = inl refl
same-or-apart zero (suc n) = inr (λ h. omega (arith, h))
same-or-apart (suc m) zero = inr (λ h. omega (arith, h))
same-or-apart (suc m) (suc n) = elim (same-or-apart m n) [ inl h ↦ inl (ap suc h) | inr h ↦ inr (λ e. h (omega (arith, e))) ]

pub past-front : (xs rest : List Entry) → past xs (xs ++ rest) ≡ rest
past-front [] rest = refl
past-front (x ∷ xs) rest = past-front xs rest

-- a record that goes on from another is that one and what is past it
pub split-past : (xs ys : List Entry) → Begins xs ys → ys ≡ xs ++ past xs ys
split-past xs ys (rest, is) = is ∙ ap (λ t. xs ++ t) (sym (ap (past xs) is ∙ past-front xs rest))

base-same : (v w : View Request Content) (s : ℕ) → gate.IsSame v w → gate.base w s ≡ gate.base v s
base-same v w s same = ap (λ o. slice_index_or o.bases s []) same.1

-- past the record at the opening all entries are of the only pass
pub all-own : (v : View Request Content) (s : ℕ) (log : List Entry) → KnowsAll v → FromGiven 1 (past (gate.base v s) log) → by (gate.number v) (past (gate.base v s) log) ≡ gate.mine v s → past (gate.base v s) log ≡ gate.mine v s
all-own v s log h given own = sym (by-only (past (gate.base v s) log) given) ∙ ap (λ n. by n (past (gate.base v s) log)) (sym h.first) ∙ own

-- past the record at the opening all entries that it then sees are its own
past-own : (x : Service) (v w : View Request Content) (s : ℕ) (q : Request) (r : Reply) → KnowsAll v → IsServedOn x v w s q r → past (gate.base v s) (gate.seen w s) ≡ gate.mine w s
past-own x v w s q r h done =
    let more = past (gate.base v s) (gate.seen w s) in
    let N : ℕ → Type 0 = λ n. FromGiven n more in
    let given : FromGiven 1 more = subst N h.one done.given in
    sym (by-only more given) ∙ ap (λ n. by n more) (sym h.first) ∙ done.step.own

-- the shard of the step: what the pass did there was put after the record at the opening
based-own : (x : Service) (v w : View Request Content) (s : ℕ) (q : Request) (r : Reply) → KnowsAll v → IsServedOn x v w s q r → gate.seen w s ≡ gate.base v s ++ gate.mine w s
based-own x v w s q r h done = split-past (gate.base v s) (gate.seen w s) done.step.based ∙ ap (λ t. gate.base v s ++ t) (past-own x v w s q r h done)

-- after a step the pass has still seen its own steps alone
alone-after : (x : Service) (v w : View Request Content) (s : ℕ) (q : Request) (r : Reply) → KnowsAll v → IsServedOn x v w s q r → (k : ℕ) → gate.seen w k ≡ gate.base w k ++ gate.mine w k
alone-after x v w s q r h done k = elim (same-or-apart k s) [
  | inl same ↦ let P : ℕ → Type 0 = λ n. gate.seen w n ≡ gate.base w n ++ gate.mine w n in
      subst P (sym same) (based-own x v w s q r h done ∙ ap (λ b. b ++ gate.mine w s) (sym (base-same v w s done.same)))
  | inr apart ↦ (done.step.others k apart).0 ∙ h.alone k ∙ ap (λ b. b ++ gate.mine v k) (sym (base-same v w k done.same)) ∙ ap (λ m. gate.base w k ++ m) (sym (done.step.others k apart).1)
]

-- each of its steps has its ticket
paired-after : (x : Service) (v w : View Request Content) (s : ℕ) (q : Request) (r : Reply) → KnowsAll v → IsServedOn x v w s q r → (k : ℕ) → length (gate.tickets w k) ≡ length (gate.mine w k)
paired-after x v w s q r h done k = elim (same-or-apart k s) [
  | inl same ↦ let P : ℕ → Type 0 = λ n. length (gate.tickets w n) ≡ length (gate.mine w n) in
      subst P (sym same) (done.ticket.pairs ∙ ap length (past-own x v w s q r h done))
  | inr apart ↦ ap length (done.ticket.others k apart) ∙ h.paired k ∙ ap length (sym (done.step.others k apart).1)
]

knows-served : (x : Service) (v w : View Request Content) (s : ℕ) (q : Request) (r : Reply) → KnowsAll v → IsServedOn x v w s q r → KnowsAll w
knows-served x v w s q r h done = record {
  first = done.same.0 ∙ h.first;
  one = ap (λ o. o.passes) done.same.1 ∙ h.one;
  alone = alone-after x v w s q r h done;
  paired = paired-after x v w s q r h done;
  wide = ap (λ o. length o.starts) done.same.1 ∙ h.wide ∙ sym (ap (λ o. length o.bases) done.same.1);
}

-- so it has after it did nothing
pub knows-same : (v w : View Request Content) → KnowsAll v → gate.SeenNothing v w → KnowsAll w
knows-same v w h nothing = record {
  first = nothing.same.0 ∙ h.first;
  one = ap (λ o. o.passes) nothing.same.1 ∙ h.one;
  alone = λ s. nothing.sees s ∙ h.alone s ∙ ap (λ b. b ++ gate.mine v s) (sym (base-same v w s nothing.same)) ∙ ap (λ m. gate.base w s ++ m) (sym (nothing.has s));
  paired = λ s. ap length (nothing.tickets s) ∙ h.paired s ∙ ap length (sym (nothing.has s));
  wide = ap (λ o. length o.starts) nothing.same.1 ∙ h.wide ∙ sym (ap (λ o. length o.bases) nothing.same.1);
}

-- the step of a pass
abbrev entry_by : View Request Content → Request → Entry
entry_by v q = record { pass = gate.number v; request = q }

-- the step was put after all that the pass had seen
seen-after : (x : Service) (v w : View Request Content) (s : ℕ) (q : Request) (r : Reply) → KnowsAll v → IsServedOn x v w s q r → gate.seen w s ≡ gate.seen v s ++ entry_by v q ∷ []
seen-after x v w s q r h done =
    based-own x v w s q r h done ∙ ap (λ t. gate.base v s ++ t) done.step.adds
    ∙ sym (append_assoc (gate.base v s) (gate.mine v s) (entry_by v q ∷ [])) ∙ ap (λ t. t ++ entry_by v q ∷ []) (sym (h.alone s))

-- so it found just that
front-is : (x : Service) (v w : View Request Content) (s : ℕ) (q : Request) (r : Reply) (h : KnowsAll v) (done : IsServedOn x v w s q r) → done.step.front ≡ gate.seen v s
front-is x v w s q r h done = same-front (gate.seen v s) done.step.front (entry_by v q) done.step.extends (sym done.step.last ∙ seen-after x v w s q r h done)

pub same-map : {X : Type 0} (f g : ℕ → X) (b m : ℕ) → ((k : ℕ) → b ≤ k → g k ≡ f k) → map g (range_with_len b m) ≡ map f (range_with_len b m)
same-map f g b zero same = refl
same-map f g b (suc m) same = ap (λ t. t ∷ map g (range_with_len (b + 1) m)) (same b (omega arith)) ∙ ap (λ t. f b ∷ t) (same-map f g (b + 1) m (λ k later. same k (omega (arith, later))))

pub map-set : {X : Type 0} (f g : ℕ → X) (a n s : ℕ) (y : X) → s < n → g (a + s) ≡ y → ((k : ℕ) → k ≢ a + s → g k ≡ f k) → map g (range_with_len a n) ≡ slice_set (map f (range_with_len a n)) s y
map-set f g a zero s y there here others = absurd (omega arith)
map-set f g a (suc n) zero y there here others =
    ap (λ t. t ∷ map g (range_with_len (a + 1) n)) (ap g (omega arith) ∙ here)
    ∙ ap (λ t. y ∷ t) (same-map f g (a + 1) n (λ k later. others k (λ e. omega (arith, later, e))))
map-set f g a (suc n) (suc s) y there here others =
    ap (λ t. t ∷ map g (range_with_len (a + 1) n)) (others a (λ e. omega (arith, e)))
    ∙ ap (λ t. f a ∷ t) (map-set f g (a + 1) n s y (omega arith) (ap g (omega arith) ∙ here) (λ k apart. others k (λ e. apart (omega (arith, e)))))

content-here : (K : Settings) (v : View Request Content) (s : ℕ) → s < K.shards → content_at K (contents_seen K v) s ≡ content_seen K v s
content-here K v s below = get_or-map-range_with_len (content_seen K v) 0 K.shards s s (opening (setup_of K s)) below (omega arith)

pub record-here : (K : Settings) (v : View Request Content) (s : ℕ) → s < K.shards → record_at (records_seen K v) s ≡ gate.seen v s
record-here K v s below = get_or-map-range_with_len (gate.seen v) 0 K.shards s s [] below (omega arith)

-- it started where it did
start-same : (K : Settings) (v w : View Request Content) (s : ℕ) → gate.IsSame v w → start_seen K w s ≡ start_seen K v s
start-same K v w s same = ap (λ o. slice_index_or o.starts s (opening (setup_of K s))) same.1

-- the contents and the records are as they were where nothing was seen
pub contents-same : (K : Settings) (v w : View Request Content) → gate.SeenNothing v w → contents_seen K w ≡ contents_seen K v
contents-same K v w nothing = same-map (content_seen K v) (content_seen K w) 0 K.shards (λ k there.
    ap (λ c. replay after c (gate.seen w k)) (start-same K v w k nothing.same) ∙ ap (replay after (start_seen K v k)) (nothing.sees k))

pub records-same : (K : Settings) (v w : View Request Content) → gate.SeenNothing v w → records_seen K w ≡ records_seen K v
records-same K v w nothing = same-map (gate.seen v) (gate.seen w) 0 K.shards (λ k there. nothing.sees k)

-- the content of each shard after a step: that of the step is one request on
contents-served : (x : Service) (v w : View Request Content) (s : ℕ) (q : Request) (r : Reply) → KnowsAll v → s < x.settings.shards → IsServedOn x v w s q r →
    contents_seen x.settings w ≡ slice_set (contents_seen x.settings v) s (after (content_at x.settings (contents_seen x.settings v) s) q)
contents-served x v w s q r h below done =
    let K = x.settings in
    let start = start_seen K v s in
    let here : content_seen K w s ≡ after (content_at K (contents_seen K v) s) q =
    ap (λ c. replay after c (gate.seen w s)) (start-same K v w s done.same) ∙ ap (replay after start) done.step.last ∙ replay-push start done.step.front (record { pass = gate.number v; request = q })
    ∙ ap (λ c. after c q) (ap (replay after start) (front-is x v w s q r h done) ∙ sym (content-here K v s below)) in
    map-set (content_seen K v) (content_seen K w) 0 K.shards s _ below
    (ap (content_seen K w) (omega arith) ∙ here)
    (λ k apart. ap (λ c. replay after c (gate.seen w k)) (start-same K v w k done.same) ∙ ap (replay after (start_seen K v k)) (done.step.others k (λ e. apart (e ∙ omega arith))).0)

-- the record of each shard after a step: that of the step is one entry longer
records-served : (x : Service) (v w : View Request Content) (s : ℕ) (q : Request) (r : Reply) → KnowsAll v → s < x.settings.shards → IsServedOn x v w s q r →
    records_seen x.settings w ≡ slice_set (records_seen x.settings v) s (recorded (record_at (records_seen x.settings v) s) q)
records-served x v w s q r h below done =
    let K = x.settings in
    let with_pass : ℕ → List Entry = λ n. gate.seen v s ++ record { pass = n; request = q } ∷ [] in
    let here : gate.seen w s ≡ recorded (record_at (records_seen K v) s) q =
    seen-after x v w s q r h done ∙ ap with_pass h.first ∙ ap (λ log. recorded log q) (sym (record-here K v s below)) in
    map-set (gate.seen v) (gate.seen w) 0 K.shards s _ below
    (ap (gate.seen w) (omega arith) ∙ here)
    (λ k apart. (done.step.others k (λ e. apart (e ∙ omega arith))).0)

-- the shard of a step is there
served-within : (x : Service) (v w : View Request Content) (s : ℕ) (q : Request) (r : Reply) → KnowsAll v → IsServedOn x v w s q r → s < gate.width v
served-within x v w s q r h done = let low = slice_get_within (gate.starts v) s (start_of x s) done.opened in omega (arith, low, h.wide)

-- the steps after a step: that one is the last
steps-served : (x : Service) (v w : View Request Content) (s : ℕ) (q : Request) (r : Reply) → KnowsAll v → IsServedOn x v w s q r → steps_seen w ≡ steps_seen v ++ (s, entry_of q) ∷ []
steps-served x v w s q r h done =
    let stamp = done.ticket in
    let pairs : length (gate.tickets w s) ≡ length (gate.mine w s) = paired-after x v w s q r h done s in
    let behind = ticket-behind (gate.tickets v s) stamp.front (gate.tickets w s) stamp.ticket (gate.mine v s) (gate.mine w s) (entry_by v q) stamp.extends stamp.last (h.paired s) done.step.adds pairs in
    let with_pass : ℕ → List (ℕ × Entry) = λ n. steps_seen v ++ (s, record { pass = n; request = q }) ∷ [] in
    steps-more v w s stamp.ticket (entry_by v q) done.same (served-within x v w s q r h done) (h.paired s) done.step.adds behind
    (λ k ne. (done.step.others k ne).1) stamp.others stamp.above
    ∙ ap with_pass h.first

-- the reply is the shard's at its content
reply-served : (x : Service) (v w : View Request Content) (s : ℕ) (q : Request) (r : Reply) → KnowsAll v → s < x.settings.shards → IsServedOn x v w s q r →
    r ≡ answer (content_at x.settings (contents_seen x.settings v) s) q
reply-served x v w s q r h below done =
    let K = x.settings in
    let started : start_of x s ≡ start_seen K v s = found-at (gate.starts v) s (opening (setup_of K s)) (start_of x s) done.opened in
    let found : replay after (start_of x s) done.step.front ≡ content_seen K v s =
    ap (λ c. replay after c done.step.front) started ∙ ap (replay after (start_seen K v s)) (front-is x v w s q r h done) in
    done.answered.reply ∙ ap (λ t. answer t q) (found ∙ sym (content-here K v s below))

-- what a call came to
abbrev pub came : Reply → World → Came
came r W = record { reply = r; world = W }

-- the world of other contents, records and steps
abbrev world_of : List Content → List (List Entry) → List (ℕ × Entry) → List HintView → World
world_of cs logs steps hs = record { contents = cs; waiting = map waiting_of hs; records = logs; steps = steps }

served-is : (x : Service) (v w : View Request Content) (hs : List HintView) (s : ℕ) (q : Request) (r : Reply) → KnowsAll v → s < x.settings.shards → IsServedOn x v w s q r →
    came r (world_seen x.settings w hs) ≡ stepped x.settings (world_seen x.settings v hs) s q
served-is x v w hs s q r h below done =
    let K = x.settings in
    let reply = answer (content_at K (contents_seen K v) s) q in
    let contents = slice_set (contents_seen K v) s (after (content_at K (contents_seen K v) s) q) in
    let logs = slice_set (records_seen K v) s (recorded (record_at (records_seen K v) s) q) in
    ap (λ t. came t (world_seen K w hs)) (reply-served x v w s q r h below done)
    ∙ ap (λ cs. came reply (world_of cs (records_seen K w) (steps_seen w) hs)) (contents-served x v w s q r h below done)
    ∙ ap (λ rs. came reply (world_of contents rs (steps_seen w) hs)) (records-served x v w s q r h below done)
    ∙ ap (λ steps. came reply (world_of contents logs steps hs)) (steps-served x v w s q r h done)

-- a step that was served comes to what the world's does
pub step-is : (x : Service) (v w : View Request Content) (hs : List HintView) (s : ℕ) (q : Request) (r : Reply) → KnowsAll v → s < x.settings.shards → IsServedAtLast x v w s q r →
    came r (world_seen x.settings w hs) ≡ stepped x.settings (world_seen x.settings v hs) s q
step-is x v w hs s q r h below done =
    let nothing = done.waited.nothing in
    served-is x done.met w hs s q r (knows-same v done.met h nothing) below done.served
    ∙ ap (λ cs. stepped x.settings (world_of cs (records_seen x.settings done.met) (steps_seen done.met) hs) s q) (contents-same x.settings v done.met nothing)
    ∙ ap (λ logs. stepped x.settings (world_of (contents_seen x.settings v) logs (steps_seen done.met) hs) s q) (records-same x.settings v done.met nothing)
    ∙ ap (λ steps. stepped x.settings (world_of (contents_seen x.settings v) (records_seen x.settings v) steps hs) s q) (steps-same v done.met nothing.same nothing.has nothing.tickets)

pub knows-step : (x : Service) (v w : View Request Content) (s : ℕ) (q : Request) (r : Reply) → KnowsAll v → IsServedAtLast x v w s q r → KnowsAll w
knows-step x v w s q r h done = knows-served x done.met w s q r (knows-same v done.met h done.waited.nothing) done.served

-- the same, where it may have been refused before any shard was entered
pub answered-is : (x : Service) (v w : View Request Content) (hs : List HintView) (o : Option Refusal) (s : ℕ) (q : Request) (r : Reply) → KnowsAll v → (o ≡ None → s < x.settings.shards) → Answered o (IsServedAtLast x v w s q r) v w r →
    came r (world_seen x.settings w hs) ≡ unless o (world_seen x.settings v hs) (stepped x.settings (world_seen x.settings v hs) s q)
answered-is x v w hs None s q r h below done = step-is x v w hs s q r h (below refl) done
answered-is x v w hs (Some e) s q r h below done = ap (λ t. came t (world_seen x.settings w hs)) done.0 ∙ ap (λ u. came (Err e) (world_seen x.settings u hs)) done.1

pub knows-answered : (x : Service) (v w : View Request Content) (o : Option Refusal) (s : ℕ) (q : Request) (r : Reply) → KnowsAll v → Answered o (IsServedAtLast x v w s q r) v w r → KnowsAll w
knows-answered x v w None s q r h done = knows-step x v w s q r h done
knows-answered x v w (Some e) s q r h done = let P : View Request Content → Type 0 = λ u. KnowsAll u in subst P (sym done.1) h
