-- lines that readers found, and their texts
use Rattle.std.proofs.Common.{◌≡◌, ◌≢◌, ◌⊎◌, inl, inr, ◌<◌, ◌≤◌, ◌+◌, ◌-◌, ℕ, zero, suc, List, [], ◌∷◌, ◌++◌, take, drop, map, set, length, get_or, false, Option, Some, Result, Ok, Err, refl, sym, ap, subst, ◌∙◌, append_assoc, arith}
use Rattle.std.proofs.Math.Seq.{drop-append_seam, take-append_seam}
use Rattle.std.specs.Prelude.{slice_range}
use Rattle.std.proofs.lemmas.List.{append-nil, get_or-set_other, get_or-set_same, length-append, map-append, take-append-drop, take-append-le, take_all, take_more, take_more_set}
use Rattle.std.proofs.lemmas.List.Concat.{flat_map-append}
use Rattle.std.proofs.lemmas.Bool.{cases_eq}
use Rattle.wf_event_values.specs.Gives.{Gives}
use Rattle.wf_event_values.specs.declared.refusal.Refusal.{Refusal}
use Rattle.wf_event_values.specs.declared.refusal.Refusal.TheVariants.{NoMemory}
use Rattle.service_model_types.specs.declared.settings.Settings.{Settings}
use Rattle.wire_requests.specs.declared.calls.Asked.{Asked}
use Rattle.script.specs.Asked.{asked}
use Rattle.script.specs.Lines.{Line}
use Rattle.script.specs.Pending.{ended, grown, has_feed, left}
use Rattle.script.proofs.PartLemmas.{ended-free, ended-line, left-line}
use Rattle.script.proofs.Steps.{ended-append, left-append}
use Rattle.lanes.specs.declared.reading.Reader.{Reader}
use Rattle.lanes.specs.declared.run.LaneScript.{LaneScript}
use Rattle.lanes.specs.Course.{Serves, Meets, asks_of}
use Rattle.lanes.specs.declared.sorted.Sorted.{Sorted}
use Rattle.lanes.specs.Lanes.{ArePlain}
use Rattle.lanes.specs.Sorted.{Fits, IsSorted, SortedMore}
use Rattle.lanes.specs.Found.{AllGiven, AllRead, AreFound, AreRead, EndsLines, HasRead, IsGiven, IsRead, lines_in, lines_of, part_of, parts_of}
use Rattle.lanes.specs.ToldLines.{AddedAll, BeginningOf, BeginsFound, BeginsLines, TellsFound, TellsLines, Told}
use Rattle.lanes.proofs.BegunLemmas.{begins-more}
use Rattle.lanes.proofs.SortLemmas.{fits-plain, sorted-push}
use Rattle.lanes.proofs.ToldLemmas.{plain-push, told-all}

-- what was found of a line is what it asks, unless memory ran out
pub found-is : (found asks : Result Asked Refusal) → Gives found asks → found ≢ Err NoMemory → asks ≡ found
found-is (Ok x) asks gives known = gives
found-is (Err e) asks gives known = gives (λ is. known (ap Err is))

-- ---- the lines of a text

pub ends-none : EndsLines []
unfolding left
ends-none = refl

found-push : (K : Settings) (fs : List (Result Asked Refusal)) (ls : List Line) (f : Result Asked Refusal) (l : Line) → AreFound K fs ls → Gives f (asked K l) → AreFound K (fs ++ f ∷ []) (ls ++ l ∷ [])
found-push K [] [] f l h gives = (gives, tt)
found-push K [] (x ∷ ls) f l h gives = absurd h
found-push K (x ∷ fs) [] f l h gives = absurd h
found-push K (x ∷ fs) (y ∷ ls) f l h gives = (h.0, found-push K fs ls f l h.1 gives)

-- the lines of a text with one line more
pub lines-more : (done part : List ℕ) → EndsLines done → has_feed part ≡ false → lines_in (done ++ (part ++ 10 ∷ [])) ≡ lines_in done ++ grown (Some []) part ∷ []
lines-more done part whole free = ended-append (Some []) done (part ++ 10 ∷ []) ∙ ap (λ l. lines_in done ++ ended l (part ++ 10 ∷ [])) whole ∙ ap (λ x. lines_in done ++ x) (ended-line (Some []) part free)

pub ends-line : (done part : List ℕ) → EndsLines (done ++ (part ++ 10 ∷ []))
ends-line done part = left-append (Some []) done (part ++ 10 ∷ []) ∙ left-line (left (Some []) done) part

-- and no more
pub lines-whole : (text done rest : List ℕ) → text ≡ done ++ rest → has_feed rest ≡ false → lines_in text ≡ lines_in done
lines-whole text done rest is free = ap lines_in is ∙ ended-append (Some []) done rest ∙ ap (λ x. lines_in done ++ x) (ended-free (left (Some []) done) rest free) ∙ append-nil (lines_in done)

-- ---- lines that a reader keeps

pub read-none : (K : Settings) (s : Sorted) (fs : List (Result Asked Refusal)) → IsSorted [] s → fs ≡ [] → AreRead K s fs (lines_in [])
unfolding ended
read-none K s fs h none = record { front = []; back = []; parts = refl; sorted = h; plain = refl; waits = subst (λ x. AreFound K x []) (sym none) tt }

-- one more is sorted
pub read-sorted : (K : Settings) (count : ℕ) (s s' : Sorted) (fs : List (Result Asked Refusal)) (lines : List Line) (one : Result Asked Refusal) (line : Line) → fs ≡ [] → Fits count one → one ≢ Err NoMemory → SortedMore one s s' → Gives one (asked K line)
    → AreRead K s fs lines → AreRead K s' fs (lines ++ line ∷ [])
read-sorted K count s s' fs lines one line none fits known more gives r = go r.back r.parts (subst (λ x. AreFound K x r.back) none r.waits)
  where
    go : (back : List Line) → lines ≡ r.front ++ back → AreFound K [] back → AreRead K s' fs (lines ++ line ∷ [])
    go (x ∷ back) parts h = absurd h
    go [] parts h =
        let is : asked K line ≡ one = found-is one (asked K line) gives known in
        let asks : asks_of K (r.front ++ line ∷ []) ≡ asks_of K r.front ++ one ∷ [] = map-append (asked K) r.front (line ∷ []) ∙ ap (λ x. asks_of K r.front ++ x ∷ []) is in
        record {
          front = r.front ++ line ∷ [];
          back = [];
          parts = ap (λ x. x ++ line ∷ []) (parts ∙ append-nil r.front) ∙ sym (append-nil (r.front ++ line ∷ []));
          sorted = subst (λ x. IsSorted x s') (sym asks) (sorted-push (asks_of K r.front) one s s' more r.sorted);
          plain = subst ArePlain (sym asks) (plain-push (asks_of K r.front) one r.plain (fits-plain count one fits));
          waits = subst (λ x. AreFound K x []) (sym none) tt;
        }

-- one more waits
pub read-found : (K : Settings) (s : Sorted) (fs fs' : List (Result Asked Refusal)) (lines : List Line) (one : Result Asked Refusal) (line : Line) → fs' ≡ fs ++ one ∷ [] → Gives one (asked K line) → AreRead K s fs lines → AreRead K s fs' (lines ++ line ∷ [])
read-found K s fs fs' lines one line grows gives r = record {
  front = r.front;
  back = r.back ++ line ∷ [];
  parts = ap (λ x. x ++ line ∷ []) r.parts ∙ append_assoc r.front r.back (line ∷ []);
  sorted = r.sorted;
  plain = r.plain;
  waits = subst (λ x. AreFound K x (r.back ++ line ∷ [])) (sym grows) (found-push K fs r.back one line r.waits gives);
}

-- ---- lines that are taken from a reader

module _ {Keeper Plan : Type 0} where
  -- the first of these lines were told of, and those after them were found
  pub record Taking (serves : Serves) (meets : Meets) (K : Settings) (lines : List Line) (found : List (Result Asked Refusal)) (s s' : LaneScript Keeper Plan) (w w' : Option (List ℕ)) : Type 0 where
    pub done : List Line
    pub rest : List Line
    pub parts : lines ≡ done ++ rest
    pub behind : AreFound K found rest
    pub told : TellsLines serves meets K done s s' w w'

  pub taking-none : {serves : Serves} {meets : Meets} (K : Settings) (lines : List Line) (found : List (Result Asked Refusal)) (s : LaneScript Keeper Plan) (w : Option (List ℕ)) → AreFound K found lines → Taking serves meets K lines found s s w w
  taking-none {serves} {meets} K lines found s w h = record {
    done = [];
    rest = lines;
    parts = refl;
    behind = h;
    told = λ pt before held told. subst (λ ls. Told serves meets K pt ls s held w) (sym (append-nil before)) told;
  }

  pub taking-one : {serves : Serves} {meets : Meets} (K : Settings) (lines : List Line) (f : Result Asked Refusal) (found : List (Result Asked Refusal)) (s m s' : LaneScript Keeper Plan) (w w1 w' : Option (List ℕ)) → TellsFound serves meets f m s' w1 w'
      → Taking serves meets K lines (f ∷ found) s m w w1 → Taking serves meets K lines found s s' w w'
  taking-one {serves} {meets} K lines f found s m s' w w1 w' step t = go t.rest t.parts t.behind
    where
      go : (rest : List Line) → lines ≡ t.done ++ rest → AreFound K (f ∷ found) rest → Taking serves meets K lines found s s' w w'
      go [] parts h = absurd h
      go (line ∷ rest) parts h = record {
        done = t.done ++ line ∷ [];
        rest = rest;
        parts = parts ∙ sym (append_assoc t.done (line ∷ []) rest);
        behind = h.1;
        told = λ pt before held told. subst (λ ls. Told serves meets K pt ls s' held w') (append_assoc before t.done (line ∷ [])) (step K line h.0 pt (before ++ t.done) held (t.told pt before held told));
      }

  pub taking-all : {serves : Serves} {meets : Meets} (K : Settings) (lines : List Line) (s s' : LaneScript Keeper Plan) (w w' : Option (List ℕ)) → Taking serves meets K lines [] s s' w w' → TellsLines serves meets K lines s s' w w'
  taking-all {serves} {meets} K lines s s' w w' t = go t.rest t.parts t.behind
    where
      go : (rest : List Line) → lines ≡ t.done ++ rest → AreFound K [] rest → TellsLines serves meets K lines s s' w w'
      go [] parts h = subst (λ ls. TellsLines serves meets K ls s s' w w') (sym (parts ∙ append-nil t.done)) t.told
      go (line ∷ rest) parts h = absurd h

  pub taking-begun : {serves : Serves} {meets : Meets} (K : Settings) (lines : List Line) (f : Result Asked Refusal) (found : List (Result Asked Refusal)) (s m : LaneScript Keeper Plan) (w w1 w' : Option (List ℕ)) → BeginsFound serves meets f m w1 w'
      → Taking serves meets K lines (f ∷ found) s m w w1 → BeginsLines serves meets K lines s w w'
  taking-begun {serves} {meets} K lines f found s m w w1 w' step t = go t.rest t.parts t.behind
    where
      go : (rest : List Line) → lines ≡ t.done ++ rest → AreFound K (f ∷ found) rest → BeginsLines serves meets K lines s w w'
      go [] parts h = absurd h
      go (line ∷ rest) parts h = λ pt before held told.
          let b = step K line h.0 pt (before ++ t.done) held (t.told pt before held told) in
          let all : ((before ++ t.done) ++ line ∷ []) ++ rest ≡ before ++ lines = append_assoc (before ++ t.done) (line ∷ []) rest ∙ append_assoc before t.done (line ∷ rest) ∙ ap (λ x. before ++ x) (sym parts) in
          subst (λ ls. BeginningOf serves meets K pt ls held w') all (begins-more ((before ++ t.done) ++ line ∷ []) rest held w' b)

-- ---- lines that a reader sorted, and those that wait after them

module _ {Keeper Plan : Type 0} where
  pub read-tells : {serves : Serves} {meets : Meets} (K : Settings) (sorted : Sorted) (found : List (Result Asked Refusal)) (lines : List Line) (s s1 s' : LaneScript Keeper Plan) (w w' : Option (List ℕ)) → ((asks : List (Result Asked Refusal)) → IsSorted asks sorted → AddedAll asks s s1)
      → ((K : Settings) (more : List Line) → AreFound K found more → TellsLines serves meets K more s1 s' w w') → AreRead K sorted found lines → TellsLines serves meets K lines s s' w w'
  read-tells {serves} {meets} K sorted found lines s s1 s' w w' added step r pt before held told =
      subst (λ ls. Told serves meets K pt ls s' held w') (append_assoc before r.front r.back ∙ ap (λ x. before ++ x) (sym r.parts))
      (step K r.back r.waits pt (before ++ r.front) held (told-all before r.front s s1 held w (added (asks_of K r.front) r.sorted) r.plain told))

  pub read-begins : {serves : Serves} {meets : Meets} (K : Settings) (sorted : Sorted) (found : List (Result Asked Refusal)) (lines : List Line) (s s1 : LaneScript Keeper Plan) (w w' : Option (List ℕ)) → ((asks : List (Result Asked Refusal)) → IsSorted asks sorted → AddedAll asks s s1)
      → ((K : Settings) (more : List Line) → AreFound K found more → BeginsLines serves meets K more s1 w w') → AreRead K sorted found lines → BeginsLines serves meets K lines s w w'
  read-begins {serves} {meets} K sorted found lines s s1 w w' added step r pt before held told =
      subst (λ ls. BeginningOf serves meets K pt ls held w') (append_assoc before r.front r.back ∙ ap (λ x. before ++ x) (sym r.parts))
      (step K r.back r.waits pt (before ++ r.front) held (told-all before r.front s s1 held w (added (asks_of K r.front) r.sorted) r.plain told))

-- ---- the parts of readers

-- a part that stands in a text after another
part-behind : (text front part behind : List ℕ) (from to : ℕ) → text ≡ front ++ (part ++ behind) → from ≡ length front → to ≡ length front + length part → slice_range text from to ≡ part
part-behind text front part behind from to is begins ends =
    ap (λ n. take (to - n) (drop n text)) begins ∙ ap (λ t. take (to - length front) (drop (length front) t)) is ∙ ap (take (to - length front)) (drop-append_seam front (part ++ behind))
    ∙ ap (λ n. take n (part ++ behind)) (let e : to - length front ≡ length part = omega (arith, ends) in e) ∙ take-append_seam part behind

module _ (text : List ℕ) where
  -- the parts of the first readers, the rest of the text, and the parts so far
  pub record Giving (readers : List Reader) (k : ℕ) (rest : List ℕ) : Type 0 where
    pub parts : text ≡ parts_of text (take k readers) ++ rest
    pub given : (j : ℕ) (d : Reader) → j < k → IsGiven text (get_or readers j d)

  pub giving-none : (readers : List Reader) → Giving readers 0 text
  giving-none readers = record { parts = refl; given = λ j d below. absurd (omega (arith, below)) }

  -- a reader more has its part
  pub giving-one : (readers : List Reader) (k : ℕ) (rest part behind : List ℕ) (r : Reader) → k < length readers → rest ≡ part ++ behind → EndsLines part → r.from ≡ length text - length rest → r.to ≡ length text - length behind
      → Giving readers k rest → Giving (set readers k r) (k + 1) behind
  giving-one readers k rest part behind r below is whole from to h = record {
    parts = h.parts ∙ ap (λ x. front ++ x) is ∙ sym (append_assoc front part behind) ∙ ap (λ x. x ++ behind) (sym now);
    given = λ j d within. by_place j d within (cases_eq j k);
  }
    where
      front : List ℕ
      front = parts_of text (take k readers)

      all : text ≡ front ++ (part ++ behind)
      all = h.parts ∙ ap (λ x. front ++ x) is

      count : length text ≡ length front + (length part + length behind)
      count = ap length all ∙ length-append front (part ++ behind) ∙ ap (λ n. length front + n) (length-append part behind)

      counts : length rest ≡ length part + length behind
      counts = ap length is ∙ length-append part behind

      here : part_of text r ≡ part
      here = part-behind text front part behind r.from r.to all (omega (arith, from, count, counts)) (omega (arith, to, count))

      now : parts_of text (take (k + 1) (set readers k r)) ≡ front ++ part
      now = ap (parts_of text) (take_more_set readers k r below) ∙ flat_map-append (part_of text) (take k readers) (r ∷ []) ∙ ap (λ x. front ++ x) (append-nil (part_of text r) ∙ here)

      own : IsGiven text r
      own = record { begins = omega (arith, from, to, count, counts); ends = omega (arith, to); whole = subst EndsLines (sym here) whole }

      by_place : (j : ℕ) (d : Reader) → j < k + 1 → (j ≡ k) ⊎ (¬ (j ≡ k)) → IsGiven text (get_or (set readers k r) j d)
      by_place j d within (inl same) = subst (IsGiven text) (sym (ap (λ n. get_or (set readers k r) n d) same ∙ get_or-set_same readers k r d below)) own
      by_place j d within (inr other) = subst (IsGiven text) (sym (get_or-set_other readers k j r d other)) (h.given j d (omega (arith, within, other)))

  pub giving-all : (readers : List Reader) (k : ℕ) (rest : List ℕ) → length readers ≤ k → Giving readers k rest → (text ≡ parts_of text readers ++ rest) × AllGiven text readers
  giving-all readers k rest past h = (h.parts ∙ ap (λ x. parts_of text x ++ rest) (take_all k readers past), λ j d below. h.given j d (omega (arith, past, below)))

  -- the lines of parts that end lines are those of the parts together
  pub lines-parts : (readers : List Reader) → AllGiven text readers → (lines_of (map (λ (r : Reader). lines_in (part_of text r)) readers) ≡ lines_in (parts_of text readers)) × EndsLines (parts_of text readers)
  unfolding ended left
  lines-parts [] h = (refl, refl)
  lines-parts (r ∷ readers) h =
      let one : IsGiven text r = h 0 r (omega arith) in
      let more = lines-parts readers (λ k d below. h (suc k) d (omega (arith, below))) in
      let part = part_of text r in
      let rest = parts_of text readers in (
        ap (λ x. lines_in part ++ x) more.0 ∙ ap (λ l. lines_in part ++ ended l rest) (sym one.whole) ∙ sym (ended-append (Some []) part rest),
        left-append (Some []) part rest ∙ ap (λ l. left l rest) one.whole ∙ more.1,
      )

  -- readers that have read their parts have read the lines of these
  pub all-read : (K : Settings) (rs ss : List Reader) → length ss ≡ length rs → ((k : ℕ) (d : Reader) → k < length rs → HasRead K text (get_or rs k d) (get_or ss k d)) → AllRead K ss (map (λ (r : Reader). lines_in (part_of text r)) rs)
  all-read K [] [] count each = tt
  all-read K [] (s ∷ ss) count each = absurd (omega (arith, count))
  all-read K (r ∷ rs) [] count each = absurd (omega (arith, count))
  all-read K (r ∷ rs) (s ∷ ss) count each = (each 0 r (omega arith), all-read K rs ss (omega (arith, count)) (λ k d below. each (suc k) d (omega (arith, below))))

-- ---- readers whose lines are taken

pub read-count : (K : Settings) (rs : List Reader) (parts : List (List Line)) → AllRead K rs parts → length parts ≡ length rs
read-count K [] [] h = refl
read-count K [] (lines ∷ parts) h = absurd h
read-count K (r ∷ rs) [] h = absurd h
read-count K (r ∷ rs) (lines ∷ parts) h = ap suc (read-count K rs parts h.1)

pub read-at : (K : Settings) (rs : List Reader) (parts : List (List Line)) (k : ℕ) (d : Reader) → AllRead K rs parts → k < length rs → IsRead K (get_or rs k d) (get_or parts k [])
read-at K [] parts k d h below = absurd (omega (arith, below))
read-at K (r ∷ rs) [] k d h below = absurd h
read-at K (r ∷ rs) (lines ∷ parts) zero d h below = h.0
read-at K (r ∷ rs) (lines ∷ parts) (suc k) d h below = read-at K rs parts k d h.1 (omega (arith, below))

-- the lines of one reader more
pub lines-one : (parts : List (List Line)) (k : ℕ) → k < length parts → lines_of (take (k + 1) parts) ≡ lines_of (take k parts) ++ get_or parts k []
lines-one parts k below = ap lines_of (take_more parts k [] below) ∙ flat_map-append (λ (lines : List Line). lines) (take k parts) (get_or parts k [] ∷ []) ∙ ap (λ x. lines_of (take k parts) ++ x) (append-nil (get_or parts k []))

-- the lines of the first readers, of the next one, and of those after it
pub lines-split : (parts : List (List Line)) (k : ℕ) → k < length parts → lines_of parts ≡ (lines_of (take k parts) ++ get_or parts k []) ++ lines_of (drop (k + 1) parts)
lines-split parts k below =
    ap lines_of (sym (take-append-drop (k + 1) parts)) ∙ flat_map-append (λ (lines : List Line). lines) (take (k + 1) parts) (drop (k + 1) parts) ∙ ap (λ x. x ++ lines_of (drop (k + 1) parts)) (lines-one parts k below)

module _ {Keeper Plan : Type 0} where
  -- no lines
  pub tells-none : {serves : Serves} {meets : Meets} (K : Settings) (s : LaneScript Keeper Plan) (w : Option (List ℕ)) → TellsLines serves meets K [] s s w w
  tells-none {serves} {meets} K s w pt before held told = subst (λ ls. Told serves meets K pt ls s held w) (sym (append-nil before)) told

  -- some lines, and then others
  pub tells-then : {serves : Serves} {meets : Meets} (K : Settings) (a b : List Line) (s m s' : LaneScript Keeper Plan) (w w1 w' : Option (List ℕ)) → TellsLines serves meets K a s m w w1 → TellsLines serves meets K b m s' w1 w' → TellsLines serves meets K (a ++ b) s s' w w'
  tells-then {serves} {meets} K a b s m s' w w1 w' one two pt before held told = subst (λ ls. Told serves meets K pt ls s' held w') (append_assoc before a b) (two pt (before ++ a) held (one pt before held told))

  -- some lines, a beginning of others, and nothing of those after them
  pub begins-within : {serves : Serves} {meets : Meets} (K : Settings) (a b c : List Line) (s m : LaneScript Keeper Plan) (w w1 w' : Option (List ℕ)) → TellsLines serves meets K a s m w w1 → BeginsLines serves meets K b m w1 w' → BeginsLines serves meets K ((a ++ b) ++ c) s w w'
  begins-within {serves} {meets} K a b c s m w w1 w' one two pt before held told =
      let both = subst (λ ls. BeginningOf serves meets K pt ls held w') (append_assoc before a b) (two pt (before ++ a) held (one pt before held told)) in
      subst (λ ls. BeginningOf serves meets K pt ls held w') (append_assoc before (a ++ b) c) (begins-more (before ++ (a ++ b)) c held w' both)

-- a text up to a line feed
pub cut-ends : (text a part b : List ℕ) (n : ℕ) → text ≡ a ++ (part ++ 10 ∷ b) → n ≡ length (a ++ (part ++ 10 ∷ [])) → EndsLines (take n text)
cut-ends text a part b n is count =
    let whole : text ≡ (a ++ (part ++ 10 ∷ [])) ++ b = is ∙ ap (λ x. a ++ x) (sym (append_assoc part (10 ∷ []) b)) ∙ sym (append_assoc a (part ++ 10 ∷ []) b) in
    let front : take n text ≡ a ++ (part ++ 10 ∷ []) = ap (take n) whole ∙ take-append-le n (a ++ (part ++ 10 ∷ [])) b (omega (arith, count)) ∙ take_all n (a ++ (part ++ 10 ∷ [])) (omega (arith, count)) in
    subst EndsLines (sym front) (ends-line a part)
