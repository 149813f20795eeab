-- PROOF: what becomes of lanes within a phase
use Rattle.std.specs.Prelude.{◌≡◌, ℕ, suc, ◌+◌, ◌<◌, drop, ◌==◌, if◌then◌else◌, Bool, true, false, List, [], ◌∷◌, ◌++◌, length, map, set, get_or, slice_get, Option, None, Some, Result, Ok, Err}
use Rattle.std.specs.List.{list_any}
use Rattle.wf_event_values.specs.declared.field.Field.TheVariants as field
use Rattle.wf_event_values.specs.declared.refusal.Refusal.{Refusal}
use Rattle.wf_event_values.specs.declared.refusal.Refusal.TheVariants.{InvalidArgument}
use Rattle.service_model_types.specs.Replies.{Reply}
use Rattle.service.specs.ServiceViews.{Pass}
use Rattle.wire_requests.specs.declared.calls.Asked.{Asked}
use Rattle.wire_requests.specs.declared.calls.Asked.TheVariants.{Barrier as a_barrier, Call as in_a_lane}
use Rattle.lanes.specs.declared.calls.LineCall.{LineCall}
use Rattle.lanes.specs.declared.lane.Lane.{Lane}
use Rattle.lanes.specs.declared.place.Place.{Place}
use Rattle.lanes.specs.declared.place.Place.TheVariants.{Barrier, Refused, InLane}
use Rattle.lanes.specs.Calls.{number_at, waiting}
use Rattle.lanes.specs.Answers.{AreKept, AreLines, LineReply, Wrote}
use Rattle.lanes.specs.Course.{Serves, InTurn}

-- what a line was found to be
abbrev pub place_in : Result Asked Refusal → Place
place_in (Ok a_barrier) = Barrier
place_in (Ok (in_a_lane c)) = InLane c.lane
place_in (Err refusal) = Refused refusal

abbrev pub is_barrier : Place → Bool
is_barrier Barrier = true
is_barrier _ = false

-- no line of these is a barrier
abbrev pub ArePlain : List (Result Asked Refusal) → Type 0
ArePlain lines = list_any is_barrier (map place_in lines) ≡ false

module _ {Keeper Plan : Type 0} where
  -- the passes of lanes
  abbrev pub passes_of : List (Lane Keeper Plan) → List Pass
  passes_of lanes = map (λ (l : Lane Keeper Plan). l.pass) lanes

  -- the calls that a lane is to make
  abbrev pub calls_of : Lane Keeper Plan → List LineCall
  calls_of l = waiting l.asked

  -- these are the replies of a lane that were not taken
  abbrev pub Left : Lane Keeper Plan → List LineReply → Type 0
  Left l rs = AreLines l.replies.text.items (drop l.taken l.replies.answers.items) rs

  -- likewise of each lane
  abbrev pub AllLeft : List (Lane Keeper Plan) → List (List LineReply) → Type 0
  AllLeft [] [] = Unit {0}
  AllLeft [] (rs ∷ rss) = ⊥
  AllLeft (l ∷ ls) [] = ⊥
  AllLeft (l ∷ ls) (rs ∷ rss) = Left l rs × AllLeft ls rss

-- ---- calls that wait

-- a call for one lane, as any lane has it
abbrev pub only_in : ℕ → LineCall → ℕ → List LineCall
only_in lane call k = if lane == k then call ∷ [] else []

-- what the line with this number asks of a lane
abbrev pub own_calls : ℕ → ℕ → Result Asked Refusal → List LineCall
own_calls k number (Ok a_barrier) = []
own_calls k number (Ok (in_a_lane c)) = only_in c.lane (record { line = number; call = c.call }) k
own_calls k number (Err refusal) = []

-- the calls of a lane among what lines ask, in their order; the first line has the first of these numbers, and so on
abbrev pub calls_in : ℕ → (ℕ → ℕ) → List (Result Asked Refusal) → List LineCall
calls_in k number [] = []
calls_in k number (ask ∷ asks) = own_calls k (number 0) ask ++ calls_in k (λ i. number (suc i)) asks

module _ {Keeper Plan : Type 0} where
  -- a lane as it was at its place, with these calls more
  pub record HasMore (calls : List LineCall) (ls : List (Lane Keeper Plan)) (k : ℕ) (l' : Lane Keeper Plan) : Type 0 where
    pub before : Lane Keeper Plan
    pub there : slice_get ls k ≡ Some before
    pub asked : calls_of l' ≡ calls_of before ++ calls

  -- each lane was asked these calls more
  pub record WereAsked (calls : ℕ → List LineCall) (ls ls' : List (Lane Keeper Plan)) : Type 0 where
    pub passes : passes_of ls' ≡ passes_of ls
    pub each : (k : ℕ) (l' : Lane Keeper Plan) → slice_get ls' k ≡ Some l' → HasMore (calls k) ls k l'

  -- no lane has a call to make
  abbrev pub AreIdle : List (Lane Keeper Plan) → Type 0
  AreIdle lanes = (k : ℕ) (l : Lane Keeper Plan) → slice_get lanes k ≡ Some l → calls_of l ≡ []

  -- these lines wait, numbered from this number on: each has its place, and each lane the calls that are its own
  pub record Waiting (first : ℕ) (lines : List (Result Asked Refusal)) (ps : List Place) (lanes : List (Lane Keeper Plan)) : Type 0 where
    pub places : ps ≡ map place_in lines
    pub asked : (k : ℕ) (l : Lane Keeper Plan) → slice_get lanes k ≡ Some l → calls_of l ≡ calls_in k (number_at first) lines

-- ---- calls that are made

-- a call of a pass was answered so, under the number of the call's line
abbrev pub Makes : Serves → Pass → LineCall → LineReply → Pass → Type 0
Makes serves p c r p' = (r.number ≡ c.line) × serves p p' c.call r.reply

module _ {Keeper Plan : Type 0} where
  -- a lane answered a call, and the reply's line stands after the others
  pub record ServedOne (serves : Serves) (next : LineCall) (l l' : Lane Keeper Plan) : Type 0 where
    pub reply : Reply
    pub served : serves l.pass l'.pass next.call reply
    pub wrote : Wrote next.line reply l.replies l'.replies

  -- a lane made some of its calls, one after another, and has the others yet to make
  pub record Working (serves : Serves) (l l' : Lane Keeper Plan) : Type 0 where
    pub done : List LineCall
    pub replies : List LineReply
    pub parts : calls_of l ≡ done ++ calls_of l'
    pub turns : InTurn (Makes serves) l.pass done replies l'.pass
    pub kept : AreKept l'.replies replies
    pub taken : l'.taken ≡ 0

-- Calls of a pass were answered one after another, up to the first that memory ran out at. These are the replies, and where there are
-- as many as calls, the pass is this one then.
abbrev pub Answered : Serves → Pass → List LineCall → List LineReply → Pass → Type 0
Answered serves p [] [] p' = p' ≡ p
Answered serves p [] (r ∷ rs) p' = ⊥
Answered serves p (c ∷ calls) [] p' = Unit {0}
Answered serves p (c ∷ calls) (r ∷ rs) p' = (q : Pass) × Makes serves p c r q × Answered serves q calls rs p'

module _ {Keeper Plan : Type 0} where
  -- a lane made its calls, up to the first that memory ran out at, and none of the replies was taken
  pub record Made (serves : Serves) (l l' : Lane Keeper Plan) : Type 0 where
    pub replies : List LineReply
    pub answered : Answered serves l.pass (calls_of l) replies l'.pass
    pub kept : AreKept l'.replies replies
    pub taken : l'.taken ≡ 0

  -- and it has no calls then
  pub record Worked (serves : Serves) (l l' : Lane Keeper Plan) : Type 0 where
    pub made : Made serves l l'
    pub asked : calls_of l' ≡ []

  -- each lane made its calls
  abbrev pub EachWorked : Serves → List (Lane Keeper Plan) → List (Lane Keeper Plan) → Type 0
  EachWorked serves ls ls' = (k : ℕ) (d : Lane Keeper Plan) → k < length ls → Worked serves (get_or ls k d) (get_or ls' k d)

  -- all lanes made their calls: as they are then, and the replies
  pub record Phase (serves : Serves) (ls : List (Lane Keeper Plan)) : Type 0 where
    pub worked : List (Lane Keeper Plan)
    pub replies : List (List LineReply)
    pub count : length worked ≡ length ls
    pub counts : length replies ≡ length ls
    pub each : (k : ℕ) (l : Lane Keeper Plan) (rs : List LineReply) (l' : Lane Keeper Plan) → slice_get ls k ≡ Some l
        → slice_get replies k ≡ Some rs → slice_get worked k ≡ Some l' → Answered serves l.pass (calls_of l) rs l'.pass

-- ---- replies that are taken

module _ {Keeper Plan : Type 0} where
  -- the reply at this place was the first that was not taken, and was taken
  pub record IsBehind (at : ℕ) (l l' : Lane Keeper Plan) : Type 0 where
    pub within : at < length l.replies.answers.items
    pub was : l.taken ≡ at
    pub is : l'.taken ≡ at + 1

-- the first of the replies that a lane has left was taken
pub record TookFirst (lane : ℕ) (rs : List LineReply) (rss : List (List LineReply)) (r : Option Reply)
    (rss' : List (List LineReply)) : Type 0 where
  pub reply : LineReply
  pub rest : List LineReply
  pub is : r ≡ Some reply.reply
  pub first : rs ≡ reply ∷ rest
  pub lanes : rss' ≡ set rss lane rest

-- the reply of a call is the first that its lane has; a lane that is not there is an invalid argument
abbrev pub TookIn : ℕ → Option (List LineReply) → List (List LineReply) → Option Reply → List (List LineReply) → Type 0
TookIn lane None rss r rss' = (r ≡ Some (Err (InvalidArgument field.Lane))) × (rss' ≡ rss)
TookIn lane (Some rs) rss r rss' = TookFirst lane rs rss r rss'

-- the reply of a line, by its place, was taken from those that the lanes have left
abbrev pub Took : List (List LineReply) → Place → Option Reply → List (List LineReply) → Type 0
Took rss Barrier r rss' = (r ≡ None) × (rss' ≡ rss)
Took rss (Refused refusal) r rss' = (r ≡ Some (Err refusal)) × (rss' ≡ rss)
Took rss (InLane lane) r rss' = TookIn lane (slice_get rss lane) rss r rss'
