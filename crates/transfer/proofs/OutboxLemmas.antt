-- one destination's log is replaced by another
use Rattle.std.proofs.Common.{◌≡◌, ◌≢◌, ℕ, ◌+◌, ◌<◌, ◌≤◌, Bool, true, false, cond, List, [], ◌∷◌, length, map, refl, sym, ap, subst, ◌∙◌, arith, get_or-set_same, get_or-set_other}
use Rattle.std.specs.Prelude.{Some, option_map, slice_get, slice_set, slice_index_or, unwrap_or, ◌==◌, if◌then◌else◌}
use Rattle.std.proofs.lemmas.Grind.{get_or-set_at}
use Rattle.std.proofs.lemmas.Bool.Decides.{nat_tests}
use Rattle.std.proofs.lemmas.List.{map-set, length-map}
use Rattle.std.proofs.lemmas.Option.{slice_get_read, slice_get-map, unwrap_or-slice_get}
use Rattle.std.proofs.Math.Seq.{map-set_same}
use Rattle.service_model_types.specs.declared.answer.Acknowledged.{Acknowledged}
use Rattle.service_model_types.specs.declared.transfer.TransferContent.{TransferContent}
use Rattle.transfer.specs.Logs.{Log, Waiting, acknowledged_by, none_waits, one_counted, with_issued}
use Rattle.service_model_types.specs.declared.transfer.Sent.{Sent}
use Rattle.transfer.specs.Outboxes.{outgoing, room_to, issued_to, acknowledged_to, counted_to, sent_to, waiting_to, HasRoomFor}

abbrev waiting_of : Log TransferContent → Waiting TransferContent
waiting_of l = l.waiting

-- the transfers to a destination are those of its log
pub waiting_to-log : (logs : List (Log TransferContent)) (to : ℕ) (old : Log TransferContent) → slice_get logs to ≡ Some old → waiting_to (outgoing logs) to ≡ old.waiting
waiting_to-log logs to old there = ap (λ o. unwrap_or o none_waits) (slice_get-map waiting_of logs to ∙ ap (option_map waiting_of) there)

abbrev room_of : Log TransferContent → ℕ
room_of l = l.room

-- of a list of numbers one is replaced by one that is not less by more than n
number-kept : (rs : List ℕ) (to old new n : ℕ) → to < length rs → slice_index_or rs to 0 ≡ old → old ≤ new + n → (k : ℕ) → slice_index_or rs k 0 ≤ slice_index_or (slice_set rs to new) k 0 + (if k == to then n else 0)
number-kept rs to old new n within was less k = by_test (k == to) refl
  where
    by_test : (b : Bool) → (k == to) ≡ b → slice_index_or rs k 0 ≤ slice_index_or (slice_set rs to new) k 0 + (if b then n else 0)
    by_test true e =
        let same : k ≡ to = grind (arith, nat_tests) in
        let now : slice_index_or (slice_set rs to new) k 0 ≡ new = get_or-set_at rs to k new 0 same within in
        let before : slice_index_or rs k 0 ≡ old = ap (λ j. slice_index_or rs j 0) same ∙ was in
        omega arith
    by_test false e =
        let other : k ≢ to = grind (arith, nat_tests) in
        let stays : slice_index_or (slice_set rs to new) k 0 ≡ slice_index_or rs k 0 = get_or-set_other rs to k new 0 other in
        omega arith

nothing-less : (m n : ℕ) (b : Bool) → m ≤ n + (if b then 0 else 0) → m ≤ n
nothing-less m n true h = omega arith
nothing-less m n false h = omega arith

module _ (logs items : List (Log TransferContent)) (to at : ℕ) (old new : Log TransferContent) (same : items ≡ logs) (place : at ≡ to) (is : old ≡ slice_index_or items at old) (within : to < length logs) where
  is_there : slice_get logs to ≡ Some old
  is_there = slice_get_read logs (length logs) to old refl within (subst (λ (l : List (Log TransferContent)). old ≡ slice_index_or l to old) same (subst (λ (k : ℕ). old ≡ slice_index_or items k old) place is))

  moved : slice_set items at new ≡ slice_set logs to new
  moved = λ i. slice_set (same i) (place i) new

  replaced : outgoing (slice_set items at new) ≡ slice_set (outgoing logs) to new.waiting
  replaced = ap outgoing moved ∙ map-set waiting_of logs to new

  was : waiting_to (outgoing logs) to ≡ old.waiting
  was = waiting_to-log logs to old is_there

  -- one more was issued
  pub outgoing-issued : (content : TransferContent) → new.waiting ≡ with_issued old.waiting (content ∷ []) → outgoing (slice_set items at new) ≡ issued_to (outgoing logs) to content
  outgoing-issued content more = replaced ∙ ap (slice_set (outgoing logs) to) (more ∙ ap (λ (w : Waiting TransferContent). with_issued w (content ∷ [])) (sym was))

  -- the first that waited was acknowledged
  pub outgoing-counted : new.waiting ≡ one_counted old.waiting → outgoing (slice_set items at new) ≡ counted_to (outgoing logs) to
  outgoing-counted count = replaced ∙ ap (slice_set (outgoing logs) to) (count ∙ ap (λ (w : Waiting TransferContent). one_counted w) (sym was))

  -- a number was acknowledged, or not
  pub outgoing-acknowledged : (answer : Acknowledged) → new.waiting ≡ acknowledged_by answer old.waiting → outgoing (slice_set items at new) ≡ acknowledged_to (outgoing logs) to answer
  outgoing-acknowledged answer count = replaced ∙ ap (slice_set (outgoing logs) to) (count ∙ ap (acknowledged_by answer) (sym was))

  -- nothing was issued, and nothing acknowledged
  pub outgoing-same : new.waiting ≡ old.waiting → outgoing (slice_set items at new) ≡ outgoing logs
  outgoing-same stays = ap outgoing moved ∙ map-set_same waiting_of logs to new old (stays ∙ ap waiting_of (sym read))
    where
      read : slice_index_or logs to old ≡ old
      read = sym (unwrap_or-slice_get logs to old) ∙ ap (λ o. unwrap_or o old) is_there

  rooms-moved : map room_of (slice_set items at new) ≡ slice_set (map room_of logs) to new.room
  rooms-moved = ap (map room_of) moved ∙ map-set room_of logs to new

  room-was : slice_index_or (map room_of logs) to 0 ≡ old.room
  room-was = sym (unwrap_or-slice_get (map room_of logs) to 0) ∙ ap (λ o. unwrap_or o 0) (slice_get-map room_of logs to ∙ ap (option_map room_of) is_there)

  inside : to < length (map room_of logs)
  inside = rw length-map within

  -- the room to the destination is the new log's
  pub room_to-there : room_to (slice_set items at new) to ≡ new.room
  room_to-there = ap (λ rs. slice_index_or rs to 0) rooms-moved ∙ get_or-set_same (map room_of logs) to new.room 0 inside

  -- the room to each destination, where the log loses at most so much of its own
  pub room_to-less : (n : ℕ) → old.room ≤ new.room + n → (k : ℕ) → room_to logs k ≤ room_to (slice_set items at new) k + (if k == to then n else 0)
  room_to-less n less k = subst (λ rs. room_to logs k ≤ slice_index_or rs k 0 + (if k == to then n else 0)) (sym rooms-moved) (number-kept (map room_of logs) to old.room new.room n inside room-was less k)

  -- the room to each destination, where the log loses none
  pub room_to-kept : old.room ≤ new.room → (k : ℕ) → room_to logs k ≤ room_to (slice_set items at new) k
  room_to-kept less k = nothing-less _ _ (k == to) (room_to-less 0 (omega arith) k)

-- where all had room, those after the first still have room once it was issued
pub room-behind : (logs now : List (Log TransferContent)) (s : Sent) (rest : List Sent) → length now ≡ length logs → ((k : ℕ) → room_to logs k ≤ room_to now k + (if k == s.to then 1 else 0)) → HasRoomFor logs (s ∷ rest) → HasRoomFor now rest
room-behind logs now s rest count less has = λ k within. by_test k (s.to == k) refl (has k (omega (arith, within, count))) (less k)
  where
    by_test : (k : ℕ) (b : Bool) → (s.to == k) ≡ b → length (cond b (s ∷ sent_to rest k) (sent_to rest k)) ≤ room_to logs k → room_to logs k ≤ room_to now k + (if k == s.to then 1 else 0) → length (sent_to rest k) ≤ room_to now k
    by_test k true e fits l = let most : (if k == s.to then 1 else 0) ≤ 1 = at_most (k == s.to) in omega (arith, fits, l, most)
      where
        at_most : (b : Bool) → (if b then 1 else 0) ≤ 1
        at_most true = omega arith
        at_most false = omega arith
    by_test k false e fits l =
        let other : (k == s.to) ≡ false = grind (arith, nat_tests) in
        let same : room_to logs k ≤ room_to now k + 0 = subst (λ (b : Bool). room_to logs k ≤ room_to now k + (if b then 1 else 0)) other l in
        omega (arith, fits, same)
