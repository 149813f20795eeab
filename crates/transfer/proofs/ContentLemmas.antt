-- what waits to be acknowledged, as transfers are sent and counted, beside the transfers of the sequential service's content
use Rattle.std.proofs.Common.{◌≡◌, ℕ, zero, suc, ◌+◌, ◌-◌, ◌<◌, ◌≤◌, true, false, cond, List, [], ◌∷◌, ◌++◌, map, filter, length, length-append, length-drop, replicate, refl, sym, ap, ◌∙◌, subst, arith, append-nil, append_assoc}
use Rattle.std.specs.Prelude.{◌==◌, drop, slice_get}
use Rattle.std.proofs.lemmas.List.{drop-append-le, drop-drop}
use Rattle.std.proofs.lemmas.Bool.Decides.{nat_tests}
use Rattle.service_model_types.specs.declared.content.Outgoing.{Outgoing}
use Rattle.service_model_types.specs.declared.transfer.Sent.{Sent}
use Rattle.service_model_types.specs.declared.transfer.TransferContent.{TransferContent}
use Rattle.service_model.specs.Counts.{outgoing_to}
use Rattle.service_model.specs.Service as service
use Rattle.transfer.specs.Logs.{Waiting, count_issued, none_waits, one_counted, with_issued}
use Rattle.transfer.specs.Outboxes.{AreIssued, counted_to, issued_to, rest_of, sent_to, waiting_to, with_all_sent, with_sent}

-- transfers that a step sends are issued one after another
pub with_all_sent-nil : (to : ℕ) (all : List (Waiting TransferContent)) → with_all_sent [] to all ≡ all
with_all_sent-nil to [] = refl
with_all_sent-nil to (o ∷ os) = λ i. record { items = append-nil o.items i; counted = o.counted } ∷ with_all_sent-nil (to + 1) os i

-- what is sent to one destination, where the first is for another, or for it
with_sent-skip : (s : Sent) (sent : List Sent) (to : ℕ) (w : Waiting TransferContent) → (s.to == to) ≡ false → with_sent (s ∷ sent) to w ≡ with_sent sent to w
with_sent-skip s sent to w e = ap (λ b. record { items = w.items ++ map (λ (t : Sent). t.content) (cond b (s ∷ filter (λ (t : Sent). t.to == to) sent) (filter (λ (t : Sent). t.to == to) sent)); counted = w.counted }) e

with_sent-take : (s : Sent) (sent : List Sent) (to : ℕ) (w : Waiting TransferContent) → (s.to == to) ≡ true → with_sent (s ∷ sent) to w ≡ with_sent sent to (with_issued w (s.content ∷ []))
with_sent-take s sent to w e =
    ap (λ b. record { items = w.items ++ map (λ (t : Sent). t.content) (cond b (s ∷ filter (λ (t : Sent). t.to == to) sent) (filter (λ (t : Sent). t.to == to) sent)); counted = w.counted }) e
    ∙ λ i. record { items = sym (append_assoc w.items (s.content ∷ []) (map (λ (t : Sent). t.content) (filter (λ (t : Sent). t.to == to) sent))) i; counted = w.counted }

with_all_sent-skip : (s : Sent) (sent : List Sent) (to : ℕ) (all : List (Waiting TransferContent)) → s.to < to → with_all_sent (s ∷ sent) to all ≡ with_all_sent sent to all
with_all_sent-skip s sent to [] below = refl
with_all_sent-skip s sent to (o ∷ os) below =
    let other : (s.to == to) ≡ false = grind (arith, nat_tests) in
    let first = with_sent-skip s sent to o other in
    let rest = with_all_sent-skip s sent (to + 1) os (omega arith) in
    λ i. first i ∷ rest i

with_all_sent-from : (s : Sent) (sent : List Sent) (base k : ℕ) (all : List (Waiting TransferContent)) → s.to ≡ base + k → with_all_sent (s ∷ sent) base all ≡ with_all_sent sent base (issued_to all k s.content)
with_all_sent-from s sent base k [] at = refl
with_all_sent-from s sent base zero (o ∷ os) at =
    let here : (s.to == base) ≡ true = grind (arith, nat_tests) in
    let first = with_sent-take s sent base o here in
    let rest = with_all_sent-skip s sent (base + 1) os (omega arith) in
    λ i. first i ∷ rest i
with_all_sent-from s sent base (suc n) (o ∷ os) at =
    let other : (s.to == base) ≡ false = grind (arith, nat_tests) in
    let first = with_sent-skip s sent base o other in
    let rest = with_all_sent-from s sent (base + 1) n os (omega arith) in
    λ i. first i ∷ rest i

pub with_all_sent-cons : (s : Sent) (sent : List Sent) (all : List (Waiting TransferContent)) → with_all_sent (s ∷ sent) 0 all ≡ with_all_sent sent 0 (issued_to all s.to s.content)
with_all_sent-cons s sent all = with_all_sent-from s sent 0 s.to all (omega arith)

-- those that are sent after others
pub with_all_sent-behind : (sent more : List Sent) (all : List (Waiting TransferContent)) → with_all_sent (sent ++ more) 0 all ≡ with_all_sent more 0 (with_all_sent sent 0 all)
with_all_sent-behind [] more all = ap (with_all_sent more 0) (sym (with_all_sent-nil 0 all))
with_all_sent-behind (s ∷ sent) more all =
    with_all_sent-cons s (sent ++ more) all ∙ with_all_sent-behind sent more (issued_to all s.to s.content) ∙ ap (with_all_sent more 0) (sym (with_all_sent-cons s sent all))

-- an acknowledgement and what is sent don't meet
drop-first : {A : Type 0} (xs ys : List A) → 0 < length xs → drop 1 (xs ++ ys) ≡ drop 1 xs ++ ys
drop-first [] ys some = absurd (omega arith)
drop-first (x ∷ xs) ys some = refl

counted-from : (sent : List Sent) (base : ℕ) (all : List (Waiting TransferContent)) (n : ℕ) → 0 < length (waiting_to all n).items → counted_to (with_all_sent sent base all) n ≡ with_all_sent sent base (counted_to all n)
counted-from sent base [] n some = refl
counted-from sent base (w ∷ all) zero some =
    λ i. record { items = drop-first w.items (map (λ (s : Sent). s.content) (sent_to sent base)) some i; counted = w.counted + 1 } ∷ with_all_sent sent (base + 1) all
counted-from sent base (w ∷ all) (suc n) some = ap (λ l. with_sent sent base w ∷ l) (counted-from sent (base + 1) all n some)

pub counted-sent : (sent : List Sent) (all : List (Waiting TransferContent)) (to : ℕ) → 0 < length (waiting_to all to).items → counted_to (with_all_sent sent 0 all) to ≡ with_all_sent sent 0 (counted_to all to)
counted-sent sent all to some = counted-from sent 0 all to some

-- what waits for a destination waits still as more is sent
pub waits-more : (sent : List Sent) (base : ℕ) (all : List (Waiting TransferContent)) (to : ℕ) → 0 < length (waiting_to all to).items → 0 < length (waiting_to (with_all_sent sent base all) to).items
waits-more sent base [] to some = some
waits-more sent base (w ∷ all) zero some = let more = length-append w.items (map (λ (s : Sent). s.content) (sent_to sent base)) in omega (arith, some, more)
waits-more sent base (w ∷ all) (suc n) some = waits-more sent (base + 1) all n some

-- of a content's transfers waits what is not acknowledged, as more are sent
pub rest-sent : (sent : List Sent) (to : ℕ) (all : List Outgoing) → AreIssued all → map rest_of (service.with_all_sent sent to all) ≡ with_all_sent sent to (map rest_of all)
rest-sent sent to [] h = refl
rest-sent sent to (o ∷ all) (here, rest) =
    let more = map (λ (s : Sent). s.content) (sent_to sent to) in
    let one = drop-append-le o.acknowledged o.issued more here in
    let others = rest-sent sent (to + 1) all rest in
    λ i. record { items = one i; counted = o.acknowledged } ∷ others i

-- and as the first that waits is acknowledged
next-rest : (o : Outgoing) → rest_of (record { issued = o.issued; acknowledged = o.acknowledged + 1 }) ≡ one_counted (rest_of o)
next-rest o = λ i. record { items = sym (drop-drop 1 o.acknowledged o.issued) i; counted = o.acknowledged + 1 }

pub rest-counted : (all : List Outgoing) (to : ℕ) → map rest_of (service.one_more_acknowledged all to) ≡ counted_to (map rest_of all) to
rest-counted [] to = refl
rest-counted (o ∷ all) zero = ap (λ w. w ∷ map rest_of all) (next-rest o)
rest-counted (o ∷ all) (suc n) =
    ap (λ b. map rest_of (cond b (record { issued = o.issued; acknowledged = o.acknowledged + 1 } ∷ all) (o ∷ service.one_more_acknowledged all (suc n - 1)))) (let other : (suc n == 0) ≡ false = grind (arith, nat_tests) in other)
    ∙ ap (λ k. rest_of o ∷ map rest_of (service.one_more_acknowledged all k)) (let before : suc n - 1 ≡ n = omega arith in before)
    ∙ ap (λ l. rest_of o ∷ l) (rest-counted all n)

-- what is acknowledged was issued still
pub issued-sent : (sent : List Sent) (to : ℕ) (all : List Outgoing) → AreIssued all → AreIssued (service.with_all_sent sent to all)
issued-sent sent to [] h = tt
issued-sent sent to (o ∷ all) (here, rest) =
    (let more = length-append o.issued (map (λ (s : Sent). s.content) (sent_to sent to)) in omega (arith, here, more), issued-sent sent (to + 1) all rest)

pub issued-counted : (all : List Outgoing) (to : ℕ) → AreIssued all → 0 < length (waiting_to (map rest_of all) to).items → AreIssued (service.one_more_acknowledged all to)
issued-counted [] to h some = tt
issued-counted (o ∷ all) zero (here, rest) some = (let left = length-drop o.acknowledged o.issued in omega (arith, here, some, left), rest)
issued-counted (o ∷ all) (suc n) (here, rest) some =
    let other : (suc n == 0) ≡ false = grind (arith, nat_tests) in
    let before : suc n - 1 ≡ n = omega arith in
    subst (λ b. AreIssued (cond b (record { issued = o.issued; acknowledged = o.acknowledged + 1 } ∷ all) (o ∷ service.one_more_acknowledged all (suc n - 1)))) (sym other)
    (here, subst (λ k. AreIssued (service.one_more_acknowledged all k)) (sym before) (issued-counted all n rest some))

-- what waits for a destination is what of its transfers is not acknowledged
pub rest-to : (all : List Outgoing) (to : ℕ) → waiting_to (map rest_of all) to ≡ rest_of (outgoing_to all to)
rest-to [] to = empty to
  where
    empty : (to : ℕ) → waiting_to [] to ≡ rest_of (outgoing_to [] to)
    empty zero = refl
    empty (suc n) = refl
rest-to (o ∷ all) zero = refl
rest-to (o ∷ all) (suc n) = rest-to all n

pub issued-to : (all : List Outgoing) (to : ℕ) → AreIssued all → (outgoing_to all to).acknowledged ≤ length (outgoing_to all to).issued
issued-to [] zero h = omega arith
issued-to [] (suc n) h = omega arith
issued-to (o ∷ all) zero (here, rest) = here
issued-to (o ∷ all) (suc n) (here, rest) = issued-to all n rest

-- so many were issued
pub count-rest : (all : List Outgoing) (to : ℕ) → AreIssued all → count_issued (waiting_to (map rest_of all) to) ≡ length (outgoing_to all to).issued
count-rest all to h =
    let o = outgoing_to all to in
    let low = issued-to all to h in
    let left = length-drop o.acknowledged o.issued in
    let here : count_issued (rest_of o) ≡ length o.issued = omega (arith, low, left) in
    ap (λ (w : Waiting TransferContent). count_issued w) (rest-to all to) ∙ here

-- the first that waits
pub first-rest : (all : List Outgoing) (to : ℕ) → slice_get (waiting_to (map rest_of all) to).items 0 ≡ slice_get (outgoing_to all to).issued (outgoing_to all to).acknowledged
first-rest all to = ap (λ (w : Waiting TransferContent). slice_get w.items 0) (rest-to all to) ∙ get-drop (outgoing_to all to).acknowledged (outgoing_to all to).issued
  where
    get-drop : (n : ℕ) (xs : List TransferContent) → slice_get (drop n xs) 0 ≡ slice_get xs n
    get-drop zero xs = refl
    get-drop (suc n) [] = refl
    get-drop (suc n) (x ∷ xs) = get-drop n xs

-- at the opening
pub issued-nothing : (shards : ℕ) → AreIssued (replicate shards (record { issued = []; acknowledged = 0 }))
issued-nothing zero = tt
issued-nothing (suc n) = (omega arith, issued-nothing n)

pub rest-nothing : (shards : ℕ) → map rest_of (replicate shards (record { issued = []; acknowledged = 0 })) ≡ replicate shards none_waits
rest-nothing zero = refl
rest-nothing (suc n) = ap (λ l. none_waits ∷ l) (rest-nothing n)
