-- what a shard counts, count by count, is what each content counts for which it stands
use Rattle.std.proofs.Common.{◌≡◌, ℕ, zero, suc, ◌+◌, ◌<◌, List, [], ◌∷◌, ◌++◌, length, map, refl, sym, ap, ap₂, ◌∙◌, arith, get_or, length-drop}
use Rattle.std.proofs.lemmas.List.{length-map}
use Rattle.std.proofs.lemmas.List.FromFn.{fill_by_all, map-range_with_len_more}
use Rattle.std.specs.List.{range_with_len}
use Rattle.std.specs.Prelude.{drop}
use Rattle.service_model_types.specs.declared.content.Outgoing.{Outgoing}
use Rattle.service_model_types.specs.declared.transfer.TransferContent.{TransferContent}
use Rattle.transfer.specs.Logs.{Waiting, count_issued}
use Rattle.transfer.specs.Outboxes.{AreIssued, rest_of, waiting_to}
use Rattle.checkpoint_history.specs.StoreCounts.{CountsAreTheContents, counts_in}

abbrev Waits : Type 0
Waits = Waiting TransferContent

-- ---- reading them

read-at : (f : Waits → ℕ) (all : List Waits) (k : ℕ) → k < length all → get_or (map f all) k 0 ≡ f (waiting_to all k)
read-at f [] k less = absurd (omega (arith, less))
read-at f (w ∷ all) zero less = refl
read-at f (w ∷ all) (suc k) less = read-at f all k (omega (arith, less))

-- the counts up to a shard's number
abbrev pub read : (Waits → ℕ) → List Waits → ℕ → List ℕ
read f all n = map (λ (k : ℕ). f (waiting_to all k)) (range_with_len 0 n)

pub read-more : (f : Waits → ℕ) (all : List Waits) (counts counts' : List ℕ) (n x : ℕ) → counts ≡ read f all n → x ≡ f (waiting_to all n) → counts' ≡ counts ++ x ∷ [] → counts' ≡ read f all (n + 1)
read-more f all counts counts' n x so_far is more =
    more ∙ (λ i. so_far i ++ is i ∷ []) ∙ sym (map-range_with_len_more (λ (k : ℕ). f (waiting_to all k)) 0 n n (omega arith))

pub all-read : (f : Waits → ℕ) (all : List Waits) (counts : List ℕ) (n : ℕ) → counts ≡ read f all n → n ≡ length all → counts ≡ map f all
all-read f all counts n is count =
    is ∙ sym (fill_by_all (λ (k : ℕ). f (waiting_to all k)) (map f all) n 0 (length-map all f ∙ sym count) (λ k less. read-at f all k (omega (arith, less, count))))

-- ---- what they are of a content

rest-issued : (all : List Outgoing) → AreIssued all → map (λ (w : Waits). count_issued w) (map rest_of all) ≡ map (λ (o : Outgoing). length o.issued) all
rest-issued [] h = refl
rest-issued (o ∷ all) h =
    let one : o.acknowledged + length (drop o.acknowledged o.issued) ≡ length o.issued = (let left = length-drop o.acknowledged o.issued in let few = h.0 in omega (arith, left, few)) in
    ap₂ (λ n ns. n ∷ ns) one (rest-issued all h.1)

rest-acknowledged : (all : List Outgoing) → map (λ (w : Waits). w.counted) (map rest_of all) ≡ map (λ (o : Outgoing). o.acknowledged) all
rest-acknowledged [] = refl
rest-acknowledged (o ∷ all) = ap (λ ns. o.acknowledged ∷ ns) (rest-acknowledged all)

pub counts-same : CountsAreTheContents
counts-same v S h =
    ap counts_in h.says ∙ (λ i. record { issued = rest-issued S.outgoing h.issued i; acknowledged = rest-acknowledged S.outgoing i; accepted = S.accepted })
