-- A token's text is read as that token, and no other text is.
use Rattle.std.proofs.Common.{◌≡◌, ℕ, zero, suc, ◌<◌, ◌≤◌, List, [], ◌∷◌, length, Bool, true, false, cond, ◌&&◌, leb, Option, Some, None, Result, Ok, Err, refl, sym, ap, ◌∙◌, arith, bytes_eq, rules}
use Rattle.std.proofs.lemmas.Nat.{from_be_bytes-to_be_bytes_2, from_be_bytes-to_be_bytes_4, from_be_bytes-to_be_bytes_8}
use Rattle.std.proofs.lemmas.Bool.{false_from_ne_true}
use Rattle.std.proofs.lemmas.Bool.Decides.{nat_tests}
use Rattle.std.proofs.lemmas.Slice.Eq.{bytes_eq-Decides}
use Rattle.base64.specs.Engines.{standard}
use Rattle.base64.specs.declared.decode.DecodeError.{DecodeError}
use Rattle.base64.specs.GeneralPurpose.{encode_of, decode_of, IsBytes}
use Rattle.base64.proofs.EngineFacts.{decode_of_strict, decode_of-encode_of}
use Rattle.wf_event_values.specs.declared.policies.TaskKind.{TaskKind}
use Rattle.wf_event_values.specs.declared.policies.TaskKind.TheVariants.{Workflow, Activity}
use Rattle.task_token.specs.declared.token.TaskToken.{TaskToken}
use Rattle.task_token.specs.TokenTexts.{kind_byte, kind_in, token_bytes, token_in, has_bytes, if_bytes, if_its_bytes, token_decoded, any_decoded, token_named, any_token_named, token_text, IsToken, FitsToken, NamedExactly, AnyNamedExactly}
use Rattle.std.specs.List.{AllByRecursion}

both : (a b : Bool) → (a && b) ≡ true → (a ≡ true) × (b ≡ true)
both true b e = (refl, e)
both false b e = absurd cc

pub wrong_length : (bytes : List ℕ) (t : TaskToken) → (length bytes ≡ 24 → ⊥) → if_bytes bytes t ≡ None
wrong_length bytes t h =
    let differ : bytes_eq (token_bytes t) bytes ≡ false = false_from_ne_true (bytes_eq (token_bytes t) bytes) (λ e. h (sym (ap length ((bytes_eq-Decides (token_bytes t) bytes).0 e)))) in
    rw differ refl

-- ---- the bytes

kind_again : (k : TaskKind) → kind_in (kind_byte k) ≡ k
kind_again Workflow = refl
kind_again Activity = refl

same_token : (a b : TaskToken) → a.kind ≡ b.kind → a.shard ≡ b.shard → a.run ≡ b.run → a.event ≡ b.event → a.attempt ≡ b.attempt → a ≡ b
same_token a b k s r e n =
    let build : TaskKind → ℕ → ℕ → ℕ → ℕ → TaskToken = λ k s r e n. record { kind = k; shard = s; run = r; event = e; attempt = n } in
    ap (λ x. build x a.shard a.run a.event a.attempt) k ∙ ap (λ x. build b.kind x a.run a.event a.attempt) s ∙ ap (λ x. build b.kind b.shard x a.event a.attempt) r
    ∙ ap (λ x. build b.kind b.shard b.run x a.attempt) e ∙ ap (λ x. build b.kind b.shard b.run b.event x) n

token_in-token_bytes : (t : TaskToken) → IsToken t → token_in (token_bytes t) ≡ t
token_in-token_bytes t fits =
    same_token (token_in (token_bytes t)) t (kind_again t.kind) (from_be_bytes-to_be_bytes_2 t.shard fits.shard) (from_be_bytes-to_be_bytes_8 t.run fits.run.1)
    (from_be_bytes-to_be_bytes_8 t.event fits.event.1) (from_be_bytes-to_be_bytes_4 t.attempt fits.attempt.1)

has_bytes-token_bytes : (t : TaskToken) → IsToken t → has_bytes t (token_bytes t) ≡ true
has_bytes-token_bytes t fits =
    let same : bytes_eq (token_bytes t) (token_bytes t) ≡ true = (bytes_eq-Decides (token_bytes t) (token_bytes t)).1 refl in
    rw (same, at_least t.run fits.run.0, at_least t.event fits.event.0, at_least t.attempt fits.attempt.0) refl
  where
    at_least : (n : ℕ) → 1 ≤ n → leb 1 n ≡ true
    at_least n h = grind (arith, nat_tests)

IsBytes-from : (bs : List ℕ) → AllByRecursion (λ b. b < 256) bs → IsBytes bs
IsBytes-from [] h i = omega arith
IsBytes-from (b ∷ bs) h zero = h.0
IsBytes-from (b ∷ bs) h (suc i) = IsBytes-from bs h.1 i

kind_below : (k : TaskKind) → kind_byte k < 256
kind_below Workflow = omega arith
kind_below Activity = omega arith

token_bytes_below : (t : TaskToken) → AllByRecursion (λ b. b < 256) (token_bytes t)
token_bytes_below t = search (rules, kind_below)

-- ---- the text

chosen : (b : Bool) (r s : TaskToken) → cond b (Some r) None ≡ Some s → (b ≡ true) × (r ≡ s)
chosen true r s e = (refl, cc)
chosen false r s e = absurd cc

token_again : (t : TaskToken) → IsToken t → token_named (token_text t) ≡ Some t
unfolding token_named token_text
token_again t fits =
    let back : decode_of standard (encode_of standard (token_bytes t)) ≡ Ok (token_bytes t) = decode_of-encode_of standard (token_bytes t) refl (IsBytes-from (token_bytes t) (token_bytes_below t)) in
    rw back (ap (if_bytes (token_bytes t)) (token_in-token_bytes t fits) ∙ rw (has_bytes-token_bytes t fits) refl)

token_only : (text : List ℕ) (t : TaskToken) → IsBytes text → token_named text ≡ Some t → text ≡ token_text t
unfolding token_named token_text
token_only text t small e = from (decode_of standard text) refl e
  where
    from : (r : Result (List ℕ) DecodeError) → decode_of standard text ≡ r → token_decoded r ≡ Some t → text ≡ encode_of standard (token_bytes t)
    from (Err d) is h = absurd cc
    from (Ok bytes) is h =
        let two = chosen (has_bytes (token_in bytes) bytes) (token_in bytes) t h in
        let parts = both (bytes_eq (token_bytes (token_in bytes)) bytes) _ two.0 in
        let same : token_bytes (token_in bytes) ≡ bytes = (bytes_eq-Decides (token_bytes (token_in bytes)) bytes).0 parts.0 in
        decode_of_strict standard text bytes (refl, refl) small is ∙ ap (encode_of standard) (sym same ∙ ap token_bytes two.1)

pub named_exactly : (text : List ℕ) → IsBytes text → NamedExactly text (token_named text)
named_exactly text small t fits = (token_only text t small, λ e. ap token_named e ∙ token_again t fits)

pub names : (text input bytes seen : List ℕ) (o : Option TaskToken) → input ≡ text → decode_of standard input ≡ Ok bytes → seen ≡ bytes → o ≡ if_bytes seen (token_in seen) → o ≡ token_named text
unfolding token_named
names text input bytes seen o is decoded same found =
    let named : token_named text ≡ if_bytes bytes (token_in bytes) = rw (← is, decoded) refl in
    found ∙ ap (λ (b : List ℕ). if_bytes b (token_in b)) same ∙ sym named

-- ---- a token of any numbers

pub no_token : (bytes : List ℕ) (t : TaskToken) → (length bytes ≡ 24 → ⊥) → if_its_bytes bytes t ≡ None
no_token bytes t h =
    let differ : bytes_eq (token_bytes t) bytes ≡ false = false_from_ne_true (bytes_eq (token_bytes t) bytes) (λ e. h (sym (ap length ((bytes_eq-Decides (token_bytes t) bytes).0 e)))) in
    rw differ refl

any_in-token_bytes : (t : TaskToken) → FitsToken t → token_in (token_bytes t) ≡ t
any_in-token_bytes t fits =
    same_token (token_in (token_bytes t)) t (kind_again t.kind) (from_be_bytes-to_be_bytes_2 t.shard fits.shard) (from_be_bytes-to_be_bytes_8 t.run fits.run)
    (from_be_bytes-to_be_bytes_8 t.event fits.event) (from_be_bytes-to_be_bytes_4 t.attempt fits.attempt)

pub any_again : (t : TaskToken) → FitsToken t → any_token_named (token_text t) ≡ Some t
unfolding any_token_named token_text
any_again t fits =
    let back : decode_of standard (encode_of standard (token_bytes t)) ≡ Ok (token_bytes t) = decode_of-encode_of standard (token_bytes t) refl (IsBytes-from (token_bytes t) (token_bytes_below t)) in
    let same : bytes_eq (token_bytes t) (token_bytes t) ≡ true = (bytes_eq-Decides (token_bytes t) (token_bytes t)).1 refl in
    rw back (ap (if_its_bytes (token_bytes t)) (any_in-token_bytes t fits) ∙ rw same refl)

any_only : (text : List ℕ) (t : TaskToken) → IsBytes text → any_token_named text ≡ Some t → text ≡ token_text t
unfolding any_token_named token_text
any_only text t small e = from (decode_of standard text) refl e
  where
    from : (r : Result (List ℕ) DecodeError) → decode_of standard text ≡ r → any_decoded r ≡ Some t → text ≡ encode_of standard (token_bytes t)
    from (Err d) is h = absurd cc
    from (Ok bytes) is h =
        let two = chosen (bytes_eq (token_bytes (token_in bytes)) bytes) (token_in bytes) t h in
        let same : token_bytes (token_in bytes) ≡ bytes = (bytes_eq-Decides (token_bytes (token_in bytes)) bytes).0 two.0 in
        decode_of_strict standard text bytes (refl, refl) small is ∙ ap (encode_of standard) (sym same ∙ ap token_bytes two.1)

pub any_named_exactly : (text : List ℕ) → IsBytes text → AnyNamedExactly text (any_token_named text)
any_named_exactly text small t fits = (any_only text t small, λ e. ap any_token_named e ∙ any_again t fits)

pub any_names : (text input bytes seen : List ℕ) (o : Option TaskToken) → input ≡ text → decode_of standard input ≡ Ok bytes → seen ≡ bytes → o ≡ if_its_bytes seen (token_in seen) → o ≡ any_token_named text
unfolding any_token_named
any_names text input bytes seen o is decoded same found =
    let named : any_token_named text ≡ if_its_bytes bytes (token_in bytes) = rw (← is, decoded) refl in
    found ∙ ap (λ (b : List ℕ). if_its_bytes b (token_in b)) same ∙ sym named
