-- MEANING: the one text of a task token: 24 bytes in base64 (RFC 4648)
use Rattle.std.specs.Prelude.{◌≡◌, ℕ, ◌≤◌, ◌^◌, ◌<◌, List, ◌∷◌, ◌++◌, take, drop, slice_index, bytes_eq, ◌==◌, ◌&&◌, nat_le, if◌then◌else◌, Bool, Option, Some, None, Result, Ok, Err, ◌↔◌}
use Rattle.std.specs.Int.{w16, w32, w64, to_be_bytes, from_be_bytes}
use Rattle.base64.specs.Engines.{standard}
use Rattle.base64.specs.declared.decode.DecodeError.{DecodeError}
use Rattle.base64.specs.GeneralPurpose.{encode_of, decode_of}
use Rattle.wf_event_values.specs.declared.policies.TaskKind.{TaskKind}
use Rattle.wf_event_values.specs.declared.policies.TaskKind.TheVariants.{Workflow, Activity}
use Rattle.task_token.specs.declared.token.TaskToken.{TaskToken}

-- the byte of a kind
abbrev pub kind_byte : TaskKind → ℕ
kind_byte Workflow = 1
kind_byte Activity = 2

-- the version 1, the kind, and then the numbers, their high bytes first
abbrev pub token_bytes : TaskToken → List ℕ
token_bytes t =
    1 ∷ kind_byte t.kind ∷ (to_be_bytes w16 t.shard ++ (to_be_bytes w64 t.run ++ (to_be_bytes w64 t.event ++ to_be_bytes w32 t.attempt)))

-- the text of a token
unfoldable pub token_text : TaskToken → List ℕ
token_text t = encode_of standard (token_bytes t)

-- the tokens that there are: run, event and attempt count from 1
pub record IsToken (t : TaskToken) : Type 0 where
  pub shard : t.shard < 2 ^ 16
  pub run : (1 ≤ t.run) × (t.run < 2 ^ 64)
  pub event : (1 ≤ t.event) × (t.event < 2 ^ 64)
  pub attempt : (1 ≤ t.attempt) × (t.attempt < 2 ^ 32)

-- the tokens that there can be: each number within its type
pub record FitsToken (t : TaskToken) : Type 0 where
  pub shard : t.shard < 2 ^ 16
  pub run : t.run < 2 ^ 64
  pub event : t.event < 2 ^ 64
  pub attempt : t.attempt < 2 ^ 32

-- the kind that a byte is, where it is one
abbrev pub kind_in : ℕ → TaskKind
kind_in b = if b == 1 then Workflow else Activity

-- the token whose numbers stand in 24 bytes
abbrev pub token_in : List ℕ → TaskToken
token_in bytes = record {
  kind = kind_in (slice_index bytes 1);
  shard = from_be_bytes w16 (take 2 (drop 2 bytes));
  run = from_be_bytes w64 (take 8 (drop 2 (drop 2 bytes)));
  event = from_be_bytes w64 (take 8 (drop 8 (drop 2 (drop 2 bytes))));
  attempt = from_be_bytes w32 (take 4 (drop 8 (drop 8 (drop 2 (drop 2 bytes)))));
}

-- these are the token's bytes, and each count is from 1
abbrev pub has_bytes : TaskToken → List ℕ → Bool
has_bytes t bytes = bytes_eq (token_bytes t) bytes && (nat_le 1 t.run && (nat_le 1 t.event && nat_le 1 t.attempt))

-- the token, where these are its bytes
abbrev pub if_bytes : List ℕ → TaskToken → Option TaskToken
if_bytes bytes t = if has_bytes t bytes then Some t else None

-- the token whose bytes were decoded
abbrev pub token_decoded : Result (List ℕ) DecodeError → Option TaskToken
token_decoded (Ok bytes) = if_bytes bytes (token_in bytes)
token_decoded (Err e) = None

-- the token whose text this is
unfoldable pub token_named : List ℕ → Option TaskToken
token_named text = token_decoded (decode_of standard text)

-- a text names a token exactly where it is the token's text
abbrev pub NamedExactly : List ℕ → Option TaskToken → Type 0
NamedExactly text named = (t : TaskToken) → IsToken t → (named ≡ Some t) ↔ (text ≡ token_text t)

-- the token, where these are its bytes, whatever it counts from
abbrev pub if_its_bytes : List ℕ → TaskToken → Option TaskToken
if_its_bytes bytes t = if bytes_eq (token_bytes t) bytes then Some t else None

-- the token of any numbers whose bytes were decoded
abbrev pub any_decoded : Result (List ℕ) DecodeError → Option TaskToken
any_decoded (Ok bytes) = if_its_bytes bytes (token_in bytes)
any_decoded (Err e) = None

-- the token of any numbers whose text this is
unfoldable pub any_token_named : List ℕ → Option TaskToken
any_token_named text = any_decoded (decode_of standard text)

-- a text names a token of any numbers exactly where it is the token's text
abbrev pub AnyNamedExactly : List ℕ → Option TaskToken → Type 0
AnyNamedExactly text named = (t : TaskToken) → FitsToken t → (named ≡ Some t) ↔ (text ≡ token_text t)
