use Rattle.std.proofs.Common.{◌≡◌, ◌++◌, ℕ, List, length, drop, arith, subst, sym, ap, ◌∙◌, refl}
use Rattle.std.proofs.lemmas.List.{append-nil, drop_all}
use Rattle.std.proofs.lemmas.Str.{IsUtf8-from_ascii}
use Rattle.std.specs.Str.{IsUtf8}
use Rattle.base64.specs.Engines.{standard}
use Rattle.base64.specs.GeneralPurpose.{encode_of, encoded_size_of}
use Rattle.base64.proofs.EngineFacts.{IsAscii-encode_of}
use Rattle.task_token.specs.declared.token.TaskToken.{TaskToken}
use Rattle.task_token.specs.TokenTexts.{token_bytes, token_text}
use Rattle.task_token.proofs.token.TaskToken.write_in.Goals as goal

size : (t : TaskToken) → encoded_size_of standard (length (token_bytes t)) ≡ 32
size t = refl

-- a buffer that a token's text fills
filled : (t : TaskToken) (m old new : List ℕ) → m ≡ token_bytes t → length old ≡ 32 → new ≡ encode_of standard m ++ drop (encoded_size_of standard (length m)) old → new ≡ token_text t
unfolding token_text
filled t m old new is long e =
    let text = encode_of standard (token_bytes t) in
    e ∙ ap (λ b. encode_of standard b ++ drop (encoded_size_of standard (length b)) old) is ∙ ap (λ n. text ++ drop n old) (size t)
    ∙ ap (λ l. text ++ l) (drop_all 32 old (omega (arith, long))) ∙ append-nil text

text_is_utf8 : (t : TaskToken) → IsUtf8 (token_text t)
unfolding token_text
text_is_utf8 t = IsUtf8-from_ascii _ (IsAscii-encode_of standard (token_bytes t))

pub unreachable-requires-in_default-from_utf8 : goal.unreachable-requires-in_default-from_utf8
unreachable-requires-in_default-from_utf8 c =
    let whole = filled c.args.self.now c.bytes_of.result c.args.buffer.now c.encode_slice.new.output c.bytes_of.ensures c.told-buffer c.in-Ok.ensures.written in
    c.in_default-from_utf8.ensures.cases.0 (subst IsUtf8 (sym whole) (text_is_utf8 c.args.self.now))

pub returns : goal.returns
returns c =
    c.in-Ok-from_utf8.ensures.cases.0 ∙ filled c.args.self.now c.bytes_of.result c.args.buffer.now c.encode_slice.new.output c.bytes_of.ensures c.told-buffer c.in-Ok.ensures.written
