-- MEANING: the one text of a run id: a UUID of version 8 (RFC 9562), in lower case
use Rattle.std.specs.Prelude.{ℕ, ◌+◌, ◌*◌, ◌/◌, ◌%◌, ◌^◌, List, ◌++◌, take, drop, Option, Some, None, option_and_then, bytes_eq, if◌then◌else◌}
use Rattle.std.specs.Int.{w64, to_be_bytes, from_be_bytes}
use Rattle.uuid.specs.Text.{hyphenated_text, lower, parsed}
use Rattle.wf_event_values.specs.Run.{Run}

-- 48 bits of service, the version 8 in 4 bits, 12 bits of shard
abbrev pub high_half : Run → ℕ
high_half r = r.service * 2 ^ 16 + (8 * 2 ^ 12 + r.shard)

-- the variant 2 in 2 bits, 62 bits of ordinal
abbrev pub low_half : Run → ℕ
low_half r = 2 * 2 ^ 62 + r.ordinal

-- the sixteen bytes of a run
abbrev pub run_bytes : Run → List ℕ
run_bytes r = to_be_bytes w64 (high_half r) ++ to_be_bytes w64 (low_half r)

-- the text of a run
unfoldable pub run_text : Run → List ℕ
run_text r = hyphenated_text lower (run_bytes r)

-- the run whose numbers stand in sixteen bytes
abbrev pub run_in : List ℕ → Run
run_in bytes = record {
  service = from_be_bytes w64 (take 8 bytes) / 2 ^ 16;
  shard = from_be_bytes w64 (take 8 bytes) % 2 ^ 12;
  ordinal = from_be_bytes w64 (drop 8 bytes) % 2 ^ 62;
}

-- the run, where this is its text
abbrev pub if_text : List ℕ → Run → Option Run
if_text text r = if bytes_eq (run_text r) text then Some r else None

-- the run whose text this is
unfoldable pub run_named : List ℕ → Option Run
run_named text = option_and_then (λ bytes. if_text text (run_in bytes)) (parsed text)
