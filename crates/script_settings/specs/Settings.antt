-- MEANING: What the words of a command line set.
use Rattle.std.specs.Prelude.{◌≡◌, ◌≢◌, ◌⊎◌, List, [], Bool, true, false, codes, Option, None, Some, option_map}
use Rattle.std.specs.Borrow.{Bor}
use Rattle.clap.specs.Words.{HasKind, Row, Text, first_of, kind_of}
use Rattle.clap.specs.declared.error.kind.ErrorKind.{ErrorKind}
use Rattle.clap.specs.declared.error.kind.ErrorKind.TheVariants.{DisplayVersion}
use Rattle.script_settings.specs.CommandLine.{HasNoNumber, IsSetTo, faults_in, is_set, matches_in}
use Rattle.script_settings.specs.Queues.{AreSetTo, HasNoNames}
use Rattle.script_settings.specs.declared.command_line.CommandLine.{CommandLine}
use Rattle.script_settings.specs.declared.fault.Fault.{Fault}
use Rattle.script_settings.specs.declared.fault.Fault.TheVariants.{Words, Number, Queues, Trace, Journal}

-- whether clap answers with the version
abbrev pub is_version : ErrorKind → Bool
is_version DisplayVersion = true
is_version _ = false

-- whether the words ask for it
abbrev pub asks_version : Fault → Bool
asks_version (Words e) = is_version (kind_of e)
asks_version _ = false

-- the text that was borrowed, if one was
abbrev pub text_of : Option (Bor Text) → Option Text
text_of o = option_map (λ text. text.now) o

-- where a journal was given, no folder to load from or to write records or snapshots in was, and no history is asked for
abbrev pub IsAlone : (journal load save snapshot : Option (Bor Text)) → Bool → Type 0
IsAlone None load save snapshot trace = Unit {0}
IsAlone (Some journal) load save snapshot trace = (load ≡ None) × (save ≡ None) × (snapshot ≡ None) × (trace ≡ false)

-- clap takes the words; each setting is the value of its option among the matches, or its default; the file and the
-- folders are the texts that were given
pub record Sets (words : List Text) (c : CommandLine) : Type 0 where
  pub taken : faults_in words ≡ []
  pub shards : IsSetTo 1 (codes "shards") (matches_in words) c.settings.shards
  pub passes : IsSetTo 1 (codes "passes") (matches_in words) c.settings.passes
  pub service : IsSetTo 1 (codes "service") (matches_in words) c.settings.service
  pub queues : AreSetTo (matches_in words) c.settings.queues
  pub capacity : IsSetTo 1024 (codes "capacity") (matches_in words) c.settings.capacity
  pub retention : IsSetTo 0 (codes "retention") (matches_in words) c.settings.retention
  pub file : text_of c.file ≡ first_of (codes "FILE") (matches_in words)
  pub load : text_of c.load ≡ first_of (codes "load") (matches_in words)
  pub save : text_of c.save ≡ first_of (codes "save") (matches_in words)
  pub snapshot : text_of c.snapshot ≡ first_of (codes "snapshot") (matches_in words)
  pub journal : text_of c.journal ≡ first_of (codes "journal") (matches_in words)
  pub trace : c.trace ≡ is_set (codes "trace") (matches_in words)
  pub alone : IsAlone c.journal c.load c.save c.snapshot c.trace

-- the option's text writes no number
abbrev pub IsFaultOf : Text → List Row → Fault → Type 0
IsFaultOf name rows (Words e) = ⊥
IsFaultOf name rows (Number option) = (option.now ≡ name) × HasNoNumber name rows
IsFaultOf name rows Queues = ⊥
IsFaultOf name rows Trace = ⊥
IsFaultOf name rows (Journal option) = ⊥

-- the text of the queues has a part that is no name, or memory ran out
abbrev pub IsQueuesFault : List Row → Fault → Type 0
IsQueuesFault rows (Words e) = HasKind [] e
IsQueuesFault rows (Number option) = ⊥
IsQueuesFault rows Queues = HasNoNames rows
IsQueuesFault rows Trace = ⊥
IsQueuesFault rows (Journal option) = ⊥

-- the history was asked for, and a folder to open the service from was named
abbrev pub HasTraceBesideLoad : List Row → Type 0
HasTraceBesideLoad rows = (is_set (codes "trace") rows ≡ true) × (first_of (codes "load") rows ≢ None)

-- a journal was given, and this option beside it
abbrev pub HasBesideJournal : Text → List Row → Type 0
HasBesideJournal option rows = (first_of (codes "journal") rows ≢ None) × (first_of option rows ≢ None)

-- as what was given: a journal, and beside it the folder to load from, one to write records or snapshots in, or the wish for
-- the history
abbrev pub IsBeside : (journal load save snapshot : Option (Bor Text)) → Bool → Fault → Type 0
IsBeside journal load save snapshot trace (Journal option) =
    (journal ≢ None) × (((option.now ≡ codes "load") × (load ≢ None)) ⊎ ((option.now ≡ codes "save") × (save ≢ None))
    ⊎ ((option.now ≡ codes "snapshot") × (snapshot ≢ None)) ⊎ ((option.now ≡ codes "trace") × (trace ≡ true)))
IsBeside journal load save snapshot trace (Words e) = ⊥
IsBeside journal load save snapshot trace (Number option) = ⊥
IsBeside journal load save snapshot trace Queues = ⊥
IsBeside journal load save snapshot trace Trace = ⊥

-- clap finds this fault in the words, memory aside, or it takes them and an option's text writes no number, or has a
-- part that is no name, or two options don't go together
abbrev pub IsFaultIn : List Text → Fault → Type 0
IsFaultIn words (Words e) = HasKind (faults_in words) e
IsFaultIn words (Number option) = (faults_in words ≡ []) × HasNoNumber option.now (matches_in words)
IsFaultIn words Queues = (faults_in words ≡ []) × HasNoNames (matches_in words)
IsFaultIn words Trace = (faults_in words ≡ []) × HasTraceBesideLoad (matches_in words)
IsFaultIn words (Journal option) = (faults_in words ≡ []) × HasBesideJournal option.now (matches_in words)
