-- PROOF: the lines of replies, one after the other in one text
use Rattle.std.specs.Prelude.{◌≡◌, ℕ, ◌≤◌, List, [], ◌∷◌, ◌++◌, Some, length, slice_range}
use Rattle.service_model_types.specs.Replies.{Reply}
use Rattle.wire_replies.specs.Replies.{reply_line}
use Rattle.script.specs.Serving.{is_refusal}
use Rattle.lanes.specs.declared.answer.Answer.{Answer}
use Rattle.lanes.specs.declared.replies.Replies.{Replies}

-- a reply, and the number of its line
pub record LineReply : Type 0 where
  pub number : ℕ
  pub reply : Reply

-- a reply's line stands there, under its number
pub record IsLine (text : List ℕ) (a : Answer) (r : LineReply) : Type 0 where
  pub begins : a.start ≤ a.end
  pub ends : a.end ≤ length text
  pub line : slice_range text a.start a.end ≡ reply_line r.number r.reply
  pub refused_is : a.refused ≡ is_refusal (Some r.reply)

-- the lines of these replies stand there
abbrev pub AreLines : List ℕ → List Answer → List LineReply → Type 0
AreLines text [] [] = Unit {0}
AreLines text [] (r ∷ rs) = ⊥
AreLines text (a ∷ answers) [] = ⊥
AreLines text (a ∷ answers) (r ∷ rs) = IsLine text a r × AreLines text answers rs

-- these are the replies whose lines are kept
abbrev pub AreKept : Replies → List LineReply → Type 0
AreKept x rs = AreLines x.text.items x.answers.items rs

-- one reply more is kept, under this number
abbrev pub Wrote : ℕ → Reply → Replies → Replies → Type 0
Wrote number reply x x' = (rs : List LineReply) → AreKept x rs → AreKept x' (rs ++ record { number = number; reply = reply } ∷ [])

abbrev pub KeepsLines : Replies → Replies → Type 0
KeepsLines x x' = (rs : List LineReply) → AreKept x rs → AreKept x' rs
