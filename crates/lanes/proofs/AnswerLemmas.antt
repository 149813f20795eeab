-- lines that stand in a text
use Rattle.std.proofs.Common.{◌≡◌, ◌⊎◌, ℕ, zero, suc, ◌-◌, List, [], ◌∷◌, ◌++◌, take, drop, length, slice_get, Some, inl, inr, sym, ap, subst, ◌∙◌, arith}
use Rattle.std.proofs.lemmas.List.{drop-append-le, length-append, length-drop, take-append-le, take_all}
use Rattle.std.proofs.lemmas.Option.{none-some, same_Some}
use Rattle.std.proofs.Math.Seq.{drop-append_seam}
use Rattle.wire_replies.specs.Replies.{reply_line}
use Rattle.script.specs.Serving.{is_refusal}
use Rattle.lanes.specs.declared.answer.Answer.{Answer}
use Rattle.lanes.specs.Answers.{AreLines, IsLine, LineReply}

-- a text that grows keeps them
line-longer : (text more : List ℕ) (a : Answer) (r : LineReply) → IsLine text a r → IsLine (text ++ more) a r
line-longer text more a r h = record {
  begins = h.begins;
  ends = omega (arith, h.ends, length-append text more);
  line = ap (take (a.end - a.start)) (drop-append-le a.start text more (omega (arith, h.begins, h.ends)))
      ∙ take-append-le (a.end - a.start) (drop a.start text) more (omega (arith, h.begins, h.ends, length-drop a.start text)) ∙ h.line;
  refused_is = h.refused_is;
}

pub lines-longer : (text more : List ℕ) (answers : List Answer) (rs : List LineReply) → AreLines text answers rs → AreLines (text ++ more) answers rs
lines-longer text more [] [] h = tt
lines-longer text more [] (r ∷ rs) h = absurd h
lines-longer text more (a ∷ answers) [] h = absurd h
lines-longer text more (a ∷ answers) (r ∷ rs) h = (line-longer text more a r h.0, lines-longer text more answers rs h.1)

-- the last line of a text
line-last : (text line : List ℕ) (a : Answer) (r : LineReply) → a.start ≡ length text → a.end ≡ length (text ++ line) → line ≡ reply_line r.number r.reply → a.refused ≡ is_refusal (Some r.reply) → IsLine (text ++ line) a r
line-last text line a r begins ends is refused = record {
  begins = omega (arith, begins, ends, length-append text line);
  ends = omega (arith, ends);
  line = ap (λ n. take (a.end - n) (drop n (text ++ line))) begins ∙ ap (take (a.end - length text)) (drop-append_seam text line)
      ∙ take_all (a.end - length text) line (omega (arith, ends, length-append text line)) ∙ is;
  refused_is = refused;
}

lines-push : (text : List ℕ) (answers : List Answer) (rs : List LineReply) (a : Answer) (r : LineReply) → AreLines text answers rs → IsLine text a r → AreLines text (answers ++ a ∷ []) (rs ++ r ∷ [])
lines-push text [] [] a r h one = (one, tt)
lines-push text [] (s ∷ rs) a r h one = absurd h
lines-push text (b ∷ answers) [] a r h one = absurd h
lines-push text (b ∷ answers) (s ∷ rs) a r h one = (h.0, lines-push text answers rs a r h.1 one)

-- one line more
pub line-more : (text line : List ℕ) (answers : List Answer) (rs : List LineReply) (a : Answer) (r : LineReply) → a.start ≡ length text → a.end ≡ length (text ++ line) → line ≡ reply_line r.number r.reply → a.refused ≡ is_refusal (Some r.reply)
    → AreLines text answers rs → AreLines (text ++ line) (answers ++ a ∷ []) (rs ++ r ∷ [])
line-more text line answers rs a r begins ends is refused h = lines-push (text ++ line) answers rs a r (lines-longer text line answers rs h) (line-last text line a r begins ends is refused)

-- what stands at a place of a list that grew is the last, or stood there before
pub get-push : {A : Type 0} (xs : List A) (x : A) (k : ℕ) (y : A) → slice_get (xs ++ x ∷ []) k ≡ Some y → (slice_get xs k ≡ Some y) ⊎ (x ≡ y)
get-push [] x zero y at = inr (same_Some x y at)
get-push [] x (suc k) y at = absurd (none-some y at)
get-push (z ∷ xs) x zero y at = inl at
get-push (z ∷ xs) x (suc k) y at = get-push xs x k y at

-- no line is kept
pub lines-none : (text : List ℕ) (answers : List Answer) → answers ≡ [] → AreLines text answers []
lines-none text answers none = subst (λ xs. AreLines text xs []) (sym none) tt
