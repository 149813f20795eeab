-- What is written line by line is the output, and what is left is the world after all lines.
use Rattle.std.proofs.Common.{◌≡◌, ◌||◌, List, [], ◌∷◌, ◌++◌, Bool, true, false, refl, ap, ◌∙◌}
use Rattle.std.specs.List.{list_any}
use Rattle.script.specs.Lines.{Line}
use Rattle.script.specs.Serving.{is_refusal, reply_to, world_after}
use Rattle.script.specs.Output.{replies_from, numbered_from, world_after_lines}
use Rattle.script.specs.Cursor.{Cursor, after_line, after_lines, line_text, lines_text}

pub lines_text-is : (c : Cursor) (ls : List Line) → lines_text c ls ≡ numbered_from c.number (replies_from c.settings c.world ls)
unfolding after_line line_text
lines_text-is c [] = refl
lines_text-is c (l ∷ ls) = ap (λ t. line_text c l ++ t) (lines_text-is (after_line c l) ls)

or_assoc : (a b c : Bool) → ((a || b) || c) ≡ (a || (b || c))
or_assoc true b c = refl
or_assoc false b c = refl

or_false : (a : Bool) → a ≡ (a || false)
or_false true = refl
or_false false = refl

pub refused-is : (c : Cursor) (ls : List Line) → (after_lines c ls).refused ≡ (c.refused || list_any is_refusal (replies_from c.settings c.world ls))
unfolding after_line
refused-is c [] = or_false c.refused
refused-is c (l ∷ ls) = refused-is (after_line c l) ls ∙ or_assoc c.refused (is_refusal (reply_to c.settings c.world l)) (list_any is_refusal (replies_from c.settings (world_after c.settings c.world l) ls))

pub world-is : (c : Cursor) (ls : List Line) → (after_lines c ls).world ≡ world_after_lines c.settings c.world ls
unfolding after_line
world-is c [] = refl
world-is c (l ∷ ls) = world-is (after_line c l) ls

pub settings-is : (c : Cursor) (ls : List Line) → (after_lines c ls).settings ≡ c.settings
unfolding after_line
settings-is c [] = refl
settings-is c (l ∷ ls) = settings-is (after_line c l) ls
