use Rattle.wire_lines.proofs.LineLemmas.{ended-whole}
use Rattle.wire_lines.proofs.lines_end_at_line_feeds.Goals as goal

pub returns : goal.returns
returns c = ended-whole
