use Rattle.std.proofs.Common.{refl, arith}
use Rattle.std.proofs.lemmas.Option.{slice_get_read}
use Rattle.lanes.proofs.replies.Replies.at.Goals as goal

pub returns : goal.returns
returns c = slice_get_read c.args.self.now.answers.items _ c.args.at c.index.result.now refl (omega (arith, c.requires, c.args.self.now.answers.ok.0)) c.index.ensures
