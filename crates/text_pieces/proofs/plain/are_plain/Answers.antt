use Rattle.json.proofs.Printed.Plain.{plain_from_lanes}
use Rattle.text_pieces.proofs.plain.are_plain.Goals as goal

pub returns : goal.returns
returns g c = plain_from_lanes c.args.text.now c.args.at g.row.N c.requires.0 c.requires.1 c.type_inv.text
