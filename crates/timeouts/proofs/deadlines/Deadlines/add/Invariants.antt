use Rattle.timeouts.proofs.deadlines.Deadlines.add.Given as goal

abbrev pub ghosts-add_blank : goal.ghosts-add_blank
ghosts-add_blank a = record { name = a.blank.name; parts = a.blank.parts }
