use Rattle.timeouts.proofs.deadlines.Deadlines.remove.Given as goal

abbrev pub ghosts-remove_blank : goal.ghosts-remove_blank
ghosts-remove_blank a = record { name = a.blank.name; parts = a.blank.parts }
