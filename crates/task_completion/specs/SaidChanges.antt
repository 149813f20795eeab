-- PROOF: what judged commands give, as the program says it
use Rattle.std.specs.Prelude.{◌≡◌, List, [], Result, Ok, MatchResult}
use Rattle.wf_event_values.specs.Run.{Run}
use Rattle.wf_command.specs.declared.command.Command.{Command}
use Rattle.service_model_types.specs.declared.content.Setup.{Setup}
use Rattle.service_model.specs.RunState.{RunState}
use Rattle.service_model.specs.Completion.{goes_on, judge_all}
use Rattle.task_completion.specs.declared.fault.Fault.{Fault}
use Rattle.task_completion.specs.declared.judge.Judged.{Judged as JudgedSaid}
use Rattle.task_completion.specs.Faults.{IsFault}

-- it is what the definition gives of these commands, where this run would follow
abbrev pub IsJudged : Setup → Run → RunState → List Command → Result JudgedSaid Fault → Type 0
IsJudged setup next s commands result =
    MatchResult result (λ j. judge_all setup next s [] commands ≡ Ok j.facts.items) (IsFault (judge_all setup next s [] commands))

-- whether another workflow task follows
abbrev pub GoesOn : RunState → JudgedSaid → Type 0
GoesOn s j = j.goes_on ≡ goes_on s j.facts.items
