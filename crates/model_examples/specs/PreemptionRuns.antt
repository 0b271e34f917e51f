-- A worked history of soft commands: one of another state ends them, a ticket of theirs is answered so, and a command that refuses to wait is told
-- the live state.
use Rattle.std.specs.Prelude.{ℕ, true, false, List, [], ◌∷◌, ◌++◌, codes}
use Rattle.mat_model.specs.declared.answers.Reply.TheVariants as reply
use Rattle.mat_model.specs.declared.entries.Entry.{Entry}
use Rattle.mat_model.specs.declared.entries.Event.{Event}
use Rattle.mat_model.specs.declared.entries.Event.TheVariants as event
use Rattle.mat_model.specs.declared.requests.Asked.TheVariants as asked
use Rattle.model_examples.specs.FirstRuns.{asks, enters, writes}
use Rattle.model_examples.specs.Steps.{digest_a, entry, looks, leaves}

-- the event that a soft command comes, and that one comes which refuses another state
abbrev pub enters_soft : ℕ → ℕ → Event
enters_soft command state = event.Asked (asked.Enter command state true false)

abbrev pub enters_or_goes : ℕ → ℕ → Event
enters_or_goes command state = event.Asked (asked.Enter command state false true)

-- the path `a`
abbrev pub path_a : List (List ℕ)
path_a = codes "a" ∷ []

-- two soft commands come for state 1, the first writes a file and the second asks for it
abbrev pub soft_run : List Entry
soft_run =
    entry 0 (enters_soft 1 1) reply.Entered
    ∷ entry 1 (enters_soft 2 1) reply.Entered
    ∷ entry 2 (writes 1 path_a digest_a) (reply.Declared 2)
    ∷ entry 3 (asks 2 path_a) (reply.Asked 3)
    ∷ []

-- the same, and then a command comes for state 2, and they go for it
abbrev pub taken_run : List Entry
taken_run = soft_run ++ entry 4 (enters 3 2) (reply.Took 2) ∷ []

-- the same, and then the first of them isn't live any more, one that refuses another state is told the live one, a soft one comes for that, and one
-- for another state waits, since not all who are live are soft
abbrev pub told_run : List Entry
told_run =
    taken_run
    ++ entry 5 (looks 1 path_a) reply.NotLive
    ∷ entry 6 (enters_or_goes 4 1) (reply.Differs 2)
    ∷ entry 7 (enters_soft 4 2) reply.Entered
    ∷ entry 8 (enters_soft 5 1) (reply.Queued 1)
    ∷ []

-- the same, and then the command of state 2 that isn't soft goes, another one waits behind the first, since where somebody waits nobody is ended, and
-- once the soft one goes too the front of the queue is admitted
abbrev pub preemption_run : List Entry
preemption_run =
    told_run
    ++ entry 9 (leaves 3) (reply.Left 0)
    ∷ entry 10 (enters 7 3) (reply.Queued 2)
    ∷ entry 11 (leaves 4) (reply.Left 1)
    ∷ entry 12 (leaves 2) reply.Unknown
    ∷ []
