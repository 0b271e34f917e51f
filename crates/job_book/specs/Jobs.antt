-- The jobs that run.
use Rattle.std.specs.Prelude.{List, map}
use Rattle.std.specs.Option.{option_map}
use Rattle.mat_model.specs.WorkState.{Job, Lent}
use Rattle.job_book.specs.declared.running.LentPart.{LentPart}
use Rattle.job_book.specs.declared.running.Running.{Running}

-- a part that is lent, as the model has it
abbrev pub lent_of : LentPart → Lent
lent_of part = record { path = part.path; stamp = part.stamp; tree = part.tree.value.tree }

-- a job that runs, as the model has it
abbrev pub job_of : Running → Job
job_of running = record { number = running.card.job; caller = running.caller; task = running.card.task; lent = option_map lent_of running.lent }

abbrev pub jobs_of : List Running → List Job
jobs_of runnings = map job_of runnings
