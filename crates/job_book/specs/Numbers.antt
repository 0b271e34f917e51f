-- The jobs of a book by number, and what is asked of them.
use Rattle.std.specs.Prelude.{◌≡◌, ◌<◌, ℕ, ◌==◌, nat_lt, Bool, true, false, not, ◌&&◌, ◌||◌, List, length, take, slice_index_or as get_or, Option}
use Rattle.std.specs.List.{list_all}
use Rattle.std.specs.Option.{option_map, option_map_or}
use Rattle.mat_path.specs.Names.{same_names}
use Rattle.mat_model.specs.WorkState.{Job, is_lent_part, lends_at, path_of_task}
use Rattle.job_book.specs.declared.running.LentPart.{LentPart}
use Rattle.job_book.specs.declared.running.Running.{Running}
use Rattle.job_book.specs.Jobs.{lent_of}

-- the number of a job
abbrev pub number_of : Running → ℕ
number_of running = running.card.job

-- whether a job has a number, another one, a lower one, or one that isn't lower
abbrev pub is_number : ℕ → Running → Bool
is_number number running = running.card.job == number

abbrev pub is_other : ℕ → Running → Bool
is_other number running = not (is_number number running)

abbrev pub is_earlier : ℕ → Running → Bool
is_earlier number running = nat_lt running.card.job number

abbrev pub is_past : ℕ → Running → Bool
is_past number running = not (is_earlier number running)

-- a place has the job of a number, and those before it have lower ones
pub record IsPlaceOf (number : ℕ) (list : List Running) (place : ℕ) : Type 0 where
  pub within : place < length list
  pub front : list_all (is_earlier number) (take place list) ≡ true
  pub at : (d : Running) → is_number number (get_or list place d) ≡ true

-- the path of a job's task
abbrev pub task_path : Running → List (List ℕ)
task_path running = path_of_task running.card.task

-- whether the part that a job would read is on loan, and whether it overlaps a path
abbrev pub is_source_lent : Option LentPart → List Job → Bool
is_source_lent lent jobs = option_map_or (is_lent_part jobs) (option_map lent_of lent) false

abbrev pub is_source_over : List (List ℕ) → Option LentPart → Bool
is_source_over path lent = option_map_or (lends_at path) (option_map lent_of lent) false

-- whether a part is that of the row at exactly a path and with a stamp, and whether a job reads it
abbrev pub is_part_of : List (List ℕ) → ℕ → LentPart → Bool
is_part_of path stamp part = same_names path part.path && part.stamp == stamp

abbrev pub reads : List (List ℕ) → ℕ → Running → Bool
reads path stamp running = option_map_or (is_part_of path stamp) running.lent false

-- a part that is marked as cleaned, if it is that of the row, and a job with its part so
abbrev pub marked_part : List (List ℕ) → ℕ → LentPart → LentPart
marked_part path stamp part = record part { cleaned = part.cleaned || is_part_of path stamp part }

abbrev pub marked : List (List ℕ) → ℕ → Running → Running
marked path stamp running = record running { lent = option_map (marked_part path stamp) running.lent }
