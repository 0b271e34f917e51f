-- The steps that the worked histories are made of: events in short words, entries of one caller, and some paths and digests.
use Rattle.std.specs.Prelude.{ℕ, List, [], ◌∷◌, codes}
use Rattle.mat_digest.specs.declared.digest.Digest.{Digest}
use Rattle.mat_tree.specs.declared.flat.Flat.{Flat}
use Rattle.mat_tree.specs.declared.sum.Sum.{Sum}
use Rattle.mat_model.specs.declared.answers.Device.TheVariants as device
use Rattle.mat_model.specs.declared.answers.FaultNote.{FaultNote}
use Rattle.mat_model.specs.declared.answers.Recorded.TheVariants as recorded
use Rattle.mat_model.specs.declared.answers.Reply.{Reply}
use Rattle.mat_model.specs.declared.answers.Reply.TheVariants as reply
use Rattle.mat_model.specs.declared.entries.Entry.{Entry}
use Rattle.mat_model.specs.declared.entries.Event.{Event}
use Rattle.mat_model.specs.declared.entries.Event.TheVariants as event
use Rattle.mat_model.specs.declared.entries.Outcome.{Outcome}
use Rattle.mat_model.specs.declared.entries.Outcome.TheVariants as outcome
use Rattle.mat_model.specs.declared.entries.Task.TheVariants as task
use Rattle.mat_model.specs.declared.requests.Asked.TheVariants as asked
use Rattle.mat_model.specs.declared.requests.CleanMode.{CleanMode}

-- an entry of caller 0 at a moment, by its place in the history
abbrev pub entry_at : ℕ → ℕ → Event → Reply → Entry
entry_at moment place what said =
    record { by = record { caller = 0; number = place }; now = moment; event = what; reply = said }

-- the same at the moment 0
abbrev pub entry : ℕ → Event → Reply → Entry
entry place what said = entry_at 0 place what said

-- the event that a command goes
abbrev pub leaves : ℕ → Event
leaves command = event.Asked (asked.Leave command)

-- the event that a command declares a tree
abbrev pub declares : ℕ → List (List ℕ) → List Flat → Event
declares command path tree = event.Asked (asked.Declare command path tree)

-- the event that a command declares at a path what is declared at a source
abbrev pub copies : ℕ → List (List ℕ) → List (List ℕ) → Event
copies command path source = event.Asked (asked.Copy command path source)

-- the event that a command compares a sum with that of a row
abbrev pub compares : ℕ → List (List ℕ) → Sum → Event
compares command path sum = event.Asked (asked.Matches command path sum)

-- the event that a command looks whether what covers a path stands
abbrev pub looks : ℕ → List (List ℕ) → Event
looks command path = event.Asked (asked.Has command path)

-- the event that a command removes the rows that overlap a path
abbrev pub removes : ℕ → List (List ℕ) → Event
removes command path = event.Asked (asked.Invalidate command path)

-- the event that what was last used before a moment is cleaned
abbrev pub cleans : ℕ → CleanMode → Event
cleans cutoff mode = event.Asked (asked.Clean cutoff mode)

-- the event that a make begins, and that a wipe does
abbrev pub makes : List (List ℕ) → ℕ → Event
makes path stamp = event.Begin (task.Make path stamp)

abbrev pub wipes : List (List ℕ) → Event
wipes path = event.Begin (task.Wipe path)

-- the event that the make of a number made its row, and that the wipe of a number left nothing
abbrev pub made : ℕ → Event
made number = event.Done number outcome.Made

abbrev pub wiped : ℕ → Event
wiped number = event.Done number outcome.Wiped

-- the event that the job of a number ended in another way
abbrev pub ends : ℕ → Outcome → Event
ends number out = event.Done number out

-- the event that the rows that stand are stored
abbrev pub flushes : Event
flushes = event.Asked asked.Flush

-- the note of the state store, whose count of faults was and is this
abbrev pub store_note : ℕ → ℕ → FaultNote
store_note before after = record { device = device.Keeper; before = before; after = after }

-- the note of the disk, whose count of faults was and is this
abbrev pub disk_note : ℕ → ℕ → FaultNote
disk_note before after = record { device = device.Disk; before = before; after = after }

-- the reply to the end of a make whose row was stored, and to the end of another job that counts
abbrev pub stored : Reply
stored = reply.Fresh recorded.Kept

abbrev pub done : Reply
done = reply.Fresh recorded.Nothing

-- the paths `p`, `q`, `r` and `s`
abbrev pub path_p : List (List ℕ)
path_p = codes "p" ∷ []

abbrev pub path_q : List (List ℕ)
path_q = codes "q" ∷ []

abbrev pub path_r : List (List ℕ)
path_r = codes "r" ∷ []

abbrev pub path_s : List (List ℕ)
path_s = codes "s" ∷ []

-- the digest of the file whose one byte is `a`
abbrev pub digest_a : Digest
digest_a = record {
  hash =
      202 ∷ 151 ∷ 129 ∷ 18 ∷ 202 ∷ 27 ∷ 189 ∷ 202 ∷ 250 ∷ 194 ∷ 49 ∷ 179 ∷ 154 ∷ 35 ∷ 220 ∷ 77
      ∷ 167 ∷ 134 ∷ 239 ∷ 248 ∷ 20 ∷ 124 ∷ 78 ∷ 114 ∷ 185 ∷ 128 ∷ 119 ∷ 133 ∷ 175 ∷ 238 ∷ 72 ∷ 187
      ∷ [];
  size = 1;
}

-- the digest of the file whose one byte is `b`
abbrev pub digest_b : Digest
digest_b = record {
  hash =
      62 ∷ 35 ∷ 232 ∷ 22 ∷ 0 ∷ 57 ∷ 89 ∷ 74 ∷ 51 ∷ 137 ∷ 79 ∷ 101 ∷ 100 ∷ 225 ∷ 177 ∷ 52
      ∷ 139 ∷ 189 ∷ 122 ∷ 0 ∷ 136 ∷ 212 ∷ 44 ∷ 74 ∷ 203 ∷ 115 ∷ 238 ∷ 174 ∷ 213 ∷ 156 ∷ 0 ∷ 157
      ∷ [];
  size = 1;
}
