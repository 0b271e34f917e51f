-- The loans of jobs by path, and what a book keeps: no contract outside speaks of it.
use Rattle.std.specs.Prelude.{◌≡◌, ℕ, Bool, true, false, not, List, [], ◌∷◌, map, Option, Some, None}
use Rattle.std.specs.List.{find, flat_map}
use Rattle.std.specs.Option.{option_map_or}
use Rattle.mat_path.specs.Names.{overlap}
use Rattle.mat_model.specs.Books.{are_ascending}
use Rattle.path_trie.specs.declared.entry.Entry.{Entry}
use Rattle.path_trie.specs.Entries.{are_in_turn, value_at, without}
use Rattle.job_book.specs.declared.running.LentPart.{LentPart}
use Rattle.job_book.specs.declared.running.Running.{Running}
use Rattle.job_book.specs.Numbers.{is_number, number_of, reads, task_path}

-- a loan at a path, of the job of a number
abbrev pub loan_at : List (List ℕ) → ℕ → Entry ℕ
loan_at path number = record { path = path; value = number }

-- the loan of the part that a job reads, if it reads one
abbrev pub source_loan : ℕ → Option LentPart → List (Entry ℕ)
source_loan number None = []
source_loan number (Some part) = loan_at part.path number ∷ []

-- the loans of a job, and of some jobs
abbrev pub loans_of : Running → List (Entry ℕ)
loans_of running = loan_at (task_path running) running.card.job ∷ source_loan running.card.job running.lent

abbrev pub all_loans : List Running → List (Entry ℕ)
all_loans list = flat_map loans_of list

-- whether two loans don't overlap, and whether no two of some do
abbrev pub is_clear : Entry ℕ → Entry ℕ → Bool
is_clear loan other = not (overlap loan.path other.path)

abbrev pub are_clear : List (Entry ℕ) → Bool
are_clear loans = are_in_turn is_clear loans

-- the same stands at each path
abbrev pub IsIndex : List (Entry ℕ) → List (Entry ℕ) → Type 0
IsIndex entries loans = (path : List (List ℕ)) → value_at path entries ≡ value_at path loans

-- what stands where the part is that a job would read, if it would read one
abbrev pub source_at : Option LentPart → List (Entry ℕ) → Option ℕ
source_at None entries = None
source_at (Some part) entries = value_at part.path entries

-- the entries without that of the part that a job read
abbrev pub without_source : Option LentPart → List (Entry ℕ) → List (Entry ℕ)
without_source None entries = entries
without_source (Some part) entries = without part.path entries

-- the entries without the loans of a job
abbrev pub without_loans : Running → List (Entry ℕ) → List (Entry ℕ)
without_loans running entries = without_source running.lent (without (task_path running) entries)

-- whether the job to which a loan leads, if one does, reads the part of a row
abbrev pub reads_found : List (List ℕ) → ℕ → Option ℕ → List Running → Bool
reads_found path stamp None list = false
reads_found path stamp (Some number) list = option_map_or (reads path stamp) (find (is_number number) list) false

-- a book: the numbers ascend, no two loans overlap, and by each path stands the number of the job that has the loan there
pub record IsWhole (list : List Running) (entries : List (Entry ℕ)) : Type 0 where
  pub ascending : are_ascending (map number_of list) ≡ true
  pub apart : are_clear (all_loans list) ≡ true
  pub indexed : IsIndex entries (all_loans list)
