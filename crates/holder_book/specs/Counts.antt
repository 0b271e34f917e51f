-- How many holds are on each path: no contract outside speaks of it.
use Rattle.std.specs.Prelude.{◌≡◌, ℕ, zero, suc, nat_lt, ◌-◌, Bool, if◌then◌else◌, List, Option, Some, None}
use Rattle.std.specs.List.{count_by}
use Rattle.mat_path.specs.Names.{same_names}
use Rattle.mat_model.specs.declared.book.Hold.{Hold}
use Rattle.path_trie.specs.Entries.{put, value_at, without}
use Rattle.path_trie.specs.declared.entry.Entry.{Entry}

-- whether a hold is on a path
abbrev pub is_on : List (List ℕ) → Hold → Bool
is_on path hold = same_names path hold.path

-- a count, where it isn't 0
abbrev pub positive : ℕ → Option ℕ
positive zero = None
positive (suc n) = Some (suc n)

-- the count that stands at a path, or 0
abbrev pub count_or_none : Option ℕ → ℕ
count_or_none None = 0
count_or_none (Some count) = count

abbrev pub count_at : List (List ℕ) → List (Entry ℕ) → ℕ
count_at path counts = count_or_none (value_at path counts)

-- at each path stands how many holds are on it, and nothing where none is
abbrev pub AreCounted : List Hold → List (Entry ℕ) → Type 0
AreCounted holds counts = (path : List (List ℕ)) → value_at path counts ≡ positive (count_by (is_on path) holds)

-- the counts once there is one hold fewer on a path that had so many
abbrev pub with_one_less : ℕ → List (List ℕ) → List (Entry ℕ) → List (Entry ℕ)
with_one_less count path counts = if nat_lt 1 count then put path (count - 1) counts else without path counts
