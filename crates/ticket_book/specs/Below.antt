-- The numbers of the open tickets at and below each prefix of the paths that they ask for: no contract outside speaks of it.
use Rattle.std.specs.Prelude.{◌≡◌, ℕ, nat_lt, Bool, ◌&&◌, List, length, Option}
use Rattle.std.specs.BTreeMap.{BTreeMap, get_by}
use Rattle.std.specs.declared.alloc.Global.{Global}
use Rattle.std.specs.declared.vec.Vec.{Vec}
use Rattle.mat_path.specs.Names.{is_prefix, path_cmp}
use Rattle.mat_model.specs.declared.book.Ticket.{Ticket}
use Rattle.ticket_book.specs.Asked.{asks_below}
use Rattle.ticket_book.specs.ByPath.{due_numbers, some_list}

-- the numbers at a list of names, if any stand there
abbrev pub numbers_at : List (List ℕ) → BTreeMap (Vec (List ℕ) Global) (List ℕ) → Option (List ℕ)
numbers_at names below = get_by (λ (key : Vec (List ℕ) Global). path_cmp names key.items) below

-- whether a list of names is among the first prefixes of another, of which the empty one is the first
abbrev pub is_start : ℕ → List (List ℕ) → List (List ℕ) → Bool
is_start count names start = is_prefix start names && nat_lt (length start) count

-- at each list of names stand the numbers of the open tickets that ask for a path at or below it, and nothing where none does
abbrev pub IsGathered : List Ticket → BTreeMap (Vec (List ℕ) Global) (List ℕ) → Type 0
IsGathered tickets below = (path : List (List ℕ)) → numbers_at path below ≡ some_list (due_numbers (asks_below path) tickets)
