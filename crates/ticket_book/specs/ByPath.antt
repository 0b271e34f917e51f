-- The numbers of the open tickets by the path that they ask for and by command: no contract outside speaks of it.
use Rattle.std.specs.Prelude.{◌≡◌, ℕ, Bool, true, false, not, List, [], ◌∷◌, map, count_by, Option, Some, None}
use Rattle.std.specs.BTreeMap.{BTreeMap, get}
use Rattle.std.specs.BTreeSet.{insert_key}
use Rattle.std.specs.List.{filter, flat_map, list_any}
use Rattle.std.specs.Ordering.{nat_cmp}
use Rattle.mat_path.specs.Names.{same_names}
use Rattle.mat_model.specs.declared.book.Ticket.{Ticket}
use Rattle.mat_model.specs.Books.{number_of}
use Rattle.path_trie.specs.Entries.{is_next_under, value_at}
use Rattle.path_trie.specs.declared.entry.Entry.{Entry}
use Rattle.ticket_book.specs.Asked.{asks_for, is_due, is_same}

-- whether a ticket asks for exactly a path
abbrev pub asks_at : List (List ℕ) → Ticket → Bool
asks_at path ticket = same_names path ticket.asked

-- whether a ticket asks for a path that passes a test
abbrev pub asks_so : (List (List ℕ) → Bool) → Ticket → Bool
asks_so test ticket = test ticket.asked

-- the numbers of the open tickets that pass a test, in order
abbrev pub due_numbers : (Ticket → Bool) → List Ticket → List ℕ
due_numbers test tickets = map number_of (filter (is_due test) tickets)

-- a list, where it isn't empty
abbrev pub some_list : List ℕ → Option (List ℕ)
some_list [] = None
some_list (n ∷ ns) = Some (n ∷ ns)

-- a list, or the empty one
abbrev pub list_or_empty : Option (List ℕ) → List ℕ
list_or_empty None = []
list_or_empty (Some ns) = ns

-- at each path stand the numbers of the open tickets that ask for it, and nothing where none does
abbrev pub IsIndexed : List Ticket → List (Entry (List ℕ)) → Type 0
IsIndexed tickets entries = (path : List (List ℕ)) → value_at path entries ≡ some_list (due_numbers (asks_at path) tickets)

-- at each command stand the numbers of its open tickets, and nothing where it has none
abbrev pub IsFiled : List Ticket → BTreeMap ℕ (List ℕ) → Type 0
IsFiled tickets commands = (command : ℕ) → get nat_cmp commands command ≡ some_list (due_numbers (asks_for command) tickets)

-- the numbers of an entry, and of some
abbrev pub numbers_of : Entry (List ℕ) → List ℕ
numbers_of entry = entry.value

abbrev pub all_numbers : List (Entry (List ℕ)) → List ℕ
all_numbers entries = flat_map numbers_of entries

-- whether an entry is below a path, and not at it
abbrev pub is_inside : {V : Type 0} → List (List ℕ) → Entry V → Bool
is_inside path entry = is_next_under path path entry

-- numbers with one more
abbrev pub numbers_with : ℕ → Option (List ℕ) → Option (List ℕ)
numbers_with number numbers = Some (insert_key nat_cmp (list_or_empty numbers) number)

-- whether a number is another one
abbrev pub is_other : ℕ → ℕ → Bool
is_other number other = not (is_same number other)

-- numbers without one
abbrev pub numbers_less : ℕ → Option (List ℕ) → Option (List ℕ)
numbers_less number numbers = some_list (filter (is_other number) (list_or_empty numbers))

-- whether a list is there, and empty
abbrev pub is_bare : Option (List ℕ) → Bool
is_bare None = false
is_bare (Some []) = true
is_bare (Some (n ∷ ns)) = false

-- each number is in two lists as often
abbrev pub AreAsOften : List ℕ → List ℕ → Type 0
AreAsOften numbers others = (number : ℕ) → count_by (is_same number) numbers ≡ count_by (is_same number) others

-- whether the number of a ticket is one of some
abbrev pub is_among : List ℕ → Ticket → Bool
is_among numbers ticket = list_any (is_same ticket.number) numbers
