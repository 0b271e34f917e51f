-- Declarations: what they are answered, and what they do to the book. A declaration's number is the history number of its entry.
use Rattle.std.specs.Prelude.{ℕ, ◌&&◌, Bool, false, if◌then◌else◌, List, ◌++◌, length, drop, filter, find, Option, Some, None}
use Rattle.std.specs.List.{list_all}
use Rattle.std.specs.Option.{option_and_then}
use Rattle.mat_path.specs.Names.{is_path}
use Rattle.mat_tree.specs.declared.flat.Flat.{Flat}
use Rattle.mat_tree.specs.declared.sum.Sum.{Sum}
use Rattle.mat_tree.specs.Sums.{sum_of}
use Rattle.mat_tree.specs.Trees.{file_tree, is_placed, same_tree, sub_at}
use Rattle.mat_model.specs.declared.answers.Reply.TheVariants as reply
use Rattle.mat_model.specs.declared.book.Book.{Book}
use Rattle.mat_model.specs.declared.book.Row.{Row}
use Rattle.mat_model.specs.Gate.{Served, if_live}
use Rattle.mat_model.specs.Rows.{cover, is_at_path, is_clear_of, overlaps_row, put_row}
use Rattle.mat_model.specs.Tickets.{used_by, with_hold, without_rows}

-- whether a row has the tree, at exactly the path
abbrev pub is_equal_row : List (List ℕ) → List Flat → Row → Bool
is_equal_row path tree row = is_at_path path row && same_tree row.tree tree

-- a new row takes the place of each that overlaps it
abbrev pub replace_rows : ℕ → ℕ → List (List ℕ) → Row → Book → Served
replace_rows number command path new book =
    let left = without_rows number (filter (overlaps_row path) book.rows) (put_row new (filter (is_clear_of path) book.rows)) book in
    record { reply = reply.Declared number; book = record left { holds = with_hold command path book.holds } }

-- the row at the path has the tree already: it keeps its stamp
abbrev pub keep_row : ℕ → List (List ℕ) → Row → Book → Served
keep_row command path row book = record { reply = reply.Kept row.stamp; book = used_by command path book }

-- a row as it is declared: it doesn't stand yet
abbrev pub new_row : ℕ → ℕ → List (List ℕ) → List Flat → Row
new_row number moment path tree =
    record { path = path; tree = tree; sum = sum_of tree; stamp = number; stands = false; last = moment }

-- a tree is declared at a path, where the row that has it already, if there is one, is given
abbrev pub declare_row : ℕ → ℕ → List (List ℕ) → List Flat → Book → Option Row → Served
declare_row number command path tree book (Some row) = keep_row command path row book
declare_row number command path tree book None = replace_rows number command path (new_row number book.now path tree) book

-- a tree is declared at a path
abbrev pub declare : ℕ → ℕ → List (List ℕ) → List Flat → Book → Served
declare number command path tree book =
    declare_row number command path tree book (find (is_equal_row path tree) book.rows)

-- the file of a sum, not executable
abbrev pub written_tree : Sum → List Flat
written_tree sum = file_tree sum.digest false

-- a file is declared by its sum
abbrev pub write : ℕ → ℕ → List (List ℕ) → Sum → Book → Served
write number command path sum book = if_live command book (declare number command path (written_tree sum) book)

-- a tree is declared
abbrev pub declare_tree : ℕ → ℕ → List (List ℕ) → List Flat → Book → Served
declare_tree number command path tree book = if_live command book (declare number command path tree book)

-- the tree that a row has at a path below it, if a node stands there that is no link
abbrev pub tree_at : List (List ℕ) → Row → Option (List Flat)
tree_at path row = sub_at row.tree (drop (length row.path) path)

-- what is declared at a path, links apart
abbrev pub declared_at : List Row → List (List ℕ) → Option (List Flat)
declared_at rows path = option_and_then (tree_at path) (cover rows path)

-- a tree that was found at a source is declared, if there is one
abbrev pub copy_tree : ℕ → ℕ → List (List ℕ) → Book → Option (List Flat) → Served
copy_tree number command path book None = record { reply = reply.NoSource; book = book }
copy_tree number command path book (Some tree) =
    if list_all (is_placed path) tree then declare number command path tree book
    else record { reply = reply.TooLong; book = book }

-- what is declared at a source is declared at a path
abbrev pub copy : ℕ → ℕ → List (List ℕ) → List (List ℕ) → Book → Served
copy number command path source book =
    if_live command book (copy_tree number command path book (declared_at book.rows source))
