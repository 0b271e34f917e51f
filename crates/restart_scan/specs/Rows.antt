-- Kept rows as an opening reads them: what each row of the state store says, or the first refusal.
use Rattle.std.specs.Prelude.{◌≡◌, ℕ, ◌==◌, nat_lt, Bool, true, false, if◌then◌else◌, List, [], ◌∷◌, length, map, Option, Some, None, Result, Ok, Err}
use Rattle.std.specs.List.{list_all}
use Rattle.std.specs.declared.alloc.Global.{Global}
use Rattle.std.specs.declared.vec.Vec.{Vec}
use Rattle.mat_path.specs.Names.{overlap, path_of}
use Rattle.mat_tree.specs.Trees.{is_placed}
use Rattle.mat_tree.specs.declared.flat.Flat.{Flat}
use Rattle.keep_port.specs.declared.row.RawRow.{RawRow}
use Rattle.row_bytes.specs.Reading.{row_read}
use Rattle.row_bytes.specs.declared.row.KeptTree.{KeptTree}
use Rattle.mat_model.specs.Kept.{KeptRow, put_kept}
use Rattle.restart_scan.specs.declared.kept.Body.{Body}
use Rattle.restart_scan.specs.declared.kept.Kept.{Kept}
use Rattle.restart_scan.specs.declared.refusal.ScanRefusal.{ScanRefusal}
use Rattle.restart_scan.specs.declared.refusal.ScanRefusal.TheVariants as refusal

-- ---- answers

-- a value, or why there is none
abbrev pub Read : Type 0 → Type 0
Read A = Result A ScanRefusal

-- the second step, if the first one gave a value
infixl 10 ◌>>=◌
abbrev pub ◌>>=◌ : {A B : Type 0} → Read A → (A → Read B) → Read B
Ok x >>= f = f x
Err why >>= f = Err why

-- a refusal is the one that reading has, unless it is want of memory
abbrev pub Fails : {Y : Type 0} → ScanRefusal → Read Y → Type 0
Fails (refusal.KeeperFault note) read = ⊥
Fails (refusal.DiskFault note) read = ⊥
Fails (refusal.BadPath text) read = read ≡ Err (refusal.BadPath text)
Fails (refusal.BadRow path at) read = read ≡ Err (refusal.BadRow path at)
Fails (refusal.Foreign path found) read = read ≡ Err (refusal.Foreign path found)
Fails (refusal.Overlap first second) read = read ≡ Err (refusal.Overlap first second)
Fails (refusal.Rows count) read = read ≡ Err (refusal.Rows count)
Fails refusal.NoMemory read = Unit {0}

-- an answer of the code, seen by `view`, is what reading gives, unless memory was wanting
abbrev pub Gives : {X Y : Type 0} → (X → Y) → Result X ScanRefusal → Read Y → Type 0
Gives view (Ok x) read = read ≡ Ok (view x)
Gives view (Err why) read = Fails why read

-- ---- one row

-- the path that a text spells
abbrev pub spelled : List ℕ → Option (List (List ℕ)) → Read (List (List ℕ))
spelled text None = Err (refusal.BadPath text)
spelled text (Some path) = Ok path

abbrev pub path_in : List ℕ → Read (List (List ℕ))
path_in text = spelled text (path_of text)

-- what the bytes of the row at a path are read as
abbrev pub read_at : List (List ℕ) → Result KeptTree ℕ → Read KeptTree
read_at path (Ok kept) = Ok kept
read_at path (Err at) = Err (refusal.BadRow path at)

abbrev pub tree_in : List (List ℕ) → List ℕ → Read KeptTree
tree_in path body = read_at path (row_read body)

-- a tree at a path, each of whose nodes is at a path
abbrev pub placed_at : List (List ℕ) → KeptTree → Read KeptTree
placed_at path kept = if list_all (is_placed path) kept.tree then Ok kept else Err (refusal.BadRow path 0)

-- a kept row without its path
abbrev pub body_of : List Flat → ℕ → Bool → Body
body_of tree last new = record { tree = tree; last = last; new = new }

-- the refusal of a row that is of the folder with another number
abbrev pub strange : List (List ℕ) → ℕ → Read Body
strange path found = Err (refusal.Foreign path found)

-- a row that is of the folder with a number: one of the first version is, since it says none
abbrev pub own_row : ℕ → List (List ℕ) → List Flat → ℕ → Option ℕ → Read Body
own_row identity path tree last None = Ok (body_of tree last false)
own_row identity path tree last (Some found) = if found == identity then Ok (body_of tree last true) else strange path found

-- a kept row by its path and what it says of that
abbrev pub kept_at : List (List ℕ) × Body → KeptRow
kept_at pair = record { path = pair.0; tree = pair.1.tree; last = pair.1.last; new = pair.1.new }

-- what a row of the state store says
unfoldable pub body_in : ℕ → List (List ℕ) → RawRow → Read Body
body_in identity path raw = do
  kept ← tree_in path raw.body
  whole ← placed_at path kept
  own_row identity path whole.tree raw.last whole.identity

unfoldable pub row_in : ℕ → RawRow → Read (List (List ℕ) × Body)
row_in identity raw = do
  path ← path_in raw.path
  body ← body_in identity path raw
  Ok (path, body)

-- a row that was read is put into its place among others
abbrev pub IsPut : Read (List (List ℕ) × Body) → List KeptRow → List KeptRow → Type 0
IsPut (Ok pair) old new = new ≡ put_kept (kept_at pair) old
IsPut (Err why) old new = ⊥

-- unless it is refused
abbrev pub Adds : Read (List (List ℕ) × Body) → List KeptRow → List KeptRow → Result (Unit {0}) ScanRefusal → Type 0
Adds read old new (Ok done) = IsPut read old new
Adds read old new (Err why) = Fails why read

-- ---- all rows

-- kept rows by their paths
abbrev pub kept_in : List (List (List ℕ) × Body) → List KeptRow
kept_in pairs = map kept_at pairs

-- rows that are read one after the other, each put into its place in path order among those read before
abbrev pub read_more : ℕ → List KeptRow → List RawRow → Read (List KeptRow)
read_more identity kept [] = Ok kept
read_more identity kept (raw ∷ raws) = row_in identity raw >>= λ pair. read_more identity (put_kept (kept_at pair) kept) raws

-- the first neighbours that overlap
abbrev pub overlap_behind : KeptRow → List KeptRow → Option (List (List ℕ) × List (List ℕ))
overlap_behind row [] = None
overlap_behind row (next ∷ rest) = if overlap row.path next.path then Some (row.path, next.path) else overlap_behind next rest

abbrev pub first_overlap : List KeptRow → Option (List (List ℕ) × List (List ℕ))
first_overlap [] = None
first_overlap (row ∷ rest) = overlap_behind row rest

-- rows in path order, if no two of them overlap
abbrev pub refused_pair : List KeptRow → Option (List (List ℕ) × List (List ℕ)) → Read (List KeptRow)
refused_pair kept None = Ok kept
refused_pair kept (Some pair) = Err (refusal.Overlap pair.0 pair.1)

abbrev pub apart_rows : List KeptRow → Read (List KeptRow)
apart_rows kept = refused_pair kept (first_overlap kept)

-- the rows of the state store, if there aren't more than are allowed
abbrev pub allowed : ℕ → List RawRow → Read (List RawRow)
allowed most raws = if nat_lt most (length raws) then Err (refusal.Rows (length raws)) else Ok raws

-- all kept rows in path order, or the first refusal: too many rows, the first bad row in the order of the state store, the first overlapping pair in
-- path order
unfoldable pub kept_rows : ℕ → ℕ → List RawRow → Read (List KeptRow)
kept_rows most identity raws = do
  some ← allowed most raws
  kept ← read_more identity [] some
  apart_rows kept

-- a kept row of the code, as the model has it
abbrev pub kept_view : Kept → KeptRow
kept_view kept = record { path = kept.path; tree = kept.tree; last = kept.last; new = kept.new }

abbrev pub kept_list : Vec Kept Global → List KeptRow
kept_list kept = map kept_view kept.items
