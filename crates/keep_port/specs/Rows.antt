-- What the calls of a state store do to its rows, where it tells them.
use Rattle.std.specs.Prelude.{◌≡◌, ℕ, Bool, true, false, not, ◌&&◌, if◌then◌else◌, List, [], ◌∷◌, ◌++◌, map, Option, Some, None}
use Rattle.std.specs.List.{filter, list_all}
use Rattle.std.specs.Ordering.{is_lt}
use Rattle.mat_io.specs.Causes.{risen}
use Rattle.mat_io.specs.declared.answer.Did.{Did}
use Rattle.mat_io.specs.declared.answer.Did.TheVariants as did
use Rattle.mat_path.specs.Names.{joined, name_cmp, same_name}
use Rattle.keep_port.specs.declared.row.All.{All}
use Rattle.keep_port.specs.declared.row.All.TheVariants as all
use Rattle.keep_port.specs.declared.row.RawRow.{RawRow}
use Rattle.keep_port.specs.declared.row.Touch.{Touch}

-- whether the path of a row comes before a path
abbrev pub is_less : List ℕ → RawRow → Bool
is_less path row = is_lt (name_cmp row.path path)

-- whether the path of a row comes behind a path
abbrev pub is_greater : List ℕ → RawRow → Bool
is_greater path row = is_lt (name_cmp path row.path)

-- whether rows stand in strict order of the bytes of their paths
abbrev pub ascend : List RawRow → Bool
ascend [] = true
ascend (row ∷ rows) = list_all (is_greater row.path) rows && ascend rows

-- rows with one more, which stands in the place of one at its path
abbrev pub put : List RawRow → RawRow → List RawRow
put rows row = filter (is_less row.path) rows ++ row ∷ filter (is_greater row.path) rows

-- the same with each of some, the last one at a path counting
abbrev pub put_all : List RawRow → List RawRow → List RawRow
put_all rows [] = rows
put_all rows (row ∷ more) = put_all (put rows row) more

-- a row with another last use, if it stands at a path
abbrev pub touched : List ℕ → ℕ → RawRow → RawRow
touched path last row = if same_name row.path path then record { path = row.path; body = row.body; last = last } else row

-- rows of which those at some paths get another last use
abbrev pub touch_all : List RawRow → List Touch → List RawRow
touch_all rows [] = rows
touch_all rows (touch ∷ more) = touch_all (map (touched (joined touch.path) touch.last) rows) more

-- whether a row stands at another path
abbrev pub is_elsewhere : List ℕ → RawRow → Bool
is_elsewhere path row = not (same_name row.path path)

-- rows without those at some paths
abbrev pub remove_all : List RawRow → List (List (List ℕ)) → List RawRow
remove_all rows [] = rows
remove_all rows (path ∷ more) = remove_all (filter (is_elsewhere (joined path)) rows) more

-- what a call leaves: where it isn't done, the rows as before
abbrev pub if_done : Did → List RawRow → List RawRow → List RawRow
if_done did.Done new old = new
if_done did.Failed new old = old
if_done did.NoMemory new old = old

-- the rows after a call that stores rows and touches others
abbrev pub after_store : List RawRow → List Touch → Did → List RawRow → List RawRow
after_store rows touches answer old = if_done answer (touch_all (put_all old rows) touches) old

-- the rows after a call that removes those at some paths
abbrev pub after_remove : List (List (List ℕ)) → Did → List RawRow → List RawRow
after_remove paths answer old = if_done answer (remove_all old paths) old

-- whether telling the rows failed
abbrev pub all_failed : All → Bool
all_failed (all.Rows rows) = false
all_failed all.Failed = true
all_failed all.NoMemory = false

-- rows are those of a state store, if it tells them
abbrev pub AreThese : Option (List RawRow) → List RawRow → Type 0
AreThese None rows = Unit {0}
AreThese (Some kept) rows = rows ≡ kept

-- rows that are told ascend, and are those of the state store
abbrev pub Tells : Option (List RawRow) → All → Type 0
Tells kept (all.Rows rows) = (ascend rows ≡ true) × AreThese kept rows
Tells kept all.Failed = Unit {0}
Tells kept all.NoMemory = Unit {0}

-- ---- failures and halts that can be called for

-- what a state store that can be made to fail keeps of its calls
pub record Watch : Type 0 where
  -- how many calls there were, up to the last number that 64 bits hold
  pub calls : ℕ
  -- the next call fails
  pub armed : Bool
  -- no call is carried out
  pub halted : Bool
  -- a call came while none was carried out
  pub met : Bool

-- the same after a call
abbrev pub after_call : Watch → Watch
after_call watch =
    if watch.halted then record { calls = watch.calls; armed = watch.armed; halted = true; met = true }
    else record { calls = risen watch.calls; armed = false; halted = false; met = watch.met }

-- whether the next call fails
abbrev pub will_fail : Watch → Bool
will_fail watch = watch.armed && not watch.halted

-- a call fails exactly where it was called for, if that is told
abbrev pub FailsSo : Option Watch → Bool → Type 0
FailsSo None failed = Unit {0}
FailsSo (Some watch) failed = failed ≡ will_fail watch

-- whether an answer is want of memory
abbrev pub did_want : Did → Bool
did_want did.Done = false
did_want did.Failed = false
did_want did.NoMemory = true

abbrev pub all_want : All → Bool
all_want (all.Rows rows) = false
all_want all.Failed = false
all_want all.NoMemory = true

-- a call that is halted answers want of memory, if that is told
abbrev pub Halts : Option Watch → Bool → Type 0
Halts None wanting = Unit {0}
Halts (Some watch) wanting = watch.halted ≡ true → wanting ≡ true

-- what a call answers at once, if it isn't carried out
abbrev pub at_once : Watch → Option Did
at_once watch = if watch.halted then Some did.NoMemory else if watch.armed then Some did.Failed else None
