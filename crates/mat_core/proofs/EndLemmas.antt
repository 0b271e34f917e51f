-- What comes of the task of a job, and what that is in the model.
use Rattle.std.proofs.Common.{◌≡◌, ◌+◌, ◌==◌, ℕ, Bool, true, false, not, ◌&&◌, ◌||◌, cond, List, [], ◌∷◌, map, filter, find, length, Contains, Option, Some, None, refl, sym, ap, ap₂, subst, ◌∙◌}
use Rattle.std.specs.List.{list_all, list_any}
use Rattle.std.specs.Option.{is_some, option_map}
use Rattle.std.proofs.lemmas.Bool.{and_parts, both_ways, eq-eqb, false_from_ne_true}
use Rattle.std.proofs.lemmas.List.{length-map}
use Rattle.mat_path.proofs.Elements.{contains_first, contains_map, contains_more}
use Rattle.mat_path.proofs.Overlaps.{overlap-refl}
use Rattle.mat_path.proofs.SameNames.{same_names-eq}
use Rattle.mat_path.specs.Names.{overlap, same_names}
use Rattle.mat_model.specs.declared.answers.Answer.{Answer}
use Rattle.mat_model.specs.declared.answers.Recorded.{Recorded}
use Rattle.mat_model.specs.declared.answers.Recorded.TheVariants as recorded
use Rattle.mat_model.specs.declared.answers.Reply.TheVariants as reply
use Rattle.mat_model.specs.declared.book.Book.{Book}
use Rattle.mat_model.specs.declared.book.Row.{Row}
use Rattle.mat_model.specs.declared.entries.Outcome.{Outcome}
use Rattle.mat_model.specs.declared.entries.Outcome.TheVariants as outcome
use Rattle.mat_model.specs.declared.entries.Task.{Task}
use Rattle.mat_model.specs.declared.entries.Task.TheVariants as task
use Rattle.mat_model.specs.Kept.{KeptRow, kept_done, kept_row, store_rows}
use Rattle.mat_model.specs.Legal.{is_nothing, may_end}
use Rattle.mat_model.specs.Room.{is_alone, row_paths}
use Rattle.mat_model.specs.Rows.{are_apart, is_apart, is_at_path, standing_row}
use Rattle.mat_model.specs.Work.{finish, is_declared}
use Rattle.mat_model.specs.WorkState.{Job, WorkState, is_dirty, made_work, marked, path_of_task, wiped_work}
use Rattle.model_laws.specs.KeptRules.{KeptAscend}
use Rattle.model_laws.specs.TicketRules.{failure_of_make, failure_of_wipe}
use Rattle.model_laws.specs.WorkRules.{IsLentBy, IsMaking, IsWork, claimed_by_part, is_on_disk, loans_of}
use Rattle.model_laws.proofs.Apart.{apart_parts}
use Rattle.model_laws.proofs.Changes.{standing-path}
use Rattle.model_laws.proofs.ClaimLemmas.{disk_own_loan}
use Rattle.model_laws.proofs.Elements.{contains_all, found_passes}
use Rattle.model_laws.proofs.KeptOrder.{done_stores}
use Rattle.model_laws.proofs.RoomLists.{alone_stored, any_mapped}
use Rattle.model_laws.proofs.Serving.{ended_by}
use Rattle.row_book.proofs.RowLemmas.{rows_found}
use Rattle.row_book.specs.declared.stock.Stock.{Stock}
use Rattle.row_book.specs.Stocks.{row_of, row_passes, rows_of, stock_at}
use Rattle.kept_book.proofs.PutLemmas.{put_in_step}
use Rattle.kept_book.specs.Marks.{mark_at, mark_of, put_mark}
use Rattle.mat_core.specs.Ending.{end_made, end_of, end_of_make, end_of_wipe, is_counted, is_fresh, marks_recorded}
use Rattle.mat_core.specs.declared.ending.End.TheVariants as end
use Rattle.mat_core.proofs.WriteLemmas.{test_at}

-- ---- the row of a make

-- the row of a stock, if there is one with a stamp
abbrev pub declared_by : ℕ → Option Stock → Option Row
declared_by stamp None = None
declared_by stamp (Some stock) = cond (stock.row.stamp == stamp) (Some stock.row) None

-- where no stock is at a path, none passes a test that only one there does
none_at : (path : List (List ℕ)) (test : Stock → Bool) (stocks : List Stock) → ((stock : Stock) → test stock ≡ true → stock_at path stock ≡ true) →
    find (stock_at path) stocks ≡ None → find test stocks ≡ None
none_at path test [] at is = refl
none_at path test (first ∷ stocks) at is =
    elim (stock_at path first) as
    (λ b. stock_at path first ≡ b → cond b (Some first) (find (stock_at path) stocks) ≡ None → cond (test first) (Some first) (find test stocks) ≡ None) [
      | true ↦ λ here it. absurd cc
      | false ↦ λ off it.
          ap (λ b. cond b (Some first) (find test stocks)) (false_from_ne_true (test first) (λ passes. both_ways (stock_at path first) off (at first passes)))
          ∙ none_at path test stocks at it
    ] refl is

-- the row that was declared at a path under a stamp is the one at the path, if that has the stamp
pub declared_is : (path : List (List ℕ)) (stamp : ℕ) (stocks : List Stock) → are_apart (rows_of stocks) ≡ true →
    find (is_declared path stamp) (rows_of stocks) ≡ declared_by stamp (find (stock_at path) stocks)
declared_is path stamp stocks apart =
    sym (rows_found (is_declared path stamp) stocks) ∙ by (find (stock_at path) stocks) refl
  where
    at : (stock : Stock) → row_passes (is_declared path stamp) stock ≡ true → stock_at path stock ≡ true
    at stock is = (and_parts (is_at_path path stock.row) (stock.row.stamp == stamp) is).0

    by : (o : Option Stock) → find (stock_at path) stocks ≡ o → option_map row_of (find (row_passes (is_declared path stamp)) stocks) ≡ declared_by stamp o
    by None found = ap (option_map row_of) (none_at path (row_passes (is_declared path stamp)) stocks at found)
    by (Some stock) found =
        ap (option_map row_of) (test_at path (row_passes (is_declared path stamp)) stocks stock apart found at)
        ∙ ap (λ b. option_map row_of (cond (b && (stock.row.stamp == stamp)) (Some stock) None)) (found_passes (stock_at path) stocks stock found)
        ∙ either (stock.row.stamp == stamp) stock
      where
        either : (b : Bool) (s : Stock) → option_map row_of (cond b (Some s) None) ≡ cond b (Some s.row) None
        either true s = refl
        either false s = refl

-- whether the end of a task counts is whether its row is there
pub fresh_is : (begun : Task) (out : Outcome) (stocks : List Stock) → are_apart (rows_of stocks) ≡ true →
    is_counted (end_of stocks begun out) ≡ is_fresh begun (rows_of stocks)
fresh_is (task.Make path stamp) out stocks apart =
    by (find (stock_at path) stocks) ∙ sym (ap is_some (declared_is path stamp stocks apart))
  where
    made : (stock : Stock) (failure : Option Answer) → is_counted (end_made stock failure) ≡ true
    made stock None = refl
    made stock (Some given) = refl

    either : (b : Bool) (stock : Stock) →
        is_counted (cond b (end_made stock (failure_of_make out)) end.Gone) ≡ is_some (cond b (Some stock.row) None)
    either true stock = made stock (failure_of_make out)
    either false stock = refl

    by : (o : Option Stock) → is_counted (end_of_make stamp (failure_of_make out) o) ≡ is_some (declared_by stamp o)
    by None = refl
    by (Some stock) = either (stock.row.stamp == stamp) stock
fresh_is (task.Wipe path) out stocks apart = by (failure_of_make out)
  where
    by : (failure : Option Answer) → is_counted (end_of_wipe failure) ≡ true
    by None = refl
    by (Some given) = refl

-- the row of a make whose job runs isn't dirty
pub making_clean : (next : ℕ) (rows : List Row) (work : WorkState) (job : Job) (path : List (List ℕ)) (stamp : ℕ) (row : Row) →
    IsWork next rows work → Contains work.jobs job → job.task ≡ task.Make path stamp → Contains rows row → row.path ≡ path → row.stamp ≡ stamp →
    is_dirty work.dirty path ≡ false
making_clean next rows work job path stamp row rules also is among at under =
    false_from_ne_true (is_dirty work.dirty path)
    (λ dirty.
    let lies : row.stands ≡ false = (subst (IsMaking rows) is (rules.jobs job also).making row among under).1 in
    let own = disk_own_loan next rows work row job path rules among (on_disk dirty) also loan
    (subst (λ (p : List (List ℕ)). overlap row.path p ≡ true) at (overlap-refl row.path)) in
    both_ways row.stands lies (subst (IsLentBy rows) own.lent (rules.jobs job also).lent row among (sym own.stamp)).stands)
  where
    either : (b : Bool) → (b || true) ≡ true
    either true = refl
    either false = refl

    on_disk : is_dirty work.dirty path ≡ true → is_on_disk work row ≡ true
    on_disk dirty = ap (λ b. row.stands || b) (subst (λ (p : List (List ℕ)). is_dirty work.dirty p ≡ true) (sym at) dirty) ∙ either row.stands

    loan : Contains (loans_of job) path
    loan =
        subst (λ (t : Task). Contains (path_of_task t ∷ claimed_by_part job.lent) path) (sym is) (contains_first path (claimed_by_part job.lent))

-- ---- the kept rows

-- of rows that are apart one alone was declared at a path under a stamp, and it stands
none_declared : (path : List (List ℕ)) (stamp : ℕ) (stocks : List Stock) → ((stock : Stock) → Contains stocks stock → stock_at path stock ≡ false) →
    filter (is_declared path stamp) (map (standing_row path) (rows_of stocks)) ≡ []
none_declared path stamp [] off = refl
none_declared path stamp (first ∷ stocks) off =
    ap (λ (r : Row). cond (is_declared path stamp r) (r ∷ rest) rest) (ap (λ b. cond b (record first.row { stands = true }) first.row) (off first (contains_first first stocks)))
    ∙ ap (λ b. cond (b && (first.row.stamp == stamp)) (first.row ∷ rest) rest) (off first (contains_first first stocks))
    ∙ none_declared path stamp stocks (λ stock among. off stock (contains_more first stocks stock among))
  where
    rest : List Row
    rest = filter (is_declared path stamp) (map (standing_row path) (rows_of stocks))

one_declared : (path : List (List ℕ)) (stamp : ℕ) (stocks : List Stock) (stock : Stock) → are_apart (rows_of stocks) ≡ true →
    find (stock_at path) stocks ≡ Some stock → stock.row.stamp ≡ stamp →
    filter (is_declared path stamp) (map (standing_row path) (rows_of stocks)) ≡ record stock.row { stands = true } ∷ []
one_declared path stamp [] stock apart found under = absurd cc
one_declared path stamp (first ∷ stocks) stock apart found under =
    let parts = and_parts (list_all (is_apart first.row) (rows_of stocks)) (are_apart (rows_of stocks)) apart in
    elim (stock_at path first) as
    (λ b. stock_at path first ≡ b → cond b (Some first) (find (stock_at path) stocks) ≡ Some stock →
    filter (is_declared path stamp) (map (standing_row path) (rows_of (first ∷ stocks))) ≡ record stock.row { stands = true } ∷ []) [
      | true ↦ λ here it.
          let same : first ≡ stock = cc in
          ap (λ (r : Row). cond (is_declared path stamp r) (r ∷ rest) rest) (ap (λ b. cond b (record first.row { stands = true }) first.row) here)
          ∙ ap (λ b. cond (b && (first.row.stamp == stamp)) (record first.row { stands = true } ∷ rest) rest) here
          ∙ ap (λ b. cond b (record first.row { stands = true } ∷ rest) rest)
          (eq-eqb first.row.stamp stamp (ap (λ (s : Stock). s.row.stamp) same ∙ under))
          ∙ ap (λ (rs : List Row). record first.row { stands = true } ∷ rs) (none_declared path stamp stocks (elsewhere parts.0 here))
          ∙ ap (λ (s : Stock). record s.row { stands = true } ∷ []) same
      | false ↦ λ off it.
          ap (λ (r : Row). cond (is_declared path stamp r) (r ∷ rest) rest) (ap (λ b. cond b (record first.row { stands = true }) first.row) off)
          ∙ ap (λ b. cond (b && (first.row.stamp == stamp)) (first.row ∷ rest) rest) off
          ∙ one_declared path stamp stocks stock parts.1 it under
    ] refl found
  where
    rest : List Row
    rest = filter (is_declared path stamp) (map (standing_row path) (rows_of stocks))

    elsewhere : list_all (is_apart first.row) (rows_of stocks) ≡ true → stock_at path first ≡ true → (other : Stock) → Contains stocks other →
        stock_at path other ≡ false
    elsewhere all here other among =
        false_from_ne_true (stock_at path other)
        (λ at.
        both_ways (overlap first.row.path other.row.path)
        (apart_parts first.row other.row (contains_all (is_apart first.row) (rows_of stocks) other.row all (contains_map row_of stocks other among))).1
        (subst (λ (p : List (List ℕ)). overlap first.row.path p ≡ true)
        (same_names-eq first.row.path path here ∙ sym (same_names-eq other.row.path path at)) (overlap-refl first.row.path)))

-- the marks once the row that was made is recorded
pub kept_made : (path : List (List ℕ)) (stamp : ℕ) (how : Recorded) (stocks : List Stock) (stock : Stock) (kept : List KeptRow) →
    are_apart (rows_of stocks) ≡ true → find (stock_at path) stocks ≡ Some stock → stock.row.stamp ≡ stamp → KeptAscend kept →
    marks_recorded path stock.row.last how (map mark_of kept)
    ≡ map mark_of (kept_done (task.Make path stamp) (reply.Fresh how) (map (standing_row path) (rows_of stocks)) kept)
kept_made path stamp recorded.Kept stocks stock kept apart found under ascend =
    sym (ap (λ (rs : List Row). map mark_of (store_rows rs kept)) (one_declared path stamp stocks stock apart found under)
    ∙ put_in_step (kept_row (record stock.row { stands = true })) kept ascend
    ∙ ap (λ p. put_mark (mark_at p stock.row.last true) (map mark_of kept))
    (same_names-eq stock.row.path path (found_passes (stock_at path) stocks stock found)))
kept_made path stamp (recorded.NotKept note) stocks stock kept apart found under ascend = refl
kept_made path stamp recorded.NoMemory stocks stock kept apart found under ascend = refl
kept_made path stamp recorded.Nothing stocks stock kept apart found under ascend = refl

-- ---- the paths that have a row or a kept row

same_alone : (rows others : List Row) (kept : List KeptRow) →
    ((path : List (List ℕ)) → list_any (is_at_path path) others ≡ list_any (is_at_path path) rows) →
    filter (is_alone others) kept ≡ filter (is_alone rows) kept
same_alone rows others [] alike = refl
same_alone rows others (one ∷ kept) alike =
    ap₂ (λ (b : Bool) (rest : List KeptRow). cond b (one ∷ rest) rest) (ap not (alike one.path)) (same_alone rows others kept alike)

-- a book has rows at as many paths as another, and at the same ones
record HasPaths (book other : Book) : Type 0 where
  count : length other.rows ≡ length book.rows
  at : (path : List (List ℕ)) → list_any (is_at_path path) other.rows ≡ list_any (is_at_path path) book.rows

end_has_paths : (number : ℕ) (begun : Task) (out : Outcome) (how : Recorded) (book : Book) → HasPaths book (finish number begun out how book).book
end_has_paths number begun out how book =
    ended_by (HasPaths book) number begun out how book (record {
      same = record { count = refl; at = λ path. refl };
      stands = λ path stamp row found. record {
        count = length-map book.rows (standing_row path);
        at = λ place. any_mapped (is_at_path place) (standing_row path) (λ r. ap (λ (p : List (List ℕ)). same_names p place) (standing-path path r)) book.rows;
      };
      fails = λ some given. record { count = refl; at = λ path. refl };
    })

-- the end of a job leaves as many paths that have one
pub paths_ended : (number : ℕ) (begun : Task) (out : Outcome) (how : Recorded) (book : Book) (kept : List KeptRow) →
    row_paths (finish number begun out how book).book
    (kept_done begun (finish number begun out how book).reply (finish number begun out how book).book.rows kept)
    ≡ row_paths book kept
paths_ended number begun out how book kept =
    let paths = end_has_paths number begun out how book in
    ap (λ (ks : List KeptRow). length (finish number begun out how book).book.rows + length ks)
    (done_stores
    (λ (ks : List KeptRow). filter (is_alone (finish number begun out how book).book.rows) ks
    ≡ filter (is_alone (finish number begun out how book).book.rows) kept)
    number begun out how book kept refl (λ some within. alone_stored (finish number begun out how book).book.rows some kept within)
    ∙ same_alone book.rows (finish number begun out how book).book.rows kept paths.at)
    ∙ ap (λ (n : ℕ). n + length (filter (is_alone book.rows) kept)) paths.count

-- ---- the work state

-- a make that failed leaves its path dirty
pub failed_work : (path : List (List ℕ)) (out : Outcome) (how : Recorded) (given : Answer) (work : WorkState) → failure_of_make out ≡ Some given →
    made_work path out (reply.Fresh how) work ≡ record work { dirty = path ∷ work.dirty }
failed_work path outcome.Made how given work fails = absurd cc
failed_work path outcome.Wiped how given work fails = absurd cc
failed_work path (outcome.Missing digest) how given work fails = refl
failed_work path (outcome.Corrupt wanted found) how given work fails = refl
failed_work path (outcome.Fault note) how given work fails = refl
failed_work path outcome.NoMemory how given work fails = refl

-- and a wipe that failed leaves its debris not condemned
pub unwiped_work : (path : List (List ℕ)) (out : Outcome) (given : Answer) (work : WorkState) → failure_of_wipe out ≡ Some given →
    wiped_work path out work ≡ record work { debris = map (marked false path) work.debris }
unwiped_work path outcome.Made given work fails = absurd cc
unwiped_work path outcome.Wiped given work fails = absurd cc
unwiped_work path (outcome.Missing digest) given work fails = absurd cc
unwiped_work path (outcome.Corrupt wanted found) given work fails = absurd cc
unwiped_work path (outcome.Fault note) given work fails = refl
unwiped_work path outcome.NoMemory given work fails = refl

-- a wipe ends wiped, or it failed
pub wipe_fails : (path : List (List ℕ)) (out : Outcome) (given : Answer) → may_end (task.Wipe path) out ≡ true → failure_of_make out ≡ Some given →
    failure_of_wipe out ≡ Some given
wipe_fails path outcome.Made given may fails = absurd cc
wipe_fails path outcome.Wiped given may fails = absurd cc
wipe_fails path (outcome.Missing digest) given may fails = absurd cc
wipe_fails path (outcome.Corrupt wanted found) given may fails = absurd cc
wipe_fails path (outcome.Fault note) given may fails = fails
wipe_fails path outcome.NoMemory given may fails = fails

pub wipe_ends : (path : List (List ℕ)) (out : Outcome) → may_end (task.Wipe path) out ≡ true → failure_of_make out ≡ None → out ≡ outcome.Wiped
wipe_ends path outcome.Made may is = absurd cc
wipe_ends path outcome.Wiped may is = refl
wipe_ends path (outcome.Missing digest) may is = absurd cc
wipe_ends path (outcome.Corrupt wanted found) may is = absurd cc
wipe_ends path (outcome.Fault note) may is = absurd cc
wipe_ends path outcome.NoMemory may is = absurd cc

-- a make ends with its row made, or it failed
pub make_ends : (path : List (List ℕ)) (stamp : ℕ) (out : Outcome) → may_end (task.Make path stamp) out ≡ true → failure_of_make out ≡ None → out ≡ outcome.Made
make_ends path stamp outcome.Made may is = refl
make_ends path stamp outcome.Wiped may is = absurd cc
make_ends path stamp (outcome.Missing digest) may is = absurd cc
make_ends path stamp (outcome.Corrupt wanted found) may is = absurd cc
make_ends path stamp (outcome.Fault note) may is = absurd cc
make_ends path stamp outcome.NoMemory may is = absurd cc

-- where nothing was recorded, that is said
pub nothing_is : (how : Recorded) → is_nothing how ≡ true → how ≡ recorded.Nothing
nothing_is recorded.Kept is = absurd cc
nothing_is (recorded.NotKept note) is = absurd cc
nothing_is recorded.NoMemory is = absurd cc
nothing_is recorded.Nothing is = refl
