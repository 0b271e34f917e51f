-- What a clean lists: the kept rows that go, the parts that are read, and what remains.
use Rattle.std.proofs.Common.{◌≡◌, ◌≤◌, ◌+◌, ◌==◌, ℕ, Bool, true, false, not, ◌&&◌, ◌||◌, cond, List, [], ◌∷◌, ◌++◌, map, filter, find, length, count_by, Contains, Option, Some, None, inl, inr, refl, sym, ap, ap₂, subst, ◌∙◌, arith}
use Rattle.std.specs.List.{list_any}
use Rattle.std.specs.Option.{is_some, option_map}
use Rattle.std.proofs.lemmas.Bool.{both_ways, eq-eqb, eqb-true, false_from_ne_true, ne_eqb}
use Rattle.std.proofs.lemmas.List.{length-map, length-reverse}
use Rattle.std.proofs.lemmas.List.Folds.{list_any-append}
use Rattle.std.proofs.lemmas.List.Sums.{count_by-le-length, length-filter}
use Rattle.mat_path.proofs.Elements.{contains_cases, contains_first, contains_map, contains_more, filtered_contains, mapped_contains, none_passes}
use Rattle.mat_path.proofs.SameNames.{same_names-eq, same_names-refl, same_names-sym}
use Rattle.mat_path.specs.Names.{is_path, same_names}
use Rattle.mat_path.proofs.PathLemmas.{overlap_comm}
use Rattle.mat_model.specs.declared.answers.Gone.{Gone}
use Rattle.mat_model.specs.declared.book.Book.{Book}
use Rattle.mat_model.specs.declared.book.Hold.{Hold}
use Rattle.mat_model.specs.declared.book.Row.{Row}
use Rattle.mat_model.specs.Cleaning.{gone_row, is_not_stale, is_stale}
use Rattle.mat_model.specs.Kept.{KeptRow, is_kept_of, is_listed, is_unlisted}
use Rattle.mat_model.specs.Rows.{is_at_path}
use Rattle.mat_model.specs.WorkState.{Debris, Job, WorkState, condemn, is_lent, is_stray, leaves_debris, stamp_of, without_removed}
use Rattle.model_laws.specs.WorkRules.{IsLentBy, IsWork}
use Rattle.model_laws.proofs.BooksLists.{any_contains, contains_any}
use Rattle.model_laws.proofs.ClaimLemmas.{leaves_clear_debris}
use Rattle.core_laws.specs.Stored.{AreDropped, IsStore}
use Rattle.keep_port.specs.declared.row.RawRow.{RawRow}
use Rattle.core_devices.specs.Removals.{are_some}
use Rattle.debris_list.specs.Pieces.{overlaps_debris}
use Rattle.row_book.specs.declared.stock.Stock.{Stock}
use Rattle.row_book.specs.Stocks.{path_of, row_of, row_passes, rows_of}
use Rattle.row_book.specs.Whole.{without_stocks}
use Rattle.row_book.proofs.HeldLemmas.{apart_left}
use Rattle.row_book.proofs.RowLemmas.{rows_left}
use Rattle.job_book.specs.Jobs.{job_of, jobs_of, lent_of}
use Rattle.job_book.specs.Numbers.{marked, marked_part}
use Rattle.job_book.specs.declared.running.LentPart.{LentPart}
use Rattle.job_book.specs.declared.running.Running.{Running}
use Rattle.kept_book.specs.declared.mark.Mark.{Mark}
use Rattle.kept_book.specs.Marks.{gone_path, is_mark_at, is_mark_unlisted, mark_of}
use Rattle.kept_book.specs.Marks.{is_listed as is_path_listed}
use Rattle.kept_book.proofs.LawLemmas.{unlisted_in_step}
use Rattle.mat_core.specs.Beginning.{HaveOnlyRoom}
use Rattle.mat_core.specs.Books.{AreWork, IsPart, is_same_stamp}
use Rattle.mat_core.specs.Cleans.{gone_in, has_mark, kept_among}
use Rattle.mat_core.specs.Falling.{MayAllRemain, is_unkept}
use Rattle.mat_core.specs.Removing.{marked_from, taken_at}
use Rattle.mat_core.specs.Replacing.{AreRuled}
use Rattle.mat_core.specs.Sweeping.{IsSweep, condemned_by, is_stale_stock}
use Rattle.mat_core.specs.declared.sweeping.Sweep.{Sweep}
use Rattle.mat_core.specs.declared.parts.Parts.{Parts}
use Rattle.mat_core.proofs.DeclareLemmas.{ruled_small}
use Rattle.mat_core.proofs.FallLemmas.{all_remain, filter_alike}
use Rattle.mat_core.proofs.InvalidateLemmas.{ruled_again}
use Rattle.mat_core.proofs.RemoveLemmas.{chosen_out, chosen_stay}
use Rattle.mat_core.proofs.WriteLemmas.{ruled_apart}

-- ---- lists

map_twice : {A B C : Type 0} (f : B → C) (g : A → B) (xs : List A) → map f (map g xs) ≡ map (λ x. f (g x)) xs
map_twice f g [] = refl
map_twice {A} {B} {C} f g (x ∷ xs) = ap (λ (ys : List C). f (g x) ∷ ys) (map_twice f g xs)

-- the paths of the rows that are listed are those of the stale stocks
pub gone_paths : (cutoff : ℕ) (holds : List Hold) (stocks : List Stock) →
    map gone_path (gone_in cutoff holds stocks) ≡ map path_of (filter (is_stale_stock cutoff holds) stocks)
gone_paths cutoff holds [] = refl
gone_paths cutoff holds (stock ∷ stocks) =
    elim (is_stale cutoff holds stock.row) as
    (λ b. map gone_path (map gone_row (cond b (stock.row ∷ filter (is_stale cutoff holds) (rows_of stocks)) (filter (is_stale cutoff holds) (rows_of stocks))))
    ≡ map path_of (cond b (stock ∷ filter (is_stale_stock cutoff holds) stocks) (filter (is_stale_stock cutoff holds) stocks))) [
      | true ↦ ap (λ (ps : List (List (List ℕ))). stock.row.path ∷ ps) (gone_paths cutoff holds stocks)
      | false ↦ gone_paths cutoff holds stocks
    ]

-- ---- kept rows

-- a mark at a path is found there
mark_there : (path : List (List ℕ)) (marks : List Mark) (mark : Mark) → Contains marks mark → same_names path mark.path ≡ true →
    is_some (find (is_mark_at path) marks) ≡ true
mark_there path [] mark (k, within, at) same = absurd (omega (arith, within))
mark_there path (first ∷ marks) mark among same =
    elim (is_mark_at path first) as (λ b. is_mark_at path first ≡ b → is_some (cond b (Some first) (find (is_mark_at path) marks)) ≡ true) [
      | true ↦ λ is. refl
      | false ↦ λ off. elim (contains_cases first marks mark among) [
        | inl one ↦ absurd (both_ways (is_mark_at path first) off (subst (λ (m : Mark). same_names path m.path ≡ true) (sym one) same))
        | inr more ↦ mark_there path marks mark more same
      ]
    ] refl

-- and one that is found is there
mark_found : (path : List (List ℕ)) (kept : List KeptRow) → is_some (find (is_mark_at path) (map mark_of kept)) ≡ true →
    (one : KeptRow) × Contains kept one × (same_names path one.path ≡ true)
mark_found path [] is = absurd (both_ways false refl is)
mark_found path (first ∷ kept) is =
    elim (same_names path first.path) as
    (λ b. same_names path first.path ≡ b → is_some (cond b (Some (mark_of first)) (find (is_mark_at path) (map mark_of kept))) ≡ true →
    (one : KeptRow) × Contains (first ∷ kept) one × (same_names path one.path ≡ true)) [
      | true ↦ λ at so. (first, contains_first first kept, at)
      | false ↦ λ off so. let (one, among, same) = mark_found path kept so in (one, contains_more first kept one among, same)
    ] refl is

-- a mark is at the path of one that is listed exactly where it is at that of one that has a mark
among_same : (marks : List Mark) (gone : List Gone) (mark : Mark) → Contains marks mark →
    is_path_listed (kept_among marks gone) mark.path ≡ is_path_listed (map gone_path gone) mark.path
among_same marks [] mark among = refl
among_same marks (one ∷ gone) mark among =
    by (same_names one.path mark.path) refl (has_mark marks one) refl (among_same marks gone mark among)
  where
    rest : List Gone
    rest = filter (has_mark marks) gone

    by : (s : Bool) → same_names one.path mark.path ≡ s → (b : Bool) → has_mark marks one ≡ b →
        is_path_listed (map gone_path rest) mark.path ≡ is_path_listed (map gone_path gone) mark.path →
        is_path_listed (map gone_path (cond (has_mark marks one) (one ∷ rest) rest)) mark.path
        ≡ (same_names one.path mark.path || is_path_listed (map gone_path gone) mark.path)
    by s same true has more =
        ap (λ b. is_path_listed (map gone_path (cond b (one ∷ rest) rest)) mark.path) has ∙ ap (λ b. same_names one.path mark.path || b) more
    by true same false has more = absurd (both_ways (has_mark marks one) has (mark_there one.path marks mark among same))
    by false same false has more =
        ap (λ b. is_path_listed (map gone_path (cond b (one ∷ rest) rest)) mark.path) has ∙ more
        ∙ sym (ap (λ b. b || is_path_listed (map gone_path gone) mark.path) same)

-- the kept rows that are left
pub marks_left : (gone : List Gone) (kept : List KeptRow) →
    filter (is_mark_unlisted (kept_among (map mark_of kept) gone)) (map mark_of kept) ≡ map mark_of (filter (is_unlisted gone) kept)
marks_left gone kept =
    filter_alike (is_mark_unlisted (kept_among (map mark_of kept) gone)) (is_mark_unlisted (map gone_path gone)) (map mark_of kept)
    (λ mark among. ap not (among_same (map mark_of kept) gone mark among))
    ∙ sym (unlisted_in_step gone kept)

listed_by : (paths : List (List (List ℕ))) (path : List (List ℕ)) → list_any (same_names path) paths ≡ is_path_listed paths path
listed_by [] path = refl
listed_by (one ∷ paths) path = ap₂ (λ (a b : Bool). a || b) (same_names-sym path one) (listed_by paths path)

listed_row : (gone : List Gone) (one : KeptRow) → is_path_listed (map gone_path gone) one.path ≡ is_listed gone one
listed_row [] one = refl
listed_row (first ∷ gone) one = ap (λ b. same_names first.path one.path || b) (listed_row gone one)

-- the paths name, of the kept rows, those that are listed
pub among_dropped : (identity : ℕ) (gone : List Gone) (kept : List KeptRow) (rows : List RawRow) → IsStore identity kept rows →
    AreDropped (is_listed gone) kept (kept_among (map mark_of kept) gone)
among_dropped identity gone kept rows store = record {
  exact = λ one among.
      listed_by (kept_among (map mark_of kept) gone) one.path
      ∙ among_same (map mark_of kept) gone (mark_of one) (contains_map mark_of kept one among) ∙ listed_row gone one;
  placed = λ path named.
      let (one, within, same) = mapped_contains gone_path (filter (has_mark (map mark_of kept)) gone) path named in
      let (row, among, at) = mark_found one.path kept (filtered_contains (has_mark (map mark_of kept)) gone one within).1 in
      subst (λ (p : List (List ℕ)). is_path p ≡ true) (sym (same_names-eq one.path row.path at) ∙ same) (store.readable row among).placed;
}

-- where some go, the state store has a row of one that is stale
pub some_among : (rows : List Row) (kept : List KeptRow) → are_some (kept_among (map mark_of kept) (map gone_row rows)) ≡ true →
    list_any (is_kept_of rows) kept ≡ true
some_among rows kept is =
    let (one, has, among) = first_of (filter (has_mark (map mark_of kept)) (map gone_row rows)) is in
    let (within, found) = filtered_contains (has_mark (map mark_of kept)) (map gone_row rows) one among in
    let (row, there, same) = mapped_contains gone_row rows one within in
    let (kept_one, also, at) = mark_found one.path kept found in
    contains_any (is_kept_of rows) kept kept_one also
    (contains_any (is_at_path kept_one.path) rows row there
    (subst (λ (g : Gone). same_names g.path kept_one.path ≡ true) (sym same) at))
  where
    first_of : (some : List Gone) → are_some (map gone_path some) ≡ true → (one : Gone) × Unit {0} × Contains some one
    first_of [] so = absurd (both_ways false refl so)
    first_of (one ∷ some) so = (one, tt, contains_first one some)

-- a kept row is at the path of one of some rows just where its path is listed with theirs
kept_listed : (rows : List Row) (one : KeptRow) → is_path_listed (map gone_path (map gone_row rows)) one.path ≡ is_kept_of rows one
kept_listed [] one = refl
kept_listed (row ∷ rows) one = ap (λ b. same_names row.path one.path || b) (kept_listed rows one)

some_listed : (paths : List (List (List ℕ))) (path : List (List ℕ)) → is_path_listed paths path ≡ true → are_some paths ≡ true
some_listed [] path is = absurd (both_ways false refl is)
some_listed (one ∷ paths) path is = refl

-- some go exactly where the state store has a row of one that is stale
pub among_is : (rows : List Row) (kept : List KeptRow) →
    are_some (kept_among (map mark_of kept) (map gone_row rows)) ≡ list_any (is_kept_of rows) kept
among_is rows kept =
    elim (list_any (is_kept_of rows) kept) as
    (λ b. list_any (is_kept_of rows) kept ≡ b → are_some (kept_among (map mark_of kept) (map gone_row rows)) ≡ b) [
      | true ↦ λ is.
          let (one, among, at) = any_contains (is_kept_of rows) kept is in
          some_listed (kept_among (map mark_of kept) (map gone_row rows)) one.path
          (among_same (map mark_of kept) (map gone_row rows) (mark_of one) (contains_map mark_of kept one among) ∙ kept_listed rows one ∙ at)
      | false ↦ λ is.
          false_from_ne_true (are_some (kept_among (map mark_of kept) (map gone_row rows)))
          (λ some. both_ways (list_any (is_kept_of rows) kept) is (some_among rows kept some))
    ] refl

-- ---- parts that are read

-- one job whose part is marked
abbrev pub mark_one : List Stock → Running → Running
mark_one [] running = running
mark_one (stock ∷ stocks) running = mark_one stocks (marked stock.row.path stock.row.stamp running)

pub marked_each : (stocks : List Stock) (jobs : List Running) → marked_from stocks jobs ≡ map (mark_one stocks) jobs
marked_each [] jobs = itself jobs
  where
    itself : (rs : List Running) → rs ≡ map (mark_one []) rs
    itself [] = refl
    itself (r ∷ rs) = ap (λ (ss : List Running). r ∷ ss) (itself rs)
marked_each (stock ∷ stocks) jobs =
    marked_each stocks (map (marked stock.row.path stock.row.stamp) jobs)
    ∙ map_twice (mark_one stocks) (marked stock.row.path stock.row.stamp) jobs

-- the mark of a part is right beside the stamps of rows that cleans removed
abbrev pub IsPartIn : List ℕ → Option LentPart → Type 0
IsPartIn stamps None = Unit {0}
IsPartIn stamps (Some part) = list_any (is_same_stamp part.stamp) stamps ≡ part.cleaned

-- of some rows the one with the stamp of a part is at its path
abbrev pub IsLentOf : List Stock → Option LentPart → Type 0
IsLentOf stocks None = Unit {0}
IsLentOf stocks (Some part) = (stock : Stock) → Contains stocks stock → stock.row.stamp ≡ part.stamp → stock.row.path ≡ part.path

lent_more : (stock : Stock) (stocks : List Stock) (o : Option LentPart) → IsLentOf (stock ∷ stocks) o →
    IsLentOf stocks (option_map (marked_part stock.row.path stock.row.stamp) o)
lent_more stock stocks None of = tt
lent_more stock stocks (Some part) of = λ other among same. of other (contains_more stock stocks other among) same

part_step : (stock : Stock) (stocks : List Stock) (stamps : List ℕ) (o : Option LentPart) → IsLentOf (stock ∷ stocks) o → IsPartIn stamps o →
    IsPartIn (stock.row.stamp ∷ stamps) (option_map (marked_part stock.row.path stock.row.stamp) o)
part_step stock stocks stamps None of is = tt
part_step stock stocks stamps (Some part) of is =
    ap (λ b. (stock.row.stamp == part.stamp) || b) is ∙ by (stock.row.stamp == part.stamp) refl
  where
    here : Bool
    here = same_names stock.row.path part.path && (part.stamp == stock.row.stamp)

    last_true : (b : Bool) → true ≡ (b || true)
    last_true true = refl
    last_true false = refl

    last_false : (b : Bool) → b ≡ (b || false)
    last_false true = refl
    last_false false = refl

    never : (b : Bool) → (b && false) ≡ false
    never true = refl
    never false = refl

    by : (b : Bool) → (stock.row.stamp == part.stamp) ≡ b → (b || part.cleaned) ≡ (part.cleaned || here)
    by true same =
        let equal : stock.row.stamp ≡ part.stamp = eqb-true stock.row.stamp part.stamp same in
        let at : stock.row.path ≡ part.path = of stock (contains_first stock stocks) equal in
        last_true part.cleaned
        ∙ sym (ap (λ b. part.cleaned || b)
        (ap (λ b. b && (part.stamp == stock.row.stamp)) (subst (λ (p : List (List ℕ)). same_names stock.row.path p ≡ true) at (same_names-refl stock.row.path))
        ∙ eq-eqb part.stamp stock.row.stamp (sym equal)))
    by false off =
        last_false part.cleaned
        ∙ sym (ap (λ b. part.cleaned || b)
        (ap (λ b. same_names stock.row.path part.path && b) (ne_eqb part.stamp stock.row.stamp
        (λ equal. both_ways (stock.row.stamp == part.stamp) off (eq-eqb stock.row.stamp part.stamp (sym equal))))
        ∙ never (same_names stock.row.path part.path)))

part_swap : (stamp : ℕ) (front stamps : List ℕ) (o : Option LentPart) → IsPartIn (front ++ stamp ∷ stamps) o → IsPartIn (stamp ∷ front ++ stamps) o
part_swap stamp front stamps None is = tt
part_swap stamp front stamps (Some part) is =
    ap (λ b. (stamp == part.stamp) || b) (list_any-append (is_same_stamp part.stamp) front stamps)
    ∙ swap (stamp == part.stamp) (list_any (is_same_stamp part.stamp) front) (list_any (is_same_stamp part.stamp) stamps)
    ∙ sym (list_any-append (is_same_stamp part.stamp) front (stamp ∷ stamps)) ∙ is
  where
    swap : (a b c : Bool) → (a || (b || c)) ≡ (b || (a || c))
    swap true true c = refl
    swap true false c = refl
    swap false b c = refl

part_marked : (stocks : List Stock) (running : Running) (stamps : List ℕ) → IsLentOf stocks running.lent → IsPartIn stamps running.lent →
    IsPartIn (map stamp_of (rows_of stocks) ++ stamps) (mark_one stocks running).lent
part_marked [] running stamps of is = is
part_marked (stock ∷ stocks) running stamps of is =
    part_swap stock.row.stamp (map stamp_of (rows_of stocks)) stamps (mark_one stocks (marked stock.row.path stock.row.stamp running)).lent
    (part_marked stocks (marked stock.row.path stock.row.stamp running) (stock.row.stamp ∷ stamps) (lent_more stock stocks running.lent of)
    (part_step stock stocks stamps running.lent of is))

part_in : (work : WorkState) (o : Option LentPart) → IsPart work o → IsPartIn work.cleaned o
part_in work None is = tt
part_in work (Some part) is = is

part_out : (work : WorkState) (removed : List Row) (o : Option LentPart) → IsPartIn (map stamp_of removed ++ work.cleaned) o →
    IsPart (without_removed true removed work) o
part_out work removed None is = tt
part_out work removed (Some part) is = is

lent_of_rows : (stocks : List Stock) (rows : List Row) (o : Option LentPart) → ((stock : Stock) → Contains stocks stock → Contains rows stock.row) →
    IsLentBy rows (option_map lent_of o) → IsLentOf stocks o
lent_of_rows stocks rows None within by = tt
lent_of_rows stocks rows (Some part) within by = λ stock among same. (by stock.row (within stock among) same).path

-- the marks of parts that are read are right once a clean removed some of the rows
pub parts_marked : {D K : Type 0} (number : ℕ) (test : Row → Bool) (old : Parts D K) (work : WorkState) (jobs : List Running) → IsWork number (rows_of old.rows) work →
    AreWork old work → jobs ≡ marked_from (filter (row_passes test) old.rows) old.jobs → (running : Running) → Contains jobs running →
    IsPart (without_removed true (filter test (rows_of old.rows)) work) running.lent
parts_marked number test old work jobs rules are is running among =
    let (one, within, same) = mapped_contains (mark_one (filter (row_passes test) old.rows)) old.jobs running
    (subst (λ js. Contains js running) (is ∙ marked_each (filter (row_passes test) old.rows) old.jobs) among) in
    let job = rules.jobs (job_of one) (subst (λ js. Contains js (job_of one)) are.jobs (contains_map job_of old.jobs one within)) in
    part_out work (filter test (rows_of old.rows)) running.lent
    (subst (λ (r : Running). IsPartIn (map stamp_of (filter test (rows_of old.rows)) ++ work.cleaned) r.lent) same
    (subst (λ (rs : List Row). IsPartIn (map stamp_of rs ++ work.cleaned) (mark_one (filter (row_passes test) old.rows) one).lent) (rows_left test old.rows)
    (part_marked (filter (row_passes test) old.rows) one work.cleaned
    (lent_of_rows (filter (row_passes test) old.rows) (rows_of old.rows) one.lent
    (λ stock there. contains_map row_of old.rows stock (filtered_contains (row_passes test) old.rows stock there).0) job.lent)
    (part_in work one.lent (are.cleaned one within)))))

-- as many rows are listed as are stale
pub sweep_few : (all : Bool) (cutoff : ℕ) (holds : List Hold) (stocks : List Stock) (marks : List Mark) (jobs : List Job) (debris : List Debris) (sweep : Sweep) →
    IsSweep all cutoff holds stocks marks jobs debris sweep →
    (length sweep.rows.items ≡ length (filter (is_stale_stock cutoff holds) stocks)) × (length sweep.rows.items ≤ length stocks)
sweep_few all cutoff holds stocks marks jobs debris sweep is =
    let same : length sweep.rows.items ≡ length (filter (is_stale_stock cutoff holds) stocks) =
    ap length is.rows ∙ length-reverse (map path_of (filter (is_stale_stock cutoff holds) stocks))
    ∙ length-map (filter (is_stale_stock cutoff holds) stocks) path_of in
    let most = count_by-le-length (is_stale_stock cutoff holds) stocks in
    let some = length-filter (is_stale_stock cutoff holds) stocks in
    (same, omega (arith, same, most, some))

-- ---- what remains

-- debris that is condemned lies where it lay
condemned_over : (path : List (List ℕ)) (jobs : List Job) (debris : List Debris) →
    list_any (overlaps_debris path) (map (condemn jobs) debris) ≡ list_any (overlaps_debris path) debris
condemned_over path jobs [] = refl
condemned_over path jobs (one ∷ debris) = ap₂ (λ (a b : Bool). a || b) (by (is_stray jobs one)) (condemned_over path jobs debris)
  where
    by : (b : Bool) → overlaps_debris path (cond b (record one { condemned = true }) one) ≡ overlaps_debris path one
    by true = refl
    by false = refl

pub over_by : (all : Bool) (path : List (List ℕ)) (jobs : List Job) (debris : List Debris) →
    list_any (overlaps_debris path) (condemned_by all jobs debris) ≡ list_any (overlaps_debris path) debris
over_by true path jobs debris = condemned_over path jobs debris
over_by false path jobs debris = refl

module _ {D K : Type 0} (number : ℕ) (all : Bool) (cutoff : ℕ) (old : Parts D K) (ruled : AreRuled number old) (sweep : Sweep)
    (is : IsSweep all cutoff old.holds old.rows old.kept.marks (jobs_of old.jobs) old.debris.list sweep) where
  pub sweep_taken : taken_at sweep.rows.items old.rows ≡ filter (is_stale_stock cutoff old.holds) old.rows
  sweep_taken = chosen_out (is_stale_stock cutoff old.holds) (row_passes (is_not_stale cutoff old.holds)) sweep.rows.items old.rows (λ stock. refl)
      (ruled_apart number old ruled) is.rows

  pub sweep_stays : without_stocks sweep.rows.items old.rows ≡ filter (row_passes (is_not_stale cutoff old.holds)) old.rows
  sweep_stays = chosen_stay (is_stale_stock cutoff old.holds) (row_passes (is_not_stale cutoff old.holds)) sweep.rows.items old.rows (λ stock. refl)
      (ruled_apart number old ruled) is.rows

  old_work : IsWork number (rows_of old.rows) ruled.point.work
  old_work =
      subst (λ r. IsWork number r ruled.point.work) (sym (ap (λ (b : Book). b.rows) ruled.stands.book))
      (subst (λ n. IsWork n ruled.point.book.rows ruled.point.work) ruled.next ruled.rules.work)

  -- what remains of the stale rows overlaps no debris
  pub sweep_remain : MayAllRemain true (jobs_of old.jobs) (taken_at sweep.rows.items old.rows) (condemned_by all (jobs_of old.jobs) old.debris.list)
  sweep_remain =
      subst (λ ss. MayAllRemain true (jobs_of old.jobs) ss (condemned_by all (jobs_of old.jobs) old.debris.list)) (sym sweep_taken)
      (all_remain true (jobs_of old.jobs) (filter (is_stale_stock cutoff old.holds) old.rows) (condemned_by all (jobs_of old.jobs) old.debris.list)
      (apart_left (is_stale_stock cutoff old.holds) old.rows (ruled_apart number old ruled))
      (λ one among remains.
      let there = (filtered_contains (is_stale_stock cutoff old.holds) old.rows one among).0 in
      let leaves : leaves_debris ruled.point.work one.row ≡ true =
      ap₂ (λ (b : Bool) (js : List Job). (one.row.stands || b) && not (is_lent one.row.path js)) (ruled.stands.work.stocks one there).mark
      (sym ruled.stands.work.jobs) ∙ remains in
      over_by all one.row.path (jobs_of old.jobs) old.debris.list
      ∙ none_passes (overlaps_debris one.row.path) old.debris.list
      (λ piece within.
      overlap_comm piece.path one.row.path
      ∙ leaves_clear_debris number (rows_of old.rows) ruled.point.work one.row piece old_work (contains_map row_of old.rows one there) leaves
      (subst (λ (ds : List Debris). Contains ds piece) ruled.stands.work.debris within))))

  -- and the paths that go are counted
  pub sweep_fits : (marks : List Mark) → count_by (is_unkept marks) (taken_at sweep.rows.items old.rows) ≤ old.paths
  sweep_fits marks =
      let small = (ruled_small number old ruled).rows in
      let same : count_by (is_unkept marks) (taken_at sweep.rows.items old.rows) ≡ count_by (is_unkept marks) (filter (is_stale_stock cutoff old.holds) old.rows) =
      ap (count_by (is_unkept marks)) sweep_taken in
      let most = count_by-le-length (is_unkept marks) (filter (is_stale_stock cutoff old.holds) old.rows) in
      let some = length-filter (is_stale_stock cutoff old.holds) old.rows in
      let few = count_by-le-length (is_stale_stock cutoff old.holds) old.rows in
      omega (arith, small, same, most, some, few)

-- what was listed of some parts is right of those that only have more room
pub sweep_again : {D K : Type 0} (all : Bool) (cutoff : ℕ) (old roomy : Parts D K) (keeper : K) (sweep : Sweep) →
    AreRuled (old.first + length old.history.items) old → HaveOnlyRoom old roomy →
    IsSweep all cutoff old.holds old.rows old.kept.marks (jobs_of old.jobs) old.debris.list sweep →
    AreRuled (roomy.first + length roomy.history.items) (record roomy { keeper = keeper })
    × IsSweep all cutoff roomy.holds roomy.rows roomy.kept.marks (jobs_of roomy.jobs) roomy.debris.list sweep
sweep_again all cutoff old roomy keeper sweep ruled only is = (
  ruled_again old roomy keeper only ruled,
  subst (λ hs. IsSweep all cutoff hs roomy.rows roomy.kept.marks (jobs_of roomy.jobs) roomy.debris.list sweep) (sym only.same.holds)
      (subst (λ rs. IsSweep all cutoff old.holds rs roomy.kept.marks (jobs_of roomy.jobs) roomy.debris.list sweep) (sym only.same.rows)
      (subst (λ ms. IsSweep all cutoff old.holds old.rows ms (jobs_of roomy.jobs) roomy.debris.list sweep) (sym only.same.kept)
      (subst (λ js. IsSweep all cutoff old.holds old.rows old.kept.marks (jobs_of js) roomy.debris.list sweep) (sym only.jobs)
      (subst (λ ds. IsSweep all cutoff old.holds old.rows old.kept.marks (jobs_of old.jobs) ds sweep) (sym only.same.debris) is)))),
)
