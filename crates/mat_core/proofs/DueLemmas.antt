-- The rows that are due: how they are listed, and the places and marks of them.
use Rattle.std.proofs.Common.{◌≡◌, ◌<◌, ◌+◌, ◌⊎◌, inl, inr, ℕ, suc, Bool, true, false, not, ◌&&◌, ◌||◌, cond, nat_lt, ◌==◌, List, [], ◌∷◌, ◌++◌, map, filter, find, length, take, get_or, Contains, Option, Some, None, refl, sym, ap, ap₂, subst, ◌∙◌, arith}
use Rattle.std.specs.List.{list_all, list_any}
use Rattle.std.specs.Option.{option_map}
use Rattle.std.proofs.lemmas.Bool.{and_parts, both_ways, false_from_ne_true, lt-ltb, or_left, or_parts}
use Rattle.std.proofs.lemmas.List.{append-nil, append_assoc}
use Rattle.std.proofs.Math.Seq.{take-suc}
use Rattle.mat_path.proofs.Elements.{contains_cases, contains_first, filtered_contains, mapped_contains, none_passes}
use Rattle.mat_path.proofs.Overlaps.{overlap-refl}
use Rattle.mat_path.proofs.SameNames.{same_names-eq, same_names-sym}
use Rattle.mat_path.specs.Names.{overlap, same_names}
use Rattle.mat_model.specs.declared.book.Row.{Row}
use Rattle.mat_model.specs.Kept.{KeptRow, due, is_due, is_stored_as, kept_row, put_kept, store_rows}
use Rattle.mat_model.specs.Rows.{are_apart, comes_before, is_apart}
use Rattle.mat_model.specs.WorkState.{Job, WorkState, is_dirty, path_of_task}
use Rattle.model_laws.specs.KeptRules.{KeptAscend, path_of_kept}
use Rattle.model_laws.specs.StoredRules.{path_of_job}
use Rattle.model_laws.specs.WorkRules.{IsLender, IsLentBy, IsReadOf, IsWork, claimed_by_part}
use Rattle.model_laws.proofs.ClaimLemmas.{disk_own_loan, own_loans_apart}
use Rattle.model_laws.proofs.KeptOrder.{store_ascends}
use Rattle.mat_tree.specs.Trees.{ascends_by}
use Rattle.debris_list.proofs.Order.{before_irrefl}
use Rattle.path_trie.proofs.Lists.{filter_same}
use Rattle.keep_port.specs.declared.row.RawRow.{RawRow}
use Rattle.keep_port.specs.declared.row.Touch.{Touch}
use Rattle.kept_book.specs.declared.mark.Mark.{Mark}
use Rattle.kept_book.specs.Marks.{is_mark_at, is_other, is_reserved, mark_of, put_path, use_of}
use Rattle.kept_book.proofs.PutLemmas.{put_in_step}
use Rattle.core_laws.specs.Stored.{IsReadable, has_bytes, raw_of, touch_of, wants_bytes}
use Rattle.row_book.specs.declared.stock.Stock.{Stock}
use Rattle.row_book.specs.Stocks.{is_past, rows_of}
use Rattle.mat_core.specs.Flushing.{AreDue, HaveAllPlaces, IsLookedAt, KeepsOthers, due_by, if_so, is_due_by, is_idle, is_lacking_by, is_new_use, is_same_use, is_there_by, is_use_at, is_used, marks_with, places_with, places_without, put_by, touched_by, use_at}
use Rattle.mat_core.specs.declared.flushing.Due.{Due}
use Rattle.mat_core.proofs.ListLemmas.{all_ahead, none_behind, walk_on}
use Rattle.mat_core.proofs.PlaceLemmas.{reserved_less, reserved_more, reserved_put}

-- ---- the rows that are due

-- what is stored of the rows so far, in front of what is stored of the rest, is what is stored of all
pub record IsWalked (identity : ℕ) (marks : List Mark) (rows rest : List Row) (due : Due) : Type 0 where
  pub uses : due.uses.items ++ map touch_of (due_by marks rest) ≡ map touch_of (due_by marks rows)
  pub puts : due.puts.items ++ map (raw_of identity) (put_by marks rest) ≡ map (raw_of identity) (put_by marks rows)
  pub touches : due.touches.items ++ map touch_of (touched_by marks rest) ≡ map touch_of (touched_by marks rows)
  pub readable : (row : Row) → Contains (put_by marks rows) row → IsReadable (kept_row row) ⊎ Contains (put_by marks rest) row

-- at first nothing is stored
pub walk_begins : (identity : ℕ) (marks : List Mark) (stocks : List Stock) (due : Due) → due.uses.items ≡ [] → due.puts.items ≡ [] → due.touches.items ≡ [] →
    IsWalked identity marks (rows_of stocks) (rows_of (filter (is_past None) stocks)) due
walk_begins identity marks stocks due uses puts touches =
    subst (λ (ss : List Stock). IsWalked identity marks (rows_of stocks) (rows_of ss) due) (sym (all_ahead stocks)) (record {
      uses = ap (λ us. us ++ map touch_of (due_by marks (rows_of stocks))) uses;
      puts = ap (λ us. us ++ map (raw_of identity) (put_by marks (rows_of stocks))) puts;
      touches = ap (λ us. us ++ map touch_of (touched_by marks (rows_of stocks))) touches;
      readable = λ row among. inr among;
    })

-- what is stored of the first one comes in front of what is stored of the rest
first_due : {X : Type 0} (f : Row → X) (marks : List Mark) (row : Row) (rest : List Row) →
    map f (due_by marks (row ∷ rest)) ≡ if_so (is_due_by marks row) (f row) ++ map f (due_by marks rest)
first_due f marks row rest =
    elim (is_due_by marks row) as (λ b. map f (cond b (row ∷ due_by marks rest) (due_by marks rest)) ≡ if_so b (f row) ++ map f (due_by marks rest))
    [ true ↦ refl | false ↦ refl ]

first_of : {X : Type 0} (f : Row → X) (marks : List Mark) (test : Row → Bool) (row : Row) (rest : List Row) →
    map f (filter test (due_by marks (row ∷ rest))) ≡ if_so (is_due_by marks row && test row) (f row) ++ map f (filter test (due_by marks rest))
first_of {X} f marks test row rest =
    elim (is_due_by marks row) as (λ b. map f (filter test (cond b (row ∷ due_by marks rest) (due_by marks rest)))
    ≡ if_so (b && test row) (f row) ++ map f (filter test (due_by marks rest)))
    [ true ↦ kept | false ↦ refl ]
  where
    kept : map f (cond (test row) (row ∷ filter test (due_by marks rest)) (filter test (due_by marks rest)))
        ≡ if_so (test row) (f row) ++ map f (filter test (due_by marks rest))
    kept = elim (test row) as (λ b. map f (cond b (row ∷ filter test (due_by marks rest)) (filter test (due_by marks rest)))
        ≡ if_so b (f row) ++ map f (filter test (due_by marks rest)))
        [ true ↦ refl | false ↦ refl ]

-- one of the rows whose bytes are put is the first, or one of the rest
put_first : (marks : List Mark) (row : Row) (rest : List Row) (one : Row) → Contains (put_by marks (row ∷ rest)) one →
    ((row ≡ one) × ((is_due_by marks row && is_lacking_by marks row) ≡ true)) ⊎ Contains (put_by marks rest) one
put_first marks row rest one =
    elim (is_due_by marks row) as (λ b. Contains (filter (is_lacking_by marks) (cond b (row ∷ due_by marks rest) (due_by marks rest))) one →
    ((row ≡ one) × ((b && is_lacking_by marks row) ≡ true)) ⊎ Contains (put_by marks rest) one)
    [ true ↦ by | false ↦ λ among. inr among ]
  where
    by : Contains (cond (is_lacking_by marks row) (row ∷ put_by marks rest) (put_by marks rest)) one →
        ((row ≡ one) × (is_lacking_by marks row ≡ true)) ⊎ Contains (put_by marks rest) one
    by = elim (is_lacking_by marks row) as (λ b. Contains (cond b (row ∷ put_by marks rest) (put_by marks rest)) one →
        ((row ≡ one) × (b ≡ true)) ⊎ Contains (put_by marks rest) one) [
          | true ↦ λ among. elim (contains_cases row (put_by marks rest) one among) [ inl same ↦ inl (same, refl) | inr more ↦ inr more ]
          | false ↦ λ among. inr among
        ]

-- the next row is looked at
look_on : (identity : ℕ) (marks : List Mark) (rows : List Row) (row : Row) (rest : List Row) (used : Option (ℕ × Bool)) (old new : Due) →
    used ≡ use_at marks row.path → IsLookedAt identity row used old new → IsWalked identity marks rows (row ∷ rest) old →
    IsWalked identity marks rows rest new
look_on identity marks rows row rest used old new is looked walked = record {
  uses = step old.uses.items new.uses.items _ _ _ looked_at.uses (first_due touch_of marks row rest) ∙ walked.uses;
  puts = step old.puts.items new.puts.items _ _ _ looked_at.puts (first_of (raw_of identity) marks (is_lacking_by marks) row rest) ∙ walked.puts;
  touches = step old.touches.items new.touches.items _ _ _ looked_at.touches (first_of touch_of marks (is_there_by marks) row rest) ∙ walked.touches;
  readable = λ one among. elim (walked.readable one among) [
    | inl can ↦ inl can
    | inr more ↦ elim (put_first marks row rest one more) [
      | inl first ↦ inl (subst (λ (r : Row). IsReadable (kept_row r)) first.0 (looked_at.readable first.1))
      | inr later ↦ inr later
    ]
  ];
}
  where
    looked_at : IsLookedAt identity row (use_at marks row.path) old new
    looked_at = subst (λ u. IsLookedAt identity row u old new) is looked

    step : {X : Type 0} (had has one more all : List X) → has ≡ had ++ one → all ≡ one ++ more → has ++ more ≡ had ++ all
    step had has one more all comes first = ap (λ xs. xs ++ more) comes ∙ append_assoc had one more ∙ ap (λ xs. had ++ xs) (sym first)

pub walk_goes : (identity : ℕ) (marks : List Mark) (stocks : List Stock) (last : Option (List (List ℕ))) (found : Stock) (path : List (List ℕ))
    (used : Option (ℕ × Bool)) (old new : Due) → are_apart (rows_of stocks) ≡ true → Some found ≡ find (is_past last) stocks → path ≡ found.row.path →
    used ≡ use_at marks path → IsLookedAt identity found.row used old new →
    IsWalked identity marks (rows_of stocks) (rows_of (filter (is_past last) stocks)) old →
    IsWalked identity marks (rows_of stocks) (rows_of (filter (is_past (Some path)) stocks)) new
walk_goes identity marks stocks last found path used old new apart is at told looked walked =
    subst (λ (p : List (List ℕ)). IsWalked identity marks (rows_of stocks) (rows_of (filter (is_past (Some p)) stocks)) new) (sym at)
    (look_on identity marks (rows_of stocks) found.row (rows_of (filter (is_past (Some found.row.path)) stocks)) used old new
    (told ∙ ap (use_at marks) at) looked
    (subst (λ (ss : List Stock). IsWalked identity marks (rows_of stocks) (rows_of ss) old) (walk_on last stocks found apart (sym is)) walked))

-- fewer rows come behind it
pub walk_fewer : (stocks : List Stock) (last : Option (List (List ℕ))) (found : Stock) (path : List (List ℕ)) → are_apart (rows_of stocks) ≡ true →
    Some found ≡ find (is_past last) stocks → path ≡ found.row.path →
    length (filter (is_past (Some path)) stocks) + 1 ≡ length (filter (is_past last) stocks)
walk_fewer stocks last found path apart is at =
    let more : length (filter (is_past last) stocks) ≡ suc (length (filter (is_past (Some found.row.path)) stocks)) =
    ap (λ (ss : List Stock). length ss) (walk_on last stocks found apart (sym is)) in
    let same : length (filter (is_past (Some path)) stocks) ≡ length (filter (is_past (Some found.row.path)) stocks) =
    ap (λ (p : List (List ℕ)). length (filter (is_past (Some p)) stocks)) at in
    omega (arith, more, same)

-- at the end all are looked at
pub walk_ends : (identity : ℕ) (marks : List Mark) (stocks : List Stock) (last : Option (List (List ℕ))) (due : Due) → None ≡ find (is_past last) stocks →
    IsWalked identity marks (rows_of stocks) (rows_of (filter (is_past last) stocks)) due → AreDue identity marks (rows_of stocks) due
walk_ends identity marks stocks last due is walked =
    let all = subst (λ (ss : List Stock). IsWalked identity marks (rows_of stocks) (rows_of ss) due) (none_behind last stocks (sym is)) walked in
    record {
      uses = sym (append-nil due.uses.items) ∙ all.uses;
      puts = sym (append-nil due.puts.items) ∙ all.puts;
      touches = sym (append-nil due.touches.items) ∙ all.touches;
      readable = λ row among. elim (all.readable row among) [ inl can ↦ can | inr (k, within, at) ↦ absurd (omega (arith, within)) ];
    }

-- ---- places

-- the place of one more
places_push : (uses : List Touch) (one : Touch) (reserved : List (List (List ℕ))) →
    places_with (uses ++ one ∷ []) reserved ≡ put_path one.path (places_with uses reserved)
places_push [] one reserved = refl
places_push (first ∷ uses) one reserved = places_push uses one (put_path first.path reserved)

pub next_reserved : (uses : List Touch) (k : ℕ) (one : Touch) (reserved now new : List (List (List ℕ))) → k < length uses → one ≡ get_or uses k one →
    now ≡ places_with (take k uses) reserved → new ≡ put_path one.path now → new ≡ places_with (take (k + 1) uses) reserved
next_reserved uses k one reserved now new within is was comes =
    let next : suc k ≡ k + 1 = omega arith in
    comes ∙ ap (put_path one.path) was ∙ sym (places_push (take k uses) one reserved)
    ∙ ap (λ q. places_with (take k uses ++ q ∷ []) reserved) is
    ∙ ap (λ qs. places_with qs reserved) (sym (take-suc uses k one within))
    ∙ ap (λ n. places_with (take n uses) reserved) next

-- places that come leave each that is there, and so do those that go leave others
others_stay : (uses : List Touch) (path : List (List ℕ)) (reserved : List (List (List ℕ))) → is_reserved reserved path ≡ true →
    is_reserved (places_with uses reserved) path ≡ true
others_stay [] path reserved is = is
others_stay (one ∷ uses) path reserved is = others_stay uses path (put_path one.path reserved) (reserved_more one.path path reserved is)

pub some_reserved : (uses some : List Touch) (reserved now : List (List (List ℕ))) → now ≡ places_with some reserved → KeepsOthers uses reserved now
some_reserved uses some reserved now was path off is = subst (λ r. is_reserved r path ≡ true) (sym was) (others_stay some path reserved is)

pub others_left : (uses : List Touch) (path : List (List ℕ)) (reserved : List (List (List ℕ))) → is_used uses path ≡ false → is_reserved reserved path ≡ true →
    is_reserved (places_without uses reserved) path ≡ true
others_left [] path reserved off is = is
others_left (one ∷ uses) path reserved off is =
    let parts = or_parts (same_names one.path path) (is_used uses path) off in
    others_left uses path (filter (is_other one.path) reserved) parts.1
    (reserved_less one.path path reserved (same_names-sym path one.path ∙ parts.0) is)

-- a place is reserved for each of the last uses of rows that are apart, once their places came
abbrev AreOnce : List Touch → Type 0
AreOnce [] = Unit {0}
AreOnce (one ∷ uses) = (is_used uses one.path ≡ false) × AreOnce uses

due_off : (marks : List Mark) (row : Row) (rows : List Row) → list_all (is_apart row) rows ≡ true → is_used (map touch_of (due_by marks rows)) row.path ≡ false
due_off marks row [] apart = refl
due_off marks row (other ∷ rows) apart =
    let parts = and_parts (is_apart row other) (list_all (is_apart row) rows) apart in
    let clear = (and_parts (comes_before row.path other.path) (not (overlap row.path other.path)) parts.0).1 in
    elim (is_due_by marks other) as (λ b. is_used (map touch_of (cond b (other ∷ due_by marks rows) (due_by marks rows))) row.path ≡ false) [
      | true ↦ ap (λ b. b || is_used (map touch_of (due_by marks rows)) row.path) (differ other clear) ∙ due_off marks row rows parts.1
      | false ↦ due_off marks row rows parts.1
    ]
  where
    differ : (one : Row) → not (overlap row.path one.path) ≡ true → same_names one.path row.path ≡ false
    differ one clear =
        false_from_ne_true (same_names one.path row.path)
        (λ same. both_ways (not (overlap row.path one.path))
        (ap not (subst (λ (p : List (List ℕ)). overlap row.path p ≡ true) (sym (same_names-eq one.path row.path same)) (overlap-refl row.path))) clear)

due_once : (marks : List Mark) (rows : List Row) → are_apart rows ≡ true → AreOnce (map touch_of (due_by marks rows))
due_once marks [] apart = tt
due_once marks (row ∷ rows) apart =
    let parts = and_parts (list_all (is_apart row) rows) (are_apart rows) apart in
    elim (is_due_by marks row) as (λ b. AreOnce (map touch_of (cond b (row ∷ due_by marks rows) (due_by marks rows)))) [
      | true ↦ (due_off marks row rows parts.0, due_once marks rows parts.1)
      | false ↦ due_once marks rows parts.1
    ]

-- the places of some that differ
each_reserved : (uses : List Touch) (reserved : List (List (List ℕ))) (one : Touch) → Contains uses one → is_reserved (places_with uses reserved) one.path ≡ true
each_reserved [] reserved one (k, within, at) = absurd (omega (arith, within))
each_reserved (first ∷ uses) reserved one among = elim (contains_cases first uses one among) [
  | inl same ↦ subst (λ (u : Touch). is_reserved (places_with uses (put_path first.path reserved)) u.path ≡ true) same
      (others_stay uses first.path (put_path first.path reserved) (reserved_put first.path reserved))
  | inr more ↦ each_reserved uses (put_path first.path reserved) one more
]

each_held : (uses : List Touch) (reserved : List (List (List ℕ))) → AreOnce uses → ((one : Touch) → Contains uses one → is_reserved reserved one.path ≡ true) →
    HaveAllPlaces uses reserved
each_held [] reserved once each = tt
each_held (first ∷ uses) reserved once each = (
  each first (contains_first first uses),
  each_held uses (filter (is_other first.path) reserved) once.1
      (λ one among. reserved_less first.path one.path reserved (apart one among (each_off (is_use_at first.path) uses one once.0 among))
      (each one (more first uses one among))),
)
  where
    more : (a : Touch) (xs : List Touch) (x : Touch) → Contains xs x → Contains (a ∷ xs) x
    more a xs x among = Rattle.mat_path.proofs.Elements.contains_more a xs x among

    each_off : (test : Touch → Bool) (xs : List Touch) (x : Touch) → list_any test xs ≡ false → Contains xs x → test x ≡ false
    each_off test xs x none among = Rattle.mat_path.proofs.Elements.each_fails test xs x none among

    apart : (one : Touch) → Contains uses one → same_names one.path first.path ≡ false → same_names one.path first.path ≡ false
    apart one among off = off

pub due_held : (identity : ℕ) (marks : List Mark) (rows : List Row) (due : Due) (reserved now : List (List (List ℕ))) → are_apart rows ≡ true →
    AreDue identity marks rows due → now ≡ places_with due.uses.items reserved → HaveAllPlaces due.uses.items now
due_held identity marks rows due reserved now apart are was =
    subst (HaveAllPlaces due.uses.items) (sym was)
    (each_held due.uses.items (places_with due.uses.items reserved) (subst AreOnce (sym are.uses) (due_once marks rows apart))
    (λ one among. each_reserved due.uses.items reserved one among))

-- the make of a job is at the path of no row that stands
free_of_jobs : (next : ℕ) (rows : List Row) (work : WorkState) (row : Row) (job : Job) → IsWork next rows work → Contains rows row → row.stands ≡ true →
    Contains work.jobs job → overlap row.path (path_of_job job) ≡ false
free_of_jobs next rows work row job rules among stands also =
    false_from_ne_true (overlap row.path (path_of_job job))
    (λ meet.
    let read : IsReadOf row job (path_of_job job) =
    disk_own_loan next rows work row job (path_of_job job) rules among (or_left row.stands (is_dirty work.dirty row.path) stands) also
    (contains_first (path_of_task job.task) (claimed_by_part job.lent)) meet in
    let from : IsLender read.part row = subst (IsLentBy rows) read.lent (rules.jobs job also).lent row among (sym read.stamp) in
    both_ways (overlap (path_of_task job.task) read.part.path) (own_loans_apart next rows work job read.part rules also read.lent)
    (subst (λ (p : List (List ℕ)). overlap (path_of_task job.task) p ≡ true) (read.path ∙ from.path) (overlap-refl (path_of_task job.task))))

pub job_unused : (next : ℕ) (marks : List Mark) (rows : List Row) (work : WorkState) (job : Job) → IsWork next rows work → Contains work.jobs job →
    is_used (map touch_of (due_by marks rows)) (path_of_job job) ≡ false
job_unused next marks rows work job rules also =
    none_passes (is_use_at (path_of_job job)) (map touch_of (due_by marks rows))
    (λ one among.
    let (row, within, same) = mapped_contains touch_of (due_by marks rows) one among in
    let (there, due) = filtered_contains (is_due_by marks) rows row within in
    subst (λ (u : Touch). same_names u.path (path_of_job job) ≡ false) same
    (off row (free_of_jobs next rows work row job rules there
    (and_parts row.stands (not (is_same_use row.last (use_at marks row.path))) due).0 also)))
  where
    off : (row : Row) → overlap row.path (path_of_job job) ≡ false → same_names row.path (path_of_job job) ≡ false
    off row clear =
        false_from_ne_true (same_names row.path (path_of_job job))
        (λ same. both_ways (overlap row.path (path_of_job job)) clear
        (subst (λ (p : List (List ℕ)). overlap row.path p ≡ true) (same_names-eq row.path (path_of_job job) same) (overlap-refl row.path)))

-- ---- marks and kept rows

-- kept rows behind a path aren't at it
none_later : (path : List (List ℕ)) (test : KeptRow → Bool) (kept : List KeptRow) → list_all (λ (k : KeptRow). comes_before path k.path) kept ≡ true →
    list_any (λ (k : KeptRow). same_names k.path path && test k) kept ≡ false
none_later path test [] behind = refl
none_later path test (one ∷ kept) behind =
    let parts = and_parts (comes_before path one.path) (list_all (λ (k : KeptRow). comes_before path k.path) kept) behind in
    ap (λ b. (b && test one) || list_any (λ (k : KeptRow). same_names k.path path && test k) kept)
    (false_from_ne_true (same_names one.path path)
    (λ same. both_ways (comes_before path path) (before_irrefl path)
    (subst (λ (p : List (List ℕ)). comes_before path p ≡ true) (same_names-eq one.path path same) parts.0)))
    ∙ none_later path test kept parts.1

or_none : (b : Bool) → (b || false) ≡ b
or_none true = refl
or_none false = refl

-- what a test finds of the kept row at a path is told by its mark
marked_so : (path : List (List ℕ)) (test : Option (ℕ × Bool) → Bool) (kept : List KeptRow) → test None ≡ false → KeptAscend kept →
    list_any (λ (k : KeptRow). same_names k.path path && test (Some (k.last, k.new))) kept ≡ test (use_at (map mark_of kept) path)
marked_so path test [] none asc = sym none
marked_so path test (one ∷ kept) none asc =
    by (same_names one.path path) refl
    (marked_so path test kept none (and_parts (list_all (λ (k : KeptRow). comes_before one.path k.path) kept) (ascends_by path_of_kept kept) asc).1)
  where
    by : (b : Bool) → same_names one.path path ≡ b →
        list_any (λ (k : KeptRow). same_names k.path path && test (Some (k.last, k.new))) kept ≡ test (use_at (map mark_of kept) path) →
        ((same_names one.path path && test (Some (one.last, one.new))) || list_any (λ (k : KeptRow). same_names k.path path && test (Some (k.last, k.new))) kept)
        ≡ test (option_map use_of (cond (same_names path one.path) (Some (mark_of one)) (find (is_mark_at path) (map mark_of kept))))
    by true is rest =
        let parts = and_parts (list_all (λ (k : KeptRow). comes_before one.path k.path) kept) (ascends_by path_of_kept kept) asc in
        ap₂ (λ (b c : Bool). (b && test (Some (one.last, one.new))) || c) is
        (none_later path (λ (k : KeptRow). test (Some (k.last, k.new))) kept
        (subst (λ (p : List (List ℕ)). list_all (λ (k : KeptRow). comes_before p k.path) kept ≡ true) (same_names-eq one.path path is) parts.0))
        ∙ or_none (test (Some (one.last, one.new)))
        ∙ ap (λ b. test (option_map use_of (cond b (Some (mark_of one)) (find (is_mark_at path) (map mark_of kept))))) (sym (same_names-sym path one.path ∙ is))
    by false is rest =
        ap (λ b. (b && test (Some (one.last, one.new))) || list_any (λ (k : KeptRow). same_names k.path path && test (Some (k.last, k.new))) kept) is
        ∙ rest
        ∙ ap (λ b. test (option_map use_of (cond b (Some (mark_of one)) (find (is_mark_at path) (map mark_of kept))))) (sym (same_names-sym path one.path ∙ is))

and_three : (a b c : Bool) → ((a && b) && c) ≡ (a && (b && c))
and_three true b c = refl
and_three false b c = refl

any_alike : {X : Type 0} (p q : X → Bool) → ((x : X) → p x ≡ q x) → (xs : List X) → list_any p xs ≡ list_any q xs
any_alike p q same [] = refl
any_alike p q same (x ∷ xs) = ap₂ (λ (a b : Bool). a || b) (same x) (any_alike p q same xs)

-- the rows that are due by the marks of kept rows are those that are due beside these, and so with the ones whose bytes are wanted
pub due_same : (kept : List KeptRow) (rows : List Row) → KeptAscend kept → due_by (map mark_of kept) rows ≡ filter (is_due kept) rows
due_same kept rows asc =
    filter_same (is_due_by (map mark_of kept)) (is_due kept)
    (λ row. ap (λ b. row.stands && not b)
    (sym (any_alike (is_stored_as row) (λ (k : KeptRow). same_names k.path row.path && is_same_use row.last (Some (k.last, k.new)))
    (λ k. and_three (same_names k.path row.path) (k.last == row.last) k.new) kept
    ∙ marked_so row.path (is_same_use row.last) kept refl asc))) rows

there_same : (kept : List KeptRow) (row : Row) → KeptAscend kept → is_there_by (map mark_of kept) row ≡ has_bytes kept row
there_same kept row asc = sym (marked_so row.path is_new_use kept refl asc)

pub put_same : (kept : List KeptRow) (rows : List Row) → KeptAscend kept → put_by (map mark_of kept) rows ≡ filter (wants_bytes kept) (filter (is_due kept) rows)
put_same kept rows asc =
    filter_same (is_lacking_by (map mark_of kept)) (wants_bytes kept) (λ row. ap not (there_same kept row asc)) (due_by (map mark_of kept) rows)
    ∙ ap (filter (wants_bytes kept)) (due_same kept rows asc)

pub touched_same : (kept : List KeptRow) (rows : List Row) → KeptAscend kept →
    touched_by (map mark_of kept) rows ≡ filter (has_bytes kept) (filter (is_due kept) rows)
touched_same kept rows asc =
    filter_same (is_there_by (map mark_of kept)) (has_bytes kept) (λ row. there_same kept row asc) (due_by (map mark_of kept) rows)
    ∙ ap (filter (has_bytes kept)) (due_same kept rows asc)

-- the marks once rows are stored
pub marks_stored : (some : List Row) (kept : List KeptRow) → KeptAscend kept →
    marks_with (map touch_of some) (map mark_of kept) ≡ map mark_of (store_rows some kept)
marks_stored [] kept asc = refl
marks_stored (row ∷ some) kept asc =
    ap (marks_with (map touch_of some)) (sym (put_in_step (kept_row row) kept asc))
    ∙ marks_stored some (put_kept (kept_row row) kept) (store_ascends (row ∷ []) kept asc)

-- something is put or touched exactly where some row is due
touch_busy : (puts : List RawRow) (touch : Touch) (touches : List Touch) → is_idle puts (touch ∷ touches) ≡ false
touch_busy [] touch touches = refl
touch_busy (row ∷ puts) touch touches = refl

pub busy_is : (identity : ℕ) (marks : List Mark) (rows : List Row) (due : Due) → AreDue identity marks rows due →
    not (is_idle due.puts.items due.touches.items) ≡ nat_lt 0 (length (due_by marks rows))
busy_is identity marks rows due are = ap₂ (λ ps ts. not (is_idle ps ts)) are.puts are.touches ∙ by (due_by marks rows)
  where
    by : (dues : List Row) →
        not (is_idle (map (raw_of identity) (filter (is_lacking_by marks) dues)) (map touch_of (filter (is_there_by marks) dues))) ≡ nat_lt 0 (length dues)
    by [] = refl
    by (row ∷ dues) =
        elim (is_there_by marks row) as
        (λ b. not (is_idle (map (raw_of identity) (cond (not b) (row ∷ filter (is_lacking_by marks) dues) (filter (is_lacking_by marks) dues)))
        (map touch_of (cond b (row ∷ filter (is_there_by marks) dues) (filter (is_there_by marks) dues)))) ≡ true) [
          | true ↦ ap not (touch_busy (map (raw_of identity) (filter (is_lacking_by marks) dues)) (touch_of row) (map touch_of (filter (is_there_by marks) dues)))
          | false ↦ refl
        ] ∙ sym (lt-ltb 0 (length (row ∷ dues)) (omega arith))
