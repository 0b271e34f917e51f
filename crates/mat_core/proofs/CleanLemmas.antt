-- What a clean lists, row by row and piece by piece.
use Rattle.std.proofs.Common.{◌≡◌, inl, inr, ℕ, ◌+◌, ◌<◌, ◌≤◌, suc, Bool, true, false, not, ◌||◌, cond, if◌then◌else◌, List, [], ◌∷◌, ◌++◌, Option, Some, None, map, filter, find, drop, length, refl, sym, ap, ap₂, subst, ◌∙◌, slice_get, get_or, Contains, arith}
use Rattle.std.specs.List.{list_all, list_any}
use Rattle.std.proofs.lemmas.Bool.{and_parts, both_ways, false_from_ne_true}
use Rattle.std.proofs.lemmas.List.{append-nil, append_assoc, drop_all}
use Rattle.std.proofs.lemmas.Option.{slice_get-get_or}
use Rattle.mat_path.proofs.Elements.{contains_cases, contains_filter, contains_first, contains_map, contains_more, filtered_contains, mapped_contains, none_passes}
use Rattle.mat_path.proofs.SameNames.{same_names-eq, same_names-refl}
use Rattle.mat_path.specs.Names.{overlap, same_names}
use Rattle.mat_model.specs.declared.answers.Gone.{Gone}
use Rattle.mat_model.specs.declared.book.Hold.{Hold}
use Rattle.mat_model.specs.declared.book.Row.{Row}
use Rattle.mat_model.specs.Cleaning.{gone_row, is_stale}
use Rattle.mat_model.specs.Rows.{are_apart, comes_before}
use Rattle.mat_model.specs.WorkState.{Debris, Job, condemn, is_stray, marked, path_of_debris}
use Rattle.model_laws.proofs.BooksLists.{contains_any}
use Rattle.model_laws.proofs.Elements.{contains_all}
use Rattle.debris_list.proofs.Order.{before_irrefl}
use Rattle.debris_list.specs.Pieces.{are_apart as are_pieces_apart, is_apart as is_piece_apart}
use Rattle.row_book.specs.declared.stock.Stock.{Stock}
use Rattle.row_book.specs.Stocks.{is_past, rows_of}
use Rattle.stale_pick.specs.Picks.{Picking, fed, spared_row}
use Rattle.mat_core.specs.Cleans.{condemned_at, gone_in, strays_in}
use Rattle.mat_core.proofs.ListLemmas.{all_ahead, drop_at, drop_end, none_behind, walk_on}

-- ---- rows

-- at first nothing is picked, and all rows are behind no path
pub stale_first : (cutoff : ℕ) (holds : List Hold) (stocks : List Stock) → [] ++ gone_in cutoff holds (filter (is_past None) stocks) ≡ gone_in cutoff holds stocks
stale_first cutoff holds stocks = ap (gone_in cutoff holds) (all_ahead stocks)

-- what is listed of a row and of those behind it
listed_on : (cutoff : ℕ) (holds : List Hold) (found : Stock) (stocks : List Stock) →
    gone_in cutoff holds (found ∷ stocks) ≡ cond (is_stale cutoff holds found.row) (gone_row found.row ∷ []) [] ++ gone_in cutoff holds stocks
listed_on cutoff holds found stocks =
    elim (is_stale cutoff holds found.row) as
    (λ b. map gone_row (cond b (found.row ∷ filter (is_stale cutoff holds) (rows_of stocks)) (filter (is_stale cutoff holds) (rows_of stocks)))
    ≡ cond b (gone_row found.row ∷ []) [] ++ gone_in cutoff holds stocks)
    [ true ↦ refl | false ↦ refl ]

-- a pick with one row more, by what it takes
fed_gone : (holds : List Hold) (row : Row) (picking : Picking) →
    (fed holds row picking).gone ≡ picking.gone ++ cond (is_stale picking.cutoff holds row) (gone_row row ∷ []) []
fed_gone holds row picking =
    elim (is_stale picking.cutoff holds row) as
    (λ b. (cond {A = Picking} b (record picking { gone = picking.gone ++ gone_row row ∷ [] }) (record picking { kept = picking.kept ++ spared_row holds row ∷ [] })).gone
    ≡ picking.gone ++ cond b (gone_row row ∷ []) [])
    [ true ↦ refl | false ↦ sym (append-nil picking.gone) ]

fed_cutoff : (holds : List Hold) (row : Row) (picking : Picking) → (fed holds row picking).cutoff ≡ picking.cutoff
fed_cutoff holds row picking =
    elim (is_stale picking.cutoff holds row) as
    (λ b. (cond {A = Picking} b (record picking { gone = picking.gone ++ gone_row row ∷ [] }) (record picking { kept = picking.kept ++ spared_row holds row ∷ [] })).cutoff
    ≡ picking.cutoff)
    [ true ↦ refl | false ↦ refl ]

-- a pick so far, and what is listed of the rows behind a path, are what is listed of all
pub record IsPickedTo (moment : ℕ) (holds : List Hold) (stocks : List Stock) (last : Option (List (List ℕ))) (picking : Picking) : Type 0 where
  pub cutoff : picking.cutoff ≡ moment
  pub gone : picking.gone ++ gone_in moment holds (filter (is_past last) stocks) ≡ gone_in moment holds stocks

module _ (cutoff : ℕ) (holds : List Hold) (stocks : List Stock) (last : Option (List (List ℕ))) (found : Stock)
    (apart : are_apart (rows_of stocks) ≡ true) (is : find (is_past last) stocks ≡ Some found) where
  -- the same with the next row
  pub stale_on : (picking next : Picking) → IsPickedTo cutoff holds stocks last picking → next ≡ fed holds found.row picking →
      IsPickedTo cutoff holds stocks (Some found.row.path) next
  stale_on picking next so step = record {
    cutoff = ap (λ (p : Picking). p.cutoff) step ∙ fed_cutoff holds found.row picking ∙ so.cutoff;
    gone =
        ap (λ (p : Picking). p.gone ++ behind) step
        ∙ ap (λ (gs : List Gone). gs ++ behind) (fed_gone holds found.row picking)
        ∙ ap (λ n. (picking.gone ++ cond (is_stale n holds found.row) (gone_row found.row ∷ []) []) ++ behind) so.cutoff
        ∙ append_assoc picking.gone (cond (is_stale cutoff holds found.row) (gone_row found.row ∷ []) []) behind
        ∙ ap (λ (gs : List Gone). picking.gone ++ gs) (sym (listed_on cutoff holds found (filter (is_past (Some found.row.path)) stocks)))
        ∙ ap (λ (ss : List Stock). picking.gone ++ gone_in cutoff holds ss) (sym (walk_on last stocks found apart is))
        ∙ so.gone;
  }
    where
      behind : List Gone
      behind = gone_in cutoff holds (filter (is_past (Some found.row.path)) stocks)

  -- and there are fewer behind it
  pub behind_fewer : (path : List (List ℕ)) → path ≡ found.row.path → length (filter (is_past (Some path)) stocks) < length (filter (is_past last) stocks)
  behind_fewer path at =
      let one : length (filter (is_past last) stocks) ≡ suc (length (filter (is_past (Some found.row.path)) stocks)) =
      ap length (walk_on last stocks found apart is) in
      let same : length (filter (is_past (Some path)) stocks) ≡ length (filter (is_past (Some found.row.path)) stocks) =
      ap (λ p. length (filter (is_past (Some p)) stocks)) at in
      omega (arith, one, same)

-- where no row is behind, all is picked
pub stale_all : (cutoff : ℕ) (holds : List Hold) (stocks : List Stock) (last : Option (List (List ℕ))) (picking : Picking) →
    find (is_past last) stocks ≡ None → picking.gone ++ gone_in cutoff holds (filter (is_past last) stocks) ≡ gone_in cutoff holds stocks →
    picking.gone ≡ gone_in cutoff holds stocks
stale_all cutoff holds stocks last picking none so =
    sym (append-nil picking.gone) ∙ ap (λ (ss : List Stock). picking.gone ++ gone_in cutoff holds ss) (sym (none_behind last stocks none)) ∙ so

-- ---- pieces of a list, by place

module _ {X Y : Type 0} (f : X → Y) (test : X → Bool) (xs : List X) (n : ℕ) where
  -- what was listed and what is listed of the elements that are left are all, also with the next element
  pub picked_on : (x : X) (ys next all : List Y) → slice_get xs n ≡ Some x → ys ++ map f (filter test (drop n xs)) ≡ all →
      next ≡ cond (test x) (ys ++ f x ∷ []) ys → next ++ map f (filter test (drop (n + 1) xs)) ≡ all
  picked_on x ys next all is so step =
      let more : n + 1 ≡ suc n = omega arith in
      ap (λ (zs : List Y). zs ++ map f (filter test (drop (n + 1) xs))) step
      ∙ ap (λ m. cond (test x) (ys ++ f x ∷ []) ys ++ map f (filter test (drop m xs))) more
      ∙ by (test x)
      ∙ ap (λ (zs : List X). ys ++ map f (filter test zs)) (sym (drop_at xs n x is))
      ∙ so
    where
      by : (b : Bool) → cond b (ys ++ f x ∷ []) ys ++ map f (filter test (drop (suc n) xs))
          ≡ ys ++ map f (cond b (x ∷ filter test (drop (suc n) xs)) (filter test (drop (suc n) xs)))
      by true = append_assoc ys (f x ∷ []) (map f (filter test (drop (suc n) xs)))
      by false = refl

  -- and where none is left, what was listed is all
  pub picked_all : (ys all : List Y) → slice_get xs n ≡ None → ys ++ map f (filter test (drop n xs)) ≡ all → ys ≡ all
  picked_all ys all none so = sym (append-nil ys) ∙ ap (λ (zs : List X). ys ++ map f (filter test zs)) (sym (drop_end xs n none)) ∙ so

-- the same in a walk that reads the elements by their places
module _ {X Y : Type 0} (f : X → Y) (test : X → Bool) (xs : List X) (n : ℕ) where
  pub picked_each : (x d : X) (ys next all : List Y) → n < length xs → x ≡ get_or xs n d → ys ++ map f (filter test (drop n xs)) ≡ all →
      next ≡ cond (test x) (ys ++ f x ∷ []) ys → next ++ map f (filter test (drop (n + 1) xs)) ≡ all
  picked_each x d ys next all within is so step =
      picked_on f test xs n x ys next all (slice_get-get_or xs n d within ∙ ap (λ z. Some z) (sym is)) so step

  pub picked_last : (ys all : List Y) → length xs ≤ n → ys ++ map f (filter test (drop n xs)) ≡ all → ys ≡ all
  picked_last ys all behind so = sym (append-nil ys) ∙ ap (λ (zs : List X). ys ++ map f (filter test zs)) (sym (drop_all n xs behind)) ∙ so

-- ---- strays

-- debris, condemned if it is at one of some paths
abbrev condemned_if : List (List (List ℕ)) → Debris → Debris
condemned_if paths debris = if list_any (same_names debris.path) paths then record debris { condemned = true } else debris

-- debris that is condemned at each path in turn is condemned at all
at_each : (paths : List (List (List ℕ))) (debris : List Debris) → condemned_at paths debris ≡ map (condemned_if paths) debris
at_each [] debris = sym (map_none debris)
  where
    map_none : (some : List Debris) → map (condemned_if []) some ≡ some
    map_none [] = refl
    map_none (one ∷ some) = ap (λ (ds : List Debris). one ∷ ds) (map_none some)
at_each (path ∷ paths) debris = at_each paths (map (marked true path) debris) ∙ each debris
  where
    element : (one : Debris) → condemned_if paths (marked true path one) ≡ condemned_if (path ∷ paths) one
    element one =
        elim (same_names one.path path) as
        (λ b. condemned_if paths (cond b (record one { condemned = true }) one)
        ≡ cond (b || list_any (same_names one.path) paths) (record one { condemned = true }) one) [
          | true ↦ twice (list_any (same_names one.path) paths)
          | false ↦ refl
        ]
      where
        twice : (b : Bool) → cond b (record one { condemned = true }) (record one { condemned = true }) ≡ record one { condemned = true }
        twice true = refl
        twice false = refl

    each : (some : List Debris) → map (condemned_if paths) (map (marked true path) some) ≡ map (condemned_if (path ∷ paths)) some
    each [] = refl
    each (one ∷ some) = ap₂ (λ (d : Debris) (ds : List Debris). d ∷ ds) (element one) (each some)

-- of debris that is apart one piece is at a path
one_piece : (debris : List Debris) (one other : Debris) → are_pieces_apart debris ≡ true → Contains debris one → Contains debris other →
    one.path ≡ other.path → one ≡ other
one_piece [] one other apart here there same = absurd (nobody here)
  where
    nobody : Contains [] one → ⊥
    nobody (k, within, at) = omega (arith, within)
one_piece (first ∷ debris) one other apart here there same =
    let parts = and_parts (list_all (is_piece_apart first) debris) (are_pieces_apart debris) apart in
    elim (contains_cases first debris one here) [
      | inl is_one ↦ elim (contains_cases first debris other there) [
        | inl is_other ↦ sym is_one ∙ is_other
        | inr later ↦ absurd (differs first.path other.path (before first other parts.0 later) (ap (λ (d : Debris). d.path) is_one ∙ same))
      ]
      | inr later ↦ elim (contains_cases first debris other there) [
        | inl is_other ↦ absurd (differs first.path one.path (before first one parts.0 later) (ap (λ (d : Debris). d.path) is_other ∙ sym same))
        | inr too ↦ one_piece debris one other parts.1 later too same
      ]
    ]
  where
    before : (a b : Debris) → list_all (is_piece_apart a) debris ≡ true → Contains debris b → comes_before a.path b.path ≡ true
    before a b all among =
        (and_parts (comes_before a.path b.path) (not (overlap a.path b.path)) (contains_all (is_piece_apart a) debris b all among)).0

    differs : (p q : List (List ℕ)) → comes_before p q ≡ true → p ≡ q → ⊥
    differs p q less is = both_ways (comes_before p p) (before_irrefl p) (subst (λ (r : List (List ℕ)). comes_before p r ≡ true) (sym is) less)

map_each : {X Y : Type 0} (f g : X → Y) (xs : List X) → ((x : X) → Contains xs x → f x ≡ g x) → map f xs ≡ map g xs
map_each f g [] same = refl
map_each {X} {Y} f g (x ∷ xs) same =
    ap₂ (λ (y : Y) (ys : List Y). y ∷ ys) (same x (contains_first x xs)) (map_each f g xs (λ z among. same z (contains_more x xs z among)))

-- the strays of some debris are at the paths that are listed of them
stray_listed : (jobs : List Job) (debris : List Debris) (one : Debris) → are_pieces_apart debris ≡ true → Contains debris one →
    list_any (same_names one.path) (strays_in jobs debris) ≡ is_stray jobs one
stray_listed jobs debris one apart among =
    elim (is_stray jobs one) as (λ b. is_stray jobs one ≡ b → list_any (same_names one.path) (strays_in jobs debris) ≡ b) [
      | true ↦ λ is.
          contains_any (same_names one.path) (strays_in jobs debris) one.path
          (contains_map path_of_debris (filter (is_stray jobs) debris) one (contains_filter (is_stray jobs) debris one is among))
          (same_names-refl one.path)
      | false ↦ λ is.
          none_passes (same_names one.path) (strays_in jobs debris)
          (λ path named.
          false_from_ne_true (same_names one.path path)
          (λ at.
          let (other, stray, its) = mapped_contains path_of_debris (filter (is_stray jobs) debris) path named in
          let (there, passes) = filtered_contains (is_stray jobs) debris other stray in
          let same = one_piece debris one other apart among there (same_names-eq one.path path at ∙ sym its) in
          both_ways (is_stray jobs one) is (subst (λ (d : Debris). is_stray jobs d ≡ true) (sym same) passes)))
    ] refl

-- so a clean of all condemns the debris at the paths that it lists
pub strays_condemned : (jobs : List Job) (debris : List Debris) → are_pieces_apart debris ≡ true →
    condemned_at (strays_in jobs debris) debris ≡ map (condemn jobs) debris
strays_condemned jobs debris apart =
    at_each (strays_in jobs debris) debris
    ∙ map_each (condemned_if (strays_in jobs debris)) (condemn jobs) debris
    (λ one among. ap (λ b. cond b (record one { condemned = true }) one) (stray_listed jobs debris one apart among))

-- the paths that are left lead to the same once debris at the next one is condemned
pub strays_on : (paths : List (List (List ℕ))) (n : ℕ) (path d : List (List ℕ)) (debris next all : List Debris) → n < length paths →
    path ≡ get_or paths n d → next ≡ map (marked true path) debris → condemned_at (drop n paths) debris ≡ all →
    condemned_at (drop (n + 1) paths) next ≡ all
strays_on paths n path d debris next all within is step so =
    let more : n + 1 ≡ suc n = omega arith in
    let here : slice_get paths n ≡ Some path = slice_get-get_or paths n d within ∙ ap (λ p. Some p) (sym is) in
    ap (condemned_at (drop (n + 1) paths)) step
    ∙ ap (λ m. condemned_at (drop m paths) (map (marked true path) debris)) more
    ∙ ap (λ (ps : List (List (List ℕ))). condemned_at ps debris) (sym (drop_at paths n path here))
    ∙ so

pub strays_last : (paths : List (List (List ℕ))) (n : ℕ) (debris all : List Debris) → length paths ≤ n → condemned_at (drop n paths) debris ≡ all → debris ≡ all
strays_last paths n debris all behind so = ap (λ (ps : List (List (List ℕ))). condemned_at ps debris) (sym (drop_all n paths behind)) ∙ so
