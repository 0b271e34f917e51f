-- Rows that are copied one after the other.
use Rattle.std.proofs.Common.{◌≡◌, ℕ, ◌+◌, ◌-◌, ◌<◌, zero, suc, drop, length-append, true, false, not, List, [], ◌∷◌, ◌++◌, Option, Some, None, cond, refl, sym, ap, ap₂, subst, ◌∙◌, filter, find, length, slice_get, arith}
use Rattle.std.specs.List.{list_all}
use Rattle.std.proofs.lemmas.List.{append-nil, append_assoc}
use Rattle.std.proofs.lemmas.Option.{slice_get_within}
use Rattle.std.specs.Option.{option_map}
use Rattle.std.proofs.lemmas.Bool.{and_from, and_parts}
use Rattle.mat_path.proofs.Elements.{filter_all}
use Rattle.mat_path.specs.Names.{overlap}
use Rattle.mat_model.specs.declared.book.Row.{Row}
use Rattle.mat_model.specs.Openings.{path_of_row}
use Rattle.mat_model.specs.Rows.{are_apart, comes_before, is_apart}
use Rattle.debris_list.proofs.Order.{before_asym, before_irrefl, before_trans}
use Rattle.gate_core.specs.Gates.{parts_of, waiter_at}
use Rattle.holder_book.specs.Holds.{both}
use Rattle.mat_model.specs.Gate.{Gate}
use Rattle.mat_model.specs.declared.book.Hold.{Hold}
use Rattle.mat_model.specs.declared.book.Waiter.{Waiter}
use Rattle.row_book.specs.Stocks.{is_past, rows_of}
use Rattle.row_book.specs.declared.stock.Stock.{Stock}

-- of stocks that are apart, all behind one come behind what is in front of it
all_past : (last : List (List ℕ)) (one : Stock) (stocks : List Stock) → comes_before last one.row.path ≡ true →
    list_all (is_apart one.row) (rows_of stocks) ≡ true → list_all (is_past (Some last)) stocks ≡ true
all_past last one [] before apart = refl
all_past last one (other ∷ stocks) before apart =
    let parts = and_parts (is_apart one.row other.row) (list_all (is_apart one.row) (rows_of stocks)) apart in
    let next = (and_parts (comes_before one.row.path other.row.path) (not (overlap one.row.path other.row.path)) parts.0).0 in
    and_from (is_past (Some last) other) (list_all (is_past (Some last)) stocks)
    (before_trans last one.row.path other.row.path before next) (all_past last one stocks before parts.1)

-- all stocks come behind no path
all_begin : (stocks : List Stock) → list_all (is_past None) stocks ≡ true
all_begin [] = refl
all_begin (one ∷ stocks) = all_begin stocks

-- and one that is found comes behind the first
behind_one : (last : Option (List (List ℕ))) (one : Stock) (stocks : List Stock) (found : Stock) →
    list_all (is_apart one.row) (rows_of stocks) ≡ true → find (is_past last) stocks ≡ Some found → comes_before one.row.path found.row.path ≡ true
behind_one last one [] found apart is = absurd cc
behind_one last one (other ∷ stocks) found apart is =
    let parts = and_parts (is_apart one.row other.row) (list_all (is_apart one.row) (rows_of stocks)) apart in
    let next = (and_parts (comes_before one.row.path other.row.path) (not (overlap one.row.path other.row.path)) parts.0).0 in
    elim (is_past last other) as
    (λ b. cond b (Some other) (find (is_past last) stocks) ≡ Some found → comes_before one.row.path found.row.path ≡ true) [
      | true ↦ λ same. let e : other ≡ found = cc in subst (λ (s : Stock). comes_before one.row.path s.row.path ≡ true) e next
      | false ↦ λ later. behind_one last one stocks found parts.1 later
    ] is

-- behind a path are the first stock behind it, and those behind that one
pub walk_on : (last : Option (List (List ℕ))) (stocks : List Stock) (found : Stock) → are_apart (rows_of stocks) ≡ true →
    find (is_past last) stocks ≡ Some found → filter (is_past last) stocks ≡ found ∷ filter (is_past (Some found.row.path)) stocks
walk_on last [] found apart is = absurd cc
walk_on last (one ∷ stocks) found apart is =
    elim (is_past last one) as
    (λ b. is_past last one ≡ b → cond b (Some one) (find (is_past last) stocks) ≡ Some found →
    cond b (one ∷ filter (is_past last) stocks) (filter (is_past last) stocks) ≡ found ∷ filter (is_past (Some found.row.path)) (one ∷ stocks)) [
      | true ↦ λ past same.
          let e : one ≡ found = cc in
          subst (λ (s : Stock). one ∷ filter (is_past last) stocks ≡ s ∷ filter (is_past (Some s.row.path)) (one ∷ stocks)) e
          (ap (λ (ss : List Stock). one ∷ ss)
          (filter_all (is_past last) stocks (rest last past)
          ∙ sym (filter_all (is_past (Some one.row.path)) stocks (own stocks parts.0))
          ∙ ap (λ c. cond c (one ∷ filter (is_past (Some one.row.path)) stocks) (filter (is_past (Some one.row.path)) stocks))
          (sym (before_irrefl one.row.path))))
      | false ↦ λ past later.
          walk_on last stocks found parts.1 later
          ∙ ap (λ c. found ∷ cond c (one ∷ filter (is_past (Some found.row.path)) stocks) (filter (is_past (Some found.row.path)) stocks))
          (sym (before_asym one.row.path found.row.path (behind_one last one stocks found parts.0 later)))
    ] refl is
  where
    parts : (list_all (is_apart one.row) (rows_of stocks) ≡ true) × (are_apart (rows_of stocks) ≡ true)
    parts = and_parts (list_all (is_apart one.row) (rows_of stocks)) (are_apart (rows_of stocks)) apart

    rest : (l : Option (List (List ℕ))) → is_past l one ≡ true → list_all (is_past l) stocks ≡ true
    rest None past = all_begin stocks
    rest (Some path) past = all_past path one stocks past parts.0

    own : (ss : List Stock) → list_all (is_apart one.row) (rows_of ss) ≡ true → list_all (is_past (Some one.row.path)) ss ≡ true
    own [] all = refl
    own (other ∷ ss) all =
        let both = and_parts (is_apart one.row other.row) (list_all (is_apart one.row) (rows_of ss)) all in
        and_from (is_past (Some one.row.path) other) (list_all (is_past (Some one.row.path)) ss)
        (and_parts (comes_before one.row.path other.row.path) (not (overlap one.row.path other.row.path)) both.0).0 (own ss both.1)

-- where none is found, none is behind
pub none_behind : (last : Option (List (List ℕ))) (stocks : List Stock) → find (is_past last) stocks ≡ None → filter (is_past last) stocks ≡ []
none_behind last [] is = refl
none_behind last (one ∷ stocks) is =
    elim (is_past last one) as
    (λ b. cond b (Some one) (find (is_past last) stocks) ≡ None →
    cond b (one ∷ filter (is_past last) stocks) (filter (is_past last) stocks) ≡ [])
    [ true ↦ λ some. absurd cc | false ↦ λ later. none_behind last stocks later ] is

-- all are behind no path
pub all_ahead : (stocks : List Stock) → filter (is_past None) stocks ≡ stocks
all_ahead stocks = filter_all (is_past None) stocks (all_begin stocks)

-- the last of some elements with one more is that one
at_end : {X : Type 0} (xs : List X) (x : X) → slice_get (xs ++ x ∷ []) (length xs) ≡ Some x
at_end [] x = refl
at_end (y ∷ xs) x = at_end xs x

pub last_pushed : (rows : List Row) (row : Row) →
    option_map path_of_row (slice_get (rows ++ row ∷ []) (length (rows ++ row ∷ []) - 1)) ≡ Some row.path
last_pushed rows row =
    let grown : length (rows ++ row ∷ []) ≡ length rows + 1 = length-append rows (row ∷ []) in
    let place : length (rows ++ row ∷ []) - 1 ≡ length rows = omega (arith, grown) in
    ap (λ n. option_map path_of_row (slice_get (rows ++ row ∷ []) n)) place ∙ ap (option_map path_of_row) (at_end rows row)

-- ---- a list that is copied by place

-- what is behind a place begins with what is there
pub drop_at : {X : Type 0} (xs : List X) (n : ℕ) (x : X) → slice_get xs n ≡ Some x → drop n xs ≡ x ∷ drop (suc n) xs
drop_at [] n x is = absurd cc
drop_at (y ∷ xs) zero x is = let e : y ≡ x = cc in ap (λ z. z ∷ xs) e
drop_at (y ∷ xs) (suc n) x is = drop_at xs n x is

-- nothing is behind a place where nothing is
pub drop_end : {X : Type 0} (xs : List X) (n : ℕ) → slice_get xs n ≡ None → drop n xs ≡ []
drop_end [] zero is = refl
drop_end [] (suc n) is = refl
drop_end (y ∷ xs) zero is = absurd cc
drop_end (y ∷ xs) (suc n) is = drop_end xs n is

-- copies in front of what is left of a list are the list, also with the next element
pub copied_on : {X : Type 0} (copies xs : List X) (x : X) → slice_get xs (length copies) ≡ Some x → copies ++ drop (length copies) xs ≡ xs →
    (copies ++ x ∷ []) ++ drop (length (copies ++ x ∷ [])) xs ≡ xs
copied_on copies xs x is so =
    let grown : length (copies ++ x ∷ []) ≡ length copies + 1 = length-append copies (x ∷ []) in
    let next : length (copies ++ x ∷ []) ≡ suc (length copies) = omega (arith, grown) in
    ap (λ n. (copies ++ x ∷ []) ++ drop n xs) next
    ∙ append_assoc copies (x ∷ []) (drop (suc (length copies)) xs)
    ∙ ap (λ ys. copies ++ ys) (sym (drop_at xs (length copies) x is))
    ∙ so

-- and where no element is left, the copies are the list
pub copied_all : {X : Type 0} (copies xs : List X) → slice_get xs (length copies) ≡ None → copies ++ drop (length copies) xs ≡ xs → copies ≡ xs
copied_all copies xs is so = sym (append-nil copies) ∙ ap (λ ys. copies ++ ys) (sym (drop_end xs (length copies) is)) ∙ so

-- there are fewer copies where one more is to come
pub fewer_copied : {X : Type 0} (copies xs : List X) (x : X) → slice_get xs (length copies) ≡ Some x → length copies < length xs
fewer_copied copies xs x is = slice_get_within xs (length copies) x is

-- at first nothing is copied
pub none_copied : {X : Type 0} (xs : List X) → [] ++ drop 0 xs ≡ xs
none_copied xs = refl

-- ---- what is copied

-- a hold, and a command that waits, by their parts
pub hold_some : (found : Option Hold) (command : ℕ) (path : List (List ℕ)) → Some (command, path) ≡ option_map both found →
    found ≡ Some (record { command = command; path = path })
hold_some None command path is = absurd cc
hold_some (Some hold) command path is =
    let e : both hold ≡ (command, path) = cc in
    ap₂ (λ c p. Some (record { command = c; path = p })) (ap (λ (x : ℕ × List (List ℕ)). x.0) e) (ap (λ (x : ℕ × List (List ℕ)). x.1) e)

pub hold_none : (found : Option Hold) → None ≡ option_map both found → found ≡ None
hold_none None is = refl
hold_none (Some hold) is = absurd cc

pub waiter_next : (n : ℕ) (gate : Gate) → waiter_at (n + 1) gate ≡ option_map parts_of (slice_get gate.waiting n)
waiter_next n gate = let e : n + 1 ≡ suc n = omega arith in ap (λ m. waiter_at m gate) e

pub waiter_some : (found : Option Waiter) (command state : ℕ) → Some (command, state) ≡ option_map parts_of found →
    found ≡ Some (record { command = command; state = state })
waiter_some None command state is = absurd cc
waiter_some (Some waiter) command state is =
    let e : parts_of waiter ≡ (command, state) = cc in
    ap₂ (λ c s. Some (record { command = c; state = s })) (ap (λ (x : ℕ × ℕ). x.0) e) (ap (λ (x : ℕ × ℕ). x.1) e)

pub waiter_none : (found : Option Waiter) → None ≡ option_map parts_of found → found ≡ None
waiter_none None is = refl
waiter_none (Some waiter) is = absurd cc

-- ---- rows

abbrev pub last_of : List Row → Option (List (List ℕ))
last_of rows = option_map path_of_row (slice_get rows (length rows - 1))

module _ (copies : List Row) (stocks : List Stock) (found : Stock) (apart : are_apart (rows_of stocks) ≡ true)
    (is : find (is_past (last_of copies)) stocks ≡ Some found)
    (so : copies ++ rows_of (filter (is_past (last_of copies)) stocks) ≡ rows_of stocks) where
  -- copies of rows in front of those behind the last of them are all rows, also with the next one
  pub rows_on : (copies ++ found.row ∷ []) ++ rows_of (filter (is_past (last_of (copies ++ found.row ∷ []))) stocks) ≡ rows_of stocks
  rows_on =
      ap (λ l. (copies ++ found.row ∷ []) ++ rows_of (filter (is_past l) stocks)) (last_pushed copies found.row)
      ∙ append_assoc copies (found.row ∷ []) (rows_of (filter (is_past (Some found.row.path)) stocks))
      ∙ ap (λ ss. copies ++ rows_of ss) (sym (walk_on (last_of copies) stocks found apart is))
      ∙ so

  -- and there were fewer copies than rows
  pub rows_fewer : length copies < length (rows_of stocks)
  rows_fewer =
      let all : length copies + length (rows_of (filter (is_past (last_of copies)) stocks)) ≡ length (rows_of stocks) =
      sym (length-append copies (rows_of (filter (is_past (last_of copies)) stocks))) ∙ ap length so in
      let some : length (rows_of (filter (is_past (last_of copies)) stocks)) ≡ suc (length (rows_of (filter (is_past (Some found.row.path)) stocks))) =
      ap (λ (ss : List Stock). length (rows_of ss)) (walk_on (last_of copies) stocks found apart is) in
      omega (arith, all, some)

-- where none is behind the last copy, the copies are all rows
pub rows_all : (copies : List Row) (stocks : List Stock) → find (is_past (last_of copies)) stocks ≡ None →
    copies ++ rows_of (filter (is_past (last_of copies)) stocks) ≡ rows_of stocks → copies ≡ rows_of stocks
rows_all copies stocks is so =
    sym (append-nil copies) ∙ ap (λ ss. copies ++ rows_of ss) (sym (none_behind (last_of copies) stocks is)) ∙ so
