-- What the rows come to that a new one takes the place of, and what is left of them on the disk.
use Rattle.std.specs.Prelude.{◌≡◌, ◌&&◌, ◌||◌, ℕ, Bool, true, false, not, if◌then◌else◌, List, [], ◌∷◌, length, count_by, find}
use Rattle.std.specs.List.{list_any}
use Rattle.std.specs.Option.{is_none}
use Rattle.mat_model.specs.WorkState.{Debris, Job, is_lent, put_debris}
use Rattle.debris_list.specs.Pieces.{overlaps_debris}
use Rattle.kept_book.specs.declared.mark.Mark.{Mark}
use Rattle.kept_book.specs.Marks.{is_mark_at}
use Rattle.row_book.specs.declared.stock.Stock.{Stock}
use Rattle.row_book.specs.Stocks.{held_bytes}
use Rattle.mat_core.specs.declared.falling.Fall.{Fall}

-- whether the state store has no row at a path, and at that of a stock's row
abbrev pub is_unkept_at : List Mark → List (List ℕ) → Bool
is_unkept_at marks path = is_none (find (is_mark_at path) marks)

abbrev pub is_unkept : List Mark → Stock → Bool
is_unkept marks stock = is_unkept_at marks stock.row.path

-- one, for something that is so
abbrev pub one_if : Bool → ℕ
one_if is = if is then 1 else 0

-- what some stocks come to where a row at a path takes their place
abbrev pub fall_of : List Mark → List (List ℕ) → List Stock → Fall
fall_of marks path stocks = record {
  rows = length stocks;
  unkept = count_by (is_unkept marks) stocks;
  held = held_bytes stocks;
  new = is_unkept_at marks path;
}

-- whether the part of a stock's row may not be empty, and no loan overlaps it
abbrev pub is_remaining : List Job → Stock → Bool
is_remaining jobs stock = (stock.row.stands || stock.dirty) && not (is_lent stock.row.path jobs)

-- debris with the part of a stock's row, if that remains, and with those of some, condemned or not
abbrev pub with_remain : Bool → List Job → Stock → List Debris → List Debris
with_remain condemned jobs stock debris =
    if is_remaining jobs stock then put_debris (record { path = stock.row.path; condemned = condemned }) debris else debris

abbrev pub with_remains : Bool → List Job → List Stock → List Debris → List Debris
with_remains condemned jobs [] debris = debris
with_remains condemned jobs (stock ∷ stocks) debris = with_remains condemned jobs stocks (with_remain condemned jobs stock debris)

-- the part of a stock's row overlaps no debris, if it remains, and each of some doesn't, one after the other
abbrev pub MayRemain : List Job → Stock → List Debris → Type 0
MayRemain jobs stock debris = is_remaining jobs stock ≡ true → list_any (overlaps_debris stock.row.path) debris ≡ false

abbrev pub MayAllRemain : Bool → List Job → List Stock → List Debris → Type 0
MayAllRemain condemned jobs [] debris = Unit {0}
MayAllRemain condemned jobs (stock ∷ stocks) debris =
    MayRemain jobs stock debris × MayAllRemain condemned jobs stocks (with_remain condemned jobs stock debris)
