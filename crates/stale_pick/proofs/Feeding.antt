-- A pick that is fed one row more is the pick of the rows with that one.
use Rattle.std.proofs.Common.{◌≡◌, ◌+◌, ◌<◌, length, take, get_or, ℕ, Bool, true, false, not, List, [], ◌∷◌, ◌++◌, cond, refl, sym, ap, ap₂, ◌∙◌, map}
use Rattle.std.specs.List.{filter}
use Rattle.std.proofs.lemmas.List.{map-append, take_more}
use Rattle.std.proofs.lemmas.List.Elements.{filter-append}
use Rattle.mat_model.specs.declared.answers.Gone.{Gone}
use Rattle.mat_model.specs.declared.book.Hold.{Hold}
use Rattle.mat_model.specs.declared.book.Row.{Row}
use Rattle.mat_model.specs.Cleaning.{gone_row, is_not_stale, is_stale}
use Rattle.stale_pick.specs.declared.picked.Spared.{Spared}
use Rattle.stale_pick.specs.Picks.{Picking, fed, gone_of, kept_of, picking_of, spared_row}

-- what some test picks of rows with one more
picked_more : {A : Type 0} (f : Row → A) (p : Row → Bool) (rows : List Row) (row : Row) →
    map f (filter p (rows ++ row ∷ [])) ≡ map f (filter p rows) ++ cond (p row) (f row ∷ []) []
picked_more {A = A} f p rows row =
    ap (λ (xs : List Row). map f xs) (filter-append p rows (row ∷ []))
    ∙ map-append f (filter p rows) (filter p (row ∷ []))
    ∙ ap (λ (xs : List A). map f (filter p rows) ++ xs) (one (p row))
  where
    one : (b : Bool) → map f (cond b (row ∷ []) []) ≡ cond b (f row ∷ []) []
    one true = refl
    one false = refl

append_nothing : {A : Type 0} (xs : List A) → xs ++ [] ≡ xs
append_nothing [] = refl
append_nothing (x ∷ xs) = ap (λ (rest : List _). x ∷ rest) (append_nothing xs)

pub fed_more : (cutoff : ℕ) (holds : List Hold) (rows : List Row) (row : Row) →
    fed holds row (picking_of cutoff holds rows) ≡ picking_of cutoff holds (rows ++ row ∷ [])
fed_more cutoff holds rows row =
    by (is_stale cutoff holds row) ∙ sym (ap₂ (λ (gone : List Gone) (kept : List Spared). record { cutoff = cutoff; gone = gone; kept = kept })
    (picked_more gone_row (is_stale cutoff holds) rows row) (picked_more (spared_row holds) (is_not_stale cutoff holds) rows row))
  where
    gone : List Gone
    gone = gone_of cutoff holds rows

    kept : List Spared
    kept = kept_of cutoff holds rows

    by : (b : Bool) → cond {A = Picking} b (record { cutoff = cutoff; gone = gone ++ gone_row row ∷ []; kept = kept })
        (record { cutoff = cutoff; gone = gone; kept = kept ++ spared_row holds row ∷ [] })
        ≡ record { cutoff = cutoff; gone = gone ++ cond b (gone_row row ∷ []) []; kept = kept ++ cond (not b) (spared_row holds row ∷ []) [] }
    by true = ap (λ (xs : List Spared). record { cutoff = cutoff; gone = gone ++ gone_row row ∷ []; kept = xs }) (sym (append_nothing kept))
    by false = ap (λ (xs : List Gone). record { cutoff = cutoff; gone = xs; kept = kept ++ spared_row holds row ∷ [] }) (sym (append_nothing gone))

-- the same where the row is the next one of a list
pub fed_next : (cutoff : ℕ) (holds : List Hold) (rows : List Row) (k : ℕ) (row : Row) (old new : Picking) → k < length rows → row ≡ get_or rows k row →
    old ≡ picking_of cutoff holds (take k rows) → new ≡ fed holds row old → new ≡ picking_of cutoff holds (take (k + 1) rows)
fed_next cutoff holds rows k row old new within is before step =
    step ∙ ap (fed holds row) before ∙ fed_more cutoff holds (take k rows) row
    ∙ ap (picking_of cutoff holds) (ap (λ (x : Row). take k rows ++ x ∷ []) is ∙ sym (take_more rows k row within))
