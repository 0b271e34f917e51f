-- Rows stay apart after a request, the end of a job and a history.
use Rattle.std.proofs.Common.{◌≡◌, ℕ, Bool, true, false, not, ◌||◌, List, [], ◌∷◌, cond, refl, sym, ap, subst, ◌∙◌}
use Rattle.std.specs.List.{list_any, list_all, filter}
use Rattle.std.proofs.lemmas.Bool.{and_from, and_parts}
use Rattle.mat_model.specs.declared.answers.Recorded.{Recorded}
use Rattle.mat_model.specs.declared.book.Book.{Book}
use Rattle.mat_model.specs.declared.book.Row.{Row}
use Rattle.mat_model.specs.declared.book.Ticket.{Ticket}
use Rattle.mat_model.specs.declared.entries.Entry.{Entry}
use Rattle.mat_model.specs.declared.entries.Outcome.{Outcome}
use Rattle.mat_model.specs.declared.entries.Task.{Task}
use Rattle.mat_model.specs.declared.requests.Asked.{Asked}
use Rattle.mat_model.specs.Rows.{are_apart, is_apart, is_clear_of, overlaps_row, standing_row, used, used_row}
use Rattle.mat_model.specs.Requests.{RequestContext, serve}
use Rattle.mat_model.specs.Work.{finish}
use Rattle.mat_model.specs.History.{Point, after, after_all, request_context, next_number}
use Rattle.model_laws.proofs.Apart.{put_row-apart, apart-map}
use Rattle.model_laws.proofs.Changes.{standing-path, used-path}
use Rattle.model_laws.proofs.Serving.{finished_by, served_by}
use Rattle.model_laws.proofs.HistoryLemmas.{after_event}

-- what all of some rows pass, all that a filter leaves of them pass
list_all-filter : (q p : Row → Bool) (rows : List Row) → list_all q rows ≡ true → list_all q (filter p rows) ≡ true
list_all-filter q p [] all = refl
list_all-filter q p (row ∷ rows) all =
    let parts = and_parts (q row) (list_all q rows) all in
    let more : list_all q (filter p rows) ≡ true = list_all-filter q p rows parts.1 in
    elim (p row) as (λ b. list_all q (cond b (row ∷ filter p rows) (filter p rows)) ≡ true)
    [ true ↦ and_from (q row) (list_all q (filter p rows)) parts.0 more | false ↦ more ]

-- rows that are apart stay so where they are filtered
apart-filter : (p : Row → Bool) (rows : List Row) → are_apart rows ≡ true → are_apart (filter p rows) ≡ true
apart-filter p [] apart = refl
apart-filter p (row ∷ rows) apart =
    let parts = and_parts (list_all (is_apart row) rows) (are_apart rows) apart in
    let more : are_apart (filter p rows) ≡ true = apart-filter p rows parts.1 in
    elim (p row) as (λ b. are_apart (cond b (row ∷ filter p rows) (filter p rows)) ≡ true) [
      | true ↦ and_from (list_all (is_apart row) (filter p rows)) (are_apart (filter p rows)) (list_all-filter (is_apart row) p rows parts.0) more
      | false ↦ more
    ]

-- of rows that are clear of a path none overlaps it
clear-filter : (path : List (List ℕ)) (rows : List Row) → list_any (overlaps_row path) (filter (is_clear_of path) rows) ≡ false
clear-filter path [] = refl
clear-filter path (row ∷ rows) =
    let more : list_any (overlaps_row path) (filter (is_clear_of path) rows) ≡ false = clear-filter path rows in
    elim (overlaps_row path row) as
    (λ b. overlaps_row path row ≡ b →
    list_any (overlaps_row path) (cond (not b) (row ∷ filter (is_clear_of path) rows) (filter (is_clear_of path) rows)) ≡ false) [
      | true ↦ λ is. more
      | false ↦ λ is. ap (λ (b : Bool). b || list_any (overlaps_row path) (filter (is_clear_of path) rows)) is ∙ more
    ] refl

-- rows that are apart stay so where they are used
used_apart : (path : List (List ℕ)) (n : ℕ) (rows : List Row) → are_apart rows ≡ true → are_apart (used path n rows) ≡ true
used_apart path n rows apart = apart-map (used_row path n) (used-path path n) rows ∙ apart

-- a request keeps the rows apart
pub serve_apart : (number moment : ℕ) (context : RequestContext) (request : Asked) (book : Book) → are_apart book.rows ≡ true →
    are_apart (serve number moment context request book).book.rows ≡ true
serve_apart number moment context request book apart =
    served_by (λ (rows : List Row) (tickets : List Ticket). are_apart rows ≡ true) number moment context request book (record {
      same = apart;
      takes = λ command state soft refuse is. apart;
      asks = λ path n more. used_apart path n book.rows apart;
      uses = λ path n. used_apart path n book.rows apart;
      puts = λ path new at is.
          put_row-apart new (filter (is_clear_of path) book.rows) (apart-filter (is_clear_of path) book.rows apart)
          (subst (λ (p : List (List ℕ)). list_any (overlaps_row p) (filter (is_clear_of path) book.rows) ≡ false) (sym at)
          (clear-filter path book.rows));
      removes = λ gone left opposite disturbed. apart-filter left book.rows apart;
    })

-- the end of a job keeps the rows apart
pub finish_apart : (number : ℕ) (task : Task) (out : Outcome) (how : Recorded) (book : Book) → are_apart book.rows ≡ true →
    are_apart (finish number task out how book).book.rows ≡ true
finish_apart number task out how book apart =
    finished_by (λ (rows : List Row) (tickets : List Ticket). are_apart rows ≡ true) number task out how book (record {
      same = apart;
      stands = λ path row. apart-map (standing_row path) (standing-path path) book.rows ∙ apart;
      fails = λ some given. apart;
    })

-- a history keeps the rows apart
pub history_apart : (point : Point) (later : List Entry) → are_apart point.book.rows ≡ true → are_apart (after_all point later).book.rows ≡ true
history_apart point [] apart = apart
history_apart point (entry ∷ later) apart =
    history_apart (after point entry) later
    (after_event (λ (b : Book). are_apart b.rows ≡ true) point entry.now entry.event entry.reply (record {
      same = apart;
      later = apart;
      asks = λ request is. serve_apart (next_number point) entry.now (request_context point) request point.book apart;
      refuses = λ begun note. apart;
      ends = λ task out how. finish_apart (next_number point) task out how point.book apart;
    }))
