-- A row that stands still does after a request, the end of a job and a history that don't disturb it.
use Rattle.mat_path.proofs.Elements.{contains_filter, contains_map}
use Rattle.mat_path.proofs.Bools.{false_by}
use Rattle.std.proofs.Common.{◌≡◌, ℕ, Bool, true, false, not, ◌||◌, List, [], ◌∷◌, Some, cond, refl, ap, ap₂, subst, ◌∙◌, map, Contains}
use Rattle.std.specs.List.{list_any, filter}
use Rattle.std.proofs.lemmas.Bool.{or_parts}
use Rattle.mat_path.specs.Names.{overlap}
use Rattle.mat_model.specs.declared.answers.Recorded.{Recorded}
use Rattle.mat_model.specs.declared.book.Book.{Book}
use Rattle.mat_model.specs.declared.book.Row.{Row}
use Rattle.mat_model.specs.declared.book.Ticket.{Ticket}
use Rattle.mat_model.specs.declared.entries.Entry.{Entry}
use Rattle.mat_model.specs.declared.entries.Event.{Event}
use Rattle.mat_model.specs.declared.entries.Event.TheVariants as event
use Rattle.mat_model.specs.declared.entries.Outcome.{Outcome}
use Rattle.mat_model.specs.declared.entries.Task.{Task}
use Rattle.mat_model.specs.declared.requests.Asked.{Asked}
use Rattle.mat_model.specs.declared.requests.Asked.TheVariants as asked
use Rattle.mat_model.specs.Rows.{is_at_path, is_clear_of, overlaps_row, put_row, standing_row, used, used_row}
use Rattle.mat_model.specs.Requests.{RequestContext, serve}
use Rattle.mat_model.specs.Work.{finish}
use Rattle.mat_model.specs.History.{Point, after, after_all, request_context, next_number}
use Rattle.model_laws.specs.Laws.{StillStands, declares, disturbs, disturbs_by, is_disturbed}
use Rattle.model_laws.proofs.Changes.{standing-path, used-path, used-stands, used-tree}
use Rattle.model_laws.proofs.Serving.{finished_by, served_by}
use Rattle.model_laws.proofs.HistoryLemmas.{after_event}
use Rattle.model_laws.proofs.PutRows.{contains_put}

-- a row that stands among some rows still stands
still_here : (row : Row) (rows : List Row) → Contains rows row → row.stands ≡ true → StillStands row rows
still_here row rows among stands = record { next = row; among = among; stands = stands; path = refl; tree = refl; sum = refl; stamp = refl }

-- a row after a use, and after it came to stand if it is at a path
used_still : (path : List (List ℕ)) (n : ℕ) (row : Row) → row.stands ≡ true → (rows : List Row) → Contains rows row → StillStands row (used path n rows)
used_still path n row stands rows among = record {
  next = used_row path n row;
  among = contains_map (used_row path n) rows row among;
  stands = used-stands path n row ∙ stands;
  path = used-path path n row;
  tree = used-tree path n row;
  sum = elim (is_at_path path row) as (λ b. (cond b (record row { last = n }) row).sum ≡ row.sum) [ true ↦ refl | false ↦ refl ];
  stamp = elim (is_at_path path row) as (λ b. (cond b (record row { last = n }) row).stamp ≡ row.stamp) [ true ↦ refl | false ↦ refl ];
}

made_still : (path : List (List ℕ)) (row : Row) → row.stands ≡ true → (rows : List Row) → Contains rows row → StillStands row (map (standing_row path) rows)
made_still path row stands rows among = record {
  next = standing_row path row;
  among = contains_map (standing_row path) rows row among;
  stands = elim (is_at_path path row) as (λ b. (cond b (record row { stands = true }) row).stands ≡ true) [ true ↦ refl | false ↦ stands ];
  path = standing-path path row;
  tree = elim (is_at_path path row) as (λ b. (cond b (record row { stands = true }) row).tree ≡ row.tree) [ true ↦ refl | false ↦ refl ];
  sum = elim (is_at_path path row) as (λ b. (cond b (record row { stands = true }) row).sum ≡ row.sum) [ true ↦ refl | false ↦ refl ];
  stamp = elim (is_at_path path row) as (λ b. (cond b (record row { stands = true }) row).stamp ≡ row.stamp) [ true ↦ refl | false ↦ refl ];
}

-- what a declaration doesn't disturb is clear of its path
clear_at : (at path : List (List ℕ)) (row : Row) → Some at ≡ Some path → overlaps_row at row ≡ false → is_clear_of path row ≡ true
clear_at at path row is calm =
    let same : at ≡ path = cc in
    subst (λ (p : List (List ℕ)). not (overlap row.path p) ≡ true) same (ap not calm)

clear_of : (request : Asked) (path : List (List ℕ)) (row : Row) → declares request ≡ Some path → disturbs request row ≡ false →
    is_clear_of path row ≡ true
clear_of (asked.Enter command state soft refuse) path row is calm = absurd cc
clear_of (asked.Leave command) path row is calm = absurd cc
clear_of (asked.Write command at sum) path row is calm = clear_at at path row is calm
clear_of (asked.Declare command at tree) path row is calm = clear_at at path row is calm
clear_of (asked.Copy command at source) path row is calm = clear_at at path row is calm
clear_of (asked.Matches command at sum) path row is calm = absurd cc
clear_of (asked.Has command at) path row is calm = absurd cc
clear_of (asked.Ensure command at) path row is calm = absurd cc
clear_of (asked.Invalidate command at) path row is calm = absurd cc
clear_of (asked.Clean cutoff mode) path row is calm = absurd cc
clear_of asked.Flush path row is calm = absurd cc

-- a request that doesn't disturb a row that stands leaves it standing
pub serve_stands : (number moment : ℕ) (context : RequestContext) (request : Asked) (book : Book) (row : Row) → Contains book.rows row → row.stands ≡ true →
    disturbs request row ≡ false → StillStands row (serve number moment context request book).book.rows
serve_stands number moment context request book row among stands calm =
    served_by (λ (rows : List Row) (tickets : List Ticket). StillStands row rows) number moment context request book (record {
      same = still_here row book.rows among stands;
      takes = λ command state soft refuse is. still_here row book.rows among stands;
      asks = λ path n more. used_still path n row stands book.rows among;
      uses = λ path n. used_still path n row stands book.rows among;
      puts = λ path new at is.
          still_here row (put_row new (filter (is_clear_of path) book.rows))
          (contains_put new (filter (is_clear_of path) book.rows) row
          (contains_filter (is_clear_of path) book.rows row (clear_of request path row is calm) among))
          stands;
      removes = λ gone left opposite disturbed.
          still_here row (filter left book.rows)
          (contains_filter left book.rows row (opposite row ∙ ap not (false_by (gone row) (disturbs request row) (disturbed row) calm)) among)
          stands;
    })

-- the end of a job leaves a row that stands
pub finish_stands : (number : ℕ) (task : Task) (out : Outcome) (how : Recorded) (book : Book) (row : Row) → Contains book.rows row → row.stands ≡ true →
    StillStands row (finish number task out how book).book.rows
finish_stands number task out how book row among stands =
    finished_by (λ (rows : List Row) (tickets : List Ticket). StillStands row rows) number task out how book (record {
      same = still_here row book.rows among stands;
      stands = λ path made. made_still path row stands book.rows among;
      fails = λ some given. still_here row book.rows among stands;
    })

-- a row at the same path is disturbed by the same entries
same_request : (request : Asked) (row next : Row) → next.path ≡ row.path → disturbs request next ≡ disturbs request row
same_request (asked.Enter command state soft refuse) row next at = refl
same_request (asked.Leave command) row next at = refl
same_request (asked.Write command path sum) row next at = ap (λ (p : List (List ℕ)). overlap p path) at
same_request (asked.Declare command path tree) row next at = ap (λ (p : List (List ℕ)). overlap p path) at
same_request (asked.Copy command path source) row next at = ap (λ (p : List (List ℕ)). overlap p path) at
same_request (asked.Matches command path sum) row next at = refl
same_request (asked.Has command path) row next at = refl
same_request (asked.Ensure command path) row next at = refl
same_request (asked.Invalidate command path) row next at = ap (λ (p : List (List ℕ)). overlap p path) at
same_request (asked.Clean cutoff mode) row next at = refl
same_request asked.Flush row next at = refl

same_disturbs : (what : Event) (row next : Row) → next.path ≡ row.path → disturbs_by what next ≡ disturbs_by what row
same_disturbs (event.Asked request) row next at = same_request request row next at
same_disturbs (event.Begin task) row next at = refl
same_disturbs (event.Done job out) row next at = refl

none_disturbs : (row next : Row) → next.path ≡ row.path → (entries : List Entry) →
    list_any (is_disturbed next) entries ≡ list_any (is_disturbed row) entries
none_disturbs row next at [] = refl
none_disturbs row next at (entry ∷ entries) =
    ap₂ (λ (s t : Bool). s || t) (same_disturbs entry.event row next at) (none_disturbs row next at entries)

-- a row that stands still does after a history none of whose entries disturbs it
pub history_stands : (point : Point) (later : List Entry) (row : Row) → Contains point.book.rows row → row.stands ≡ true →
    list_any (is_disturbed row) later ≡ false → StillStands row (after_all point later).book.rows
history_stands point [] row among stands calm = still_here row point.book.rows among stands
history_stands point (entry ∷ later) row among stands calm =
    let parts = or_parts (is_disturbed row entry) (list_any (is_disturbed row) later) calm in
    let here : StillStands row (after point entry).book.rows =
    after_event (λ (b : Book). StillStands row b.rows) point entry.now entry.event entry.reply (record {
      same = still_here row point.book.rows among stands;
      later = still_here row point.book.rows among stands;
      asks = λ request is.
          serve_stands (next_number point) entry.now (request_context point) request point.book row among stands
          (subst (λ (what : Event). disturbs_by what row ≡ false) is parts.0);
      refuses = λ begun note. still_here row point.book.rows among stands;
      ends = λ task out how. finish_stands (next_number point) task out how point.book row among stands;
    }) in
    let more = history_stands (after point entry) later here.next here.among here.stands
    (none_disturbs row here.next here.path later ∙ parts.1) in
    record {
      next = more.next;
      among = more.among;
      stands = more.stands;
      path = more.path ∙ here.path;
      tree = more.tree ∙ here.tree;
      sum = more.sum ∙ here.sum;
      stamp = more.stamp ∙ here.stamp;
    }
