-- Over whole runs: the end of a make whose row is gone, and what a clean removes.
use Rattle.mat_path.proofs.Elements.{contains_filter, filtered_contains}
use Rattle.std.proofs.Common.{◌≡◌, ℕ, ◌<◌, ◌==◌, nat_lt, Bool, true, false, not, ◌&&◌, ◌⊎◌, List, [], Option, inl, inr, refl, sym, ap, subst, ◌∙◌, Contains}
use Rattle.std.specs.List.{filter}
use Rattle.std.proofs.lemmas.Bool.{and_from, and_parts, both_ways, false_from_ne_true, le-ltb, lt-ltb, not-true}
use Rattle.mat_model.specs.declared.answers.Reply.TheVariants as reply
use Rattle.mat_model.specs.declared.book.Book.{Book}
use Rattle.mat_model.specs.declared.book.Row.{Row}
use Rattle.mat_model.specs.declared.entries.Entry.{Entry}
use Rattle.mat_model.specs.declared.entries.Event.{Event}
use Rattle.mat_model.specs.declared.entries.Event.TheVariants as event
use Rattle.mat_model.specs.declared.entries.Task.{Task}
use Rattle.mat_model.specs.declared.requests.Asked.TheVariants as asked
use Rattle.mat_model.specs.declared.requests.CleanMode.{CleanMode}
use Rattle.mat_model.specs.declared.requests.CleanMode.TheVariants as mode
use Rattle.mat_model.specs.Cleaning.{clean, is_held, is_not_stale, is_stale}
use Rattle.mat_model.specs.Gate.{Served}
use Rattle.mat_model.specs.History.{Point, after, after_all, answer_done, is_store_fault, next_number, recorded_as, request_context}
use Rattle.mat_model.specs.History.{answer as answer_event}
use Rattle.mat_model.specs.Kept.{may_fail}
use Rattle.mat_model.specs.Requests.{at_moment, serve}
use Rattle.mat_model.specs.Rows.{are_apart, is_at_path}
use Rattle.mat_model.specs.Work.{end_make, finish, is_declared}
use Rattle.mat_model.specs.WorkState.{Job, has_stamp}
use Rattle.model_laws.specs.Laws.{removes}
use Rattle.model_laws.specs.RowRules.{IsNoStamp, served_at}
use Rattle.model_laws.specs.RunRules.{EndsMake, IsCleaned, IsSpared}
use Rattle.model_laws.proofs.ListTests.{find_none}
use Rattle.model_laws.proofs.RowCases.{either_served}
use Rattle.model_laws.proofs.StampLemmas.{stamp_gone}

-- ---- the end of a make whose row is gone

-- the end of a make whose stamp no row has is stale, and changes nothing of the book
pub gone_make : (point : Point) (entry : Entry) (path : List (List ℕ)) (stamp : ℕ) → EndsMake point entry path stamp →
    IsNoStamp point.book.rows stamp → served_at point entry ≡ record { reply = reply.Stale; book = point.book }
gone_make point entry path stamp ended none =
    ap (λ (what : Event). answer_event point entry.now what entry.reply) ended.ends
    ∙ ap (λ (o : Option Job). answer_done point ended.out entry.reply o) ended.runs
    ∙ ap (λ (t : Task). finish (next_number point) t ended.out (recorded_as entry.reply) point.book) ended.task
    ∙ ap (λ (o : Option Row). end_make (next_number point) path ended.out (recorded_as entry.reply) point.book o)
    (find_none (is_declared path stamp) (has_stamp stamp) (λ row is. (and_parts (is_at_path path row) (row.stamp == stamp) is).1) point.book.rows none)

-- and so it is behind further entries
pub gone_make_later : (point : Point) (later : List Entry) (entry : Entry) (path : List (List ℕ)) (stamp : ℕ) → are_apart point.book.rows ≡ true →
    stamp < next_number point → IsNoStamp point.book.rows stamp → EndsMake (after_all point later) entry path stamp →
    served_at (after_all point later) entry ≡ record { reply = reply.Stale; book = (after_all point later).book }
gone_make_later point later entry path stamp apart come none ended =
    gone_make (after_all point later) entry path stamp ended (stamp_gone point later stamp apart come none)

-- ---- what a clean removes

-- what a clean that removes does to a book
cleaned_exactly : (number cutoff now : ℕ) (strays : List (List (List ℕ))) (mode : CleanMode) (book : Book) → removes mode ≡ true →
    IsCleaned cutoff book (clean number cutoff strays mode (record book { now = now }))
cleaned_exactly number cutoff now strays how book is = by how is
  where
    left : Row → Bool
    left = is_not_stale cutoff book.holds

    fresh : (row : Row) → IsSpared cutoff book.holds row → left row ≡ true
    fresh row spared = ap not (false_from_ne_true (is_stale cutoff book.holds row) (λ old.
        let parts = and_parts (row.stands && not (is_held book.holds row)) (nat_lt row.last cutoff) old in
        let first = and_parts row.stands (not (is_held book.holds row)) parts.0 in
        elim spared [
          | inl lies ↦ both_ways row.stands lies first.0
          | inr (inl held) ↦ both_ways (is_held book.holds row) (not-true (is_held book.holds row) first.1) held
          | inr (inr late) ↦ both_ways (nat_lt row.last cutoff) (le-ltb row.last cutoff late) parts.1
        ]))

    stay : (row : Row) → Contains book.rows row → IsSpared cutoff book.holds row → Contains (filter left book.rows) row
    stay row among spared = contains_filter left book.rows row (fresh row spared) among

    go : (row : Row) → Contains book.rows row → row.stands ≡ true → is_held book.holds row ≡ false → row.last < cutoff →
        Contains (filter left book.rows) row → ⊥
    go row among stands free early still =
        let old : is_stale cutoff book.holds row ≡ true =
        and_from (row.stands && not (is_held book.holds row)) (nat_lt row.last cutoff)
        (and_from row.stands (not (is_held book.holds row)) stands (ap not free)) (lt-ltb row.last cutoff early) in
        both_ways (is_stale cutoff book.holds row)
        (not-true (is_stale cutoff book.holds row) (filtered_contains left book.rows row still).1) old

    by : (m : CleanMode) → removes m ≡ true → IsCleaned cutoff book (clean number cutoff strays m (record book { now = now }))
    by mode.Dry off = absurd cc
    by mode.Real on = record {
      spared = stay;
      gone = go;
      old = λ row among. (filtered_contains left book.rows row among).0;
      rows = refl;
      strays = [];
      told = refl;
    }
    by mode.All on = record {
      spared = stay;
      gone = go;
      old = λ row among. (filtered_contains left book.rows row among).0;
      rows = refl;
      strays = strays;
      told = refl;
    }

-- a clean that removes, and for which the state store didn't fail, removes exactly the stale rows
pub clean_removes : (point : Point) (entry : Entry) (cutoff : ℕ) (how : CleanMode) → entry.event ≡ event.Asked (asked.Clean cutoff how) →
    removes how ≡ true → is_store_fault (served_at point entry).reply ≡ false → IsCleaned cutoff point.book (served_at point entry)
clean_removes point entry cutoff how is on =
    subst
    (λ (what : Event). is_store_fault (answer_event point entry.now what entry.reply).reply ≡ false →
    IsCleaned cutoff point.book (answer_event point entry.now what entry.reply)) (sym is)
    (either_served (λ (served : Served). is_store_fault served.reply ≡ false → IsCleaned cutoff point.book served)
    (may_fail (asked.Clean cutoff how) point.book point.kept && is_store_fault entry.reply) _ _
    (λ failed told. absurd (both_ways (is_store_fault entry.reply) told
    (and_parts (may_fail (asked.Clean cutoff how) point.book point.kept) (is_store_fault entry.reply) failed).1))
    (λ calm told. cleaned_exactly (next_number point) cutoff (at_moment entry.now point.book).now (request_context point).strays how point.book on))

-- a clean that is dry, and one for which the state store failed, leave all rows
pub clean_leaves : (point : Point) (entry : Entry) (cutoff : ℕ) (how : CleanMode) → entry.event ≡ event.Asked (asked.Clean cutoff how) →
    (removes how ≡ false) ⊎ (is_store_fault (served_at point entry).reply ≡ true) → (after point entry).book.rows ≡ point.book.rows
clean_leaves point entry cutoff how is =
    subst
    (λ (what : Event). (removes how ≡ false) ⊎ (is_store_fault (answer_event point entry.now what entry.reply).reply ≡ true) →
    (answer_event point entry.now what entry.reply).book.rows ≡ point.book.rows) (sym is)
    (either_served
    (λ (served : Served). (removes how ≡ false) ⊎ (is_store_fault served.reply ≡ true) → served.book.rows ≡ point.book.rows)
    (may_fail (asked.Clean cutoff how) point.book point.kept && is_store_fault entry.reply) _ _
    (λ failed why. refl)
    (λ calm. by how))
  where
    by : (m : CleanMode) →
        (removes m ≡ false)
        ⊎ (is_store_fault (serve (next_number point) entry.now (request_context point) (asked.Clean cutoff m) point.book).reply ≡ true) →
        (serve (next_number point) entry.now (request_context point) (asked.Clean cutoff m) point.book).book.rows ≡ point.book.rows
    by mode.Dry why = refl
    by mode.Real (inl off) = absurd cc
    by mode.Real (inr told) = absurd cc
    by mode.All (inl off) = absurd cc
    by mode.All (inr told) = absurd cc
