-- Answers are true: what a request answers is not declared any more, and what the end of a make answers stands.
use Rattle.mat_model.specs.Gate.{is_command}
use Rattle.mat_path.proofs.Elements.{contains_map}
use Rattle.mat_path.proofs.SameNames.{same_names-eq}
use Rattle.std.proofs.Common.{Bool, ◌≡◌, ℕ, zero, suc, ◌==◌, true, false, not, ◌&&◌, List, [], ◌∷◌, ◌++◌, length, drop, Option, Some, None, cond, refl, sym, ap, ap₂, ◌∙◌, map, find, ◌⊎◌, inl, inr}
use Rattle.std.specs.List.{list_any, filter, slice_get}
use Rattle.std.specs.Option.{option_map}
use Rattle.std.proofs.lemmas.Bool.{and_parts, both_ways, eqb-true, not-true}
use Rattle.std.proofs.lemmas.Option.{slice_get-map}
use Rattle.mat_path.specs.Names.{is_prefix}
use Rattle.mat_tree.specs.declared.flat.Flat.{Flat}
use Rattle.mat_tree.specs.declared.sum.Sum.{Sum}
use Rattle.mat_tree.specs.Trees.{has_node}
use Rattle.mat_model.specs.declared.answers.Answer.TheVariants as answer
use Rattle.mat_model.specs.declared.answers.Recorded.{Recorded}
use Rattle.mat_model.specs.declared.book.Book.{Book}
use Rattle.mat_model.specs.declared.book.Row.{Row}
use Rattle.mat_model.specs.declared.book.Ticket.{Ticket}
use Rattle.mat_model.specs.declared.entries.Outcome.TheVariants as outcome
use Rattle.mat_model.specs.declared.entries.Task.TheVariants as task
use Rattle.mat_model.specs.declared.requests.Asked.{Asked}
use Rattle.mat_model.specs.declared.requests.Asked.TheVariants as asked
use Rattle.mat_model.specs.Rows.{covers, is_at_path, is_clear_of, overlaps_row, put_row, standing_row}
use Rattle.mat_model.specs.Tickets.{answered_by, is_lost, is_open, left_ticket, waits_for, with_answer}
use Rattle.mat_model.specs.Requests.{RequestContext, serve, is_open_among, preempted_ticket}
use Rattle.mat_model.specs.Work.{end_make, finish, is_declared}
use Rattle.model_laws.specs.Laws.{IsAnswered, IsLeftOut, IsPreempted}
use Rattle.model_laws.proofs.Changes.{standing-path}
use Rattle.model_laws.proofs.Elements.{found_contains, found_passes}
use Rattle.model_laws.proofs.Serving.{served_by}

-- what is at a place of a list is there where more comes behind
get-append : {A : Type 0} (xs ys : List A) (k : ℕ) (x : A) → slice_get xs k ≡ Some x → slice_get (xs ++ ys) k ≡ Some x
get-append [] ys k x is = absurd cc
get-append (y ∷ xs) ys zero x is = is
get-append (y ∷ xs) ys (suc k) x is = get-append xs ys k x is

-- a ticket that is open isn't one with an answer
not_both : (o : Option Ticket) (ticket other : Ticket) → o ≡ Some ticket → is_open ticket ≡ true → o ≡ Some other → is_open other ≡ false → ⊥
not_both o ticket other is lies was shut =
    let same : ticket ≡ other = cc in both_ways (is_open ticket) (ap is_open same ∙ shut) lies

-- where a request answers a ticket, it says that nothing is declared any more at what it asked for, and so it is
pub serve_true : (number moment : ℕ) (context : RequestContext) (request : Asked) (book : Book) (k : ℕ) (ticket other : Ticket) →
    slice_get book.tickets k ≡ Some ticket → is_open ticket ≡ true →
    slice_get (serve number moment context request book).book.tickets k ≡ Some other → is_open other ≡ false →
    IsLeftOut number (serve number moment context request book).book.rows ticket other ⊎ IsPreempted number request book.live ticket other
serve_true number moment context request book k ticket other is lies =
    served_by (λ (rows : List Row) (tickets : List Ticket). slice_get tickets k ≡ Some other → is_open other ≡ false →
    IsLeftOut number rows ticket other ⊎ IsPreempted number request book.live ticket other)
    number moment context request book (record {
      same = λ was shut. absurd (not_both (slice_get book.tickets k) ticket other is lies was shut);
      takes = λ command state soft refuse by was shut. inr (gone_for command state soft refuse by was shut);
      asks = λ path n more was shut.
          absurd (not_both (slice_get (book.tickets ++ more) k) ticket other (get-append book.tickets more k ticket is) lies was shut);
      uses = λ path n was shut. absurd (not_both (slice_get book.tickets k) ticket other is lies was shut);
      puts = λ path new at by was shut.
          inl (lost (filter (overlaps_row path) book.rows) (put_row new (filter (is_clear_of path) book.rows)) was shut);
      removes = λ gone left opposite disturbed was shut. inl (lost (filter gone book.rows) (filter left book.rows) was shut);
    })
  where
    lost : (removed left : List Row) → slice_get (map (left_ticket number removed left) book.tickets) k ≡ Some other → is_open other ≡ false →
        IsLeftOut number left ticket other
    lost removed left was shut =
        let now : Some (left_ticket number removed left ticket) ≡ Some other =
        sym (slice_get-map (left_ticket number removed left) book.tickets k ∙ ap (option_map (left_ticket number removed left)) is) ∙ was in
        elim (is_lost removed left ticket) as
        (λ b. is_lost removed left ticket ≡ b → Some (cond b (with_answer number answer.Undeclared ticket) ticket) ≡ Some other →
        IsLeftOut number left ticket other) [
          | true ↦ λ gone same.
              let that : with_answer number answer.Undeclared ticket ≡ other = cc in (
                sym (ap (λ (t : Ticket). t.answered) that),
                not-true (list_any (covers ticket.asked) left)
                    (and_parts (is_open ticket && list_any (covers ticket.asked) removed) (not (list_any (covers ticket.asked) left)) gone).1,
              )
          | false ↦ λ stays same. absurd (not_both (Some ticket) ticket other refl lies same shut)
        ] refl now

    gone_for : (command state : ℕ) (soft refuse : Bool) → request ≡ asked.Enter command state soft refuse →
        slice_get (map (preempted_ticket number command book.live) book.tickets) k ≡ Some other → is_open other ≡ false →
        IsPreempted number request book.live ticket other
    gone_for command state soft refuse by was shut =
        let now : Some (preempted_ticket number command book.live ticket) ≡ Some other =
        sym (slice_get-map (preempted_ticket number command book.live) book.tickets k
        ∙ ap (option_map (preempted_ticket number command book.live)) is) ∙ was in
        elim (is_open_among book.live ticket) as
        (λ b. is_open_among book.live ticket ≡ b → Some (cond b (with_answer number (answer.Preempted command) ticket) ticket) ≡ Some other →
        IsPreempted number request book.live ticket other) [
          | true ↦ λ among same.
              let that : with_answer number (answer.Preempted command) ticket ≡ other = cc in record {
                command = command;
                state = state;
                soft = soft;
                refuse = refuse;
                asks = by;
                live = (and_parts (is_open ticket) (list_any (is_command ticket.command) book.live) among).1;
                answered = sym (ap (λ (t : Ticket). t.answered) that);
              }
          | false ↦ λ stays same. absurd (not_both (Some ticket) ticket other refl lies same shut)
        ] refl now

-- the end of a make answers truly
made_true : (number : ℕ) (path : List (List ℕ)) (stamp : ℕ) (book : Book) (k : ℕ) (ticket other : Ticket) (row : Row) →
    find (is_declared path stamp) book.rows ≡ Some row → row.path ≡ path → row.stamp ≡ stamp →
    slice_get book.tickets k ≡ Some ticket → is_open ticket ≡ true →
    slice_get (map (answered_by row number (answer.Ready row.stamp row.sum)) book.tickets) k ≡ Some other → is_open other ≡ false →
    IsAnswered number path stamp (map (standing_row path) book.rows) ticket other
made_true number path stamp book k ticket other row found at under is lies was shut =
    let f : Ticket → Ticket = answered_by row number (answer.Ready row.stamp row.sum) in
    let now : Some (f ticket) ≡ Some other = sym (slice_get-map f book.tickets k ∙ ap (option_map f) is) ∙ was in
    elim (waits_for row ticket) as
    (λ b. waits_for row ticket ≡ b → Some (cond b (with_answer number (answer.Ready row.stamp row.sum) ticket) ticket) ≡ Some other →
    IsAnswered number path stamp (map (standing_row path) book.rows) ticket other) [
      | true ↦ λ waits same.
          let that : with_answer number (answer.Ready row.stamp row.sum) ticket ≡ other = cc in
          let still = stood_row in record {
            row = standing_row path row;
            among = contains_map (standing_row path) book.rows row (found_contains (is_declared path stamp) book.rows row found);
            stands = still.0;
            placed = standing-path path row ∙ at;
            stamped = still.1 ∙ under;
            covering = ap₂ (λ (p : List (List ℕ)) (t : List Flat). is_prefix p ticket.asked && has_node t (drop (length p) ticket.asked)) (standing-path path row) still.2
                ∙ (and_parts (is_open ticket) (covers ticket.asked row) waits).1;
            answered = sym (ap (λ (t : Ticket). t.answered) that)
                ∙ ap₂ (λ (n : ℕ) (s : Sum). Some (record { at = number; answer = answer.Ready n s })) under (sym still.3);
          }
      | false ↦ λ stays same. absurd (not_both (Some ticket) ticket other refl lies same shut)
    ] refl now
  where
    stood_row : ((standing_row path row).stands ≡ true) × ((standing_row path row).stamp ≡ row.stamp) × ((standing_row path row).tree ≡ row.tree)
        × ((standing_row path row).sum ≡ row.sum)
    stood_row =
        elim (is_at_path path row) as
        (λ b. is_at_path path row ≡ b → ((cond b (record row { stands = true }) row).stands ≡ true) × ((cond b (record row { stands = true }) row).stamp ≡ row.stamp)
        × ((cond b (record row { stands = true }) row).tree ≡ row.tree) × ((cond b (record row { stands = true }) row).sum ≡ row.sum)) [
          | true ↦ λ here. (refl, refl, refl, refl)
          | false ↦ λ off. absurd (both_ways (is_at_path path row) off
              (and_parts (is_at_path path row) (row.stamp == stamp) (found_passes (is_declared path stamp) book.rows row found)).0)
        ] refl

-- where the end of a make answers a ticket, a row that now stands at its path and under its stamp covers what the ticket asked for
pub finish_true : (number : ℕ) (path : List (List ℕ)) (stamp : ℕ) (how : Recorded) (book : Book) (k : ℕ) (ticket other : Ticket) →
    slice_get book.tickets k ≡ Some ticket → is_open ticket ≡ true →
    slice_get (finish number (task.Make path stamp) outcome.Made how book).book.tickets k ≡ Some other → is_open other ≡ false →
    IsAnswered number path stamp (finish number (task.Make path stamp) outcome.Made how book).book.rows ticket other
finish_true number path stamp how book k ticket other is lies was shut =
    elim (find (is_declared path stamp) book.rows) as
    (λ o. find (is_declared path stamp) book.rows ≡ o → slice_get (end_make number path outcome.Made how book o).book.tickets k ≡ Some other →
    IsAnswered number path stamp (end_make number path outcome.Made how book o).book.rows ticket other) [
      | None ↦ λ found now. absurd (not_both (slice_get book.tickets k) ticket other is lies now shut)
      | Some row ↦ λ found now.
          let parts = and_parts (is_at_path path row) (row.stamp == stamp) (found_passes (is_declared path stamp) book.rows row found) in
          made_true number path stamp book k ticket other row found (same_names-eq row.path path parts.0) (eqb-true row.stamp stamp parts.1)
          is lies now shut
    ] refl was
