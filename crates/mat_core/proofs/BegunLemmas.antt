-- The parts of a core that begins stand for its opening.
use Rattle.std.proofs.Common.{◌≡◌, ◌≤◌, ℕ, true, not, cond, List, [], ◌∷◌, length, map, filter, Contains, refl, sym, ap, subst, ◌∙◌, arith}
use Rattle.std.specs.List.{list_any}
use Rattle.mat_path.specs.Covering.{covering}
use Rattle.mat_path.proofs.Elements.{contains_first, contains_more, mapped_contains}
use Rattle.mat_path.proofs.SameNames.{same_names-refl}
use Rattle.mat_model.specs.declared.book.Book.{Book}
use Rattle.mat_model.specs.declared.book.Row.{Row}
use Rattle.mat_model.specs.declared.book.Hold.{Hold}
use Rattle.mat_model.specs.declared.book.Ticket.{Ticket}
use Rattle.mat_model.specs.declared.opening.Opening.{Opening}
use Rattle.mat_model.specs.Gate.{Gate}
use Rattle.mat_model.specs.History.{opened}
use Rattle.mat_model.specs.Openings.{IsOpening, kept_at_opening, latest_use, opening_debris, recovered}
use Rattle.mat_model.specs.Room.{is_alone, row_paths}
use Rattle.mat_model.specs.Rows.{is_at_path}
use Rattle.mat_model.specs.WorkState.{idle_work, path_of_debris}
use Rattle.model_laws.proofs.BooksLists.{contains_any}
use Rattle.model_laws.proofs.Coverings.{covering_claims}
use Rattle.model_laws.proofs.WorkKept.{opening_work}
use Rattle.gate_core.specs.Gates.{no_gate}
use Rattle.row_book.specs.Stocks.{rows_of}
use Rattle.write_plan.specs.declared.method.Method.TheVariants as method
use Rattle.row_book.specs.declared.stock.Stock.{Stock}
use Rattle.job_book.specs.Jobs.{jobs_of}
use Rattle.job_book.specs.declared.running.Running.{Running}
use Rattle.mat_core.specs.Begun.{AreBooks}
use Rattle.mat_core.specs.Books.{IsStock, StandFor}
use Rattle.mat_core.specs.Opened.{fetched}
use Rattle.mat_core.specs.declared.opening.Books.{Books}
use Rattle.mat_core.specs.declared.parts.Parts.{Parts}
use Rattle.mat_core.proofs.RightLemmas.{unheld_right}

-- the rows of those whose bytes the store has
fetched_rows : (rows : List Row) → rows_of (map fetched rows) ≡ rows
fetched_rows [] = refl
fetched_rows (row ∷ rows) = ap (λ (some : List Row). row ∷ some) (fetched_rows rows)

-- each kept row of an opening is at a row's path
none_alone : (opening : Opening) (some : List Row) → ((row : Row) → Contains some row → Contains opening.rows row) →
    length (filter (is_alone opening.rows) (map (kept_at_opening opening) some)) ≡ 0
none_alone opening [] among = refl
none_alone opening (row ∷ some) among =
    let there : list_any (is_at_path row.path) opening.rows ≡ true =
    contains_any (is_at_path row.path) opening.rows row (among row (contains_first row some)) (same_names-refl row.path) in
    ap (λ b. length (cond (not b) (kept_at_opening opening row ∷ filter (is_alone opening.rows) (map (kept_at_opening opening) some))
    (filter (is_alone opening.rows) (map (kept_at_opening opening) some)))) there
    ∙ none_alone opening some (λ other within. among other (contains_more row some other within))

-- as many paths have a row or a kept row as the opening has rows
pub opening_paths : (opening : Opening) → row_paths (recovered opening) (opened opening).kept ≡ length opening.rows
opening_paths opening =
    let none = none_alone opening opening.rows (λ row among. among) in omega (arith, none)

-- nothing of the debris of an opening overlaps
pub debris_apart : (opening : Opening) → IsOpening opening → (x : List (List ℕ)) → covering x (map path_of_debris (opening_debris opening)) ≤ 1
debris_apart opening right x =
    let rules = opening_work opening right in
    let claims = rules.claims x in
    let split = covering_claims x opening.rows (idle_work (opening_debris opening)) in
    omega (arith, claims, split)

-- a book by its fields
abbrev a_book : ℕ → ℕ → Gate → List Row → List Hold → List Ticket → Book
a_book first now gate rows holds tickets = record {
  first = first;
  now = now;
  state = gate.state;
  live = gate.live;
  waiting = gate.waiting;
  soft = gate.soft;
  rows = rows;
  holds = holds;
  tickets = tickets;
}

-- some parts have the books with which an opening begins, and nothing else
pub record AreBegun {D K : Type 0} (opening : Opening) (books : Books) (parts : Parts D K) : Type 0 where
  pub first : parts.first ≡ books.first
  pub moment : parts.moment ≡ books.moment
  pub gate : parts.gate ≡ books.gate
  pub rows : parts.rows ≡ books.rows
  pub holds : parts.holds ≡ []
  pub tickets : parts.tickets.all ≡ []
  pub debris : parts.debris ≡ books.debris
  pub jobs : parts.jobs ≡ []
  pub kept : parts.kept ≡ books.kept
  pub nodes : parts.nodes ≡ 0
  pub paths : parts.paths ≡ books.first
  pub history : parts.history.items ≡ []

pub begun_stands : {D K : Type 0} (opening : Opening) (books : Books) (parts : Parts D K) → AreBooks opening books → AreBegun opening books parts →
    StandFor parts (opened opening)
begun_stands opening books parts are begun = record {
  book =
      ap (λ f. a_book f parts.moment parts.gate (rows_of parts.rows) parts.holds parts.tickets.all) (begun.first ∙ are.first)
      ∙ ap (λ m. a_book (length opening.rows) m parts.gate (rows_of parts.rows) parts.holds parts.tickets.all) (begun.moment ∙ are.moment)
      ∙ ap (λ g. a_book (length opening.rows) (latest_use opening.rows) g (rows_of parts.rows) parts.holds parts.tickets.all) (begun.gate ∙ are.gate)
      ∙ ap (λ r. a_book (length opening.rows) (latest_use opening.rows) no_gate r parts.holds parts.tickets.all)
      (ap rows_of (begun.rows ∙ are.rows) ∙ fetched_rows opening.rows)
      ∙ ap (λ h. a_book (length opening.rows) (latest_use opening.rows) no_gate opening.rows h parts.tickets.all) begun.holds
      ∙ ap (λ t. a_book (length opening.rows) (latest_use opening.rows) no_gate opening.rows [] t) begun.tickets;
  work = record {
    stocks = λ stock among.
        let (row, within, same) = mapped_contains fetched opening.rows stock
        (subst (λ (s : List Stock). Contains s stock) (begun.rows ∙ are.rows) among) in
        subst (IsStock (idle_work (opening_debris opening))) same (record { way = refl; mark = refl; right = unheld_right method.Fetch row.tree refl });
    jobs = ap jobs_of begun.jobs;
    cleaned = λ one among. absurd (nobody one (subst (λ (rs : List Running). Contains rs one) begun.jobs among));
    debris = ap (λ d. d.list) begun.debris ∙ are.debris;
  };
  kept = ap (λ k. k.marks) begun.kept ∙ are.kept;
  nodes = begun.nodes;
  paths = begun.paths ∙ are.first ∙ sym (opening_paths opening);
  history = begun.history;
}
  where
    nobody : (one : Running) → Contains [] one → ⊥
    nobody one (k, within, at) = omega (arith, within)
