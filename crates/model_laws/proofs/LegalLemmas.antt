-- What a history that grows at its end means: its point, its rules, and the clock of its book.
use Rattle.mat_path.proofs.Elements.{filter_all}
use Rattle.std.proofs.Common.{◌≡◌, ℕ, Bool, true, List, [], ◌∷◌, ◌++◌, length, refl, sym, ap, ◌∙◌, count_by, append_assoc, append-nil}
use Rattle.std.specs.List.{list_all}
use Rattle.std.proofs.lemmas.List.Sums.{length-filter}
use Rattle.mat_model.specs.declared.answers.Recorded.{Recorded}
use Rattle.mat_model.specs.declared.book.Book.{Book}
use Rattle.mat_model.specs.declared.entries.Entry.{Entry}
use Rattle.mat_model.specs.declared.entries.Outcome.{Outcome}
use Rattle.mat_model.specs.declared.entries.Task.{Task}
use Rattle.mat_model.specs.declared.requests.Asked.{Asked}
use Rattle.mat_model.specs.History.{Point, after, after_all}
use Rattle.mat_model.specs.Legal.{IsEach}
use Rattle.mat_model.specs.Requests.{RequestContext, at_moment, serve}
use Rattle.mat_model.specs.Work.{finish}
use Rattle.model_laws.proofs.Serving.{asked_beside, asked_by, ended_beside, ended_by}

-- the point after some entries and one more
pub after_all-push : (point : Point) (entries : List Entry) (entry : Entry) →
    after_all point (entries ++ entry ∷ []) ≡ after (after_all point entries) entry
after_all-push point [] entry = refl
after_all-push point (next ∷ entries) entry = after_all-push (after point next) entries entry

-- a rule that is true of some entries and of one more behind them is true of all
pub each-push : (Rule : Point → Entry → Type 0) (point : Point) (entries : List Entry) (entry : Entry) → IsEach Rule point entries →
    Rule (after_all point entries) entry → IsEach Rule point (entries ++ entry ∷ [])
each-push Rule point [] entry each new = (new, tt)
each-push Rule point (next ∷ entries) entry each new = (each.0, each-push Rule (after point next) entries entry each.1 new)

-- the entries of a point are those before it and those that led to it
pub history-all : (point : Point) (entries : List Entry) → (after_all point entries).history ≡ point.history ++ entries
history-all point [] = sym (append-nil point.history)
history-all point (entry ∷ entries) = history-all (after point entry) entries ∙ append_assoc point.history (entry ∷ []) entries

-- the length of a list all of which passes a test is the count of those that do
pub count_by-all : {A : Type 0} (p : A → Bool) (xs : List A) → list_all p xs ≡ true → length xs ≡ count_by p xs
count_by-all {A = A} p xs all = sym (ap (λ (ys : List A). length ys) (filter_all p xs all)) ∙ length-filter p xs

-- a book's first number and its moment are another one's
pub record KeepsClock (book : Book) (other : Book) : Type 0 where
  -- the first number is the same
  pub first : other.first ≡ book.first
  -- the moment is the same
  pub now : other.now ≡ book.now

-- a request leaves a book's first number, and its moment is the later one
pub serve-clock : (number moment : ℕ) (context : RequestContext) (request : Asked) (book : Book) →
    KeepsClock (at_moment moment book) (serve number moment context request book).book
serve-clock number moment context request book =
    asked_by (KeepsClock (at_moment moment book)) number context request (at_moment moment book)
    (asked_beside (KeepsClock (at_moment moment book)) number request (at_moment moment book)
    (λ gate rows holds tickets. record { first = refl; now = refl }))

-- the end of a job leaves a book's first number and its moment
pub finish-clock : (number : ℕ) (begun : Task) (out : Outcome) (how : Recorded) (book : Book) → KeepsClock book (finish number begun out how book).book
finish-clock number begun out how book =
    ended_by (KeepsClock book) number begun out how book
    (ended_beside (KeepsClock book) number book (λ rows tickets. record { first = refl; now = refl }))
