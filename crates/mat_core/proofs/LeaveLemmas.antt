-- A command that goes.
use Rattle.std.proofs.Common.{◌≡◌, ℕ, ◌==◌, ◌≤◌, true, false, cond, refl, sym, ap, subst, ◌∙◌, le_refl, filter, count_by, length, arith}
use Rattle.std.proofs.lemmas.Bool.{le-ltb}
use Rattle.mat_model.specs.declared.answers.Reply.TheVariants as reply
use Rattle.mat_model.specs.declared.book.Book.{Book}
use Rattle.mat_model.specs.declared.requests.Asked.TheVariants as asked
use Rattle.mat_model.specs.Gate.{Served, depart, gate_of, is_known, with_gate}
use Rattle.mat_model.specs.Requests.{is_hold_of_other, is_open_of, leave, leave_with}
use Rattle.mat_model.specs.Tickets.{is_open}
use Rattle.model_laws.proofs.ListTests.{filter_le}
use Rattle.mat_core.specs.Books.{book_in}
use Rattle.mat_core.specs.Served.{IsBesideBook, Serves}
use Rattle.mat_core.specs.declared.parts.Parts.{Parts}
use Rattle.mat_core.proofs.ServeLemmas.{book_serves, spent_same}

pub leave_unknown : (command : ℕ) (book : Book) → is_known command (gate_of book) ≡ false →
    leave command book ≡ record { reply = reply.Unknown; book = book }
leave_unknown command book is =
    ap (λ b. cond {A = Served} b (leave_with (count_by (is_open_of command) book.tickets) command book) (record { reply = reply.Unknown; book = book })) is

-- what comes of a command that goes
abbrev left : ℕ → Book → Served
left command book = record {
  reply = reply.Left (depart command (gate_of book)).count;
  book = with_gate (depart command (gate_of book)).gate (record book { holds = filter (is_hold_of_other command) book.holds });
}

pub leave_busy : (command count : ℕ) (book : Book) → is_known command (gate_of book) ≡ true → count_by (is_open_of command) book.tickets ≡ count →
    (count == 0) ≡ false → leave command book ≡ record { reply = reply.Busy count; book = book }
leave_busy command count book is counted some =
    ap (λ b. cond {A = Served} b (leave_with (count_by (is_open_of command) book.tickets) command book) (record { reply = reply.Unknown; book = book })) is
    ∙ ap (λ n. leave_with n command book) counted
    ∙ ap (λ b. cond {A = Served} b (left command book) (record { reply = reply.Busy count; book = book })) some

pub left_serves : {D K : Type 0} (number command count : ℕ) (old new : Parts D K) →
    record { reply = reply.Left count; book = book_in new } ≡ leave command (book_in old) →
    new.holds ≡ filter (is_hold_of_other command) old.holds → new.tickets ≡ old.tickets → IsBesideBook old new →
    Serves number (asked.Leave command) (reply.Left count) old new
left_serves number command count old new served holds tickets beside =
    book_serves number (asked.Leave command) (reply.Left count) old new refl refl refl refl refl (λ rows ways. refl) (λ book. refl) (λ context. served)
    beside (subst (λ t. count_by is_open t.all ≤ count_by is_open old.tickets.all) (sym tickets) (le_refl (count_by is_open old.tickets.all)))
    (subst (λ h. length h ≤ length old.holds) (sym holds) (filter_le (is_hold_of_other command) old.holds))
    (λ point stands roomy. le-ltb old.base.limits.history _ (omega (arith, spent_same old point stands, roomy.history)))
