-- The lines of the tickets that some entries answered.
use Rattle.std.proofs.Common.{◌≡◌, ℕ, zero, suc, ◌+◌, List, [], ◌++◌, sym, ◌∙◌, ap, arith, append_assoc}
use Rattle.std.specs.List.{flat_map}
use Rattle.std.proofs.lemmas.Grind.{common_steps}
use Rattle.mat_model.specs.declared.book.Ticket.{Ticket}
use Rattle.buckd.specs.Texts.{answer_lines, ticket_line}

-- the lines of one entry
abbrev lines_at : List Ticket → ℕ → List ℕ
lines_at tickets number = flat_map (ticket_line number) tickets

nothing_behind : (xs : List ℕ) → xs ++ [] ≡ xs
nothing_behind xs = grind (arith, common_steps)

-- one more entry
answer_lines_suc : (number count : ℕ) (tickets : List Ticket)
    → answer_lines number (suc count) tickets ≡ answer_lines number count tickets ++ lines_at tickets (number + count)
answer_lines_suc number zero tickets = nothing_behind (lines_at tickets number) ∙ ap (lines_at tickets) (omega arith)
answer_lines_suc number (suc count) tickets =
    ap (λ (xs : List ℕ). lines_at tickets number ++ xs) (answer_lines_suc (number + 1) count tickets)
    ∙ sym (append_assoc (lines_at tickets number) (answer_lines (number + 1) count tickets) (lines_at tickets (number + 1 + count)))
    ∙ ap (λ (n : ℕ). (lines_at tickets number ++ answer_lines (number + 1) count tickets) ++ lines_at tickets n) (omega arith)

-- the lines so far, and those of the next entry
pub answer_lines_more : (before now next : List ℕ) (number step : ℕ) (tickets : List Ticket)
    → now ≡ before ++ answer_lines number step tickets → next ≡ now ++ flat_map (ticket_line (number + step)) tickets
    → next ≡ before ++ answer_lines number (step + 1) tickets
answer_lines_more before now next number step tickets so_far more =
    let one : suc step ≡ step + 1 = omega arith in
    let grown : answer_lines number step tickets ++ lines_at tickets (number + step) ≡ answer_lines number (step + 1) tickets =
    sym (answer_lines_suc number step tickets) ∙ ap (λ (n : ℕ). answer_lines number n tickets) one in
    more ∙ ap (λ (xs : List ℕ). xs ++ lines_at tickets (number + step)) so_far
    ∙ append_assoc before (answer_lines number step tickets) (lines_at tickets (number + step))
    ∙ ap (λ (xs : List ℕ). before ++ xs) grown
