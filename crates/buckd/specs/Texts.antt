-- The text that is told of an item. Each line of it ends with a newline.
use Rattle.std.specs.Prelude.{ℕ, zero, suc, ◌==◌, ◌+◌, codes, if◌then◌else◌, List, [], ◌++◌}
use Rattle.std.specs.List.{flat_map}
use Rattle.std.specs.Option.{option_map_or}
use Rattle.mat_model.specs.declared.answers.Answer.{Answer}
use Rattle.mat_model.specs.declared.book.Given.{Given}
use Rattle.mat_model.specs.declared.book.Ticket.{Ticket}
use Rattle.script_lang.specs.declared.told.Said.{Said}
use Rattle.script_lang.specs.Texts.{answer_text, numbered, told_text}

-- the line of a ticket that was answered
abbrev pub answer_line : ℕ → Answer → List ℕ
answer_line ticket given = numbered (codes "answer ") ticket ++ codes " " ++ answer_text given ++ codes "\n"

-- the line of a ticket, if the entry of this number answered it
abbrev pub given_line : ℕ → ℕ → Given → List ℕ
given_line number ticket given = if given.at == number then answer_line ticket given.answer else []

abbrev pub ticket_line : ℕ → Ticket → List ℕ
ticket_line number ticket = option_map_or (given_line number ticket.number) ticket.answered []

-- the lines of the tickets that some entries answered, as many as are counted from a number on
abbrev pub answer_lines : ℕ → ℕ → List Ticket → List ℕ
answer_lines number zero tickets = []
answer_lines number (suc count) tickets = flat_map (ticket_line number) tickets ++ answer_lines (number + 1) count tickets

-- what is said of an item that answered no ticket
abbrev pub said_line : Said → List ℕ
said_line what = told_text (record { said = what; answers = [] })
