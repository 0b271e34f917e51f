use Rattle.std.proofs.Common.{arith, refl, get_or, ◌∙◌, ap, ℕ, List, map, take}
use Rattle.std.proofs.lemmas.List.{take_all}
use Rattle.ticket_book.specs.Asked.{answered_if}
use Rattle.ticket_book.specs.ByPath.{is_among}
use Rattle.ticket_book.proofs.RowLemmas.{among_next, among_order, among_start}
use Rattle.ticket_book.proofs.lists.answer_numbered.Goals as goal

pub loop-number-init : goal.loop-number-init
loop-number-init c = (among_start c.args.at c.args.answer c.args.tickets.now c.args.numbers.now, c.requires.indexed)

pub answer_number-requires : goal.answer_number-requires
answer_number-requires c = record {
  ascending = among_order (is_among (take c.loop-number.number-index c.args.numbers.now)) c.args.at c.args.answer c.args.tickets.now c.loop-number.tickets
      c.loop-number.invariant.0 c.requires.ascending;
  indexed = c.loop-number.invariant.1;
}

pub loop-number-preserved : goal.loop-number-preserved
loop-number-preserved c = (
  among_next c.args.at c.args.answer c.args.tickets.now c.loop-number.tickets c.answer_number.new.tickets c.args.numbers.now c.loop-number.number-index
      (get_or c.args.numbers.now c.loop-number.number-index 0) 0 c.loop-number-test.true refl c.loop-number.invariant.0 c.answer_number.ensures.tickets,
  c.answer_number.ensures.indexed,
)

pub returns-clause-tickets : goal.returns-clause-tickets
returns-clause-tickets c =
    let end = c.loop-number-test.false in
    c.loop-number.invariant.0
    ∙ ap (λ (ns : List ℕ). map (answered_if (is_among ns) c.args.at c.args.answer) c.args.tickets.now)
    (take_all c.loop-number.number-index c.args.numbers.now (omega (arith, end)))
