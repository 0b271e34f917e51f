use Rattle.std.proofs.Common.{◌∙◌, ap, cond}
use Rattle.mat_path.specs.Names.{is_prefix}
use Rattle.ticket_book.specs.Asked.{asks_below}
use Rattle.ticket_book.specs.Below.{is_start, numbers_at}
use Rattle.ticket_book.specs.ByPath.{numbers_with}
use Rattle.ticket_book.proofs.BelowLemmas.{start_whole}
use Rattle.ticket_book.proofs.IndexLemmas.{table_added, table_undone}
use Rattle.ticket_book.proofs.index.add_below.Goals as goal

pub returns : goal.returns
returns c = λ tickets are later still path.
    table_added (asks_below path) tickets c.args.ticket.now (numbers_at path c.args.below.now) (numbers_at path c.add_some-count.new.below) later still (are path)
    (c.add_some-count.ensures.numbers path
    ∙ ap (λ b. cond b (numbers_with c.args.ticket.now.number (numbers_at path c.args.below.now)) (numbers_at path c.args.below.now))
    (start_whole c.add_some-count.result c.names-names.result.now path c.if-count-names.false ∙ ap (is_prefix path) c.names-names.ensures.value))

pub returns-then-count-names : goal.returns-then-count-names
returns-then-count-names c = λ tickets are later still path.
    table_undone (asks_below path) c.args.ticket.now.number tickets (is_start c.add_some-count.result c.names-names.result.now path) (numbers_at path c.args.below.now)
    (numbers_at path c.add_some-count.new.below) (numbers_at path c.drop_some.new.below) later (are path) (c.add_some-count.ensures.numbers path) (c.drop_some.ensures path)
