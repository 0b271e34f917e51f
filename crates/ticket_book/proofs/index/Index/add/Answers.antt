use Rattle.std.proofs.Common.{◌∙◌, ap, cond}
use Rattle.mat_path.specs.Names.{is_prefix}
use Rattle.ticket_book.specs.Asked.{asks_below}
use Rattle.ticket_book.specs.Below.{numbers_at}
use Rattle.ticket_book.specs.ByPath.{numbers_less}
use Rattle.ticket_book.proofs.IndexLemmas.{table_back}
use Rattle.ticket_book.proofs.index.Index.add.Goals as goal

pub returns-in-Err : goal.returns-in-Err
returns-in-Err c = λ tickets are later still. record {
  paths = c.in-Err.ensures.paths tickets are.paths later still;
  below = λ path.
      table_back (asks_below path) tickets c.args.ticket.now (numbers_at path c.add_below.new.below) (numbers_at path c.drop_all.new.below) later still
      (c.in_ok-add_below.ensures tickets are.below later still path)
      (c.drop_all.ensures path
      ∙ ap (λ names. cond (is_prefix path names) (numbers_less c.args.ticket.now.number (numbers_at path c.add_below.new.below)) (numbers_at path c.add_below.new.below))
      c.names.ensures.value);
  commands = c.in-Err.ensures.commands tickets are.commands later still;
}

pub returns : goal.returns
returns c = λ tickets are later still. record {
  paths = c.in_default.ensures.paths tickets are.paths later still;
  below = c.in_ok-add_below.ensures tickets are.below later still;
  commands = c.in_default.ensures.commands tickets are.commands later still;
}
