use Rattle.std.proofs.Common.{arith, ◌-◌, length, drop}
use Rattle.std.proofs.lemmas.List.{length-drop, take_all}
use Rattle.ticket_book.proofs.lists.rest.Goals as goal

pub returns : goal.returns
returns g c =
    let size = length-drop c.args.place c.args.list.now in
    take_all (length c.args.list.now - c.args.place) (drop c.args.place c.args.list.now) (omega (arith, size))
