use Rattle.std.proofs.Common.{arith, ◌∙◌}
use Rattle.std.specs.List.{filter, find}
use Rattle.std.specs.Vec.{vec_capacity}
use Rattle.path_trie.specs.Entries.{is_next_under}
use Rattle.ticket_book.specs.ByPath.{all_numbers, is_inside}
use Rattle.ticket_book.proofs.WalkLemmas.{fewer_left, inside_next, listed_all, listed_next, listed_room, none_found, none_left}
use Rattle.ticket_book.proofs.by_path.list_inside.Goals as goal

pub push_to-requires : goal.push_to-requires
push_to-requires c =
    let step = inside_next c.args.path.now c.entries.last.now c.in-Some.at.now c.in-Some.found.now c.args.entries.now c.is_in_order.ensures c.in-Some.ensures in
    let room = listed_room c.in-Some.at.now c.in-Some.found.now c.entries.numbers.items c.args.numbers.now.items
    (all_numbers (filter (is_inside c.args.path.now) c.args.entries.now)) _ _ (vec_capacity c.args.numbers.now) step c.entries.invariant.0 c.requires in
    let same = c.entries.invariant.1 in omega (arith, room, same)

pub entries-smaller : goal.entries-smaller
entries-smaller c =
    fewer_left _ _ _ (inside_next c.args.path.now c.entries.last.now c.in-Some.at.now c.in-Some.found.now c.args.entries.now c.is_in_order.ensures c.in-Some.ensures)

pub entries-preserved : goal.entries-preserved
entries-preserved c = (
  listed_next c.in-Some.at.now c.in-Some.found.now _ c.entries.numbers.items c.push_to.new.numbers.items _ _
      (inside_next c.args.path.now c.entries.last.now c.in-Some.at.now c.in-Some.found.now c.args.entries.now c.is_in_order.ensures c.in-Some.ensures)
      c.entries.invariant.0 c.push_to.ensures.list,
  c.push_to.ensures.capacity ∙ c.entries.invariant.1,
)

pub returns-clause-list : goal.returns-clause-list
returns-clause-list c =
    listed_all _ c.entries.numbers.items _
    (none_left (is_next_under c.args.path.now c.entries.last.now) c.args.entries.now
    (none_found (find (is_next_under c.args.path.now c.entries.last.now) c.args.entries.now) c.in_default.ensures))
    c.entries.invariant.0
