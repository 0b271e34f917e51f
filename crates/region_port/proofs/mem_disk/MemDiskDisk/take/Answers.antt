use Rattle.mat_path.proofs.CoveringLemmas.{among-push}
use Rattle.std.proofs.Common.{◌≡◌, ◌++◌, ◌∷◌, [], ap, ◌∙◌, arith, length}
use Rattle.std.specs.Prelude.{None, Some}
use Rattle.std.specs.List.{list_all, list_any, filter}
use Rattle.mat_path.specs.Names.{is_prefix, same_names}
use Rattle.mat_tree.specs.Parts.{below}
use Rattle.region_port.specs.Entries.{is_within, is_outside, content_of, paths_of}
use Rattle.region_port.specs.Lists.{all_of}
use Rattle.region_port.proofs.Content.{below_part, content_cut}
use Rattle.region_port.proofs.Loans.{apart-taken, marked-taken}
use Rattle.path_trie.proofs.Lists.{filter_passes}
use Rattle.region_port.proofs.Marks.{paths_of-within, paths_of-outside}
use Rattle.region_port.proofs.Sizes.{size_cut}
use Rattle.region_port.proofs.mem_disk.MemDiskDisk.take.Goals as goal

pub invariant_of-self-2 : goal.invariant_of-self-2
invariant_of-self-2 c =
    let path = c.args.path.now in
    let before = c.args.self.now in
    let loans : c.push_reserved.new.self.items ≡ before.loans.items ++ path ∷ [] =
    c.push_reserved.ensures.items ∙ ap (λ l. l ++ c.in_ok-loan.loan ∷ []) c.reserve.ensures.items ∙ ap (λ p. before.loans.items ++ p ∷ []) c.in_ok-loan.ensures.ok in
    record {
      room = omega (arith, size_cut path None before.nodes, ap length c.in_ok-nodes.ensures.nodes, c.in_ok-check_room.ensures.room, c.push_reserved.ensures.len, c.reserve.ensures.len, c.len.ensures);
      rough_seats = omega (arith, c.in_ok-rough_room.ensures.seats, c.take_out-rough.ensures.len, c.take_out-rough.ensures.capacity, c.push_reserved.ensures.len, c.reserve.ensures.len, c.len-seats.ensures);
      apart = apart-taken path before.loans.items c.push_reserved.new.self.items before.apart loans c.requires;
      marked = marked-taken path before.loans.items c.push_reserved.new.self.items before.apart None before.nodes c.cut_part.new.nodes before.marked loans c.requires c.in_ok-nodes.ensures.nodes;
    }

pub invariant_of-result : goal.invariant_of-result
invariant_of-result c =
    let path = c.args.path.now in
    record {
      few = omega (arith, ap length c.in_ok-nodes.ensures.part, c.in_ok-check_room.ensures.few);
      rough_within = ap (λ p. list_all (is_prefix p) c.take_out-rough.result.items) c.in_ok-place.ensures.ok
          ∙ ap (list_all (is_prefix path)) c.take_out-rough.ensures.taken
          ∙ filter_passes (is_prefix path) (all_of c.ready.new.self.segments.items);
      room = c.take_out-rough.ensures.room;
    }

pub returns-clause-part : goal.returns-clause-part
returns-clause-part c =
    let path = c.args.path.now in
    let before = c.args.self.now in
    ap Some (ap (λ p. below p (content_of c.in_ok-nodes.nodes)) c.in_ok-place.ensures.ok
    ∙ ap (λ l. below path (content_of l)) c.in_ok-nodes.ensures.part
    ∙ below_part path before.nodes)

pub returns-clause-region_rough : goal.returns-clause-region_rough
returns-clause-region_rough c =
    let path = c.args.path.now in
    ap paths_of (c.take_out-rough.ensures.taken ∙ ap (λ l. filter (is_within (λ p. p) path) (all_of l)) c.ready.ensures.same)
    ∙ paths_of-within path (all_of c.args.self.now.rough.segments.items)

pub returns-clause-content : goal.returns-clause-content
returns-clause-content c = ap Some (ap content_of c.in_ok-nodes.ensures.nodes ∙ content_cut c.args.path.now c.args.self.now.nodes)

pub returns-clause-rough : goal.returns-clause-rough
returns-clause-rough c =
    let path = c.args.path.now in
    ap paths_of (c.take_out-rough.ensures.kept ∙ ap (λ l. filter (is_outside (λ p. p) path) (all_of l)) c.ready.ensures.same)
    ∙ paths_of-outside path (all_of c.args.self.now.rough.segments.items)

pub returns-clause-out : goal.returns-clause-out
returns-clause-out c =
    let path = c.args.path.now in
    let before = c.args.self.now.loans.items in
    ap (λ p. list_any (same_names p) c.push_reserved.new.self.items) c.in_ok-place.ensures.ok
    ∙ ap (list_any (same_names path)) (c.push_reserved.ensures.items ∙ ap (λ l. l ++ c.in_ok-loan.loan ∷ []) c.reserve.ensures.items ∙ ap (λ p. before ++ p ∷ []) c.in_ok-loan.ensures.ok)
    ∙ among-push before path
