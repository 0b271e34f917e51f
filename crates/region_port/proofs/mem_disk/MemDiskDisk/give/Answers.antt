use Rattle.mat_path.proofs.CoveringLemmas.{one_fewer}
use Rattle.mat_path.specs.Covering.{is_other_path}
use Rattle.std.proofs.Common.{◌≡◌, ap, ◌∙◌, arith, rules, length}
use Rattle.std.specs.Prelude.{Some}
use Rattle.std.specs.List.{filter}
use Rattle.std.proofs.lemmas.Fn.{filter_same}
use Rattle.region_port.specs.Calls.{paths_of_both}
use Rattle.region_port.specs.Entries.{content_of, paths_of}
use Rattle.region_port.specs.Lists.{all_of}
use Rattle.region_port.proofs.Content.{content_spliced}
use Rattle.region_port.proofs.Loans.{apart-given, marked-given}
use Rattle.region_port.proofs.Marks.{paths_of-append, rough_paths-within}
use Rattle.region_port.proofs.Sizes.{size_spliced}
use Rattle.region_port.proofs.mem_disk.MemDiskDisk.give.Goals as goal

pub invariant_of-self : goal.invariant_of-self
invariant_of-self c =
    let place = c.args.region.place in
    let before = c.args.self.now in
    let lent : c.retain.new.self.items ≡ filter (is_other_path place) before.loans.items = filter_same _ _ _ (λ x b k h. search rules) before.loans.items c.retain.new.self.items c.retain.ensures.filtered in
    record {
      room = omega (arith, ap length lent, one_fewer place before.loans.items c.requires, before.room, c.args.region.few, size_spliced place c.args.region.nodes before.nodes, ap length c.hang.ensures);
      rough_seats = omega (arith, ap length lent, one_fewer place before.loans.items c.requires, before.rough_seats, c.give_back.ensures.len, c.give_back.ensures.capacity);
      apart = apart-given place before.loans.items c.retain.new.self.items before.apart lent;
      marked = marked-given place before.loans.items c.retain.new.self.items before.apart c.args.region.nodes before.nodes c.hang.new.self before.marked lent c.requires c.hang.ensures;
    }

pub returns-clause-content : goal.returns-clause-content
returns-clause-content c = ap Some (ap content_of c.hang.ensures ∙ content_spliced c.args.region.place c.args.region.nodes c.args.self.now.nodes)

pub returns-clause-lent : goal.returns-clause-lent
returns-clause-lent c = filter_same _ _ _ (λ x b k h. search rules) _ _ c.retain.ensures.filtered

pub returns-clause-rough : goal.returns-clause-rough
returns-clause-rough c =
    let all = all_of c.args.self.now.rough.segments.items in
    ap paths_of c.give_back.ensures.items ∙ paths_of-append all c.rough_given.result.items ∙ ap (paths_of_both (paths_of all)) c.rough_given.ensures

pub returns-clause-within : goal.returns-clause-within
returns-clause-within c = rough_paths-within c.args.region.whole c.args.region.place c.args.region.rough.items c.args.region.rough_within
