use Rattle.std.proofs.Common.{◌≡◌, Bool, true, false, ◌&&◌, ◌||◌, ◌∙◌, ap, sym, refl, rules}
use Rattle.std.specs.BTreeSet.{contains}
use Rattle.std.specs.List.{filter}
use Rattle.std.specs.Option.{is_some, option_map}
use Rattle.std.specs.Prelude.{Option, Some}
use Rattle.mat_path.specs.Names.{path_cmp}
use Rattle.mat_tree.specs.Parts.{Node}
use Rattle.region_port.specs.Entries.{content_of, is_later}
use Rattle.region_port.specs.Strays.{is_clear}
use Rattle.region_port.proofs.StrayLemmas.{candidates_next}
use Rattle.region_port.proofs.Walks.{all_next, content_all, content_behind, fewer_left, no_next}
use Rattle.region_port.proofs.strays.candidates_in.Goals as goal

pub entries-init : goal.entries-init
entries-init c path =
    let all = c.args.entries.now in
    let clear = is_clear c.args.known.now path in
    let none : contains path_cmp c.new-found.result path ≡ false = search (rules, c.new-found.ensures.empty) in
    ap (λ (o : Option Node). (is_some o && clear) || contains path_cmp c.new-found.result path) (content_all all path)
    ∙ ap (λ b. (is_some (content_of all path) && clear) || b) none ∙ or_false (is_some (content_of all path) && clear)
  where
    or_false : (b : Bool) → (b || false) ≡ b
    or_false true = refl
    or_false false = refl

pub entries-smaller : goal.entries-smaller
entries-smaller c =
    fewer_left _ _ _ (all_next c.args.entries.now c.is_in_order.ensures (option_map (λ path. path.now) c.entries.last) c.in-Some.at.now c.in-Some.kept.now c.in-Some.ensures)

pub entries-preserved : goal.entries-preserved
entries-preserved c path =
    let clear = is_clear c.args.known.now in
    let at = c.in-Some.at.now in
    let all = c.args.entries.now in
    let left = filter (is_later (Some at)) all in
    let old = contains path_cmp c.entries.found path in
    ap (λ b. (is_some (content_of left path) && clear path) || b) (c.in_ok-add_candidate.ensures path)
    ∙ candidates_next clear at c.in-Some.kept.now left path old (content_behind at all)
    ∙ ap (λ l. (is_some (content_of l path) && clear path) || old) (sym (all_next all c.is_in_order.ensures (option_map (λ path. path.now) c.entries.last) at c.in-Some.kept.now c.in-Some.ensures))
    ∙ c.entries.invariant path

pub returns : goal.returns
returns c path =
    let all = c.args.entries.now in
    let last = option_map (λ path. path.now) c.entries.last in
    sym (ap (λ l. (is_some (content_of l path) && is_clear c.args.known.now path) || contains path_cmp c.entries.found path) (no_next (is_later last) all c.in_default.ensures)) ∙ c.entries.invariant path
