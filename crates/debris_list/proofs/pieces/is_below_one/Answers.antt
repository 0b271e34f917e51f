use Rattle.std.proofs.Common.{rules, ◌≡◌, ℕ, false, List, ap, drop, subst, sym, ◌∙◌}
use Rattle.std.specs.List.{list_any}
use Rattle.mat_path.specs.Names.{is_prefix}
use Rattle.debris_list.specs.Pieces.{is_before}
use Rattle.debris_list.proofs.Zones.{last_above, none_above}
use Rattle.debris_list.proofs.pieces.is_below_one.Goals as goal

pub returns-then-count-eq0 : goal.returns-then-count-eq0
returns-then-count-eq0 c =
    let zero : c.count_before-count.result ≡ 0 = search rules in
    sym (none_above c.args.path.now c.args.pieces.now
    (subst (λ (n : ℕ). list_any (is_before c.args.path.now) (drop n c.args.pieces.now) ≡ false) zero c.count_before-count.ensures.rest))

pub returns : goal.returns
returns c =
    c.is_prefix.ensures ∙ ap (λ (p : List (List ℕ)). is_prefix p c.args.path.now) c.path.ensures
    ∙ sym (last_above c.args.path.now c.args.pieces.now c.count_before-count.result c.index-pieces-count.result c.requires (search rules)
    c.count_before-count.ensures.within c.count_before-count.ensures.front c.count_before-count.ensures.rest c.index-pieces-count.is)
