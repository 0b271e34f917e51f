use Rattle.std.proofs.Common.{rules, ap, ◌∙◌, ◌++◌, ◌∷◌, [], cond}
use Rattle.kept_book.specs.Marks.{gone_path}
use Rattle.mat_core.specs.Cleans.{has_mark}
use Rattle.mat_core.proofs.CleanLemmas.{picked_each, picked_last}
use Rattle.mat_core.proofs.cleaning.kept_among.Goals as goal

pub loop-one-preserved : goal.loop-one-preserved
loop-one-preserved c =
    picked_each gone_path (has_mark c.args.kept.now.marks) c.args.gone.now c.loop-one.one-index c.one-item.result _ c.loop-one.paths.items c.push_if.new.paths.items _
    c.loop-one-test.true c.one-item.is c.loop-one.invariant
    (c.in_ok-push_if.ensures ∙ ap (λ b. cond b (c.loop-one.paths.items ++ c.one-item.result.path ∷ []) c.loop-one.paths.items) c.has_mark.ensures)

pub returns : goal.returns
returns c =
    picked_last gone_path (has_mark c.args.kept.now.marks) c.args.gone.now c.loop-one.one-index c.loop-one.paths.items _ (search rules) c.loop-one.invariant
