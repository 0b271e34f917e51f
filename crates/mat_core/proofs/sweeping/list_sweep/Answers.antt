use Rattle.std.proofs.Common.{rules, ◌≡◌, ◌∙◌, false, map, reverse, ap, ap₂}
use Rattle.mat_model.specs.declared.answers.Reply.TheVariants as reply
use Rattle.kept_book.specs.Marks.{gone_path}
use Rattle.mat_core.specs.Cleans.{gone_in, kept_among}
use Rattle.mat_core.proofs.SweepLists.{gone_paths}
use Rattle.mat_core.proofs.sweeping.list_sweep.Goals as goal

pub returns : goal.returns
returns c =
    let listed : c.gone.inside.items.items ≡ gone_in c.args.cutoff c.args.holds.now c.args.rows.now = search rules in
    record {
      said = ap₂ (λ gs ss. reply.Cleaned false gs ss) listed (search rules);
      told = search rules;
      strays = search rules;
      kept = c.in_ok-kept.ensures ∙ ap (kept_among c.args.kept.now.marks) (c.as_slice.ensures ∙ c.in_ok-gone.ensures);
      rows = c.turn.ensures.list
          ∙ ap reverse (c.in_ok-rows.ensures ∙ ap (map gone_path) (c.as_slice-2.ensures ∙ c.in_ok-gone.ensures) ∙ gone_paths c.args.cutoff c.args.holds.now c.args.rows.now);
      none = search rules;
      fits = search rules;
    }
