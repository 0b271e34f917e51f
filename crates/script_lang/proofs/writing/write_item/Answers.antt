use Rattle.std.proofs.Common.{◌∙◌, ◌++◌, ap, List, ℕ}
use Rattle.script_lang.specs.Written.{item_text}
use Rattle.script_lang.proofs.BackLemmas.{line_of-item_text}
use Rattle.script_lang.proofs.writing.write_item.Goals as goal

pub returns-clause-back : goal.returns-clause-back
returns-clause-back c = λ workers bounds fits.
    line_of-item_text workers c.args.item.now c.push_item.new.out.items
    (c.in_ok-push_item.ensures.ok ∙ ap (λ (bs : List ℕ). bs ++ item_text c.args.item.now) c.new-out.ensures.items) c.in_ok-push_item.ensures.valid bounds fits
